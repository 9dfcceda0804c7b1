-- What a call leaves of a store with its lists.
use Rattle.std.proofs.Common.{List, Result, arith, length, subst, sym, ℕ, [], ◌≡◌, ◌≤◌}
use Rattle.kernel_model.specs.KernelRecord.ChangedStore.{HasKeeper, IsChanged}
use Rattle.kernel_model.specs.KernelRecord.Lists.{Lists}
use Rattle.kernel_model.specs.KernelRecord.ValidQueues.{HasGuest}
use Rattle.kernel_model.proofs.KernelRecord.ChangedLists.{knows-same}
use Rattle.kernel_calls.specs.CallAnswers.CallChange.{CallChange, IsMade}
use Rattle.kernel_boot.specs.BegunTask.{with_begun}
use Rattle.kernel_model.specs.KernelRecord.StoreWithLists.{StoreWithLists, store_with_lists}
use Rattle.kernel_boot.proofs.BegunTask.{begun-same}
use Rattle.kernel_boot.proofs.StoresAfterCalls.{keeper-made, left-is}
use Rattle.shell.specs.ShellPrograms.StoresWithLists.{RepresentsStoreWithLists, left_by}
use Rattle.shell.specs.ShellPrograms.StartedProgram.{begun}

-- the store that a call leaves, with its lists
pub made-represents : (s t : List ℕ) (tells : List ℕ → Type 0) (room : ℕ) (r : Result ℕ ℕ) (m : CallChange) → IsMade s t tells r m → length s ≤ room → RepresentsStoreWithLists t tells room (left_by s m)
made-represents s t tells room r m made enough = record { words = left-is s t m.lists m.plain made.leaves.lists; keeper = keeper-made s t tells r m made room enough }

-- also after an earlier call, which has left this one
pub made-after : (k : StoreWithLists) (s t : List ℕ) (tells : List ℕ → Type 0) (room : ℕ) (r : Result ℕ ℕ) (m : CallChange) → s ≡ k.words → IsMade s t tells r m → length s ≤ room → RepresentsStoreWithLists t tells room (left_by k.words m)
made-after k s t tells room r m same made enough = subst (λ w. RepresentsStoreWithLists t tells room (left_by w m)) same (made-represents s t tells room r m made enough)

-- a store as it is
pub same-represents : (s : List ℕ) (tells : List ℕ → Type 0) (room : ℕ) (l : Lists) (k : StoreWithLists) → HasKeeper s tells room l → k ≡ store_with_lists s l → RepresentsStoreWithLists s tells room k
same-represents s tells room l k h same = subst (RepresentsStoreWithLists s tells room) (sym same) (record { words = λ i. s; keeper = h })

-- once a program begins
pub begun-represents : (s t : List ℕ) (tells : List ℕ → Type 0) (room id : ℕ) (l : Lists) → HasKeeper s tells room l → HasGuest l id → IsChanged s t (with_begun s id l) [] → RepresentsStoreWithLists t tells room (begun id (store_with_lists s l))
begun-represents s t tells room id l k guest ch =
    record {
      words = left-is s t (with_begun s id l) [] ch;
      keeper = record { lists = ch.lists; knows = knows-same tells l (with_begun s id l) (begun-same s l id k.lists guest) k.knows; enough = omega (arith, ch.size, k.enough) };
    }
