-- Number after number is cleared up.
use Rattle.std.proofs.Common.{◌≡◌, ℕ, suc, ◌+◌, ◌-◌, ◌<◌, ◌≤◌, List, sym, ap, ◌∙◌, arith}
use Rattle.std.specs.List.{range_with_len}
use Rattle.kernel_lists.specs.TaskBlock.Versions.{highest_id}
use Rattle.kernel_model.specs.KernelRecord.HoldsLists.{HoldsLists}
use Rattle.kernel_model.specs.KernelRecord.Lists.{Lists}
use Rattle.kernel_model.specs.KernelRecord.ValidTasks.{runs}
use Rattle.kernel_model.specs.KernelRecord.Versions.{highest_id_of}
use Rattle.kernel_model.proofs.KernelRecord.RootCounts.{highest-low}
use Rattle.kernel_model.specs.KernelRecord.Running.{RunsAlive}
use Rattle.kernel_calls.proofs.TaskCalls.ReadNumbers.{highest-read}
use Rattle.kernel_model.specs.KernelRecord.StoreWithLists.{StoreWithLists, store_with_lists}
use Rattle.shell.specs.ShellPrograms.ClearedTasks.{cleared, cleared_all, cleared_at}
use Rattle.shell.specs.ShellPrograms.StoresWithLists.{RepresentsStoreWithLists}
use Rattle.shell.proofs.ShellPrograms.KeptSteps.{one-cleared}
use Rattle.shell.proofs.ShellPrograms.KeptTasks.{all-without}

-- the running task keeps its state
pub alive-cleared : (id : ℕ) (k : StoreWithLists) → 5 ≤ id → RunsAlive k.lists → RunsAlive (cleared_at id k).lists
alive-cleared id k low h =
    one-cleared RunsAlive (λ l bs ms x. x) (λ l n guest out x. all-without _ (λ t. t.id ≡ l.running → t.field ≡ runs) l.tasks x) id k low h

-- what is left of the numbers from one on
abbrev pub rest_of : ℕ → ℕ → StoreWithLists → StoreWithLists
rest_of i end k = cleared_all (range_with_len i (end - i)) k

pub first-numbers : (s : List ℕ) (l : Lists) (end n : ℕ) → HoldsLists s l → n ≡ highest_id s → end ≡ n + 1 → rest_of 5 end (store_with_lists s l) ≡ cleared (store_with_lists s l)
unfolding cleared
first-numbers s l end n h is e =
    let count : end - 5 ≡ highest_id_of l.version - 4 = omega (arith, is, e, highest-read s l h, highest-low l.version) in
    ap (λ n. cleared_all (range_with_len 5 n) (store_with_lists s l)) count

pub next-number : (s t : List ℕ) (l : Lists) (tells : List ℕ → Type 0) (room i end : ℕ) → i < end → RepresentsStoreWithLists t tells room (cleared_at i (store_with_lists s l))
    → rest_of (i + 1) end (store_with_lists t (cleared_at i (store_with_lists s l)).lists) ≡ rest_of i end (store_with_lists s l)
next-number s t l tells room i end lt h =
    let count : end - i ≡ suc (end - (i + 1)) = omega (arith, lt) in
    ap (λ w. rest_of (i + 1) end (store_with_lists w (cleared_at i (store_with_lists s l)).lists)) h.words
    ∙ sym (ap (λ n. cleared_all (range_with_len i n) (store_with_lists s l)) count)

pub last-number : (k : StoreWithLists) (i end : ℕ) → end ≤ i → rest_of i end k ≡ k
last-number k i end done = ap (λ n. cleared_all (range_with_len i n) k) (none (end - i) (omega (arith, done)))
  where
    none : (n : ℕ) → n ≤ 0 → n ≡ 0
    none n low = omega arith
