-- The call that deletes a coroutine.
use Rattle.std.specs.Prelude.{◌≡◌, ◌≤◌, ℕ, ◌==◌, Bool, Some, not, List, [], ◌∷◌, ◌++◌, filter}
use Rattle.kernel_calls.specs.BlockCalls.Freevec.{has_packet_in, with_given}
use Rattle.kernel_lists.specs.Coroutines.CoroutineExchanges.{TaskCoroutines, with_list}
use Rattle.kernel_lists.specs.declared.getvec_chain.pieces.Block.{Block}
use Rattle.kernel_lists.specs.GetvecChain.Tiling.{used_at}
use Rattle.kernel_model.specs.KernelRecord.Lists.{Lists}
use Rattle.kernel_calls.specs.CallAnswers.CallChange.{CallChange, done, unless_refused}
use Rattle.kernel_calls.specs.CoroutineCalls.CallCo.{idle_tests}
use Rattle.kernel_calls.specs.CoroutineCalls.CallersCoroutines.{coroutines_of_caller, with_callers}

-- the tests of the call: the coroutine is one of the caller's (code 21), has no parent (code 22), and no queued packet lies in
-- its block (code 24)
abbrev pub delete_tests : Lists → ℕ → List (Bool × ℕ)
delete_tests l c = idle_tests c (coroutines_of_caller l) ++ (not (has_packet_in l c), 24) ∷ []

-- without the one at c
abbrev pub with_deleted : ℕ → TaskCoroutines → TaskCoroutines
with_deleted c k = with_list (filter (λ x. not (x.address == c)) k.list) k

-- the lists without the coroutine at c, with its block given back
abbrev pub with_deleted_at : ℕ → Lists → Lists
with_deleted_at c l = with_given c (with_callers (with_deleted c) l)

-- The coroutine at c goes, unless it is refused; the answer is -1.
abbrev pub deleteco : Lists → ℕ → CallChange
deleteco l c = unless_refused (delete_tests l c) l (done (with_deleted_at c l))

-- at c begin the data of a used block with room for a coroutine's own words
pub record IsRoomy (l : Lists) (c : ℕ) (b : Block) : Type 0 where
  -- it is the used block in which the coroutine lies
  pub used : used_at c l.blocks ≡ Some b
  -- it has the words of a coroutine and its size word, or more
  pub room : 11 ≤ b.size
