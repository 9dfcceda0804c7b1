-- What a call makes that goes on in another coroutine of the task: of the kernel's lists, and of the registers.
use Rattle.std.specs.Prelude.{◌≡◌, ℕ, ◌==◌, if◌then◌else◌, Bool, Option, Some, None, Result, Ok, Err, List, [], find}
use Rattle.std.specs.Option.{option_map_or}
use Rattle.word_store.specs.declared.registers.Regs.{Regs}
use Rattle.kernel_lists.specs.OwnedWords.Owned.{owners}
use Rattle.kernel_lists.specs.Coroutines.CoroutineExchanges.{TaskCoroutines, current_of}
use Rattle.kernel_lists.specs.Coroutines.HeldCoroutines.{Coroutine}
use Rattle.kernel_model.specs.KernelRecord.ChangedStore.{IsChanged}
use Rattle.kernel_model.specs.KernelRecord.Lists.{Lists}
use Rattle.kernel_model.specs.KernelRecord.Owned.{owned}
use Rattle.kernel_calls.specs.CallAnswers.Refusals.{first_refusal}
use Rattle.kernel_calls.specs.CoroutineCalls.CallersCoroutines.{coroutines_of_caller, with_callers}

-- What a switch between coroutines leaves: of the parts of a KernelChange the lists alone, since it writes no plain word and has no
-- events, the registers, and its answer.
pub record SwitchChange : Type 0 where
  -- the lists
  pub lists : Lists
  -- the registers
  pub regs : Regs
  -- whether it is accepted, or the code with which it is refused
  pub answer : Result (Unit {0}) ℕ

-- refused with this code, it changes nothing
abbrev pub refused : Lists → Regs → ℕ → SwitchChange
refused l r code = record { answer = Err code; lists = l; regs = r }

-- refused or not, as this says, it makes that of lists and registers
abbrev pub by_refusal : Option ℕ → Lists → Regs → SwitchChange → SwitchChange
by_refusal None l r made = made
by_refusal (Some code) l r made = refused l r code

-- a switch is refused by the first of its tests that does not hold, and else makes this
abbrev pub unless_refused : List (Bool × ℕ) → Lists → Regs → SwitchChange → SwitchChange
unless_refused tests l r made = by_refusal (first_refusal tests) l r made

-- what the coroutine at c has there
abbrev pub of_one : (Coroutine → ℕ) → ℕ → List Coroutine → ℕ
of_one part c xs = option_map_or part (find (λ x. x.address == c) xs) 0

-- the P that is saved for the coroutine at c, or for the root, which 0 names
abbrev pub p_of : ℕ → TaskCoroutines → ℕ
p_of c k = if c == 0 then k.root_p else of_one (λ x. x.saved_p) c k.list

-- the PC that is saved for it
abbrev pub pc_of : ℕ → TaskCoroutines → ℕ
pc_of c k = if c == 0 then k.root_pc else of_one (λ x. x.saved_pc) c k.list

-- A is what is handed over and B is 0, and the others stay
abbrev pub handed : ℕ → Regs → Regs
handed v r = record r { a = v; b = 0 }

-- the registers with which c goes on
abbrev pub entered : ℕ → ℕ → TaskCoroutines → Regs → Regs
entered c v k r = record (handed v r) { p = p_of c k; pc = pc_of c k }

-- The caller's coroutines change so, and the one that is current then goes on with v.
abbrev pub switched : (TaskCoroutines → TaskCoroutines) → ℕ → Lists → Regs → SwitchChange
switched change v l r = record {
  answer = Ok tt;
  lists = with_callers change l;
  regs = entered (current_of (change (coroutines_of_caller l))) v (coroutines_of_caller l) r;
}

-- The store that was s is t: where s held the lists l, it holds those that the call leaves, and nothing else has changed; its
-- answer and the registers are these. The same words are owned before and after, so no keeper of kinds has to be told.
pub record IsSwitched (s t : List ℕ) (l : Lists) (after : Regs) (result : Result (Unit {0}) ℕ) (m : SwitchChange) : Type 0 where
  -- the store holds these lists, and no plain word has changed
  pub lists : IsChanged s t m.lists []
  -- the registers
  pub regs : after ≡ m.regs
  -- this is the answer
  pub answered : result ≡ m.answer
  -- the same words are owned
  pub same : (a : ℕ) → owners a (owned m.lists) ≡ owners a (owned l)
