-- What a kernel call makes of the kernel's lists, and how it answers.
use Rattle.std.specs.Prelude.{◌≡◌, ℕ, ◌-◌, ◌^◌, Bool, Option, Some, None, Result, Ok, Err, List, []}
use Rattle.kernel_lists.specs.OwnedWords.Owned.{Pairs}
use Rattle.kernel_lists.specs.declared.packet_queue.events.KernelEvent.{KernelEvent}
use Rattle.kernel_model.specs.KernelRecord.ChangedStore.{IsChanged, Knows}
use Rattle.kernel_model.specs.KernelRecord.Lists.{Lists}
use Rattle.kernel_calls.specs.CallAnswers.Refusals.{first_refusal}

-- What a call makes of the kernel: the parts of a KernelChange, and its answer.
pub record CallChange : Type 0 where
  -- the lists that it leaves
  pub lists : Lists
  -- the plain words that it writes, each an address and a word
  pub plain : Pairs
  -- its events, in their order
  pub events : List KernelEvent
  -- its answer, a word, or the code with which it is refused
  pub answer : Result ℕ ℕ

-- refused with this code, it changes nothing
abbrev pub refused : Lists → ℕ → CallChange
refused l code = record { answer = Err code; lists = l; plain = []; events = [] }

-- refused or not, as this says, it makes that of the lists
abbrev pub by_refusal : Option ℕ → Lists → CallChange → CallChange
by_refusal None l made = made
by_refusal (Some code) l made = refused l code

-- a call is refused by the first of its tests that does not hold, and else makes this
abbrev pub unless_refused : List (Bool × ℕ) → Lists → CallChange → CallChange
unless_refused tests l made = by_refusal (first_refusal tests) l made

-- a call without an answer of its own answers -1
abbrev pub minus_one : ℕ
minus_one = 2 ^ 32 - 1

-- a call is accepted with the answer -1, leaves these lists, and does nothing else
abbrev pub done : Lists → CallChange
done l = record { answer = Ok minus_one; lists = l; plain = []; events = [] }

-- a result without a value, as an answer
abbrev pub plain_answer : Result (Unit {0}) ℕ → Result ℕ ℕ
plain_answer (Ok u) = Ok minus_one
plain_answer (Err code) = Err code

-- The store that was s is t: it holds the lists that the call leaves, its plain words and no others have changed besides, and it
-- answers so.
pub record Leaves (s t : List ℕ) (answer : Result ℕ ℕ) (m : CallChange) : Type 0 where
  -- the store holds these lists, and these plain words alone have changed
  pub lists : IsChanged s t m.lists m.plain
  -- this is the answer
  pub answered : answer ≡ m.answer

-- A call has left this in a store, and the keeper knows the words of its lists.
pub record IsMade (s t : List ℕ) (tells : List ℕ → Type 0) (answer : Result ℕ ℕ) (m : CallChange) : Type 0 where
  -- what the call leaves
  pub leaves : Leaves s t answer m
  -- the keeper knows the words of its lists
  pub knows : Knows tells m.lists
