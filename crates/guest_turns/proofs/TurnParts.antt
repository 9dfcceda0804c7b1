-- What a turn leaves, by how its instruction ended.
use Rattle.std.proofs.Common.{◌≡◌, ℕ, List, length, Ok, refl, sym, ap, ◌∙◌, subst, arith}
use Rattle.std.proofs.lemmas.List.{append-nil}
use Rattle.word_store.specs.declared.registers.Regs.{Regs}
use Rattle.instruction_set.specs.Instruction.{After, instruction}
use Rattle.instruction_set.specs.declared.Outcome.{Outcome}
use Rattle.instruction_set.specs.declared.Outcome.TheVariants.{Next, Sys, Returned, Fault as Faulted}
use Rattle.kernel_model.specs.KernelRecord.ChangedStore.{HasKeeper, Knows}
use Rattle.kernel_model.specs.KernelRecord.HoldsLists.{HoldsLists}
use Rattle.kernel_model.specs.KernelRecord.Lists.{Lists}
use Rattle.kernel_model.proofs.KernelRecord.ChangedLists.{changed-none, knows-same}
use Rattle.kernel_model.proofs.KernelRecord.NotedInTurn.{notes-none}
use Rattle.kernel_calls.specs.CoroutineCalls.SwitchChange.{IsSwitched, SwitchChange}
use Rattle.kernel_calls.specs.CallAnswers.Outside.{Outside}
use Rattle.kernel_calls.specs.Calls.{CallTurn, IsCalled}
use Rattle.kernel_calls.specs.declared.call_numbers.CallOutcome.{CallOutcome}
use Rattle.guest_turns.specs.Guarded.{is_owned}
use Rattle.guest_turns.proofs.MarkedWords.{keeps-marked}
use Rattle.guest_turns.specs.GuestTurn.{IsTurned, after_instruction, called, end_of_call, ended_with, goes_on, turn_without_reporter}
use Rattle.guest_turns.specs.declared.turns.TurnEnd.{TurnEnd}
use Rattle.guest_turns.specs.declared.turns.TurnEnd.TheVariants.{Goes}

-- as many words as before
after-size : (l : Lists) (s : List ℕ) (r : Regs) (outcome : Outcome) → (after_instruction l s r outcome).words ≡ s
after-size l s r Next = refl
after-size l s r Sys = refl
after-size l s r Returned = refl
after-size l s r (Faulted f) = refl

pub turn-size : (l : Lists) (s : List ℕ) (r : Regs) → length (turn_without_reporter s l r).words ≡ length s
unfolding turn_without_reporter
turn-size l s r =
    let x : After = instruction (is_owned l) s r in
    ap length (after-size l x.words x.regs x.outcome) ∙ (keeps-marked (is_owned l) s r).size

-- the keeper knows the words after an instruction, which leaves the lists
pub keeper-after : (s t : List ℕ) (tells : List ℕ → Type 0) (room : ℕ) (l : Lists) → HasKeeper s tells room l → HoldsLists t l → HasKeeper t tells room l
keeper-after s t tells room l k h = record { lists = h; knows = k.knows; enough = omega (arith, k.enough, k.lists.size, h.size) }

module _ (t : List ℕ) (after : Regs) (tells : List ℕ → Type 0) (old : Outside) where
  -- the registers alone changed since the instruction, and nothing was shown or noted
  pub turned-ended : (ends : TurnEnd) (l : Lists) → HoldsLists t l → Knows tells l → IsTurned t after tells old old ends (ended_with ends t l after)
  turned-ended ends l h knows = record {
    lists = changed-none t l h;
    regs = refl;
    ends = refl;
    knows = knows;
    bytes = sym (append-nil old.shown);
    notes = notes-none old.noted old.failed;
  }

  -- a function has returned
  pub turned-returned : (s : List ℕ) (l : Lists) (m : SwitchChange) → IsSwitched s t l after (Ok tt) m → Knows tells l → IsTurned t after tells old old Goes (goes_on s m)
  turned-returned s l m is knows = record {
    lists = is.lists;
    regs = is.regs;
    ends = refl;
    knows = knows-same tells l m.lists is.same knows;
    bytes = sym (append-nil old.shown);
    notes = notes-none old.noted old.failed;
  }

  -- a call was made
  pub turned-called : (s : List ℕ) (place : ℕ) (new : Outside) (outcome : CallOutcome) (result : TurnEnd) (c : CallTurn) → IsCalled s t after tells old new outcome c
      → result ≡ end_of_call place outcome → IsTurned t after tells old new result (called s place c)
  turned-called s place new outcome result c is e = record {
    lists = is.lists;
    regs = is.registers;
    ends = e ∙ ap (end_of_call place) is.ends;
    knows = is.knows;
    bytes = is.bytes;
    notes = is.notes;
  }

  -- the turn goes by what the instruction left
  pub turned-by : (new : Outside) (result : TurnEnd) (s s' : List ℕ) (l : Lists) (r r' : Regs) (outcome : Outcome) → s' ≡ (instruction (is_owned l) s r).words → r' ≡ (instruction (is_owned l) s r).regs
      → outcome ≡ (instruction (is_owned l) s r).outcome → IsTurned t after tells old new result (after_instruction l s' r' outcome)
      → IsTurned t after tells old new result (turn_without_reporter s l r)
  unfolding turn_without_reporter
  turned-by new result s s' l r r' outcome words regs ends is =
      subst (IsTurned t after tells old new result) (λ i. after_instruction l (words i) (regs i) (ends i)) is
