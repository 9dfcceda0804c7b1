-- What a call leaves, by what it makes of the lists and how the registers answer.
use Rattle.std.proofs.Common.{◌≡◌, ℕ, List, [], ◌∷◌, ◌++◌, Some, None, Result, Ok, refl, sym, ap, ◌∙◌, subst}
use Rattle.std.proofs.lemmas.List.{append-nil}
use Rattle.word_store.specs.declared.registers.Regs.{Regs}
use Rattle.kernel_lists.specs.OwnedWords.Owned.{owners}
use Rattle.kernel_lists.specs.PacketQueue.QueueWords.{QueuedPacket}
use Rattle.kernel_model.specs.KernelRecord.ChangedStore.{Knows}
use Rattle.kernel_model.specs.KernelRecord.HoldsLists.{HoldsLists}
use Rattle.kernel_model.specs.KernelRecord.Lists.{Lists}
use Rattle.kernel_model.specs.KernelRecord.NotedEvents.{NotesAll}
use Rattle.kernel_model.specs.KernelRecord.Owned.{owned}
use Rattle.kernel_model.proofs.KernelRecord.ChangedLists.{changed-none, knows-same}
use Rattle.kernel_model.proofs.KernelRecord.NotedInTurn.{notes-none}
use Rattle.kernel_calls.specs.CallAnswers.CallChange.{CallChange, IsMade, Leaves}
use Rattle.kernel_calls.specs.CoroutineCalls.SwitchChange.{IsSwitched, SwitchChange}
use Rattle.kernel_calls.specs.PacketCalls.TaskWait.{answer_of_wait, first_of_queue}
use Rattle.kernel_calls.specs.CallAnswers.Outside.{Outside}
use Rattle.kernel_calls.specs.Calls.{IsCalled, answered, ended_with, of_byte, of_made, of_switched, of_wait, regs_of_switch}
use Rattle.kernel_calls.specs.declared.call_numbers.CallOutcome.{CallOutcome}
use Rattle.kernel_calls.specs.declared.call_numbers.CallOutcome.TheVariants.{Done, Waits}

-- a call that leaves the same words owned tells no keeper
pub made-same : (s t : List ℕ) (tells : List ℕ → Type 0) (l : Lists) (answer : Result ℕ ℕ) (m : CallChange) → Leaves s t answer m → Knows tells l
    → ((a : ℕ) → owners a (owned m.lists) ≡ owners a (owned l)) → IsMade s t tells answer m
made-same s t tells l answer m leaves knows same = record { leaves = leaves; knows = knows-same tells l m.lists same knows }

module _ (s t : List ℕ) (tells : List ℕ → Type 0) (r after : Regs) (before : Outside) (outcome : CallOutcome) where
  -- it notes its events
  pub called-noting : (answer : Result ℕ ℕ) (m : CallChange) (now : Outside) → IsMade s t tells answer m → after ≡ answered r answer → outcome ≡ Done
      → now.shown ≡ before.shown → NotesAll before.noted now.noted before.failed now.failed m.events → IsCalled s t after tells before now outcome (of_made r m)
  called-noting answer m now made regs ends shown notes = record {
    lists = made.leaves.lists;
    registers = regs ∙ ap (answered r) made.leaves.answered;
    ends = ends;
    knows = made.knows;
    bytes = shown ∙ sym (append-nil before.shown);
    notes = notes;
  }

  -- it notes none
  pub called-silent : (answer : Result ℕ ℕ) (m : CallChange) → IsMade s t tells answer m → after ≡ answered r answer → outcome ≡ Done → m.events ≡ []
      → IsCalled s t after tells before before outcome (of_made r m)
  called-silent answer m made regs ends silent =
      called-noting answer m before made regs ends refl (subst (NotesAll before.noted before.noted before.failed before.failed) (sym silent) (notes-none before.noted before.failed))

  -- another coroutine goes on, or none
  pub called-switched : (l : Lists) (switched : Regs) (answer : Result (Unit {0}) ℕ) (m : SwitchChange) → IsSwitched s t l switched answer m → Knows tells l
      → after ≡ regs_of_switch switched answer → outcome ≡ Done → IsCalled s t after tells before before outcome (of_switched m)
  called-switched l switched answer m is knows regs ends = record {
    lists = is.lists;
    registers = regs ∙ (λ i. regs_of_switch (is.regs i) (is.answered i));
    ends = ends;
    knows = knows-same tells l m.lists is.same knows;
    bytes = sym (append-nil before.shown);
    notes = notes-none before.noted before.failed;
  }

  -- a packet is there
  pub called-taking : (packet : ℕ) (ps : List QueuedPacket) (m : CallChange) (now : Outside) → IsMade s t tells (answer_of_wait (Some packet)) m → Some packet ≡ first_of_queue ps
      → after ≡ answered r (Ok packet) → outcome ≡ Done → now.shown ≡ before.shown → NotesAll before.noted now.noted before.failed now.failed m.events
      → IsCalled s t after tells before now outcome (of_wait r ps m)
  called-taking packet [] m now made is regs ends shown notes = cc
  called-taking packet (p ∷ ps) m now made is regs ends shown notes = called-noting (Ok packet) m now made regs ends shown notes

  -- the caller waits for one
  pub called-waiting : (ps : List QueuedPacket) (m : CallChange) (now : Outside) → IsMade s t tells (answer_of_wait None) m → None ≡ first_of_queue ps → after ≡ r → outcome ≡ Waits
      → now.shown ≡ before.shown → NotesAll before.noted now.noted before.failed now.failed m.events → IsCalled s t after tells before now outcome (of_wait r ps m)
  called-waiting [] m now made is regs ends shown notes = record {
    lists = made.leaves.lists;
    registers = regs;
    ends = ends;
    knows = made.knows;
    bytes = shown ∙ sym (append-nil before.shown);
    notes = notes;
  }
  called-waiting (p ∷ ps) m now made is regs ends shown notes = cc

module _ (s : List ℕ) (tells : List ℕ → Type 0) (after : Regs) (before : Outside) (l : Lists) (h : HoldsLists s l) (knows : Knows tells l) where
  -- the registers alone change
  pub called-ended : (r : Regs) (outcome end : CallOutcome) → after ≡ r → outcome ≡ end → IsCalled s s after tells before before outcome (ended_with end l r)
  called-ended r outcome end regs ends = record {
    lists = changed-none s l h;
    registers = regs;
    ends = ends;
    knows = knows;
    bytes = sym (append-nil before.shown);
    notes = notes-none before.noted before.failed;
  }

  -- and a byte goes to the console
  pub called-byte : (r : Regs) (outcome : CallOutcome) (byte : ℕ) (shown : List ℕ) → after ≡ r → outcome ≡ Done → shown ≡ before.shown ++ byte ∷ []
      → IsCalled s s after tells before (record before { shown = shown }) outcome (of_byte byte (ended_with Done l r))
  called-byte r outcome byte shown regs ends is = record {
    lists = changed-none s l h;
    registers = regs;
    ends = ends;
    knows = knows;
    bytes = is;
    notes = notes-none before.noted before.failed;
  }
