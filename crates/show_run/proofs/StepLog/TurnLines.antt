-- What happens as a step is taken, part by part.
use Rattle.std.proofs.Common.{◌≡◌, ◌∙◌, ◌||◌, ℕ, Bool, true, false, cond, List, [], ◌∷◌, ◌++◌, length, length-set, refl, slice_set, ap}
use Rattle.std.specs.Prelude.{is_some}
use Rattle.std.specs.List.{flat_map}
use Rattle.instruction_set.specs.Instruction.{written}
use Rattle.tripos_machine.specs.GuestWrites.{guest_writes, is_kernels}
use Rattle.tripos_machine.specs.State.{State, words_of}
use Rattle.tripos_machine.specs.Step.{Stepped}
use Rattle.show_run.specs.declared.step_log.moments.Moment.{Moment}
use Rattle.show_run.specs.StepLog.Events.{event_line}
use Rattle.show_run.specs.StepLog.Packets.{told_lines, told_of}
use Rattle.show_run.specs.StepLog.StepLines.{Before, turn_lines}
use Rattle.show_run.specs.StepLog.Writes.{changed_lines, has_event, is_resident, may_change, other_lines, words_after_instruction}

all-false : (a b c : Bool) → a ≡ false → b ≡ false → c ≡ false → (a || (b || c)) ≡ false
all-false true b c p q r = p
all-false false true c p q r = q
all-false false false c p q r = r

module _ (m : Moment) (b : Before) (s : State) (x : Stepped) where
  -- all words that are another than after the instruction
  abbrev pub changed : List ℕ
  changed = changed_lines m (is_kernels x.state) (words_after_instruction s) 0 (words_of x.state)

  -- what comes after the events
  abbrev pub behind-events : List ℕ
  behind-events = told_lines m (words_of x.state) (told_of x.events) ++ other_lines m b.call x.events s x.state

  pub turn-parts : turn_lines m b s x ≡ flat_map (event_line m) x.events ++ behind-events
  unfolding turn_lines
  turn-parts = refl

  -- nothing happens but an instruction, or nothing at all
  pub turn-none : x.events ≡ [] → is_some b.call ≡ false → is_resident m.task ≡ false → turn_lines m b s x ≡ []
  turn-none none uncalled guest =
      let still : may_change b.call m.task x.events ≡ false = all-false (is_some b.call) (is_resident m.task) (has_event x.events) uncalled guest (ap has_event none) in
      turn-parts ∙ (λ i. flat_map (event_line m) (none i) ++ (told_lines m (words_of x.state) (told_of (none i)) ++ cond (still i) changed []))

  pub others-none : may_change b.call m.task x.events ≡ false → other_lines m b.call x.events s x.state ≡ []
  others-none still = ap (λ q. cond q changed []) still

  pub others-all : may_change b.call m.task x.events ≡ true → other_lines m b.call x.events s x.state ≡ changed
  others-all may = ap (λ q. cond q changed []) may

-- ---- the words that are kept

-- there are as many after an instruction as before
written-size : (ws : List (ℕ × ℕ)) (words : List ℕ) → length (written words ws) ≡ length words
written-size [] words = refl
written-size (w ∷ ws) words = written-size ws (slice_set words w.0 w.1) ∙ length-set words w.0 w.1

pub kept-size : (s : State) (former : List ℕ) → former ≡ words_after_instruction s → length former ≡ length (words_of s)
kept-size s former is = ap length is ∙ written-size (guest_writes s) (words_of s)
