-- The lines of the steps that write a word, one step after another.
use Rattle.std.proofs.Common.{◌≡◌, ◌∙◌, ℕ, zero, suc, ◌++◌, true, false, cond, Option, [], ap, refl, sym}
use Rattle.std.proofs.lemmas.Bool.{ne_eqb}
use Rattle.std.specs.Prelude.{is_some, slice_index}
use Rattle.tripos_machine.specs.GuestWrites.{guest_writes}
use Rattle.tripos_machine.specs.State.{State, stop_of, words_of}
use Rattle.tripos_machine.specs.Step.{step}
use Rattle.show_run.specs.declared.step_log.moments.Moment.{Moment}
use Rattle.show_run.specs.StepLog.Calls.{Call, call_lines}
use Rattle.show_run.specs.StepLog.StepLines.{call_of, moment_of}
use Rattle.show_run.specs.StepLog.Writes.{write_line}
use Rattle.show_run.specs.WordWrites.{change_part, lines_of_write, step_writes, word_then, writes_text, written_word}
use Rattle.show_run.proofs.ToldSteps.{TellsSteps}

-- another word is there than before
pub change-parts : (m : Moment) (call : Option Call) (a old new : ℕ) → (old ≡ new → ⊥) → change_part m call a old new ≡ call_lines m call ++ write_line m a old new
change-parts m call a old new other = ap (λ b. cond b [] (call_lines m call ++ write_line m a old new)) (ne_eqb old new other)

-- the lines of a step, by what is read before and after it
module _ (a : ℕ) (s : State) {m : Moment} {call : Option Call} {written : Option ℕ} (moment : m ≡ moment_of s) (call_is : call ≡ call_of s) (written_is : written ≡ written_word a (guest_writes s)) where
  pub step-writes-parts : (t : State) (old new : ℕ) → old ≡ word_then written (slice_index (words_of s) a) → new ≡ slice_index (words_of t) a
      → step_writes a s t ≡ lines_of_write m a s written ++ change_part m call a old new
  unfolding step_writes
  step-writes-parts t old new is_old is_new =
      let old_is : word_then (written_word a (guest_writes s)) (slice_index (words_of s) a) ≡ old = ap (λ w. word_then w (slice_index (words_of s) a)) (sym written_is) ∙ sym is_old in
      λ i. lines_of_write (sym moment i) a s (sym written_is i) ++ change_part (sym moment i) (sym call_is i) a (old_is i) (sym is_new i)

module _ (a : ℕ) where
  writes-none : (s : State) → writes_text 0 a s ≡ []
  unfolding writes_text
  writes-none s = refl

  writes-stopped : (n : ℕ) (s : State) → is_some (stop_of s) ≡ true → writes_text n a s ≡ []
  unfolding writes_text
  writes-stopped zero s stopped = refl
  writes-stopped (suc n) s stopped = rw stopped refl

  writes-goes : (n : ℕ) (s : State) → is_some (stop_of s) ≡ false → writes_text (suc n) a s ≡ step_writes a s (step s).state ++ writes_text n a (step s).state
  unfolding writes_text
  writes-goes n s goes = rw goes refl

  -- it has the lines of each step
  pub tells-writes : TellsSteps (λ n s. writes_text n a s) (λ s. step_writes a s (step s).state)
  tells-writes = record { none = writes-none; stopped = writes-stopped; goes = writes-goes }
