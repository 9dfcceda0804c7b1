-- The lines of a step in a log, and of one step after another.
use Rattle.std.proofs.Common.{◌≡◌, ℕ, zero, suc, ◌++◌, true, false, List, [], refl, sym}
use Rattle.std.specs.Prelude.{is_some}
use Rattle.tripos_machine.specs.State.{State, stop_of}
use Rattle.tripos_machine.specs.Step.{Stepped, step}
use Rattle.show_run.specs.declared.step_log.moments.Moment.{Moment}
use Rattle.show_run.specs.StepLog.StepLines.{Before, before_of, lines_after, lines_before, log_text, moment_of, step_lines, turn_lines}
use Rattle.show_run.proofs.ToldSteps.{TellsSteps}

-- ---- one step

-- what was read before the step
pub record AreOf (s : State) (m : Moment) (b : Before) : Type 0 where
  pub moment : m ≡ moment_of s
  pub before : b ≡ before_of s

module _ {s : State} {m : Moment} {b : Before} (is : AreOf s m b) where
  -- what is gathered after what is known before the step
  abbrev pub rest_of : Stepped → List ℕ
  rest_of x = turn_lines m b s x ++ lines_after m b x.bytes x.state

  pub step-parts : (x : Stepped) → step_lines s x ≡ lines_before m b s ++ rest_of x
  unfolding step_lines
  step-parts x = λ i.
      lines_before (sym is.moment i) (sym is.before i) s
      ++ (turn_lines (sym is.moment i) (sym is.before i) s x ++ lines_after (sym is.moment i) (sym is.before i) x.bytes x.state)

-- ---- steps

log-stopped : (n : ℕ) (s : State) → is_some (stop_of s) ≡ true → log_text n s ≡ []
unfolding log_text
log-stopped zero s stopped = refl
log-stopped (suc n) s stopped = rw stopped refl

log-goes : (n : ℕ) (s : State) → is_some (stop_of s) ≡ false → log_text (suc n) s ≡ step_lines s (step s) ++ log_text n (step s).state
unfolding log_text
log-goes n s goes = rw goes refl

log-none : (s : State) → log_text 0 s ≡ []
unfolding log_text
log-none s = refl

-- a log has the lines of each step
pub tells-log : TellsSteps log_text (λ s. step_lines s (step s))
tells-log = record { none = log-none; stopped = log-stopped; goes = log-goes }
