-- What is written of a run, of the machine that was saved after it and goes on, and of both as one run.
use Rattle.std.specs.Prelude.{◌≡◌, ℕ, ◌+◌, List, ◌++◌, codes}
use Rattle.kernel_model.specs.declared.kernel_record.stops.Stop.{Stop}
use Rattle.kernel_model.specs.declared.kernel_record.stops.Stop.TheVariants.{Steps}
use Rattle.program_answers.specs.Answer.{Answer}
use Rattle.program_answers.specs.declared.status.Status.TheVariants.{Done}
use Rattle.tripos_run.specs.Answer.{status_of}
use Rattle.tripos_run.specs.Texts.{closing_text}

-- it begins as the text of a saved machine, and not as a closing line
abbrev pub IsMachineText : List ℕ → Type 0
IsMachineText text = (rest : List ℕ) × (text ≡ codes "TRIPOS-IMAGE " ++ rest)

-- `before` is written of a run of m steps, `after` of the machine that goes on then, and `whole` of both as one run.
pub record IsContinued (m : ℕ) (before after whole : Answer) : Type 0 where
  -- the console bytes of the m steps
  pub first : List ℕ
  -- and those of the steps after them
  pub rest : List ℕ
  -- how many these are
  pub steps : ℕ
  -- why the machine has stopped then
  pub stop : Stop
  -- the first answer ends since its steps are over
  pub before_is : before ≡ record { status = Done; bytes = first ++ closing_text m Steps }
  -- the second has the bytes that are new, and counts the steps that are
  pub after_is : after ≡ record { status = status_of stop; bytes = rest ++ closing_text steps stop }
  -- and the whole has both
  pub whole_is : whole ≡ record { status = status_of stop; bytes = (first ++ rest) ++ closing_text (m + steps) stop }
