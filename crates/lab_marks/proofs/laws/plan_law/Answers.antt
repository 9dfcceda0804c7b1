use Rattle.lab_marks.proofs.PrintedBytes.{bytes-printed}
use Rattle.lab_marks.proofs.laws.plan_law.Goals as goal

pub returns : goal.returns
returns c = bytes-printed
