use Rattle.assembly_errors.specs.Reports.{error_remark}
use Rattle.assembly_errors.proofs.reports.error_remark.Goals as goal

pub returns-in-UndefinedLabel : goal.returns-in-UndefinedLabel
unfolding error_remark
returns-in-UndefinedLabel c = rw (c.in-UndefinedLabel.is, ← c.bytes.ensures, ← c.without_comment-code.ensures) c.undefined_in.ensures

pub returns-in-OutOfReach : goal.returns-in-OutOfReach
unfolding error_remark
returns-in-OutOfReach c = rw (c.in-OutOfReach.is, ← c.bytes.ensures, ← c.without_comment-code.ensures) c.reach_in.ensures
