use Rattle.std.proofs.Common.{◌∙◌, sym}
use Rattle.lab_marks.specs.Grammar.{Enclosed, Number}
use Rattle.lab_marks.proofs.ReadExpressions.{worth-said}
use Rattle.lab_marks.proofs.SaidExpressions.{said-worth}
use Rattle.lab_marks.proofs.laws.expression_law.Goals as goal

pub returns : goal.returns
returns c = record {
  said = said-worth;
  converse = worth-said;
  number = λ known text digits says. said-worth known text (Number digits) says;
  enclosed = λ known text other e says encloses. said-worth known other (Enclosed e) encloses ∙ sym (said-worth known text e says);
}
