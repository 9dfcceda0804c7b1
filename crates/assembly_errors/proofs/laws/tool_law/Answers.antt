use Rattle.assembly_errors.proofs.ToolAnswers.{nothing_said, wrong_refused}
use Rattle.assembly_errors.proofs.laws.tool_law.Goals as goal

pub returns-clause-wrong : goal.returns-clause-wrong
returns-clause-wrong c = wrong_refused

pub returns-clause-silent : goal.returns-clause-silent
returns-clause-silent c = nothing_said
