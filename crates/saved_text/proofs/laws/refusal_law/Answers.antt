use Rattle.saved_text.proofs.TextRefusals.{code_bound, end_law, first_law}
use Rattle.saved_text.proofs.laws.refusal_law.Goals as goal

pub returns-clause-first : goal.returns-clause-first
returns-clause-first c = first_law

pub returns-clause-end : goal.returns-clause-end
returns-clause-end c = end_law

pub returns-clause-codes : goal.returns-clause-codes
returns-clause-codes c = code_bound
