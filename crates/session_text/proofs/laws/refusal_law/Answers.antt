use Rattle.session_text.proofs.TextRefusals.{code_bound, end_law, form_law, range_law}
use Rattle.session_text.proofs.laws.refusal_law.Goals as goal

pub returns-clause-form : goal.returns-clause-form
returns-clause-form c = form_law

pub returns-clause-range : goal.returns-clause-range
returns-clause-range c = range_law

pub returns-clause-end : goal.returns-clause-end
returns-clause-end c = end_law

pub returns-clause-codes : goal.returns-clause-codes
returns-clause-codes c = code_bound
