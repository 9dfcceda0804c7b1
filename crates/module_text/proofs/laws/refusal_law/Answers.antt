use Rattle.module_text.proofs.TextRefusals.{between_law, beyond_law, code_bounds, inside_law, no_offset_law, no_type_law, no_word_law}
use Rattle.module_text.proofs.laws.refusal_law.Goals as goal

pub returns-clause-no_word : goal.returns-clause-no_word
returns-clause-no_word c = no_word_law

pub returns-clause-inside : goal.returns-clause-inside
returns-clause-inside c = inside_law

pub returns-clause-no_type : goal.returns-clause-no_type
returns-clause-no_type c = no_type_law

pub returns-clause-no_offset : goal.returns-clause-no_offset
returns-clause-no_offset c = no_offset_law

pub returns-clause-between : goal.returns-clause-between
returns-clause-between c = between_law

pub returns-clause-beyond : goal.returns-clause-beyond
returns-clause-beyond c = beyond_law

pub returns-clause-codes : goal.returns-clause-codes
returns-clause-codes c = code_bounds
