use Rattle.instruction_set.proofs.SearchLaw.{key_found, no_key}
use Rattle.instruction_set.proofs.laws.search_law.Goals as goal

pub returns-clause-found : goal.returns-clause-found
returns-clause-found c = key_found

pub returns-clause-none : goal.returns-clause-none
returns-clause-none c = no_key
