use Rattle.assembly.proofs.AssemblyText.AssemblyLemmas.{same_table}
use Rattle.assembly.proofs.assembly_text.laws.table_law.Goals as goal

pub returns : goal.returns
returns c = same_table
