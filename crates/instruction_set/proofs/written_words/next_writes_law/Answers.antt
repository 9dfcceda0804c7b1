use Rattle.instruction_set.proofs.WritesMade.{leaves-written}
use Rattle.instruction_set.proofs.written_words.next_writes_law.Goals as goal

pub returns : goal.returns
returns c marks words r = leaves-written marks words r
