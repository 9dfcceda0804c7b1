use Rattle.assembly.proofs.AssemblyText.AssemblyLemmas.{complete, sound}
use Rattle.assembly.proofs.AssemblyText.RelocationOrder.{relocations_rise}
use Rattle.assembly.proofs.assembly_text.laws.assembly_law.Goals as goal

pub returns-clause-sound : goal.returns-clause-sound
returns-clause-sound c = sound

pub returns-clause-complete : goal.returns-clause-complete
returns-clause-complete c = complete

pub returns-clause-rising : goal.returns-clause-rising
returns-clause-rising c = relocations_rise
