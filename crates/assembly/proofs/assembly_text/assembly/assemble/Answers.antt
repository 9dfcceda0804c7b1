use Rattle.assembly.proofs.AssemblyText.Printable.{printable_text}
use Rattle.assembly.proofs.assembly_text.assembly.assemble.Goals as goal

pub module_text-requires : goal.module_text-requires
module_text-requires c = printable_text c.args.text.now _ c.in_ok-module.ensures
