use Rattle.kernel_machine.proofs.MachineBoot.LoadedParts.{files-reached}
use Rattle.kernel_machine.proofs.machine_boot.start.put_files.Goals as goal

pub returns-clause-reached : goal.returns-clause-reached
returns-clause-reached c = λ k h. files-reached c.args.parts.now k h c.args.lines.now c.load_files.new.disc c.load_files.result c.load_files.ensures
