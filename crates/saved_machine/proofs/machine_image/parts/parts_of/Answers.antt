use Rattle.saved_machine.proofs.MachineImage.AdoptedParts.{residents-adopted}
use Rattle.saved_machine.proofs.machine_image.parts.parts_of.Goals as goal

pub console_in-console-requires : goal.console_in-console-requires
console_in-console-requires c = (residents-adopted c.args.image c.requires.kept.adopted).console.line

pub shell_in-shell-requires : goal.shell_in-shell-requires
shell_in-shell-requires c = (residents-adopted c.args.image c.requires.kept.adopted).shell.line
