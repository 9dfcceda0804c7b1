use Rattle.std.proofs.Common.{◌≡◌, take}
use Rattle.saved_machine.specs.MachineImage.Parts.{disc_of_files}
use Rattle.saved_machine.proofs.machine_image.files.put_files.Given as goal

abbrev pub invariant-loop-file : goal.invariant-loop-file
invariant-loop-file l = l.disc ≡ disc_of_files (take l.file-index l.files)
