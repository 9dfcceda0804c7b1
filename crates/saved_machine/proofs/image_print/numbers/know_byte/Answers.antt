use Rattle.std.proofs.Common.{◌∙◌, sym}
use Rattle.saved_machine.proofs.ImagePrint.KnownNumbers.{no-byte-at}
use Rattle.saved_machine.proofs.image_print.numbers.know_byte.Goals as goal

pub returns-in_default : goal.returns-in_default
returns-in_default g c = no-byte-at (g.X.TextBytes.text c.args.text.now) c.args.i (sym c.in_default.is ∙ c.at.ensures)
