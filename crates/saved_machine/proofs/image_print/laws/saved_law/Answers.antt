use Rattle.saved_machine.specs.ImagePrint.SavedImage.{saved_image}
use Rattle.saved_text.proofs.PrintedText.{printed}
use Rattle.saved_machine.proofs.ImagePrint.LawfulImages.{saved_lawful}
use Rattle.saved_machine.proofs.image_print.laws.saved_law.Goals as goal

pub returns-clause-lawful : goal.returns-clause-lawful
returns-clause-lawful c = saved_lawful

pub returns-clause-read : goal.returns-clause-read
returns-clause-read c = λ version s go sound numbers sized may. printed (saved_image version s go) (saved_lawful version s go sound numbers sized may)
