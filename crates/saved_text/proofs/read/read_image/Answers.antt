use Rattle.saved_text.proofs.LawfulText.{is_lawful}
use Rattle.saved_text.proofs.read.read_image.Goals as goal

pub returns-clause-lawful : goal.returns-clause-lawful
returns-clause-lawful c = is_lawful c.args.text.now _ c.whole_image.ensures.value
