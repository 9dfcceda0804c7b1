use Rattle.module_text.proofs.Sizes.{few_hunks, printable}
use Rattle.module_text.proofs.read.read_module.Goals as goal

pub returns-clause-count : goal.returns-clause-count
returns-clause-count c = few_hunks c.args.text.now _ c.whole_module.ensures

pub returns-clause-printable : goal.returns-clause-printable
returns-clause-printable c = printable c.args.text.now _ c.whole_module.ensures
