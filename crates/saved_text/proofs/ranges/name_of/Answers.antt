use Rattle.ram_disc.proofs.NameLemmas.{name_read}
use Rattle.saved_text.proofs.ranges.name_of.Goals as goal

pub returns : goal.returns
returns c = name_read c.args.bytes.now c.read.result c.read.ensures
