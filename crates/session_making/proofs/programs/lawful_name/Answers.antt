use Rattle.ram_disc.proofs.NameLemmas.{name_read}
use Rattle.session_making.proofs.programs.lawful_name.Goals as goal

pub returns : goal.returns
returns c = name_read c.args.word.now c.read.result c.read.ensures
