use Rattle.byte_streams.proofs.GatheredTexts.{Prints-gathered}
use Rattle.show_run.proofs.value_tries.texts.write_gathering.Goals as goal

pub returns-clause-text : goal.returns-clause-text
returns-clause-text g c = Prints-gathered _ c.pass_on.result c.new-pending.ensures c.in_ok-gather_gathering.ensures.text c.pass_on.ensures.text
