use Rattle.byte_streams.proofs.GatheredTexts.{Prints-passed}
use Rattle.tripos_run.proofs.rings.write_outcome.Goals as goal

pub returns-clause-text : goal.returns-clause-text
returns-clause-text g c = Prints-passed c.in_ok-gather_pieces.ensures.text _ c.pass_on.result c.pass_on.ensures.text
