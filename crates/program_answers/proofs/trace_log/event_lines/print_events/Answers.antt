use Rattle.std.proofs.Common.{refl}
use Rattle.byte_streams.proofs.GatheredTexts.{Prints-gathered}
use Rattle.program_answers.proofs.trace_log.event_lines.print_events.Goals as goal

pub returns-clause-text : goal.returns-clause-text
returns-clause-text g c = Prints-gathered _ c.pass_on.result refl c.in_ok-pending.ensures.text c.pass_on.ensures.text
