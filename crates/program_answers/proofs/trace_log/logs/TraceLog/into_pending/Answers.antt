use Rattle.program_answers.proofs.TraceLog.GivenLines.{GivesPending-unless, HasCause-unless, OnOk-unless}
use Rattle.program_answers.proofs.trace_log.logs.TraceLog.into_pending.Goals as goal

pub returns-clause-text : goal.returns-clause-text
returns-clause-text g c = GivesPending-unless c.unless_cut.result c.unless_cut.ensures c.args.self.traced

pub returns-clause-cause : goal.returns-clause-cause
returns-clause-cause g c = HasCause-unless c.unless_cut.result c.unless_cut.ensures c.args.self.traced

pub returns-clause-whole : goal.returns-clause-whole
returns-clause-whole g c = OnOk-unless c.unless_cut.result c.unless_cut.ensures c.args.self.traced
