use Rattle.show_run.proofs.StepLog.GuestLines.{guest-dies}
use Rattle.show_run.proofs.step_log.guests.gather_instruction.Goals as goal

pub returns-then-m-eq0-clause-text : goal.returns-then-m-eq0-clause-text
returns-then-m-eq0-clause-text g c = rw (guest-dies c.args.m c.args.store.now c.if-m-eq0.true) c.gather_line.ensures.text
