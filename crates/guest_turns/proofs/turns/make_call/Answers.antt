use Rattle.kernel_calls.specs.CallAnswers.Outside.{outside}
use Rattle.kernel_calls.specs.Calls.{kernel_call}
use Rattle.guest_turns.proofs.TurnParts.{turned-called}
use Rattle.guest_turns.proofs.turns.make_call.Goals as goal

pub returns-clause-turned : goal.returns-clause-turned
returns-clause-turned g c = λ l k calls.
    turned-called c.call-outcome.new.store c.call-outcome.new.regs (g.Q.KindKeeper.tells c.call-outcome.new.kinds)
    (outside c.args.bytes.now (g.L.EventLog.noted c.args.log.now) (g.L.EventLog.has_failed c.args.log.now))
    c.args.store.now c.args.regs.now.pc
    (outside c.call-outcome.new.bytes (g.L.EventLog.noted c.call-outcome.new.log) (g.L.EventLog.has_failed c.call-outcome.new.log))
    c.call-outcome.result c.end_of_call.result (kernel_call c.args.store.now l c.args.regs.now) (c.call-outcome.ensures.called l k calls) c.end_of_call.ensures
