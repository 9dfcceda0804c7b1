use Rattle.std.proofs.Common.{refl, sym, ◌∙◌, subst}
use Rattle.kernel_calls.specs.CallAnswers.Outside.{outside}
use Rattle.kernel_calls.specs.Calls.{IsCalled, kernel_call, made, made_if_read}
use Rattle.kernel_calls.proofs.CalledAnswers.{called-ended}
use Rattle.kernel_calls.proofs.calls.call.Goals as goal

pub returns-in-Ok-clause-called : goal.returns-in-Ok-clause-called
unfolding kernel_call
returns-in-Ok-clause-called g c = λ l k calls.
    let s = c.args.store.now in
    subst
    (λ q. IsCalled s c.make.new.store c.make.new.regs (g.Q.KindKeeper.tells c.make.new.kinds)
    (outside c.args.bytes.now (g.L.EventLog.noted c.args.log.now) (g.L.EventLog.has_failed c.args.log.now))
    (outside c.make.new.bytes (g.L.EventLog.noted c.make.new.log) (g.L.EventLog.has_failed c.make.new.log))
    c.make.result (made_if_read s l c.args.regs.now q))
    (sym c.in-Ok.is ∙ c.read_call.ensures)
    (subst
    (λ pc. IsCalled s c.make.new.store c.make.new.regs (g.Q.KindKeeper.tells c.make.new.kinds)
    (outside c.args.bytes.now (g.L.EventLog.noted c.args.log.now) (g.L.EventLog.has_failed c.args.log.now))
    (outside c.make.new.bytes (g.L.EventLog.noted c.make.new.log) (g.L.EventLog.has_failed c.make.new.log))
    c.make.result (made s l (record c.args.regs.now { pc = pc }) c.in-Ok.call))
    c.add-regs.ensures
    (c.make.ensures.called l k calls))

pub returns-in-Err-clause-called : goal.returns-in-Err-clause-called
unfolding kernel_call
returns-in-Err-clause-called g c = λ l k calls.
    let s = c.args.store.now in
    subst
    (λ q. IsCalled s s c.args.regs.now (g.Q.KindKeeper.tells c.args.kinds.now)
    (outside c.args.bytes.now (g.L.EventLog.noted c.args.log.now) (g.L.EventLog.has_failed c.args.log.now))
    (outside c.args.bytes.now (g.L.EventLog.noted c.args.log.now) (g.L.EventLog.has_failed c.args.log.now))
    c.in-Err.end (made_if_read s l c.args.regs.now q))
    (sym c.in-Err.is ∙ c.read_call.ensures)
    (called-ended s (g.Q.KindKeeper.tells c.args.kinds.now) c.args.regs.now
    (outside c.args.bytes.now (g.L.EventLog.noted c.args.log.now) (g.L.EventLog.has_failed c.args.log.now))
    l k.lists k.knows c.args.regs.now c.in-Err.end c.in-Err.end refl refl)
