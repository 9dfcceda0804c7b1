use Rattle.std.proofs.Common.{◌∙◌, sym, ap}
use Rattle.kernel_model.specs.KernelDispatch.Private.DispatchWords.{goes_on_in}
use Rattle.kernel_model.proofs.KernelDispatch.NobodyRuns.{goes-on, goes-told, next-none, next-some, nobody-runs}
use Rattle.kernel_model.proofs.kernel_dispatch.turns.switch.Goals as goal

pub returns-then-goes_on-clause-dispatched : goal.returns-then-goes_on-clause-dispatched
returns-then-goes_on-clause-dispatched g c = λ l k can.
    goes-on c.args.store.now (g.Q.KindKeeper.tells c.args.kinds.now) (g.Q.KindKeeper.room c.args.kinds.now) l c.choose-next.result c.args.regs.now k (c.choose-next.ensures l k.lists) (sym c.goes_on.ensures ∙ c.if-goes_on.true)
    (g.L.EventLog.noted c.args.log.now) (g.L.EventLog.has_failed c.args.log.now)

pub resume-requires : goal.resume-requires
resume-requires g c =
    let n = next-some c.requires.0 c.in-Some.t (sym c.in-Some.is ∙ c.choose-next.ensures c.requires.0 c.requires.1.lists) in (c.requires.0, n.0, c.requires.1, n.1)

pub returns-in-Some-clause-dispatched : goal.returns-in-Some-clause-dispatched
returns-in-Some-clause-dispatched g c = λ l k can.
    let n = next-some l c.in-Some.t (sym c.in-Some.is ∙ c.choose-next.ensures l k.lists) in
    c.resume.ensures.dispatched l n.0 k n.1 can
    (sym (goes-told c.args.store.now (g.Q.KindKeeper.tells c.args.kinds.now) (g.Q.KindKeeper.room c.args.kinds.now) l n.0 c.in-Some.t k n.1)
    ∙ ap (goes_on_in c.args.store.now) (sym c.in-Some.is) ∙ sym c.goes_on.ensures ∙ c.if-goes_on.false)

pub returns-in-None-clause-dispatched : goal.returns-in-None-clause-dispatched
returns-in-None-clause-dispatched g c = λ l k can.
    nobody-runs c.args.store.now c.idle.new.store l c.args.regs.now c.idle.new.regs (g.Q.KindKeeper.tells c.args.kinds.now) k.lists k.knows can
    (next-none l (sym c.in-None.is ∙ c.choose-next.ensures l k.lists))
    c.idle.ensures.words c.idle.ensures.regs (g.L.EventLog.noted c.args.log.now) (g.L.EventLog.noted c.idle.new.log) (g.L.EventLog.has_failed c.args.log.now) (g.L.EventLog.has_failed c.idle.new.log)
    c.idle.ensures.events
