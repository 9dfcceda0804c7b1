use Rattle.std.proofs.Common.{◌∙◌, ◌+◌, ◌/◌, None, ap, subst, sym}
use Rattle.kernel_machine.specs.KernelSteps.Quiet.{AwaitsTick}
use Rattle.kernel_machine.specs.RunningMachine.Machine.{kernel_of}
use Rattle.kernel_machine.proofs.RunningMachine.QuietParts.{awaits-first, awaits-none, both-under, either-latest, returned-next}
use Rattle.kernel_machine.proofs.running_machine.spans.before_return.Goals as goal

pub returns-then-packet-eq0-clause-later : goal.returns-then-packet-eq0-clause-later
returns-then-packet-eq0-clause-later c = λ m few. awaits-none c.args.parts.now c.requires _ (sym c.root-packet.ensures ∙ c.if-packet-eq0.true)

pub returns-clause-later : goal.returns-clause-later
returns-clause-later c = λ m few.
    awaits-first c.args.parts.now c.requires m c.root-packet.result c.word_at-due.result c.next_tick.result c.max.result c.root-packet.ensures c.if-packet-eq0.false c.word_at-due.ensures c.next_tick.ensures
    (either-latest c.word_at-due.result c.next_tick.result c.max.result c.max.ensures) (c.before-2.ensures.later m few)

pub returns-clause-next : goal.returns-clause-next
returns-clause-next c = λ zero awaits.
    let p = c.args.parts.now in
    let here = ap (λ n. (p.step + (n + 1)) / p.period) (sym zero) ∙ c.before-2.ensures.next in
    let under = both-under c.word_at-due.result c.next_tick.result c.max.result c.max.ensures in
    returned-next p c.requires c.root-packet.result c.word_at-due.result c.next_tick.result c.max.result c.root-packet.ensures c.if-packet-eq0.false c.word_at-due.ensures c.next_tick.ensures under.0 under.1
    (subst (λ n. AwaitsTick n (kernel_of p None).lists) here awaits)
