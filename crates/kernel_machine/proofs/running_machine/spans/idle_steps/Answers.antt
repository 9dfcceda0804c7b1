use Rattle.std.proofs.Common.{◌≡◌, ◌∙◌, None, arith, sym}
use Rattle.kernel_machine.specs.RunningMachine.Machine.{kernel_of}
use Rattle.kernel_machine.proofs.RunningMachine.QuietParts.{goes-on, quiet-all}
use Rattle.kernel_machine.proofs.RunningMachine.QuietSpan.{idle-quiet}
use Rattle.kernel_machine.proofs.RunningMachine.RunParts.{none-quiet}
use Rattle.kernel_machine.proofs.running_machine.spans.idle_steps.Goals as goal

pub returns-then-running-ne0-clause-quiet : goal.returns-then-running-ne0-clause-quiet
returns-then-running-ne0-clause-quiet c = λ n few. none-quiet n (kernel_of c.args.parts.now None) (omega (arith, few)) (goes-on c.args.parts.now c.requires)

pub returns-then-serves_now-clause-quiet : goal.returns-then-serves_now-clause-quiet
returns-then-serves_now-clause-quiet c = λ n few. none-quiet n (kernel_of c.args.parts.now None) (omega (arith, few)) (goes-on c.args.parts.now c.requires)

pub returns-clause-quiet : goal.returns-clause-quiet
returns-clause-quiet c = λ n few.
    let p = c.args.parts.now in
    let w = c.requires in
    let k = kernel_of p None in
    let nobody : k.lists.running ≡ 0 = sym (c.running.ensures k.lists w.represents.keeper.lists) ∙ c.if-running-ne0.false in
    idle-quiet p w n nobody
    (λ some. quiet-all p w n (c.serves_now.ensures.none c.if-serves_now.false) (c.before_key.ensures.later n some (omega (arith, few, c.min.ensures))) (c.before_return.ensures.later n (omega (arith, few, c.min.ensures))))
