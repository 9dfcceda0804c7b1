use Rattle.std.proofs.Common.{◌≡◌, ◌∙◌, None, arith, refl, sym}
use Rattle.kernel_machine.specs.KernelSteps.Step.{run}
use Rattle.kernel_machine.specs.RunningMachine.Machine.{kernel_of}
use Rattle.kernel_machine.proofs.RunningMachine.MetBreakpoints.{avoids-few, idle-met}
use Rattle.kernel_machine.proofs.RunningMachine.QuietParts.{quiet-all}
use Rattle.kernel_machine.proofs.RunningMachine.QuietSpan.{idle-behind, passed-none}
use Rattle.kernel_machine.proofs.running_machine.spans.pass.Goals as goal

pub returns-then-serves_now-clause-passed : goal.returns-then-serves_now-clause-passed
returns-then-serves_now-clause-passed c = passed-none c.args.parts.now c.requires.whole 0 refl

pub wait-requires-clause-quiet : goal.wait-requires-clause-quiet
wait-requires-clause-quiet c = λ some.
    quiet-all c.args.parts.now c.requires.whole c.min-quiet.result (c.serves_now.ensures.none c.if-serves_now.false) (c.before_key.ensures.later c.min-quiet.result some (omega (arith, c.min-quiet.ensures, c.min.ensures)))
    (c.before_return.ensures.later c.min-quiet.result (omega (arith, c.min-quiet.ensures, c.min.ensures)))

pub execute-requires-clause-quiet : goal.execute-requires-clause-quiet
execute-requires-clause-quiet c = λ some.
    quiet-all c.args.parts.now c.requires.whole c.min-quiet.result (c.serves_now.ensures.none c.if-serves_now.false) (c.before_key.ensures.later c.min-quiet.result some (omega (arith, c.min-quiet.ensures, c.min.ensures)))
    (c.before_return.ensures.later c.min-quiet.result (omega (arith, c.min-quiet.ensures, c.min.ensures)))

pub returns-then-task-lt-FIRST_GUEST-clause-passed : goal.returns-then-task-lt-FIRST_GUEST-clause-passed
returns-then-task-lt-FIRST_GUEST-clause-passed c = passed-none c.args.parts.now c.requires.whole 0 refl

pub returns-then-serves_now-clause-before : goal.returns-then-serves_now-clause-before
returns-then-serves_now-clause-before c = avoids-few c.args.breakpoints.now (kernel_of c.args.parts.now None) 0 (omega arith)

pub returns-then-task-eq0-clause-before : goal.returns-then-task-eq0-clause-before
returns-then-task-eq0-clause-before c = λ i some low.
    let p = c.args.parts.now in
    let w = c.requires.whole in
    let none : (kernel_of p None).lists.running ≡ 0 = sym (c.running-task.ensures (kernel_of p None).lists w.represents.keeper.lists) ∙ c.if-task-eq0.true in
    idle-met c.args.breakpoints.now (run i (kernel_of p None)).kernel
    (idle-behind p w i none
    (quiet-all p w i (c.serves_now.ensures.none c.if-serves_now.false) (c.before_key.ensures.later i some (omega (arith, low, c.min-quiet.ensures, c.min.ensures))) (c.before_return.ensures.later i (omega (arith, low, c.min-quiet.ensures, c.min.ensures)))))

pub returns-then-task-lt-FIRST_GUEST-clause-before : goal.returns-then-task-lt-FIRST_GUEST-clause-before
returns-then-task-lt-FIRST_GUEST-clause-before c = avoids-few c.args.breakpoints.now (kernel_of c.args.parts.now None) 0 (omega arith)
