use Rattle.std.proofs.Common.{◌≡◌, ◌∙◌, ◌+◌, ◌-◌, None, ap, arith, refl, subst, sym}
use Rattle.kernel_machine.proofs.KernelSteps.NextTick.{some-period}
use Rattle.kernel_machine.specs.declared.running_machine.parts.Parts.{Parts}
use Rattle.kernel_machine.specs.RunningMachine.Machine.{kernel_of}
use Rattle.kernel_machine.specs.RunningMachine.Runs.{HasPassed, IsOnWay}
use Rattle.kernel_machine.proofs.RunningMachine.MetBreakpoints.{avoids-behind, avoids-few, avoids-next, way-met}
use Rattle.kernel_machine.proofs.RunningMachine.QuietSpan.{on-way-first}
use Rattle.kernel_machine.proofs.running_machine.spans.execute.Goals as goal

pub loop-taken-init : goal.loop-taken-init
loop-taken-init c = record {
  few = omega arith;
  way = subst (λ m. IsOnWay (kernel_of c.args.parts.now None) 0 m c.args.parts.now) (omega arith) (on-way-first c.args.parts.now c.requires.whole c.args.most c.requires.guest c.requires.quiet);
  before = avoids-few c.args.breakpoints.now (kernel_of c.args.parts.now None) 1 (omega arith);
  keys = refl;
}

pub count-requires-clause-period : goal.count-requires-clause-period
count-requires-clause-period c =
    let k = kernel_of c.args.parts.now None in
    let i = c.loop-taken.taken in
    let way = c.execute_some-executed.ensures.way k i (c.args.most - i) c.loop-taken.invariant.way (omega (arith, c.min-steps.ensures)) (omega (arith, c.loop-taken-test.true, c.requires.most, c.requires.whole.represents.steps)) in
    omega (arith, way.passed.represents.period, some-period _ way.passed.valid.lists)

pub count-requires-clause-most : goal.count-requires-clause-most
count-requires-clause-most c =
    let k = kernel_of c.args.parts.now None in
    let i = c.loop-taken.taken in
    let way = c.execute_some-executed.ensures.way k i (c.args.most - i) c.loop-taken.invariant.way (omega (arith, c.min-steps.ensures)) (omega (arith, c.loop-taken-test.true, c.requires.most, c.requires.whole.represents.steps)) in
    omega (arith, way.passed.represents.steps, way.steps, c.requires.most, c.requires.whole.represents.steps, c.execute_some-executed.ensures.most, c.min-steps.ensures, c.loop-taken-test.true)

pub loop-taken-preserved : goal.loop-taken-preserved
loop-taken-preserved c =
    let k = kernel_of c.args.parts.now None in
    let i = c.loop-taken.taken in
    let n = c.execute_some-executed.result in
    let way = c.execute_some-executed.ensures.way k i (c.args.most - i) c.loop-taken.invariant.way (omega (arith, c.min-steps.ensures)) (omega (arith, c.loop-taken-test.true, c.requires.most, c.requires.whole.represents.steps)) in
    let left : (c.args.most - i) - n ≡ c.args.most - (i + n) = omega arith in
    let here : IsOnWay k (i + n) (c.args.most - (i + n)) c.count.new.parts = subst (λ z. IsOnWay k (i + n) z c.count.new.parts) left (subst (IsOnWay k (i + n) ((c.args.most - i) - n)) (sym c.count.ensures) way) in
    record {
      few = omega (arith, c.execute_some-executed.ensures.most, c.min-steps.ensures, c.loop-taken-test.true);
      way = here;
      before = avoids-next c.args.breakpoints.now k (i + n)
          (avoids-behind c.args.breakpoints.now k i n c.loop-taken.invariant.before (c.execute_some-executed.ensures.between k i (c.args.most - i) c.loop-taken.invariant.way (omega (arith, c.min-steps.ensures)) (omega (arith, c.loop-taken-test.true, c.requires.most, c.requires.whole.represents.steps))))
          (λ some. way-met c.args.breakpoints.now k (i + n) (c.args.most - (i + n)) c.count.new.parts here (sym c.has_breakpoint.ensures ∙ c.if-has_breakpoint.false));
      keys = ap (λ (p : Parts). p.keys.keys) c.count.ensures ∙ c.execute_some-executed.ensures.keys ∙ c.loop-taken.invariant.keys;
    }

pub returns-then-executed-steps-clause-before : goal.returns-then-executed-steps-clause-before
returns-then-executed-steps-clause-before c =
    let k = kernel_of c.args.parts.now None in
    let i = c.loop-taken.taken in
    avoids-behind c.args.breakpoints.now k i c.execute_some-executed.result c.loop-taken.invariant.before
    (c.execute_some-executed.ensures.between k i (c.args.most - i) c.loop-taken.invariant.way (omega (arith, c.min-steps.ensures)) (omega (arith, c.loop-taken-test.true, c.requires.most, c.requires.whole.represents.steps)))

pub returns-then-has_breakpoint-clause-passed : goal.returns-then-has_breakpoint-clause-passed
returns-then-has_breakpoint-clause-passed c =
    let k = kernel_of c.args.parts.now None in
    let i = c.loop-taken.taken in
    let way = c.execute_some-executed.ensures.way k i (c.args.most - i) c.loop-taken.invariant.way (omega (arith, c.min-steps.ensures)) (omega (arith, c.loop-taken-test.true, c.requires.most, c.requires.whole.represents.steps)) in
    subst (HasPassed (i + c.execute_some-executed.result) k) (sym c.count.ensures) way.passed

pub returns-then-has_breakpoint-clause-before : goal.returns-then-has_breakpoint-clause-before
returns-then-has_breakpoint-clause-before c =
    let k = kernel_of c.args.parts.now None in
    let i = c.loop-taken.taken in
    avoids-behind c.args.breakpoints.now k i c.execute_some-executed.result c.loop-taken.invariant.before
    (c.execute_some-executed.ensures.between k i (c.args.most - i) c.loop-taken.invariant.way (omega (arith, c.min-steps.ensures)) (omega (arith, c.loop-taken-test.true, c.requires.most, c.requires.whole.represents.steps)))
