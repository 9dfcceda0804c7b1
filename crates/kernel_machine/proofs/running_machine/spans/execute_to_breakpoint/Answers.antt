use Rattle.std.proofs.Common.{◌≡◌, ◌∙◌, ◌+◌, ◌-◌, arith, subst, sym}
use Rattle.instruction_set.proofs.Unexecuted.{not-next}
use Rattle.kernel_machine.specs.KernelSteps.Step.{run}
use Rattle.kernel_machine.specs.RunningMachine.Runs.{IsOnWay, counted}
use Rattle.kernel_machine.proofs.RunningMachine.MetBreakpoints.{avoids-few, avoids-fewer, avoids-next, met-behind}
use Rattle.kernel_machine.proofs.RunningMachine.UncountedSteps.{byte-now, counting-first, counting-next, keeper-now, stays-tried, uncounted-stays}
use Rattle.kernel_machine.proofs.running_machine.spans.execute_to_breakpoint.Goals as goal

pub loop-taken-init : goal.loop-taken-init
loop-taken-init c = record {
  counting = counting-first c.args.parts.now c.args.most c.requires.way;
  between = λ k n m x le few. avoids-few c.args.breakpoints.now (run n k).kernel 1 (omega arith);
}

pub execute_guest-requires-clause-byte : goal.execute_guest-requires-clause-byte
execute_guest-requires-clause-byte c =
    byte-now c.args.parts.now c.loop-taken.parts c.args.most c.loop-taken.taken c.loop-taken.invariant.counting c.requires.way c.requires.before (omega (arith, c.loop-taken-test.true))

pub execute_guest-requires-clause-keeper : goal.execute_guest-requires-clause-keeper
execute_guest-requires-clause-keeper c =
    keeper-now c.args.parts.now c.loop-taken.parts c.args.most c.loop-taken.taken c.loop-taken.invariant.counting c.requires.way c.requires.before (omega (arith, c.loop-taken-test.true))

pub returns-in-Sys-clause-most : goal.returns-in-Sys-clause-most
returns-in-Sys-clause-most c = omega (arith, c.loop-taken-test.true)

pub returns-in-Sys-clause-way : goal.returns-in-Sys-clause-way
returns-in-Sys-clause-way c = λ k n m x le few.
    let i = c.loop-taken.taken in
    let y = c.execute_guest.ensures in
    uncounted-stays k (n + i) (m - i) i c.loop-taken.parts (c.loop-taken.invariant.counting.way k n m x le few) c.execute_guest.new.store c.execute_guest.new.regs
    (stays-tried c.args.parts.now c.loop-taken.parts c.args.most i c.loop-taken.invariant.counting c.requires.way c.requires.before (omega (arith, c.loop-taken-test.true)) c.execute_guest.new.store
    c.execute_guest.new.regs c.execute_guest.result y.outcome y.words y.regs y.lists (not-next c.execute_guest.result c.in-Sys.is))

pub returns-in-Sys-clause-between : goal.returns-in-Sys-clause-between
returns-in-Sys-clause-between c = λ k n m x le few.
    let i = c.loop-taken.taken in
    avoids-fewer c.args.breakpoints.now (run n k).kernel i (i + 1) (omega arith) (c.loop-taken.invariant.between k n m x le few)

pub returns-then-has_breakpoint-clause-way : goal.returns-then-has_breakpoint-clause-way
returns-then-has_breakpoint-clause-way c =
    let y = c.execute_guest.ensures in
    (counting-next c.args.parts.now c.loop-taken.parts c.args.most c.loop-taken.taken c.loop-taken.invariant.counting c.requires.way c.requires.before (omega (arith, c.loop-taken-test.true))
    c.execute_guest.new.store c.execute_guest.new.regs c.execute_guest.result y.outcome y.words y.regs y.lists c.in-Next.is).way

pub loop-taken-preserved : goal.loop-taken-preserved
loop-taken-preserved c =
    let i = c.loop-taken.taken in
    let y = c.execute_guest.ensures in
    let counting = counting-next c.args.parts.now c.loop-taken.parts c.args.most i c.loop-taken.invariant.counting c.requires.way c.requires.before (omega (arith, c.loop-taken-test.true))
    c.execute_guest.new.store c.execute_guest.new.regs c.execute_guest.result y.outcome y.words y.regs y.lists c.in-Next.is in
    record {
      counting = counting;
      between = λ k n m x le few.
          avoids-next c.args.breakpoints.now (run n k).kernel (i + 1) (c.loop-taken.invariant.between k n m x le few)
          (λ some. met-behind c.args.breakpoints.now k n (i + 1) (m - (i + 1)) _ (counting.way k n m x le few) (sym c.has_breakpoint.ensures ∙ c.if-has_breakpoint.false));
    }

pub returns-clause-way : goal.returns-clause-way
returns-clause-way c = λ k n m x le few.
    let end : c.loop-taken.taken ≡ c.args.most = omega (arith, c.loop-taken-test.false, c.loop-taken.auto.taken-end) in
    subst (λ z. IsOnWay k (n + z) (m - z) (counted z c.loop-taken.parts)) end (c.loop-taken.invariant.counting.way k n m x le few)

pub returns-clause-between : goal.returns-clause-between
returns-clause-between c = λ k n m x le few.
    let i = c.loop-taken.taken in
    avoids-fewer c.args.breakpoints.now (run n k).kernel c.args.most (i + 1) (omega (arith, c.loop-taken-test.false, c.loop-taken.auto.taken-end)) (c.loop-taken.invariant.between k n m x le few)
