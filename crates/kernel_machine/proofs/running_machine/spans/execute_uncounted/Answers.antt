use Rattle.std.proofs.Common.{◌≡◌, ◌+◌, ◌-◌, arith, subst}
use Rattle.instruction_set.proofs.Unexecuted.{not-next}
use Rattle.kernel_machine.specs.RunningMachine.Runs.{IsOnWay, counted}
use Rattle.kernel_machine.proofs.RunningMachine.UncountedSteps.{byte-now, counting-first, counting-next, keeper-now, uncounted-stays}
use Rattle.kernel_machine.proofs.running_machine.spans.execute_uncounted.Goals as goal

pub loop-taken-init : goal.loop-taken-init
loop-taken-init c = counting-first c.args.parts.now c.args.most c.requires.way

pub execute_next-requires-clause-byte : goal.execute_next-requires-clause-byte
execute_next-requires-clause-byte c =
    byte-now c.args.parts.now c.loop-taken.parts c.args.most c.loop-taken.taken c.loop-taken.invariant c.requires.way c.requires.before (omega (arith, c.loop-taken-test.true))

pub execute_next-requires-clause-keeper : goal.execute_next-requires-clause-keeper
execute_next-requires-clause-keeper c =
    keeper-now c.args.parts.now c.loop-taken.parts c.args.most c.loop-taken.taken c.loop-taken.invariant c.requires.way c.requires.before (omega (arith, c.loop-taken-test.true))

pub returns-in-Sys-clause-most : goal.returns-in-Sys-clause-most
returns-in-Sys-clause-most c = omega (arith, c.loop-taken-test.true)

pub returns-in-Sys-clause-way : goal.returns-in-Sys-clause-way
returns-in-Sys-clause-way c = λ k n m x le few.
    let i = c.loop-taken.taken in
    uncounted-stays k (n + i) (m - i) i c.loop-taken.parts (c.loop-taken.invariant.way k n m x le few) c.execute_next.new.store c.execute_next.new.regs
    (c.execute_next.ensures.stays (not-next c.execute_next.result c.in-Sys.is))

pub loop-taken-preserved : goal.loop-taken-preserved
loop-taken-preserved c =
    let y = c.execute_next.ensures in
    counting-next c.args.parts.now c.loop-taken.parts c.args.most c.loop-taken.taken c.loop-taken.invariant c.requires.way c.requires.before (omega (arith, c.loop-taken-test.true)) c.execute_next.new.store
    c.execute_next.new.regs c.execute_next.result y.outcome y.words y.regs y.lists c.in-Next.is

pub returns-clause-way : goal.returns-clause-way
returns-clause-way c = λ k n m x le few.
    let end : c.loop-taken.taken ≡ c.args.most = omega (arith, c.loop-taken-test.false, c.loop-taken.auto.taken-end) in
    subst (λ z. IsOnWay k (n + z) (m - z) (counted z c.loop-taken.parts)) end (c.loop-taken.invariant.way k n m x le few)
