use Rattle.std.proofs.Common.{arith}
use Rattle.kernel_calls.proofs.ModuleCalls.FurtherModules.{count-end, count-none, count-one, most-some}
use Rattle.kernel_calls.proofs.module_calls.addition.count_modules.Goals as goal

pub loop-i-preserved-then-module_at-eq0 : goal.loop-i-preserved-then-module_at-eq0
loop-i-preserved-then-module_at-eq0 c =
    let e = count-none c.args.store.now c.args.task c.loop-i.i c.most_modules-i-end.result c.requires c.most_modules-i-end.ensures c.loop-i.auto.i c.loop-i-test.true c.module_at.result c.module_at.ensures c.if-module_at-eq0.true in
    record { left = omega (arith, e, c.loop-i.invariant.left); few = omega (arith, c.loop-i.invariant.few) }

pub loop-i-preserved : goal.loop-i-preserved
loop-i-preserved c =
    let e = count-one c.args.store.now c.args.task c.loop-i.i c.most_modules-i-end.result c.requires c.most_modules-i-end.ensures c.loop-i.auto.i c.loop-i-test.true c.module_at.result c.module_at.ensures c.if-module_at-eq0.false in
    record { left = omega (arith, e, c.loop-i.invariant.left); few = omega (arith, c.loop-i.invariant.few) }

pub returns : goal.returns
returns c = omega (arith, c.loop-i.invariant.left, count-end c.args.store.now c.args.task c.loop-i.i c.most_modules-i-end.result c.most_modules-i-end.ensures (omega (arith, c.loop-i-test.false, c.loop-i.auto.i-end, c.most_modules-i-end.ensures, most-some c.args.store.now)))
