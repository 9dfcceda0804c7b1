use Rattle.std.proofs.Common.{◌∙◌, sym}
use Rattle.kernel_calls.proofs.ModuleCalls.FurtherModules.{further-here, further-next}
use Rattle.kernel_calls.proofs.module_calls.modules_of.has_further_module.Goals as goal

pub returns-then-module_at-m : goal.returns-then-module_at-m
returns-then-module_at-m c =
    further-here c.args.store.now c.args.t c.args.m c.loop-i.i c.most_modules-i-end.result c.requires c.most_modules-i-end.ensures c.loop-i.auto.i c.module_at.result c.loop-i-test.true c.module_at.ensures
    c.if-module_at-m.true
    ∙ sym c.loop-i.invariant

pub loop-i-preserved : goal.loop-i-preserved
loop-i-preserved c =
    c.loop-i.invariant
    ∙ further-next c.args.store.now c.args.t c.args.m c.loop-i.i c.most_modules-i-end.result c.requires c.most_modules-i-end.ensures c.loop-i.auto.i c.module_at.result c.loop-i-test.true c.module_at.ensures
    c.if-module_at-m.false
