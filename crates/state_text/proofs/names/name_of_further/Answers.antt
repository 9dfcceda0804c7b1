use Rattle.std.proofs.Common.{◌∙◌, sym}
use Rattle.std.specs.Option.{option_copied}
use Rattle.state_text.specs.ProgramNames.{name_in}
use Rattle.state_text.proofs.FurtherNames.{further-end, further-here, further-next, some-copied}
use Rattle.state_text.proofs.names.name_of_further.Goals as goal

pub returns-then-is_some : goal.returns-then-is_some
returns-then-is_some c =
    let name = c.name_of_module-name in
    further-here (name_in c.args.programs.now c.args.store.now) c.args.store.now c.args.t c.loop-i.i c.most_modules-i-end.result c.most_modules-i-end.ensures c.loop-i.auto.i c.module_at.result (option_copied name.result)
    c.loop-i-test.true c.module_at.ensures name.ensures (some-copied name.result ∙ (sym c.is_some.ensures ∙ c.if-is_some.true))
    ∙ sym c.loop-i.invariant

pub loop-i-preserved : goal.loop-i-preserved
loop-i-preserved c =
    let name = c.name_of_module-name in
    c.loop-i.invariant
    ∙ further-next (name_in c.args.programs.now c.args.store.now) c.args.store.now c.args.t c.loop-i.i c.most_modules-i-end.result c.most_modules-i-end.ensures c.loop-i.auto.i c.module_at.result (option_copied name.result)
    c.loop-i-test.true c.module_at.ensures name.ensures (some-copied name.result ∙ (sym c.is_some.ensures ∙ c.if-is_some.false))

pub returns : goal.returns
returns c =
    further-end (name_in c.args.programs.now c.args.store.now) c.args.store.now c.args.t c.loop-i.i c.most_modules-i-end.result c.most_modules-i-end.ensures c.loop-i.auto.i c.loop-i-test.false
    ∙ sym c.loop-i.invariant
