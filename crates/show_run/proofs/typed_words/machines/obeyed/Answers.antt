use Rattle.std.proofs.Common.{◌∙◌, sym, subst}
use Rattle.show_run.specs.TypedWords.Runs.{IsRun}
use Rattle.show_run.proofs.TypedWords.ToldOrders.{gathered-all, run-obeyed, run-within}
use Rattle.show_run.proofs.typed_words.machines.obeyed.Goals as goal

pub obey-requires : goal.obey-requires
obey-requires c = run-within c.args.session.now c.args.debuggee.now.machine.state c.requires.lawful c.requires.run

pub returns-in-Ok-clause-bytes : goal.returns-in-Ok-clause-bytes
returns-in-Ok-clause-bytes c = c.in_ok-told-in-Ok.ensures ∙ gathered-all _ _ _ _ _ c.new-gathered.ensures.sink c.new-gathered.ensures.pending c.in-Ok.ensures.text

pub returns-in-Ok-clause-run : goal.returns-in-Ok-clause-run
returns-in-Ok-clause-run c =
    let d = c.args.debuggee.now in
    subst (IsRun c.args.session.now) (sym c.in-Ok.ensures.end.0) (run-obeyed c.args.session.now c.args.order d.machine.state d.stops c.requires.run)
