use Rattle.std.proofs.Common.{◌∙◌}
use Rattle.kernel_machine.proofs.RunningMachine.ResidentParts.{leaves-console, runs-console}
use Rattle.kernel_machine.proofs.running_machine.residents.console.Goals as goal

pub console_turn-requires-clause-console : goal.console_turn-requires-clause-console
console_turn-requires-clause-console g c =
    let (k, st, r) = c.requires.represents in
    (k.lists, st.keeper, runs-console c.args.parts.now k st r)

pub returns-clause-turned : goal.returns-clause-turned
returns-clause-turned g c = λ k st r.
    let runs = runs-console c.args.parts.now k st r in
    let x = c.console_turn.ensures in
    leaves-console c.args.parts.now k st r c.awaited-awaited.result c.take_line-line.result.items c.awaited-awaited.ensures c.take_line-line.ensures.line _ _ _ _ _ _ (x.turn k.lists st.keeper runs) x.room (x.line k.lists st.keeper runs)
    (c.put_line.ensures ∙ (λ i. record (c.take_line-line.ensures.rest i) { line = x.shell k.lists st.keeper runs i }))
