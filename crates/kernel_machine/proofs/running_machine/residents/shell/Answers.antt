use Rattle.std.proofs.Common.{Some, None, cond, ◌∙◌, ap, sym}
use Rattle.kernel_model.specs.declared.kernel_record.stops.Stop.TheVariants.{Finish}
use Rattle.kernel_machine.proofs.RunningMachine.ResidentParts.{leaves-shell, runs-shell, stop-shell}
use Rattle.kernel_machine.proofs.running_machine.residents.shell.Goals as goal

pub shell_turn-finished-requires-clause-shell : goal.shell_turn-finished-requires-clause-shell
shell_turn-finished-requires-clause-shell g c = (let (k, st, r) = c.requires.represents in (k.lists, st.keeper, runs-shell c.args.parts.now k st r))

pub returns-then-finished-clause-turned : goal.returns-then-finished-clause-turned
returns-then-finished-clause-turned g c = λ k st r.
    let x = c.shell_turn-finished.ensures in
    leaves-shell c.args.parts.now k st r _ _ _ _ _ _ _ (x.turn k.lists st.keeper (runs-shell c.args.parts.now k st r)) x.room

pub returns-then-finished-clause-stop : goal.returns-then-finished-clause-stop
returns-then-finished-clause-stop g c = λ k st r.
    ap (λ b. cond b (Some Finish) None) (sym c.if-finished.true)
    ∙ stop-shell c.args.parts.now k st r _ _ _ _ _ _ _ (c.shell_turn-finished.ensures.turn k.lists st.keeper (runs-shell c.args.parts.now k st r))

pub returns-else-finished-clause-turned : goal.returns-else-finished-clause-turned
returns-else-finished-clause-turned g c = λ k st r.
    let x = c.shell_turn-finished.ensures in
    leaves-shell c.args.parts.now k st r _ _ _ _ _ _ _ (x.turn k.lists st.keeper (runs-shell c.args.parts.now k st r)) x.room

pub returns-else-finished-clause-stop : goal.returns-else-finished-clause-stop
returns-else-finished-clause-stop g c = λ k st r.
    ap (λ b. cond b (Some Finish) None) (sym c.if-finished.false)
    ∙ stop-shell c.args.parts.now k st r _ _ _ _ _ _ _ (c.shell_turn-finished.ensures.turn k.lists st.keeper (runs-shell c.args.parts.now k st r))
