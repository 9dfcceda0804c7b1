use Rattle.std.proofs.Common.{◌≡◌, [], Ok, Some, ap, subst, sym}
use Rattle.std.specs.Prelude.{IfOk}
use Rattle.module_text.specs.TextReader.Lines.{lines_of}
use Rattle.tripos_machine.specs.State.{State}
use Rattle.debugger.specs.Debugged.{debugged}
use Rattle.show_run.proofs.places.sessions.machine_both_ways.Goals as goal

pub returns : goal.returns
returns c =
    let told = debugged c.args.budget (lines_of c.args.lines.now) c.args.machine.state (Some []) in
    let back = c.debug_back-machine in
    let state = subst (λ r. IfOk r (λ x. ◌≡◌ {A = State} back.result.0.state told.after.state)) c.in-Ok.is back.ensures.state in
    ap (λ (s : State). Ok s) (sym state)
