use Rattle.std.proofs.Common.{Bool, [], List, None, Ok, Option, Some, ap, subst}
use Rattle.std.specs.Prelude.{if◌then◌else◌}
use Rattle.module_text.specs.TextReader.Lines.{lines_of}
use Rattle.tripos_machine.specs.Machine.{MachineView}
use Rattle.tripos_machine.specs.State.{State}
use Rattle.debugger.specs.Debugged.{debugged}
use Rattle.show_run.specs.Places.Sessions.{Gives}
use Rattle.show_run.proofs.places.sessions.machine_after.Goals as goal

-- what can be gone back to at first, where this says whether some line undoes steps
abbrev begun : Bool → Option (List State)
begun b = if b then Some [] else None

pub returns-then-not-goes_back : goal.returns-then-not-goes_back
returns-then-not-goes_back c =
    subst (λ past. Gives (λ (m : MachineView). m.state) c.machine_forward.result (Ok (debugged c.args.budget (lines_of c.args.lines.now) c.args.machine.state past).after.state)) (ap begun c.if-not-goes_back.ensures)
    c.machine_forward.ensures

pub returns-in-Ok : goal.returns-in-Ok
returns-in-Ok c =
    subst (λ past. Gives (λ (m : MachineView). m.state) c.machine_both_ways.result (Ok (debugged c.args.budget (lines_of c.args.lines.now) c.args.machine.state past).after.state)) (ap begun c.if-not-goes_back.ensures)
    c.machine_both_ways.ensures
