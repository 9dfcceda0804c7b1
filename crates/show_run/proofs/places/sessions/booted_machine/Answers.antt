use Rattle.std.proofs.Common.{◌≡◌, Result, Ok, Err, sym, ap, subst, arith}
use Rattle.std.proofs.lemmas.Bool.{leb-true}
use Rattle.module_text.specs.TextReader.Lines.{lines_of}
use Rattle.module_text.specs.TextReader.Refusal.{Refusal, refusal}
use Rattle.session_text.specs.declared.boot_ends.BootEnd.{BootEnd}
use Rattle.kernel_model.specs.KernelRecord.Ranges.{most_steps}
use Rattle.tripos_machine.specs.Boot.{EndsAs, boot}
use Rattle.tripos_machine.specs.Machine.{MachineView}
use Rattle.tripos_machine.specs.State.{State, steps_of}
use Rattle.tripos_machine.specs.Step.{Stepped}
use Rattle.show_run.specs.Places.Sessions.{Gives, booted_state, state_after}
use Rattle.show_run.proofs.places.sessions.booted_machine.Goals as goal

pub machine_after-requires : goal.machine_after-requires
machine_after-requires c =
    let booted = c.in-Ok.ensures.2 in
    omega (arith, ap steps_of booted.state, booted.steps, leb-true c.args.session.now.go most_steps c.requires.steps)

pub returns-in-Ok : goal.returns-in-Ok
returns-in-Ok c =
    let s = c.args.session.now in
    let lines = lines_of c.args.lines.now in
    let (x, is, booted) = c.in-Ok.ensures in
    let told = subst (λ (t : State). Gives (λ (m : MachineView). m.state) c.machine_after.result (Ok (state_after s.go lines t))) booted.state c.machine_after.ensures in
    subst (λ (r : Result Stepped Refusal). Gives (λ (m : MachineView). m.state) c.machine_after.result (booted_state s.go lines r)) (sym is) told

pub returns-in-Err-Line : goal.returns-in-Err-Line
returns-in-Err-Line c =
    let refused : boot c.args.session.now ≡ Err (refusal c.in-Err-Line.line c.in-Err-Line.code) =
    subst (λ (e : BootEnd). EndsAs e (boot c.args.session.now)) c.in-Err-Line.field-0-is c.in-Err-Line.ensures in
    rw (c.in-Err-Line.line-is, c.in-Err-Line.code-is) (ap (booted_state c.args.session.now.go (lines_of c.args.lines.now)) refused)
