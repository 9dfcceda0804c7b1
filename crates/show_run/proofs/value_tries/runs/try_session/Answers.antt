use Rattle.std.proofs.Common.{◌≡◌, Result, Err, sym, ap, subst, arith}
use Rattle.std.specs.Prelude.{IfOk}
use Rattle.std.proofs.lemmas.Bool.{leb-true}
use Rattle.module_text.specs.TextReader.Refusal.{Refusal, refusal}
use Rattle.session_text.specs.declared.boot_ends.BootEnd.{BootEnd}
use Rattle.kernel_model.specs.KernelRecord.Ranges.{most_steps}
use Rattle.tripos_machine.specs.Boot.{EndsAs, boot}
use Rattle.tripos_machine.specs.State.{State, steps_of}
use Rattle.tripos_machine.specs.Step.{Stepped, run}
use Rattle.show_run.specs.ValueTries.Runs.{booted_try, ended_try}
use Rattle.show_run.proofs.value_tries.runs.try_session.Goals as goal

pub try_machine-requires : goal.try_machine-requires
try_machine-requires c =
    let booted = c.in-Ok.ensures.2 in
    omega (arith, ap steps_of booted.state, booted.steps, leb-true c.args.session.now.go most_steps c.requires.steps)

pub returns-in-Ok : goal.returns-in-Ok
returns-in-Ok c =
    let s = c.args.session.now in
    let (x, is, booted) = c.in-Ok.ensures in
    let ran = subst (λ (t : State). IfOk c.try_machine.result (λ one. one ≡ ended_try c.args.value (run s.go t))) booted.state c.try_machine.ensures in
    subst (λ (r : Result Stepped Refusal). IfOk c.try_machine.result (λ one. one ≡ booted_try c.args.value s.go r)) (sym is) ran

pub returns-in-Err-Line : goal.returns-in-Err-Line
returns-in-Err-Line c =
    let refused : boot c.args.session.now ≡ Err (refusal c.in-Err-Line.line c.in-Err-Line.code) =
    subst (λ (e : BootEnd). EndsAs e (boot c.args.session.now)) c.in-Err-Line.field-0-is c.in-Err-Line.ensures in
    rw refused c.no_boot.ensures
