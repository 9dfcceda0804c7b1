use Rattle.std.proofs.Common.{arith}
use Rattle.show_run.proofs.TypedWords.SessionRuns.{after-none, is-run, run-debugged, session-steps}
use Rattle.show_run.proofs.typed_words.machines.machine_by_lines.Goals as goal

pub debug_back-machine-requires-clause-steps : goal.debug_back-machine-requires-clause-steps
debug_back-machine-requires-clause-steps c =
    let session = c.args.session.now in
    omega (arith, after-none session c.in_ok-machine.machine.state c.in_ok-machine.ensures, session-steps session c.requires.lawful)

pub returns : goal.returns
returns c =
    let session = c.args.session.now in
    let s = c.in_ok-machine.machine.state in
    let first = c.in_ok-machine.ensures in
    run-debugged session session.go s _ (is-run session 0 s first (omega arith)) (omega (arith, after-none session s first)) c.debug_back-machine.ensures.steps
