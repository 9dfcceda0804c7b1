use Rattle.show_run.proofs.TypedWords.SessionRuns.{run-booted}
use Rattle.show_run.proofs.typed_words.tool.debugged_case.Goals as goal

pub shown_words-requires-clause-run : goal.shown_words-requires-clause-run
shown_words-requires-clause-run c =
    let (first, boots, booted) = c.in-Ok.ensures in
    run-booted c.args.case.now.session first c.in-Ok.machine.state boots booted.steps booted.state
