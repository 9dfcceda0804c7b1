use Rattle.std.proofs.Common.{arith}
use Rattle.show_run.proofs.TypedWords.SessionRuns.{is-run, on-done}
use Rattle.show_run.proofs.typed_words.backs.go_back_steps.Goals as goal

pub returns-clause-run : goal.returns-clause-run
returns-clause-run c =
    on-done c.push_return.result
    (is-run c.args.case.now.session c.saturating_sub.result _ c.in_ok-return_to.ensures.state (omega (arith, c.saturating_sub.ensures, c.steps-taken.ensures, c.requires.run.few)))
