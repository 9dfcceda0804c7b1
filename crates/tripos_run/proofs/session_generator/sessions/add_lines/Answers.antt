use Rattle.tripos_run.specs.SessionGenerator.Generated.{line}
use Rattle.tripos_run.proofs.SessionGenerator.DrawnTexts.{with_next-none, with_next-turn}
use Rattle.tripos_run.proofs.session_generator.sessions.add_lines.Goals as goal

pub loop-init : goal.loop-init
loop-init c = with_next-none c.args.draft.now (λ _. line)

pub loop-preserved : goal.loop-preserved
loop-preserved c = with_next-turn c.args.draft.now (λ _. line) c.loop.counter c.loop.invariant c.in_ok-add_line.ensures
