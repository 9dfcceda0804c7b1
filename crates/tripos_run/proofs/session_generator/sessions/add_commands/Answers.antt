use Rattle.std.proofs.Common.{◌+◌}
use Rattle.tripos_run.specs.SessionGenerator.Generated.{typing}
use Rattle.tripos_run.proofs.SessionGenerator.DrawnTexts.{with_next-none, with_next-turn}
use Rattle.tripos_run.proofs.session_generator.sessions.add_commands.Goals as goal

pub loop-i-init : goal.loop-i-init
loop-i-init c = with_next-none c.args.draft.now (λ i. typing (i + 1))

pub loop-i-preserved : goal.loop-i-preserved
loop-i-preserved c = with_next-turn c.args.draft.now (λ i. typing (i + 1)) c.loop-i.i c.loop-i.invariant c.in_ok-add_typing.ensures
