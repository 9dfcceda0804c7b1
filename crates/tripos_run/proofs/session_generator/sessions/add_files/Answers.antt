use Rattle.tripos_run.specs.SessionGenerator.Generated.{file}
use Rattle.tripos_run.proofs.SessionGenerator.DrawnTexts.{with_next-none, with_next-turn}
use Rattle.tripos_run.proofs.session_generator.sessions.add_files.Goals as goal

pub loop-number-init : goal.loop-number-init
loop-number-init c = with_next-none c.args.draft.now file

pub loop-number-preserved : goal.loop-number-preserved
loop-number-preserved c = with_next-turn c.args.draft.now file c.loop-number.number c.loop-number.invariant c.in_ok-add_file.ensures
