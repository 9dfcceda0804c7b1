use Rattle.std.proofs.Common.{codes}
use Rattle.std.proofs.lemmas.Result.{on_ok_weaker}
use Rattle.tripos_run.specs.SessionGenerator.Draws.{and_then, in_turn, plain}
use Rattle.tripos_run.specs.SessionGenerator.Generated.{character, line}
use Rattle.tripos_run.proofs.SessionGenerator.DrawnTexts.{with_next-both}
use Rattle.tripos_run.proofs.session_generator.sessions.add_line.Goals as goal

pub returns : goal.returns
unfolding line
returns c =
    let characters = in_turn 60 (λ _. character) in
    let end = plain (codes "\n") in
    on_ok_weaker c.add-2.result (λ last. with_next-both c.args.draft.now (plain (codes ":")) (and_then characters end) c.in_ok-add.ensures
    (with_next-both c.add.new.self characters end c.in_ok-add_characters.ensures last)) c.add-2.ensures
