use Rattle.std.proofs.Common.{ℕ, ◌+◌, ◌++◌, codes, decimal}
use Rattle.std.proofs.lemmas.Result.{on_ok_weaker}
use Rattle.tripos_run.specs.SessionGenerator.Draws.{choosing, draw, in_turn, plain}
use Rattle.tripos_run.specs.SessionGenerator.Generated.{file, line}
use Rattle.tripos_run.proofs.SessionGenerator.DrawnTexts.{with_next-both, with_next-chosen}
use Rattle.tripos_run.proofs.session_generator.sessions.add_file.Goals as goal

pub returns : goal.returns
unfolding file
returns c =
    let d = c.args.draft.now in
    let number = decimal c.args.number in
    let lines = λ (r : ℕ). in_turn (1 + r) (λ _. line) in
    let named = with_next-both d (plain (codes "FILE F")) (plain number) c.in_ok-add.ensures c.in_ok-add_decimal.ensures in
    let head = with_next-both d (plain (codes "FILE F" ++ number)) (plain (codes "\n")) named c.in_ok-add-2.ensures in
    on_ok_weaker c.add_lines.result (λ last. with_next-both d (plain (codes "FILE F" ++ number ++ codes "\n")) (choosing (draw 50) lines) head
    (with_next-chosen c.add-2.new.self 50 lines c.draw-lines.new.self c.draw-lines.result c.draw-lines.ensures.value c.draw-lines.ensures.state c.draw-lines.ensures.text last)) c.add_lines.ensures
