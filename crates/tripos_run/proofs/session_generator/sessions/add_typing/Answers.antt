use Rattle.std.proofs.Common.{◌*◌, ◌++◌, codes, decimal}
use Rattle.std.proofs.lemmas.Result.{on_ok_weaker}
use Rattle.tripos_run.specs.SessionGenerator.Draws.{and_then, choosing, draw, plain}
use Rattle.tripos_run.specs.SessionGenerator.Generated.{command_of, typing}
use Rattle.tripos_run.proofs.SessionGenerator.DrawnTexts.{with_next-both}
use Rattle.tripos_run.proofs.session_generator.sessions.add_typing.Goals as goal

pub returns : goal.returns
unfolding typing
returns c =
    let d = c.args.draft.now in
    let step = decimal (1000 * c.args.k) in
    let command = choosing (draw 4) command_of in
    let end = plain (codes "\n") in
    let at = with_next-both d (plain (codes "AT ")) (plain step) c.in_ok-add.ensures c.in_ok-add_decimal.ensures in
    let head = with_next-both d (plain (codes "AT " ++ step)) (plain (codes " :")) at c.in_ok-add-2.ensures in
    on_ok_weaker c.add-3.result (λ last. with_next-both d (plain (codes "AT " ++ step ++ codes " :")) (and_then command end) head
    (with_next-both c.add-2.new.self command end c.in_ok-add_command.ensures last)) c.add-3.ensures
