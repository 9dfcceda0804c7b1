use Rattle.std.proofs.Common.{ℕ, ◌++◌, decimal}
use Rattle.std.proofs.lemmas.Result.{on_ok_weaker}
use Rattle.tripos_run.specs.SessionGenerator.Draws.{plain}
use Rattle.tripos_run.specs.SessionGenerator.Generated.{on_a_file}
use Rattle.tripos_run.proofs.SessionGenerator.DrawnTexts.{with_next-both, with_next-chosen}
use Rattle.tripos_run.proofs.session_generator.sessions.add_on_a_file.Goals as goal

pub returns : goal.returns
unfolding on_a_file
returns c =
    let verb = c.args.verb.now in
    let drawn = c.draw-number in
    on_ok_weaker c.add_decimal.result (λ last. with_next-chosen c.args.draft.now 40 (λ (j : ℕ). plain (verb ++ decimal j)) drawn.new.self drawn.result drawn.ensures.value drawn.ensures.state drawn.ensures.text
    (with_next-both drawn.new.self (plain verb) (plain (decimal drawn.result)) c.in_ok-add.ensures last)) c.add_decimal.ensures
