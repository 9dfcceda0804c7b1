use Rattle.std.proofs.Common.{◌≡◌, ◌∙◌, ◌≤◌, [], ◌+◌, length, ap, codes, subst, sym}
use Rattle.std.specs.Prelude.{List, ℕ}
use Rattle.tripos_run.specs.SessionGenerator.Draws.{Drawn, and_then, in_turn, plain, with_next}
use Rattle.tripos_run.specs.SessionGenerator.Generated.{file, front, generated, longest, session, typing}
use Rattle.tripos_run.proofs.SessionGenerator.DrawnTexts.{with_next-both}
use Rattle.tripos_run.proofs.SessionGenerator.DrawnLengths.{length-generated}
use Rattle.tripos_run.proofs.session_generator.sessions.generate.Goals as goal

pub returns-clause-text : goal.returns-clause-text
unfolding generated session
returns-clause-text c =
    let files = in_turn 40 file in
    let commands = in_turn 500 (λ i. typing (i + 1)) in
    let end = plain (codes "GO 600000\n") in
    let nothing = plain [] c.args.n in
    let first : c.add.new.self ≡ with_next nothing (plain front) = c.in_ok-add.ensures ∙ ap (λ v. with_next v (plain front)) c.in_ok-draft.ensures in
    let whole = with_next-both nothing (plain front) (and_then files (and_then commands end)) first
    (with_next-both c.add.new.self files (and_then commands end) c.in_ok-add_files.ensures
    (with_next-both c.add_files.new.draft commands end c.in_ok-add_commands.ensures c.in_ok-add-2.ensures)) in
    c.into_text.ensures ∙ ap (λ (d : Drawn (List ℕ)). d.value) whole

pub returns-clause-short : goal.returns-clause-short
returns-clause-short c = subst (λ (v : List ℕ). length v ≤ longest) (sym (returns-clause-text c)) (length-generated c.args.n)
