use Rattle.std.proofs.Common.{◌≡◌, ◌∙◌, ◌∷◌, ◌++◌, map, sym, ap, append_assoc}
use Rattle.std.specs.List.{flat_map, join_with_byte}
use Rattle.friendly_assembly.specs.KeptNames.{names_by}
use Rattle.friendly_assembly.specs.PlainLine.{plain_line}
use Rattle.friendly_assembly.proofs.TextLines.{joined_lines}
use Rattle.friendly_assembly.proofs.texts.push_lines.Goals as goal

pub returns : goal.returns
returns c =
    let f = plain_line (names_by c.args.names.now.constants.now c.args.names.now.firsts.now) in
    let first = c.in-Some.first.now.now in
    let others = map (λ line. line.now) c.in-Some.others.now in
    let before = c.args.text.now.items in
    let parts : (before ++ f first) ++ flat_map (λ line. 10 ∷ f line) others ≡ before ++ join_with_byte 10 (map f (first ∷ others)) =
    append_assoc before (f first) (flat_map (λ line. 10 ∷ f line) others) ∙ ap (λ rest. before ++ rest) (sym (joined_lines f first others)) in
    rw (c.in-Some.ensures.cases.0, sym parts) (rw c.in_ok-push_line.ensures at c.push_others.ensures)
