use Rattle.std.proofs.Common.{◌≡◌, ◌∙◌, ℕ, Bool, true, false, cond, Option, Some, List, refl, ap}
use Rattle.std.specs.Map.{update}
use Rattle.std.specs.Option.{option_copied}
use Rattle.std.specs.Str.{bytes_eq}
use Rattle.std.proofs.lemmas.Map.Text.{btree_map_updates_str}
use Rattle.friendly_assembly.specs.KeptNames.{kept, labels_in_map}
use Rattle.friendly_assembly.proofs.second_labels.put_label.Goals as goal
use denote.Ref.{Bor}

copied : (b : Bool) (new : Bor (List ℕ)) (old : Option (Bor (List ℕ))) → option_copied (cond b (Some new) old) ≡ cond b (Some new.now) (option_copied old)
copied true new old = refl
copied false new old = refl

pub returns : goal.returns
returns c =
    let first = c.args.first in
    let each : (name : List ℕ) → labels_in_map c.insert.new.self name ≡ update bytes_eq (labels_in_map c.args.firsts.now) c.args.name.now (Some first.now) name =
    λ name. ap option_copied (btree_map_updates_str c.args.name.now c.args.firsts.now c.insert.new.self _ c.in_ok-insert.ensures.updates name)
    ∙ copied (bytes_eq c.args.name.now name) first (kept c.args.firsts.now name) in
    λ i. λ name. each name i
