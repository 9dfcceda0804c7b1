use Rattle.std.proofs.lemmas.Int.{to_z-of_z}
use Rattle.std.proofs.lemmas.Map.Text.{btree_map_updates_str}
use mir.Syntax.{w64}
use mir.Val.{SFits}
use Rattle.lab_marks.proofs.known.set.Goals as goal

pub returns : goal.returns
returns c =
    let f : SFits w64 c.args.value = c.ranges.value in
    λ i. λ name. (simp to_z-of_z at (btree_map_updates_str c.args.name.now c.args.known.now c.insert.new.self _ c.in_ok-insert.ensures.updates name)) i
