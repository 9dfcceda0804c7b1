use Rattle.std.proofs.lemmas.Map.Text.{btree_map_updates_str}
use Rattle.friendly_assembly.proofs.names.set.Goals as goal

pub returns : goal.returns
returns c = λ i. λ name. btree_map_updates_str c.args.name.now c.args.constants.now c.insert.new.self _ c.in_ok-insert.ensures.updates name i
