use Rattle.std.proofs.Common.{◌≡◌, ◌++◌, drop}
use Rattle.std.specs.List.{flat_map}
use Rattle.module_code.specs.Made.{part_bytes}
use Rattle.module_code.proofs.unassembly.push_parts.Given as goal

abbrev pub invariant-loop-part : goal.invariant-loop-part
invariant-loop-part l = l.text.items ++ flat_map part_bytes (drop l.part-index l.parts) ≡ l.fn.text.items ++ flat_map part_bytes l.parts
