use Rattle.std.proofs.Common.{◌≡◌, ◌+◌, ◌++◌, drop, length, map}
use Rattle.std.specs.List.{AllByRecursion}
use Rattle.module_code.specs.Made.{IsRight, hunk_in, numbers_from}
use Rattle.module_code.proofs.unassembly.parts_of.Given as goal

abbrev pub invariant-loop-hunk : goal.invariant-loop-hunk
invariant-loop-hunk l = record {
  hunks : map hunk_in l.parts.items ++ drop l.hunk-index l.fn.hunks ≡ l.fn.hunks;
  numbers : map (λ part. part.number) l.parts.items ++ numbers_from (length l.parts.items + 1) (drop l.hunk-index l.fn.hunks) ≡ numbers_from 1 l.fn.hunks;
  right : AllByRecursion IsRight l.parts.items;
}
