use Rattle.std.proofs.Common.{◌≡◌, ◌≤◌, ◌<◌, ◌+◌, ◌++◌, length}
use Rattle.std.specs.Prelude.{All}
use Rattle.std.specs.List.{flat_map}
use Rattle.run_pictures.specs.Letters.{letters}
use Rattle.run_pictures.proofs.wrapping.wrapped.Given as goal

abbrev pub invariant-loop-count : goal.invariant-loop-count
invariant-loop-count l = record {
  letters : flat_map (λ line. letters line.now) l.lines.items ++ letters l.rest ≡ letters l.words;
  lengths : 2 < l.most → All (λ line. length line.now ≤ l.most) l.lines.items;
  less : 2 < l.most → length l.rest + l.count ≤ length l.words;
  indent : l.indent ≤ 2;
}
