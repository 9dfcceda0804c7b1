use Rattle.std.proofs.Common.{◌≡◌, ◌≤◌, [], false, drop, length}
use Rattle.session_making.specs.Makings.{add_each}
use Rattle.session_making.proofs.makings.add_each.Given as goal

abbrev pub invariant-loop-file : goal.invariant-loop-file
invariant-loop-file l = record {
  all : add_each l.making l.names.items l.begins l.number (drop l.file-index l.files) ≡ add_each l.fn.making [] false l.number l.files;
  few : length l.names.items ≤ l.file-index;
}
