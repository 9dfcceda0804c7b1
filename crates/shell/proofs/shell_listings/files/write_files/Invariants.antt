use Rattle.std.proofs.Common.{◌≡◌, ◌+◌, ◌-◌, ◌*◌, ◌≤◌, ◌++◌, drop, length}
use Rattle.std.specs.List.{flat_map}
use Rattle.shell.specs.ShellListings.FileLines.{file_line, most_in_file_line}
use Rattle.shell.proofs.shell_listings.files.write_files.Given as goal

abbrev pub invariant-loop-k : goal.invariant-loop-k
invariant-loop-k l = record {
  text : l.bytes ++ flat_map file_line (drop (l.k - 1) l.disc.files) ≡ l.fn.bytes ++ flat_map file_line l.disc.files;
  room : length l.bytes ≤ length l.fn.bytes + most_in_file_line * (l.k - 1);
}
