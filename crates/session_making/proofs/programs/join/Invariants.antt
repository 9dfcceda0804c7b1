use Rattle.std.proofs.Common.{◌≡◌, drop}
use Rattle.std.specs.List.{AllByRecursion}
use Rattle.module_text.specs.Canonical.{IsPrintableHunk}
use Rattle.session_making.specs.Programs.{joined}
use Rattle.session_making.proofs.programs.join.Given as goal

abbrev pub invariant-loop-file : goal.invariant-loop-file
invariant-loop-file l = record {
  all : joined l.hunks.items l.sources (drop l.file-index l.files) ≡ joined l.fn.hunks.items l.fn.sources l.files;
  printable : AllByRecursion IsPrintableHunk l.hunks.items;
}
