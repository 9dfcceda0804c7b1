use Rattle.std.proofs.Common.{◌≡◌, drop}
use Rattle.kernel_boot.specs.BootFiles.{HasNoStreams, load_files}
use Rattle.kernel_boot.proofs.files.load_files.Given as goal

abbrev pub invariant-loop-line : goal.invariant-loop-line
invariant-loop-line l = record {
  lines : load_files l.disc (drop l.line-index l.lines) ≡ load_files l.fn.disc l.lines;
  none : HasNoStreams l.disc;
}
