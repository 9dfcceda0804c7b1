use Rattle.std.proofs.Common.{◌≡◌, ◌≤◌, ◌+◌, length}
use Rattle.module_text.specs.TextReader.Lines.{lines_of}
use Rattle.assembly.specs.AssemblyText.Encoding.{encode}
use Rattle.assembly.specs.AssemblyText.KeptCode.{kept_code}
use Rattle.assembly.specs.AssemblyText.KeptLabels.{table_of}
use Rattle.assembly.proofs.AssemblyText.EncodeLemmas.{IsSurveyed, after_code}
use Rattle.assembly.proofs.assembly_text.encode.encode.Given as goal

abbrev pub invariant-loop-line : goal.invariant-loop-line
invariant-loop-line l = record {
  code : after_code (kept_code l.code) (encode (l.n + 1) (table_of l.labels) l.offset (lines_of l.rest)) ≡ encode 1 (table_of l.labels) 4 (lines_of l.text);
  surveyed : IsSurveyed (l.n + 1) l.offset (lines_of l.rest);
  low : l.offset ≤ 262144;
  number : l.n + length l.rest ≤ length l.text;
}

abbrev pub decreases-loop-line : goal.decreases-loop-line
decreases-loop-line l = length l.rest
