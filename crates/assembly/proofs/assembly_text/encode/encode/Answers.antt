use Rattle.std.proofs.Common.{arith}
use Rattle.module_text.specs.TextReader.Lines.{lines_of}
use Rattle.assembly.specs.AssemblyText.KeptCode.{kept_code}
use Rattle.assembly.specs.AssemblyText.KeptLabels.{table_of}
use Rattle.assembly.proofs.AssemblyText.EncodeLemmas.{encode_step, surveyed_step}
use Rattle.assembly.proofs.assembly_text.encode.encode.Goals as goal

pub loop-line-preserved : goal.loop-line-preserved
loop-line-preserved c =
    let next = surveyed_step _ _ _ (table_of c.args.labels.now) c.in-Some.line.now _ (lines_of c.in-Some.others.now) c.in_ok-piece.piece c.loop-line.invariant.surveyed c.in-Some.ensures.cases c.in_ok-piece.ensures c.len-offset.ensures.count in
    record {
      code = encode_step (kept_code c.loop-line.code) (kept_code c.add.new.code) _ _ _ (table_of c.args.labels.now) c.in-Some.line.now _ (lines_of c.in-Some.others.now) c.in_ok-piece.piece _ c.loop-line.invariant.code c.in-Some.ensures.cases c.in_ok-piece.ensures c.in_ok-add.ensures c.len-offset.ensures.count;
      surveyed = next.0;
      low = next.1;
      number = omega (arith, c.in-Some.ensures.goes_on);
    }
