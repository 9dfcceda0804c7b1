use Rattle.std.proofs.Common.{◌<◌, length, arith}
use Rattle.std.proofs.lemmas.Result.{err_from_is_err_and}
use Rattle.byte_streams.proofs.GatheredTexts.{IsCut-more, IsCut-then, IsGathered-then}
use Rattle.assembly.proofs.ModuleListing.HunkLines.{listings_at, listings_more}
use Rattle.assembly.proofs.module_listing.listing.gather_hunks.Goals as goal

pub returns-in_err-gather_hunk-clause-text : goal.returns-in_err-gather_hunk-clause-text
returns-in_err-gather_hunk-clause-text g c =
    let hunks = c.args.m.now.hunks in
    let p = err_from_is_err_and c.from_residual.result c.from_residual.ensures.1 in
    let inside : c.loop-i.i < length hunks = rw c.as_slice-hunk-items.ensures at c.loop-i-test.true in
    let item = rw c.as_slice-hunk-items.ensures at c.hunk-item.is in
    rw p.1 (rw (listings_at hunks c.loop-i.i c.hunk-item.result inside item) (IsCut-then c.loop-i.invariant.text (IsCut-more _ c.in_err-gather_hunk.ensures.text)))

pub loop-i-preserved : goal.loop-i-preserved
loop-i-preserved g c =
    let hunks = c.args.m.now.hunks in
    let inside : c.loop-i.i < length hunks = rw c.as_slice-hunk-items.ensures at c.loop-i-test.true in
    let item = rw c.as_slice-hunk-items.ensures at c.hunk-item.is in
    record {
      text = rw (listings_more hunks c.loop-i.i c.hunk-item.result inside item) (IsGathered-then c.loop-i.invariant.text c.in_ok-gather_hunk.ensures.text);
      later = omega arith;
    }
