use Rattle.std.proofs.Common.{◌∙◌, ◌+◌, ◌*◌, [], ◌++◌, length, refl, sym, ap, arith, append_assoc, List, ℕ}
use Rattle.std.proofs.lemmas.Result.{err_from_is_err_and}
use Rattle.word_store.specs.Bytes.{byte_at}
use Rattle.byte_streams.proofs.GatheredTexts.{IsCut-more, IsCut-then, IsGathered-nothing, IsGathered-then}
use Rattle.assembly.specs.ModuleListing.Listing.{listed}
use Rattle.assembly.specs.ModuleListing.HunkListing.{lines_from}
use Rattle.assembly.proofs.ModuleListing.HunkLines.{byte_some, lines_more}
use Rattle.assembly.proofs.module_listing.listing.gather_lines.Goals as goal

pub loop-place-init : goal.loop-place-init
loop-place-init g c = ([], 4 * length c.args.code.now, record { all = refl; enough = omega arith; text = IsGathered-nothing _ _; later = omega arith })

pub gather_line-requires : goal.gather_line-requires
gather_line-requires g c = byte_some c.args.code.now c.loop-place.place (omega arith)

pub returns-in_err-length-clause-text : goal.returns-in_err-length-clause-text
returns-in_err-length-clause-text g c =
    let words = c.args.code.now in
    let p = err_from_is_err_and c.from_residual.result c.from_residual.ensures.1 in
    let kept = c.loop-place.invariant.2 in
    let more = lines_more (byte_at words) (4 * length words) c.loop-place.invariant.1 c.loop-place.place (omega arith) kept.enough in
    rw p.1 (rw (← kept.all, more.2) (IsCut-then kept.text (IsCut-more _ c.in_err-length.ensures.text)))

pub loop-place-preserved : goal.loop-place-preserved
loop-place-preserved g c =
    let words = c.args.code.now in
    let front = c.loop-place.invariant.0 in
    let kept = c.loop-place.invariant.2 in
    let line = listed (byte_at words) c.loop-place.place in
    let more = lines_more (byte_at words) (4 * length words) c.loop-place.invariant.1 c.loop-place.place (omega arith) kept.enough in
    let rest = lines_from (byte_at words) (4 * length words) more.0 (c.loop-place.place + line.length) in
    let bounds = c.in_ok-length.ensures.bounds in (
      front ++ line.text,
      more.0,
      record {
        all = rw (c.from-place.ensures, c.in_ok-length.ensures.length) (append_assoc front line.text rest ∙ ap (λ (t : List ℕ). front ++ t) (sym more.2) ∙ kept.all);
        enough = omega (arith, more.1);
        text = IsGathered-then kept.text c.in_ok-length.ensures.text;
        later = omega arith;
      },
    )
