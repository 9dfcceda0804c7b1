use Rattle.std.proofs.Common.{◌≡◌, ◌∙◌, ℕ, ◌∷◌, [], get_or, refl, sym, subst, arith}
use Rattle.std.proofs.lemmas.Result.{err_from_is_err_and}
use Rattle.hex.specs.Hex.{encode_lower}
use Rattle.byte_streams.specs.Pending.{IsCut, IsGathered}
use Rattle.byte_streams.proofs.GatheredTexts.{IsCut-more, IsCut-then, IsGathered-nothing, IsGathered-then}
use Rattle.saved_text.proofs.SavedLines.LineFields.{Some-same}
use Rattle.saved_text.proofs.SavedLines.PrintParts.{byte_inside, hex_at, hex_more, no_hex}
use Rattle.saved_text.proofs.saved_lines.print.gather_hex.Goals as goal

pub loop-i-init : goal.loop-i-init
loop-i-init g c = record {
  text = rw (no_hex (g.X.TextBytes.text c.args.bytes.now) c.args.from) (IsGathered-nothing (g.K.Sink.holds c.args.out.now) c.args.pending.now);
  later = omega arith;
}

pub unwrap-requires : goal.unwrap-requires
unwrap-requires g c =
    let lt = c.loop-i-test.true in
    let inside = c.requires.inside in
    rw (c.at.ensures ∙ byte_inside (g.X.TextBytes.text c.args.bytes.now) c.loop-i.i (omega (arith, lt, inside))) refl

pub returns-in_err-gather_byte-clause-text : goal.returns-in_err-gather_byte-clause-text
returns-in_err-gather_byte-clause-text g c =
    let t = g.X.TextBytes.text c.args.bytes.now in
    let i = c.loop-i.i in
    let lt = c.loop-i-test.true in
    let inside = c.requires.inside in
    let byte : c.unwrap.result ≡ get_or t i 0 = Some-same _ _ (sym c.unwrap.ensures ∙ c.at.ensures ∙ byte_inside t i (omega (arith, lt, inside))) in
    let p = err_from_is_err_and c.from_residual.result c.from_residual.ensures.1 in
    let cut = subst (λ (b : ℕ). IsCut (g.K.Sink.holds c.loop-i.out) (g.K.Sink.holds c.gather_byte.new.out) c.loop-i.pending (encode_lower (b ∷ []))) byte c.in_err-gather_byte.ensures.text in
    rw p.1 (rw (hex_at t c.args.from i c.args.to c.loop-i.auto.i lt inside) (IsCut-then c.loop-i.invariant.text (IsCut-more _ cut)))

pub loop-i-preserved : goal.loop-i-preserved
loop-i-preserved g c =
    let t = g.X.TextBytes.text c.args.bytes.now in
    let i = c.loop-i.i in
    let lt = c.loop-i-test.true in
    let inside = c.requires.inside in
    let byte : c.unwrap.result ≡ get_or t i 0 = Some-same _ _ (sym c.unwrap.ensures ∙ c.at.ensures ∙ byte_inside t i (omega (arith, lt, inside))) in
    let one = subst (λ (b : ℕ). IsGathered (g.K.Sink.holds c.loop-i.out) (g.K.Sink.holds c.gather_byte.new.out) c.loop-i.pending c.gather_byte.new.pending (encode_lower (b ∷ []))) byte c.in_ok-gather_byte.ensures.text in
    record {
      text = rw (hex_more t c.args.from i c.loop-i.auto.i (omega (arith, lt, inside))) (IsGathered-then c.loop-i.invariant.text one);
      later = omega arith;
    }
