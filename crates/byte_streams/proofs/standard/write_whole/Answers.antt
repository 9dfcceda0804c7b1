use Rattle.std.proofs.Common.{◌≡◌, ℕ, ◌+◌, List, Option, take, drop, sym, arith}
use Rattle.std.proofs.Math.Seq.{take-add}
use Rattle.std.proofs.lemmas.List.{take-append-drop}
use Rattle.std.specs.Io.KnownBytes.{Appends}
use Rattle.byte_streams.proofs.AppendedTexts.{Appends-then}
use Rattle.byte_streams.proofs.standard.write_whole.Goals as goal

-- n bytes more of a piece
Appends-more : (h m k : Option (List ℕ)) (piece rest : List ℕ) (at n : ℕ) → rest ≡ drop at piece → Appends h m (take at piece) → Appends m k (take n rest) → Appends h k (take (at + n) piece)
Appends-more h m k piece rest at n e p q = rw (take-add at n piece, ← e) (Appends-then h m k (take at piece) (take n rest) p q)

pub loop-preserved : goal.loop-preserved
loop-preserved g c = record {
  inside = omega (arith, c.in_ok-at.ensures.0, c.split_at.ensures.back_len);
  sent = Appends-more _ _ _ _ _ _ _ c.split_at.ensures.back c.loop.invariant.sent c.in_ok-at.ensures.1;
}

pub returns : goal.returns
returns g c =
    let piece = c.args.piece.now in
    let at = c.loop.at in
    (take at piece, drop at piece, sym (take-append-drop at piece), c.loop.invariant.sent)
