-- Streams that are set on a disc, one after the other in the order of their numbers.
use Rattle.std.proofs.Common.{◌≡◌, ℕ, ◌+◌, ◌-◌, ◌<◌, ◌≤◌, List, [], ◌∷◌, ◌++◌, length, get_or, cond, eqb, leb, not, ◌&&◌, ◌||◌, Bool, true, false, Some, None, refl, sym, ap, ◌∙◌, arith}
use Rattle.std.specs.Option.{is_none}
use Rattle.std.specs.Str.{bytes_eq}
use Rattle.std.proofs.lemmas.Bool.{and_from, and_parts, eq-eqb, false_from_ne_true, false≢true, le-leb, ne_eqb, not_from_false}
use Rattle.std.proofs.lemmas.Slice.Eq.{bytes_eq-Decides}
use Rattle.ram_disc.specs.Disc.{Disc, File, IsDisc, IsValidStream, Stream, bytes_of, has_file, is_on, is_used, is_written, is_writer_of, most_streams, shell_stream, stream_at}
use Rattle.ram_disc.specs.DiscCalls.{can_restore, can_write_from, with_place}
use Rattle.saved_machine.specs.MachineImage.Placed.{placed}
use Rattle.saved_machine.proofs.MachineImage.PlacedThings.{AreBelow, Holds, any-where, placed-below, placed-free, placed-more, placed-stays, placed-there}

module _ {A : Type 0} (number : A → ℕ) (stream : A → Stream) (files : List File) where
  -- the disc with these files, and these streams in their places
  abbrev pub Streamed : List A → Disc
  Streamed xs = record { files = files; streams = placed number stream most_streams xs }

  -- the stream may be set on the disc with those
  abbrev pub CanAdd : List A → A → Bool
  CanAdd xs a = can_restore (Streamed xs) (number a) (stream a).name (stream a).position (stream a).writes

  -- with it
  abbrev pub Added : List A → A → Disc
  Added xs a = with_place (Streamed xs) (number a) (stream a).name (stream a).position (stream a).writes

  -- a stream in a place of the disc
  at-place : (xs : List A) (i : ℕ) → stream_at (Streamed xs) (i + 1) ≡ get_or (placed number stream most_streams xs) i None
  at-place xs i =
      ap (λ b. cond b None (get_or (placed number stream most_streams xs) (i + 1 - 1) None)) (ne_eqb (i + 1) 0 (λ e. omega (arith, e)))
      ∙ ap (λ j. get_or (placed number stream most_streams xs) j None) (omega arith)

  module _ (xs : List A) (a : A) (below : AreBelow number stream most_streams (number a) xs) (low : 1 ≤ number a) (high : number a ≤ most_streams) where
    pub added : Added xs a ≡ Streamed (xs ++ a ∷ [])
    added = λ i. record { files = files; streams = sym (placed-more number stream most_streams xs a below low high) i }

    at-number : (ys : List A) → stream_at (Streamed ys) (number a) ≡ get_or (placed number stream most_streams ys) (number a - 1) None
    at-number ys =
        ap (λ b. cond b None (get_or (placed number stream most_streams ys) (number a - 1) None)) (ne_eqb (number a) 0 (λ e. omega (arith, e, low)))

    module _ (ys : List A) (d : IsDisc (Streamed (xs ++ a ∷ ys))) where
      abbrev Whole : Disc
      Whole = Streamed (xs ++ a ∷ ys)

      here : stream_at Whole (number a) ≡ Some (stream a)
      here = at-number (xs ++ a ∷ ys) ∙ placed-there number stream most_streams xs ys a below low high

      valid-stream : IsValidStream Whole (number a) (stream a)
      valid-stream = d.streams (number a) (stream a) here

      -- a stream that was set before, which has another number
      earlier : (i : ℕ) (s : Stream) → get_or (placed number stream most_streams xs) i None ≡ Some s
          → (stream_at Whole (i + 1) ≡ Some s) × (i + 1 < number a)
      earlier i s e = (
        at-place (xs ++ a ∷ ys) i ∙ placed-stays number stream most_streams xs (a ∷ ys) i s e,
        placed-below number stream most_streams xs (number a) i s below e,
      )

      free : is_none (stream_at (Streamed xs) (number a)) ≡ true
      free = ap is_none (at-number xs ∙ placed-free number stream most_streams xs a below low high)

      name : List ℕ
      name = (stream a).name

      unwritten : is_written (Streamed xs) (stream a).name ≡ false
      unwritten = false_from_ne_true (is_written (Streamed xs) (stream a).name) (λ e.
          let found : Holds (is_writer_of (stream a).name) (placed number stream most_streams xs) = any-where (is_writer_of (stream a).name) (placed number stream most_streams xs) refl e in
          let there = earlier found.0 found.1 found.2 in
          let parts = and_parts (bytes_eq found.1.name (stream a).name) found.1.writes found.3 in
          let other : IsValidStream Whole (found.0 + 1) found.1 = d.streams (found.0 + 1) found.1 there.0 in
          let same : number a ≡ found.0 + 1 = other.alone parts.1 (number a) (stream a) here (sym ((bytes_eq-Decides found.1.name (stream a).name).0 parts.0)) in
          omega (arith, same, there.1))

      unused : (stream a).writes ≡ true → is_used (Streamed xs) (stream a).name ≡ false
      unused writes = false_from_ne_true (is_used (Streamed xs) (stream a).name) (λ e.
          let found : Holds (is_on (stream a).name) (placed number stream most_streams xs) = any-where (is_on (stream a).name) (placed number stream most_streams xs) refl e in
          let there = earlier found.0 found.1 found.2 in
          let same : found.0 + 1 ≡ number a = valid-stream.alone writes (found.0 + 1) found.1 there.0 ((bytes_eq-Decides found.1.name (stream a).name).0 found.3) in
          omega (arith, same, there.1))

      writes-right : (not (stream a).writes || (not (eqb (number a) shell_stream) && can_write_from (Streamed xs) (stream a).name (stream a).position)) ≡ true
      writes-right = on (stream a).writes refl
        where
          on : (w : Bool) → (stream a).writes ≡ w → (not w || (not (eqb (number a) shell_stream) && can_write_from (Streamed xs) (stream a).name (stream a).position)) ≡ true
          on false e = refl
          on true e =
              and_from (not (eqb (number a) shell_stream)) (can_write_from (Streamed xs) (stream a).name (stream a).position)
              (not_from_false (eqb (number a) shell_stream) (ne_eqb (number a) shell_stream (λ f. false≢true (sym (valid-stream.shell_reads f) ∙ e))))
              (and_from (eqb (stream a).position (length (bytes_of (Streamed xs) (stream a).name))) (not (is_used (Streamed xs) (stream a).name))
              (eq-eqb (stream a).position (length (bytes_of (Streamed xs) (stream a).name)) (valid-stream.at_end e))
              (not_from_false (is_used (Streamed xs) (stream a).name) (unused e)))

      -- on the way to a valid disc each stream may be set
      pub can-add : CanAdd xs a ≡ true
      can-add =
          let k : ℕ = number a in
          let there : Bool = has_file (Streamed xs) (stream a).name in
          let within : Bool = leb (stream a).position (length (bytes_of (Streamed xs) (stream a).name)) in
          let shut : Bool = not (is_written (Streamed xs) (stream a).name) in
          let right : Bool = not (stream a).writes || (not (eqb k shell_stream) && can_write_from (Streamed xs) (stream a).name (stream a).position) in
          and_from (leb 1 k && leb k most_streams && is_none (stream_at (Streamed xs) k) && there && within && shut) right
          (and_from (leb 1 k && leb k most_streams && is_none (stream_at (Streamed xs) k) && there && within) shut
          (and_from (leb 1 k && leb k most_streams && is_none (stream_at (Streamed xs) k) && there) within
          (and_from (leb 1 k && leb k most_streams && is_none (stream_at (Streamed xs) k)) there
          (and_from (leb 1 k && leb k most_streams) (is_none (stream_at (Streamed xs) k)) (and_from (leb 1 k) (leb k most_streams) (le-leb 1 k low) (le-leb k most_streams high)) free)
          valid-stream.is_there)
          (le-leb (stream a).position (length (bytes_of (Streamed xs) (stream a).name)) valid-stream.within))
          (not_from_false (is_written (Streamed xs) (stream a).name) unwritten))
          writes-right
