-- A disc that is kept in slots is a valid one.
use Rattle.std.proofs.Common.{◌≡◌, ℕ, ◌-◌, ◌<◌, List, [], length, get_or, cond, Option, Some, None, refl, sym, ap, ◌∙◌, subst, arith, inl, inr}
use Rattle.std.proofs.lemmas.Bool.{cases_eq, eq-eqb, ne_eqb}
use Rattle.std.proofs.lemmas.List.{length-map}
use Rattle.ram_disc.specs.Contents.{Area, bytes_at}
use Rattle.ram_disc.specs.Disc.{Disc, IsDisc, IsValidStream, Stream, bytes_of, stream_at}
use Rattle.ram_disc.specs.DiscCalls.{file}
use Rattle.ram_disc.specs.Name.{IsName}
use Rattle.ram_disc.specs.Slots.{AreKept, IsAt, IsValidPlace, disc_in, files_in, name_in, place_in, stream_in}
use Rattle.ram_disc.specs.declared.places.Place.{Place}
use Rattle.ram_disc.proofs.ChainLemmas.{place-times, times-get_or}
use Rattle.ram_disc.proofs.KeptStreams.{none-some}
use Rattle.ram_disc.proofs.NameOrder.{get_or-all}
use Rattle.ram_disc.proofs.SlotLemmas.{HasFiles, bytes_of-at, get_or-files, has_file-at, length-files, ordered, slots-distinct}
use Rattle.ram_disc.proofs.StreamLemmas.{stream_at-place}

-- stream k is at number k - 1
pub place-number : (ps : List (Option Place)) (k : ℕ) (p : Place) → place_in ps k ≡ Some p → (0 < k) × (get_or ps (k - 1) None ≡ Some p)
place-number ps k p e =
    elim (cases_eq k 0) [
      | inl first ↦ absurd (none-some p (sym (ap (λ b. cond b None (get_or ps (k - 1) None)) (eq-eqb k 0 first)) ∙ e))
      | inr ne ↦ (omega arith, sym (ap (λ b. cond b None (get_or ps (k - 1) None)) (ne_eqb k 0 ne)) ∙ e)
    ]

-- a stream's record
abbrev pub stream_of_place : List (List ℕ) → Place → Stream
stream_of_place names p = record { name = name_in names p.slot; position = p.position; writes = p.writes }

-- an open stream is somewhere
pub open-place : (names : List (List ℕ)) (ps : List (Option Place)) (d : Disc) (k : ℕ) (s : Stream) → stream_at d k ≡ stream_in names (place_in ps k)
    → stream_at d k ≡ Some s → (p : Place) × (place_in ps k ≡ Some p) × (stream_of_place names p ≡ s)
open-place names ps d k s at e = on (place_in ps k) refl
  where
    on : (o : Option Place) → place_in ps k ≡ o → (p : Place) × (place_in ps k ≡ Some p) × (stream_of_place names p ≡ s)
    on None f = (let none : stream_at d k ≡ None = at ∙ ap (stream_in names) f in cc)
    on (Some p) f =
        let is : stream_at d k ≡ Some (stream_of_place names p) = at ∙ ap (stream_in names) f in
        let same : stream_of_place names p ≡ s = cc in
        (p, f, same)

module _ (names : List (List ℕ)) (a : Area) (used unused : List ℕ) (ps : List (Option Place)) where
  abbrev D : Disc
  D = disc_in names a.bytes used ps

  valid-stream : AreKept names a used unused ps → (k : ℕ) (p : Place) → place_in ps k ≡ Some p → IsValidStream D k (stream_of_place names p)
  valid-stream h k p e =
      let number = place-number ps k p e in
      let st : IsValidPlace a used ps (k - 1) p = h.streams (k - 1) p number.1 in
      let spot = place-times p.slot used st.is_there in
      let at : IsAt names used (name_in names p.slot) spot.0 = record { within = spot.1; is = ap (name_in names) spot.2 } in
      let files : HasFiles names a.bytes used unused D = record { slots = h.slots; files = refl } in
      let bytes : bytes_of D (name_in names p.slot) ≡ bytes_at a p.slot =
      bytes_of-at names a.bytes used unused D files (name_in names p.slot) spot.0 at ∙ ap (λ s. get_or a.bytes s []) spot.2 in
      record {
        is_there = has_file-at names a.bytes used unused D files (name_in names p.slot) spot.0 at;
        within = omega (arith, st.within, ap length bytes);
        at_end = λ w. st.at_end w ∙ ap length (sym bytes);
        alone = λ w j other f same.
            let found = open-place names ps D j other (stream_at-place names ps D j refl) f in
            let q = found.0 in
            let there = place-number ps j q found.1 in
            let on = h.streams (j - 1) q there.1 in
            let slot : q.slot ≡ p.slot = slots-distinct names used unused h.slots q.slot p.slot on.is_there st.is_there (ap (λ s. s.name) found.2 ∙ same) in
            omega (arith, there.0, number.0, st.alone w (j - 1) q there.1 slot);
        shell_reads = λ t. st.shell_reads (omega (arith, t, number.0));
      }

  pub valid-kept : AreKept names a used unused ps → IsDisc D
  valid-kept h = record {
    in_order = ordered names used unused h.slots a.bytes;
    lawful = get_or-all (λ f. IsName f.name) (files_in names a.bytes used) (file [] []) (λ i l.
        let lt : i < length used = omega (arith, l, length-files names a.bytes used) in
        subst (λ f. IsName f.name) (sym (get_or-files names a.bytes used i (file [] []) lt)) (h.slots.lawful (get_or used i 0) (times-get_or used i lt)));
    few = omega (arith, h.slots.all, length-files names a.bytes used);
    room = omega (arith, h.filled.room);
    numbers = length-map ps (stream_in names) ∙ h.numbers;
    streams = λ k s e.
        let found = open-place names ps D k s (stream_at-place names ps D k refl) e in
        subst (IsValidStream D k) found.2 (valid-stream h k found.0 found.1);
  }
