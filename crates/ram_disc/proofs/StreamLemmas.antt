-- The streams of a disc, and the slots that they are on.
use Rattle.std.proofs.Common.{◌≡◌, ℕ, zero, suc, ◌+◌, ◌-◌, ◌<◌, List, [], ◌∷◌, length, get_or, take, cond, eqb, ltb, ◌&&◌, ◌||◌, Bool, true, false, Option, Some, None, refl, sym, ap, ◌∙◌, arith, inl, inr}
use Rattle.std.specs.List.{list_any, position, position_or_len}
use Rattle.std.specs.Option.{is_none}
use Rattle.std.specs.Str.{bytes_eq}
use Rattle.std.proofs.lemmas.Bool.{cases_eq, eq-eqb, ne_eqb, true≢false}
use Rattle.std.proofs.lemmas.List.{length-map, take-map}
use Rattle.word_store.specs.Count.{times}
use Rattle.ram_disc.specs.Contents.{Area}
use Rattle.ram_disc.specs.Disc.{Disc, Stream, is_on, is_used, is_writer_of, is_written, stream_at}
use Rattle.ram_disc.specs.Slots.{AreKept, AreSlots, IsAt, IsValidPlace, is_on_slot, name_in, place_in, stream_in, streams_in, writes_on}
use Rattle.ram_disc.specs.declared.places.Place.{Place}
use Rattle.word_store.proofs.EqualTexts.{bytes_eq-self}
use Rattle.ram_disc.proofs.NameOrder.{bytes_eq-other}
use Rattle.ram_disc.proofs.SlotLemmas.{at-times, slots-distinct}

pub any-agree : (f : Option Stream → Bool) (g : Option Place → Bool) (names : List (List ℕ)) (ps : List (Option Place))
    → ((k : ℕ) → k < length ps → f (stream_in names (get_or ps k None)) ≡ g (get_or ps k None)) → list_any f (streams_in names ps) ≡ list_any g ps
any-agree f g names [] each = refl
any-agree f g names (p ∷ ps) each =
    ap (λ b. b || list_any f (streams_in names ps)) (each zero (omega arith))
    ∙ ap (λ b. g p || b) (any-agree f g names ps (λ k h. each (suc k) (omega arith)))

pub any-none : (g : Option Place → Bool) (ps : List (Option Place)) → list_any g ps ≡ false → (k : ℕ) → k < length ps → g (get_or ps k None) ≡ false
any-none g [] none k h = absurd (omega arith)
any-none g (p ∷ ps) none zero h = on (g p) none
  where
    on : (b : Bool) → (b || list_any g ps) ≡ false → b ≡ false
    on true e = e
    on false e = refl
any-none g (p ∷ ps) none (suc k) h = any-none g ps (on (g p) none) k (omega arith)
  where
    on : (b : Bool) → (b || list_any g ps) ≡ false → list_any g ps ≡ false
    on true e = absurd (true≢false e)
    on false e = e

-- a stream, and where it is
pub get_or-streams : (names : List (List ℕ)) (ps : List (Option Place)) (k : ℕ) → get_or (streams_in names ps) k None ≡ stream_in names (get_or ps k None)
get_or-streams names [] k = refl
get_or-streams names (p ∷ ps) zero = refl
get_or-streams names (p ∷ ps) (suc k) = get_or-streams names ps k

pub stream_at-place : (names : List (List ℕ)) (ps : List (Option Place)) (d : Disc) (k : ℕ) → d.streams ≡ streams_in names ps
    → stream_at d k ≡ stream_in names (place_in ps k)
stream_at-place names ps d k e =
    ap (λ xs. cond (eqb k 0) None (get_or xs (k - 1) None)) e
    ∙ ap (cond (eqb k 0) None) (get_or-streams names ps (k - 1))
    ∙ on (eqb k 0)
  where
    on : (b : Bool) → cond b None (stream_in names (get_or ps (k - 1) None)) ≡ stream_in names (cond b None (get_or ps (k - 1) None))
    on true = refl
    on false = refl

first-none : (names : List (List ℕ)) (ps : List (Option Place)) → position_or_len is_none (streams_in names ps) ≡ position_or_len is_none ps
first-none names [] = refl
first-none names (None ∷ ps) = refl
first-none names (Some p ∷ ps) = ap (λ n. 1 + n) (first-none names ps)

-- the first free stream
pub free-stream : (names : List (List ℕ)) (ps : List (Option Place)) (n : ℕ) → position is_none (take n (streams_in names ps)) ≡ position is_none (take n ps)
free-stream names ps n =
    ap (position is_none) (take-map (stream_in names) n ps)
    ∙ ap (λ i. cond (ltb i (length (streams_in names (take n ps)))) (Some i) None) (first-none names (take n ps))
    ∙ ap (λ l. cond (ltb (position_or_len is_none (take n ps)) l) (Some (position_or_len is_none (take n ps))) None) (length-map (take n ps) (stream_in names))

module _ (names : List (List ℕ)) (a : Area) (used unused : List ℕ) (ps : List (Option Place)) where
  -- a stream is open on the file of a slot where it is on the slot
  on-slot : AreSlots names used unused → (name : List ℕ) (i t : ℕ) → IsAt names used name i → 0 < times t used
      → bytes_eq (name_in names t) name ≡ eqb t (get_or used i 0)
  on-slot h name i t at some =
      elim (cases_eq t (get_or used i 0)) [
        | inl e ↦ ap (λ n. bytes_eq n name) (ap (name_in names) e ∙ at.is) ∙ bytes_eq-self name ∙ sym (eq-eqb t (get_or used i 0) e)
        | inr ne ↦ (
            bytes_eq-other (name_in names t) name (λ same. ne (slots-distinct names used unused h t (get_or used i 0) some (at-times names used unused name i at) (same ∙ sym at.is)))
            ∙ sym (ne_eqb t (get_or used i 0) ne)
            )
      ]

  pub is_used-at : AreKept names a used unused ps → (d : Disc) (name : List ℕ) (i : ℕ) → d.streams ≡ streams_in names ps → IsAt names used name i
      → is_used d name ≡ list_any (is_on_slot (get_or used i 0)) ps
  is_used-at h d name i e at =
      ap (list_any (is_on name)) e
      ∙ any-agree (is_on name) (is_on_slot (get_or used i 0)) names ps (λ k lt. on k (get_or ps k None) (h.streams k))
    where
      on : (k : ℕ) (p : Option Place) → ((q : Place) → p ≡ Some q → IsValidPlace a used ps k q) → is_on name (stream_in names p) ≡ is_on_slot (get_or used i 0) p
      on k None valid-place = refl
      on k (Some q) valid-place = on-slot h.slots name i q.slot at (valid-place q refl).is_there

  pub is_written-at : AreKept names a used unused ps → (d : Disc) (name : List ℕ) (i : ℕ) → d.streams ≡ streams_in names ps → IsAt names used name i
      → is_written d name ≡ list_any (writes_on (get_or used i 0)) ps
  is_written-at h d name i e at =
      ap (list_any (is_writer_of name)) e
      ∙ any-agree (is_writer_of name) (writes_on (get_or used i 0)) names ps (λ k lt. on k (get_or ps k None) (h.streams k))
    where
      on : (k : ℕ) (p : Option Place) → ((q : Place) → p ≡ Some q → IsValidPlace a used ps k q) → is_writer_of name (stream_in names p) ≡ writes_on (get_or used i 0) p
      on k None valid-place = refl
      on k (Some q) valid-place = ap (λ b. b && q.writes) (on-slot h.slots name i q.slot at (valid-place q refl).is_there)
