-- What restoring a stream comes to on a disc that is kept in slots.
use Rattle.std.proofs.Common.{◌≡◌, ℕ, ◌-◌, ◌/◌, ◌<◌, List, length, get_or, set, not, eqb, leb, ◌&&◌, ◌||◌, Bool, true, false, Option, Some, refl, sym, ap, ◌∙◌, arith}
use Rattle.std.specs.List.{list_any}
use Rattle.std.specs.Option.{is_none}
use Rattle.std.proofs.lemmas.Bool.{and_parts, eq-eqb, eqb-true, leb-true, not-true, true≢false}
use Rattle.ram_disc.specs.Contents.{Area, bytes_at, chain_at}
use Rattle.ram_disc.specs.Disc.{Disc, bytes_of, has_file, is_used, is_written, most_streams, shell_stream, stream_at}
use Rattle.ram_disc.specs.DiscCalls.{can_restore, can_write_from, with_place}
use Rattle.ram_disc.specs.Slots.{AreKept, HasPlace, IsAt, disc_in, is_on_slot, place_in, writes_on}
use Rattle.ram_disc.specs.declared.places.Place.{Place}
use Rattle.ram_disc.proofs.Calls.{open-at, place-reads, stream-set}
use Rattle.ram_disc.proofs.ChainLemmas.{times-get_or}
use Rattle.ram_disc.proofs.KeptStreams.{keep-stream, place-other}
use Rattle.ram_disc.proofs.SlotLemmas.{HasFiles, bytes_of-at, has_file-at, has_file-none}
use Rattle.ram_disc.proofs.StreamLemmas.{is_used-at, is_written-at}

-- whether stream k may write a slot of so many bytes from a place on
abbrev pub MayWrite : List (Option Place) → ℕ → ℕ → ℕ → ℕ → Bool
MayWrite ps k slot place size = not (eqb k shell_stream) && (eqb place size && not (list_any (is_on_slot slot) ps))

-- whether it may be there
abbrev pub May : List (Option Place) → ℕ → ℕ → ℕ → ℕ → Bool → Bool
May ps k slot place size writes = leb place size && not (list_any (writes_on slot) ps) && (not writes || MayWrite ps k slot place size)

-- whether it is free
abbrev pub Free : List (Option Place) → ℕ → Bool
Free ps k = leb 1 k && leb k most_streams && is_none (place_in ps k)

missing : (x t u v : Bool) → (x && false && t && u && v) ≡ false
missing true t u v = refl
missing false t u v = refl

module _ (names : List (List ℕ)) (a : Area) (used unused : List ℕ) (ps : List (Option Place)) where
  abbrev D : Disc
  D = disc_in names a.bytes used ps

  files : AreKept names a used unused ps → HasFiles names a.bytes used unused D
  files h = record { slots = h.slots; files = refl }

  -- the tests in their order
  abbrev Can : Bool → Bool → Bool → Bool → Bool → Bool
  Can x f t u v = x && f && t && u && v

  free-is : (k : ℕ) → (leb 1 k && leb k most_streams && is_none (stream_at D k)) ≡ Free ps k
  free-is k = ap (λ b. leb 1 k && leb k most_streams && not b) (open-at names a used unused ps k)

  pub restore-taken : AreKept names a used unused ps → (k : ℕ) (name : List ℕ) (place : ℕ) (writes : Bool) → Free ps k ≡ false
      → can_restore D k name place writes ≡ false
  restore-taken h k name place writes e =
      ap (λ x. Can x (has_file D name) (leb place (length (bytes_of D name))) (not (is_written D name)) (not writes || (not (eqb k shell_stream) && can_write_from D name place)))
      (free-is k ∙ e)

  pub restore-missing : AreKept names a used unused ps → (k : ℕ) (name : List ℕ) (place : ℕ) (writes : Bool) (i : ℕ) → HasPlace names used name i
      → can_restore D k name place writes ≡ false
  restore-missing h k name place writes i at =
      ap (λ f. Can (leb 1 k && leb k most_streams && is_none (stream_at D k)) f (leb place (length (bytes_of D name))) (not (is_written D name))
      (not writes || (not (eqb k shell_stream) && can_write_from D name place))) (has_file-none names a.bytes used unused D (files h) name i at)
      ∙ missing (leb 1 k && leb k most_streams && is_none (stream_at D k)) (leb place (length (bytes_of D name))) (not (is_written D name))
      (not writes || (not (eqb k shell_stream) && can_write_from D name place))

  can-is : AreKept names a used unused ps → (k : ℕ) (name : List ℕ) (place : ℕ) (writes : Bool) (i : ℕ) → IsAt names used name i → Free ps k ≡ true
      → can_restore D k name place writes ≡ May ps k (get_or used i 0) place (length (bytes_at a (get_or used i 0))) writes
  can-is h k name place writes i at free =
      let s = get_or used i 0 in
      ap (λ x. Can x (has_file D name) (leb place (length (bytes_of D name))) (not (is_written D name)) (not writes || (not (eqb k shell_stream) && can_write_from D name place)))
      (free-is k ∙ free)
      ∙ ap (λ f. Can true f (leb place (length (bytes_of D name))) (not (is_written D name)) (not writes || (not (eqb k shell_stream) && can_write_from D name place)))
      (has_file-at names a.bytes used unused D (files h) name i at)
      ∙ ap (λ bs. Can true true (leb place (length bs)) (not (is_written D name)) (not writes || (not (eqb k shell_stream) && (eqb place (length bs) && not (is_used D name)))))
      (bytes_of-at names a.bytes used unused D (files h) name i at)
      ∙ ap (λ w. Can true true (leb place (length (bytes_at a s))) (not w) (not writes || (not (eqb k shell_stream) && (eqb place (length (bytes_at a s)) && not (is_used D name)))))
      (is_written-at names a used unused ps h D name i refl at)
      ∙ ap (λ u. Can true true (leb place (length (bytes_at a s))) (not (list_any (writes_on s) ps)) (not writes || (not (eqb k shell_stream) && (eqb place (length (bytes_at a s)) && not u))))
      (is_used-at names a used unused ps h D name i refl at)

  pub restore-not : AreKept names a used unused ps → (k : ℕ) (name : List ℕ) (place : ℕ) (writes : Bool) (i : ℕ) → IsAt names used name i → Free ps k ≡ true
      → May ps k (get_or used i 0) place (length (bytes_at a (get_or used i 0))) writes ≡ false → can_restore D k name place writes ≡ false
  restore-not h k name place writes i at free e = can-is h k name place writes i at free ∙ e

  pub restore-can : AreKept names a used unused ps → (k : ℕ) (name : List ℕ) (place : ℕ) (writes : Bool) (i : ℕ) → IsAt names used name i → Free ps k ≡ true
      → May ps k (get_or used i 0) place (length (bytes_at a (get_or used i 0))) writes ≡ true → can_restore D k name place writes ≡ true
  restore-can h k name place writes i at free ok = can-is h k name place writes i at free ∙ ok

  pub restore-done : AreKept names a used unused ps → (k : ℕ) (name : List ℕ) (place : ℕ) (writes : Bool) (i sector : ℕ) → IsAt names used name i
      → with_place D k name place writes
      ≡ disc_in names a.bytes used (set ps (k - 1) (Some (record { slot = get_or used i 0; position = place; sector = sector; writes = writes })))
  restore-done h k name place writes i sector at =
      ap (λ n. with_place D k n place writes) (sym at.is)
      ∙ stream-set names a used unused ps k (k - 1) (Some (record { slot = get_or used i 0; position = place; sector = sector; writes = writes })) refl

  pub restore-kept : AreKept names a used unused ps → (k : ℕ) (name : List ℕ) (place : ℕ) (writes : Bool) (i sector : ℕ) → IsAt names used name i → Free ps k ≡ true
      → May ps k (get_or used i 0) place (length (bytes_at a (get_or used i 0))) writes ≡ true
      → (place < length (bytes_at a (get_or used i 0)) → sector ≡ get_or (chain_at a (get_or used i 0)) (place / 512) 0)
      → AreKept names a used unused (set ps (k - 1) (Some (record { slot = get_or used i 0; position = place; sector = sector; writes = writes })))
  restore-kept h k name place writes i sector at free ok here =
      let s = get_or used i 0 in
      let number = and_parts (leb 1 k && leb k most_streams) (is_none (place_in ps k)) free in
      let range = and_parts (leb 1 k) (leb k most_streams) number.0 in
      let parts = and_parts (leb place (length (bytes_at a s)) && not (list_any (writes_on s) ps)) (not writes || MayWrite ps k s place (length (bytes_at a s))) ok in
      let first = and_parts (leb place (length (bytes_at a s))) (not (list_any (writes_on s) ps)) parts.0 in
      let reads : list_any (writes_on s) ps ≡ false = not-true (list_any (writes_on s) ps) first.1 in
      let write : writes ≡ true → MayWrite ps k s place (length (bytes_at a s)) ≡ true = λ w. sym (ap (λ b. not b || MayWrite ps k s place (length (bytes_at a s))) w) ∙ parts.1 in
      let alone : writes ≡ true → list_any (is_on_slot s) ps ≡ false =
      λ w. let m = and_parts (not (eqb k shell_stream)) (eqb place (length (bytes_at a s)) && not (list_any (is_on_slot s) ps)) (write w) in
      not-true (list_any (is_on_slot s) ps) (and_parts (eqb place (length (bytes_at a s))) (not (list_any (is_on_slot s) ps)) m.1).1 in
      keep-stream names a used unused ps (k - 1) _ h (omega (arith, leb-true 1 k range.0, leb-true k most_streams range.1)) (record {
        is_there = times-get_or used i at.within;
        within = leb-true place (length (bytes_at a s)) first.0;
        at_end = λ w. let m = and_parts (not (eqb k shell_stream)) (eqb place (length (bytes_at a s)) && not (list_any (is_on_slot s) ps)) (write w) in
            eqb-true place (length (bytes_at a s)) (and_parts (eqb place (length (bytes_at a s))) (not (list_any (is_on_slot s) ps)) m.1).0;
        alone = λ w j q f same. absurd (place-other ps s j q (alone w) f same);
        others = λ j q f w same. absurd (place-reads ps s j q reads f w same);
        shell_reads = λ t. not-writes writes (λ w.
            let m = and_parts (not (eqb k shell_stream)) (eqb place (length (bytes_at a s)) && not (list_any (is_on_slot s) ps)) (write w) in
            true≢false (sym (eq-eqb k shell_stream (omega (arith, t, leb-true 1 k range.0))) ∙ not-true (eqb k shell_stream) m.0));
        sector = here;
      })
    where
      not-writes : (w : Bool) → (w ≡ true → ⊥) → w ≡ false
      not-writes true f = absurd (f refl)
      not-writes false f = refl
