-- What the calls on a disc that is kept in slots come to.
use Rattle.std.proofs.Common.{◌≡◌, ◌≢◌, ℕ, ◌+◌, ◌-◌, ◌<◌, List, [], ◌∷◌, length, get_or, set, take, cond, not, ltb, ◌&&◌, ◌||◌, Bool, true, false, Option, Some, None, Result, Ok, Err, refl, sym, ap, ◌∙◌, arith}
use Rattle.std.specs.List.{list_any, position, position_or_len}
use Rattle.std.specs.Option.{is_none, is_some, unwrap_or}
use Rattle.std.proofs.lemmas.Bool.{eq-eqb, ltb-true, true≢false}
use Rattle.std.proofs.lemmas.List.{length-take, map-set}
use Rattle.ram_disc.specs.Contents.{Area, bytes_at, chain_at}
use Rattle.ram_disc.specs.Disc.{Disc, is_written, most_streams, stream_at}
use Rattle.ram_disc.specs.DiscCalls.{Outcome, after_close, after_open_read, has_free_stream, reader, stream_to_read, unless_refused, with_stream}
use Rattle.ram_disc.specs.Slots.{AreKept, HasPlace, IsAt, disc_in, place_in, stream_in, streams_in, writes_on}
use Rattle.ram_disc.specs.declared.places.Place.{Place}
use Rattle.ram_disc.proofs.ChainLemmas.{times-get_or}
use Rattle.ram_disc.proofs.KeptStreams.{keep-stream, place-inside}
use Rattle.ram_disc.proofs.SlotLemmas.{HasFiles, has_file-at, has_file-none}
use Rattle.ram_disc.proofs.StreamLemmas.{any-none, free-stream, is_written-at, stream_at-place}
use Rattle.ram_disc.proofs.ValidDisc.{place-number}

abbrev pub outcome : {A : Type 0} → Result A ℕ → Disc → Outcome A
outcome answer d = record { answer = answer; disc = d }

-- the first place at which a test passes is one of the list
pub position-below : {X : Type 0} (p : X → Bool) (xs : List X) (k : ℕ) → position p xs ≡ Some k → k < length xs
position-below p xs k e = on (ltb (position_or_len p xs) (length xs)) refl e
  where
    on : (b : Bool) → ltb (position_or_len p xs) (length xs) ≡ b → cond b (Some (position_or_len p xs)) None ≡ Some k → k < length xs
    on true t e = (let same : position_or_len p xs ≡ k = cc in omega (arith, same, ltb-true (position_or_len p xs) (length xs) t))
    on false t e = cc

-- a slot on which no stream writes
pub place-reads : (ps : List (Option Place)) (s k : ℕ) (p : Place) → list_any (writes_on s) ps ≡ false → get_or ps k None ≡ Some p → p.writes ≡ true → p.slot ≢ s
place-reads ps s k p none e w same =
    let no : writes_on s (Some p) ≡ false = ap (writes_on s) (sym e) ∙ any-none (writes_on s) ps none k (place-inside ps k p e) in
    true≢false (sym (ap (λ b. b && p.writes) (eq-eqb p.slot s same) ∙ w) ∙ no)

module _ (names : List (List ℕ)) (a : Area) (used unused : List ℕ) (ps : List (Option Place)) where
  abbrev D : Disc
  D = disc_in names a.bytes used ps

  files : AreKept names a used unused ps → HasFiles names a.bytes used unused D
  files h = record { slots = h.slots; files = refl }

  -- what becomes of the streams
  pub stream-set : (k j : ℕ) (s : Option Place) → k - 1 ≡ j → with_stream D k (stream_in names s) ≡ disc_in names a.bytes used (set ps j s)
  stream-set k j s e =
      ap (λ i. record D { streams = set (streams_in names ps) i (stream_in names s) }) e
      ∙ ap (λ xs. record D { streams = xs }) (sym (map-set (stream_in names) ps j s))

  -- the stream that is opened
  pub to-open : (shell : Bool) (k : ℕ) → AreKept names a used unused ps → cond shell (Some 16) (position is_none (take 16 ps)) ≡ Some k
      → ((shell || has_free_stream D) ≡ true) × (stream_to_read D shell ≡ k + 1) × (k < most_streams)
  to-open true k h e = (let same : 16 ≡ k = cc in (refl, omega (arith, same), omega (arith, same)))
  to-open false k h e =
      let first : position is_none (take 16 (streams_in names ps)) ≡ Some k = free-stream names ps 16 ∙ e in
      let below : k < length (take 16 ps) = position-below is_none (take 16 ps) k e in
      (ap is_some first, ap (λ o. unwrap_or o 0 + 1) first, omega (arith, below, length-take 16 ps))

  pub none-to-open : (shell : Bool) → cond shell (Some 16) (position is_none (take 16 ps)) ≡ None → (shell || has_free_stream D) ≡ false
  none-to-open true e = cc
  none-to-open false e = ap is_some (free-stream names ps 16 ∙ e)

  -- an opening to read, by the answers of its tests
  abbrev Read : List ℕ → Bool → Bool → Bool → ℕ → Outcome ℕ
  Read name t u v n = unless_refused D ((t, 41) ∷ (u, 47) ∷ (v, 45) ∷ []) n (with_stream D n (Some (reader name 0)))

  pub open_read-missing : AreKept names a used unused ps → (name : List ℕ) (shell : Bool) (i : ℕ) → HasPlace names used name i
      → after_open_read D name shell ≡ outcome (Err 41) D
  open_read-missing h name shell i place =
      ap (λ t. Read name t (not (is_written D name)) (shell || has_free_stream D) (stream_to_read D shell))
      (has_file-none names a.bytes used unused D (files h) name i place)

  open_read-found : AreKept names a used unused ps → (name : List ℕ) (shell : Bool) (i : ℕ) → IsAt names used name i
      → after_open_read D name shell ≡ Read name true (not (list_any (writes_on (get_or used i 0)) ps)) (shell || has_free_stream D) (stream_to_read D shell)
  open_read-found h name shell i at =
      ap (λ t. Read name t (not (is_written D name)) (shell || has_free_stream D) (stream_to_read D shell))
      (has_file-at names a.bytes used unused D (files h) name i at)
      ∙ ap (λ t. Read name true (not t) (shell || has_free_stream D) (stream_to_read D shell)) (is_written-at names a used unused ps h D name i refl at)

  pub open_read-written : AreKept names a used unused ps → (name : List ℕ) (shell : Bool) (i : ℕ) → IsAt names used name i
      → list_any (writes_on (get_or used i 0)) ps ≡ true → after_open_read D name shell ≡ outcome (Err 47) D
  open_read-written h name shell i at some =
      open_read-found h name shell i at ∙ ap (λ t. Read name true (not t) (shell || has_free_stream D) (stream_to_read D shell)) some

  pub open_read-full : AreKept names a used unused ps → (name : List ℕ) (shell : Bool) (i : ℕ) → IsAt names used name i
      → list_any (writes_on (get_or used i 0)) ps ≡ false → cond shell (Some 16) (position is_none (take 16 ps)) ≡ None
      → after_open_read D name shell ≡ outcome (Err 45) D
  open_read-full h name shell i at none e =
      open_read-found h name shell i at ∙ ap (λ t. Read name true (not t) (shell || has_free_stream D) (stream_to_read D shell)) none
      ∙ ap (λ t. Read name true true t (stream_to_read D shell)) (none-to-open shell e)

  pub open_read-done : AreKept names a used unused ps → (name : List ℕ) (shell : Bool) (i k sector : ℕ) → IsAt names used name i
      → list_any (writes_on (get_or used i 0)) ps ≡ false → cond shell (Some 16) (position is_none (take 16 ps)) ≡ Some k
      → after_open_read D name shell
      ≡ outcome (Ok (k + 1)) (disc_in names a.bytes used (set ps k (Some (record { slot = get_or used i 0; position = 0; sector = sector; writes = false }))))
  open_read-done h name shell i k sector at none e =
      let p : Place = record { slot = get_or used i 0; position = 0; sector = sector; writes = false } in
      let found = to-open shell k h e in
      open_read-found h name shell i at ∙ ap (λ t. Read name true (not t) (shell || has_free_stream D) (stream_to_read D shell)) none
      ∙ ap (λ t. Read name true true t (stream_to_read D shell)) found.0
      ∙ ap (λ n. outcome (Ok n) (with_stream D n (Some (reader name 0)))) found.1
      ∙ ap (λ m. outcome (Ok (k + 1)) (with_stream D (k + 1) (Some (reader m 0)))) (sym at.is)
      ∙ ap (outcome (Ok (k + 1))) (stream-set (k + 1) k (Some p) (omega arith))

  pub open_read-kept : AreKept names a used unused ps → (name : List ℕ) (shell : Bool) (i k sector : ℕ) → IsAt names used name i
      → list_any (writes_on (get_or used i 0)) ps ≡ false → cond shell (Some 16) (position is_none (take 16 ps)) ≡ Some k
      → (0 < length (bytes_at a (get_or used i 0)) → sector ≡ get_or (chain_at a (get_or used i 0)) 0 0)
      → AreKept names a used unused (set ps k (Some (record { slot = get_or used i 0; position = 0; sector = sector; writes = false })))
  open_read-kept h name shell i k sector at none e here =
      keep-stream names a used unused ps k _ h (to-open shell k h e).2 (record {
        is_there = times-get_or used i at.within;
        within = omega arith;
        at_end = λ w. absurd (true≢false (sym w));
        alone = λ w. absurd (true≢false (sym w));
        others = λ j q f w same. absurd (place-reads ps (get_or used i 0) j q none f w same);
        shell_reads = λ t. refl;
        sector = here;
      })

  -- a stream is open where it is somewhere
  pub open-at : (k : ℕ) → is_some (stream_at D k) ≡ is_some (place_in ps k)
  open-at k = ap is_some (stream_at-place names ps D k refl) ∙ on (place_in ps k)
    where
      on : (o : Option Place) → is_some (stream_in names o) ≡ is_some o
      on None = refl
      on (Some p) = refl

  -- the number of an open stream is one of the disc's
  pub number-inside : (k : ℕ) → AreKept names a used unused ps → is_some (place_in ps k) ≡ true → k - 1 < most_streams
  number-inside k h e = on (place_in ps k) refl e
    where
      on : (o : Option Place) → place_in ps k ≡ o → is_some o ≡ true → k - 1 < most_streams
      on None f e = absurd (true≢false (sym e))
      on (Some p) f e = omega (arith, place-inside ps (k - 1) p (place-number ps k p f).1, h.numbers)

  abbrev Close : ℕ → Bool → Outcome Unit
  Close k t = unless_refused D ((t, 46) ∷ []) tt (with_stream D k None)

  pub close-none : (k : ℕ) → is_some (place_in ps k) ≡ false → after_close D k ≡ outcome (Err 46) D
  close-none k e = ap (Close k) (open-at k ∙ e)

  pub close-done : (k : ℕ) → is_some (place_in ps k) ≡ true → after_close D k ≡ outcome (Ok tt) (disc_in names a.bytes used (set ps (k - 1) None))
  close-done k e = ap (Close k) (open-at k ∙ e) ∙ ap (outcome (Ok tt)) (stream-set k (k - 1) None refl)
