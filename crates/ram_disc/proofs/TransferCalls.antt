-- What reading on, appending and restoring a stream come to on a disc that is kept in slots.
use Rattle.std.proofs.Common.{◌≡◌, ℕ, ◌+◌, ◌-◌, ◌*◌, ◌/◌, ◌<◌, ◌≤◌, List, [], ◌∷◌, ◌++◌, length, get_or, set, take, drop, cond, not, leb, Bool, true, false, Option, Some, None, Ok, Err, refl, sym, ap, ◌∙◌, subst, arith, inl, inr}
use Rattle.std.specs.List.{sum_by}
use Rattle.std.proofs.lemmas.Bool.{cases_lt, le-leb, lt-leb, true≢false}
use Rattle.std.proofs.lemmas.List.{length-append, map-set}
use Rattle.std.proofs.lemmas.List.Sums.{get_or-le-sum_by, sum_by-set}
use Rattle.word_store.specs.Count.{times}
use Rattle.ram_disc.specs.Contents.{Adds, Area, bytes_at, chain_at}
use Rattle.ram_disc.specs.Disc.{Disc, File, Stream, bytes_of, most_sectors, sectors_of, sectors_taken, stream_at}
use Rattle.ram_disc.specs.DiscCalls.{Outcome, after_append, after_read_on, bytes_left, bytes_read, file, has_room, is_reader, is_writer, moved_on, unless_refused, with_bytes, with_file, with_more, with_stream}
use Rattle.ram_disc.specs.Slots.{AreKept, IsAt, disc_in, files_in, name_in, place_in, stream_in, streams_in}
use Rattle.ram_disc.specs.declared.places.Place.{Place}
use Rattle.ram_disc.proofs.Calls.{outcome, stream-set}
use Rattle.ram_disc.proofs.ChainLemmas.{place-times}
use Rattle.ram_disc.proofs.ChangeCalls.{files-set}
use Rattle.ram_disc.proofs.FileLists.{with_file-set}
use Rattle.ram_disc.proofs.KeptStreams.{keep-append, keep-stream, place-inside}
use Rattle.ram_disc.proofs.SlotLemmas.{HasFiles, bytes_of-at, get_or-files, length-files, ordered}
use Rattle.ram_disc.proofs.StreamLemmas.{stream_at-place}
use Rattle.ram_disc.proofs.ValidDisc.{place-number, stream_of_place}

module _ (names : List (List ℕ)) (a : Area) (used unused : List ℕ) (ps : List (Option Place)) where
  abbrev D : Disc
  D = disc_in names a.bytes used ps

  files : AreKept names a used unused ps → HasFiles names a.bytes used unused D
  files h = record { slots = h.slots; files = refl }

  -- where the file of a stream is
  pub spot-at : AreKept names a used unused ps → (p : Place) → 0 < times p.slot used → (i : ℕ) × (get_or used i 0 ≡ p.slot) × IsAt names used (name_in names p.slot) i
  spot-at h p some = (let spot = place-times p.slot used some in (spot.0, spot.2, record { within = spot.1; is = ap (name_in names) spot.2 }))

  pub bytes-at : AreKept names a used unused ps → (p : Place) → 0 < times p.slot used → bytes_of D (name_in names p.slot) ≡ bytes_at a p.slot
  bytes-at h p some =
      let spot = spot-at h p some in
      bytes_of-at names a.bytes used unused D (files h) (name_in names p.slot) spot.0 spot.2 ∙ ap (bytes_at a) spot.1

  -- no file is longer than the disc
  pub size-kept : AreKept names a used unused ps → (p : Place) → 0 < times p.slot used → length (bytes_at a p.slot) ≤ 512 * most_sectors
  size-kept h p some =
      let spot = spot-at h p some in
      let old = files_in names a.bytes used in
      let size : File → ℕ = λ f. sectors_of (length f.bytes) in
      omega (
        arith,
        h.filled.room,
        get_or-le-sum_by size old spot.0 (file [] []) (omega (arith, spot.2.within, length-files names a.bytes used)),
        ap size (get_or-files names a.bytes used spot.0 (file [] []) spot.2.within),
        ap (λ t. sectors_of (length (bytes_at a t))) spot.1,
      )

  -- the stream of a number
  stream-is : (k : ℕ) (p : Place) → place_in ps k ≡ Some p → stream_at D k ≡ Some (stream_of_place names p)
  stream-is k p e = stream_at-place names ps D k refl ∙ ap (stream_in names) e

  stream-none : (k : ℕ) → place_in ps k ≡ None → stream_at D k ≡ None
  stream-none k e = stream_at-place names ps D k refl ∙ ap (stream_in names) e

  abbrev Read : ℕ → List ℕ → Option Stream → Bool → Outcome ℕ
  Read k bytes s t = unless_refused D ((t, 46) ∷ []) (length bytes) (with_stream D k (moved_on (length bytes) s))

  -- the bytes that are read
  pub read-bytes : AreKept names a used unused ps → (k count : ℕ) (p : Place) → place_in ps k ≡ Some p → p.writes ≡ false
      → bytes_read D k count ≡ take count (drop p.position (bytes_at a p.slot))
  read-bytes h k count p e r =
      let number = place-number ps k p e in
      let st = h.streams (k - 1) p number.1 in
      let yes : is_reader (stream_at D k) ≡ true = ap is_reader (stream-is k p e) ∙ ap not r in
      ap (λ t. cond t (take count (bytes_left D (stream_at D k))) []) yes
      ∙ ap (λ s. take count (bytes_left D s)) (stream-is k p e)
      ∙ ap (λ bs. take count (drop p.position bs)) (bytes-at h p st.is_there)

  pub read-done : AreKept names a used unused ps → (k count n : ℕ) (p q : Place) → place_in ps k ≡ Some p → p.writes ≡ false
      → length (take count (drop p.position (bytes_at a p.slot))) ≡ n → q.slot ≡ p.slot → q.writes ≡ p.writes → q.position ≡ p.position + n
      → after_read_on D k count ≡ outcome (Ok n) (disc_in names a.bytes used (set ps (k - 1) (Some q)))
  read-done h k count n p q e r size slot mode moved =
      let yes : is_reader (stream_at D k) ≡ true = ap is_reader (stream-is k p e) ∙ ap not r in
      let len : length (bytes_read D k count) ≡ n = ap length (read-bytes h k count p e r) ∙ size in
      let new : moved_on n (Some (stream_of_place names p)) ≡ stream_in names (Some q) =
      ap (λ x. Some (stream (name_in names p.slot) x p.writes)) (sym moved)
      ∙ ap (λ t. Some (stream (name_in names t) q.position p.writes)) (sym slot)
      ∙ ap (λ w. Some (stream (name_in names q.slot) q.position w)) (sym mode) in
      ap (Read k (bytes_read D k count) (stream_at D k)) yes
      ∙ ap (λ m. outcome (Ok m) (with_stream D k (moved_on m (stream_at D k)))) len
      ∙ ap (λ s. outcome (Ok n) (with_stream D k (moved_on n s))) (stream-is k p e)
      ∙ ap (λ s. outcome (Ok n) (with_stream D k s)) new
      ∙ ap (outcome (Ok n)) (stream-set names a used unused ps k (k - 1) (Some q) refl)
    where
      stream : List ℕ → ℕ → Bool → Stream
      stream name place writes = record { name = name; position = place; writes = writes }

  pub read-kept : AreKept names a used unused ps → (k n : ℕ) (p q : Place) → place_in ps k ≡ Some p → p.writes ≡ false → p.position + n ≤ length (bytes_at a p.slot)
      → q.slot ≡ p.slot → q.writes ≡ p.writes → q.position ≡ p.position + n
      → (p.position + n < length (bytes_at a p.slot) → q.sector ≡ get_or (chain_at a p.slot) ((p.position + n) / 512) 0)
      → AreKept names a used unused (set ps (k - 1) (Some q))
  read-kept h k n p q e r within slot mode moved sector =
      let number = place-number ps k p e in
      let st = h.streams (k - 1) p number.1 in
      let reads : q.writes ≡ false = mode ∙ r in
      let bytes : bytes_at a q.slot ≡ bytes_at a p.slot = ap (bytes_at a) slot in
      keep-stream names a used unused ps (k - 1) q h (omega (arith, place-inside ps (k - 1) p number.1, h.numbers)) (record {
        is_there = subst (λ t. 0 < times t used) (sym slot) st.is_there;
        within = omega (arith, moved, within, ap length bytes);
        at_end = λ w. absurd (true≢false (sym w ∙ reads));
        alone = λ w. absurd (true≢false (sym w ∙ reads));
        others = λ j o f w same. sym ((h.streams j o f).alone w (k - 1) p number.1 (sym (same ∙ slot)));
        shell_reads = λ t. reads;
        sector = λ less. sector (omega (arith, less, moved, ap length bytes)) ∙ ap (λ t. get_or (chain_at a t) ((p.position + n) / 512) 0) (sym slot)
            ∙ ap (λ x. get_or (chain_at a q.slot) (x / 512) 0) (sym moved);
      })

  abbrev Append : ℕ → List ℕ → Bool → Bool → Outcome Unit
  Append k more t u = unless_refused D ((t, 46) ∷ (u, 43) ∷ []) tt (with_stream (with_more D (stream_at D k) more) k (moved_on (length more) (stream_at D k)))

  -- the files, with more bytes behind those of a slot
  abbrev Files : Place → List ℕ → List File
  Files p more = with_file (file (name_in names p.slot) (bytes_at a p.slot ++ more)) (files_in names a.bytes used)

  append-is : AreKept names a used unused ps → (k : ℕ) (more : List ℕ) (p : Place) → place_in ps k ≡ Some p
      → with_more D (stream_at D k) more ≡ record D { files = Files p more }
  append-is h k more p e =
      let st = h.streams (k - 1) p (place-number ps k p e).1 in
      ap (λ s. with_more D s more) (stream-is k p e)
      ∙ ap (λ bs. with_bytes D (name_in names p.slot) (bs ++ more)) (bytes-at h p st.is_there)

  -- the sectors that the files take then
  sectors-then : AreKept names a used unused ps → (more : List ℕ) (p : Place) → 0 < times p.slot used
      → sectors_taken (Files p more) + a.left + sectors_of (length (bytes_at a p.slot)) ≡ most_sectors + sectors_of (length (bytes_at a p.slot) + length more)
  sectors-then h more p some =
      let spot = spot-at h p some in
      let new = file (name_in names p.slot) (bytes_at a p.slot ++ more) in
      let old = files_in names a.bytes used in
      let size : File → ℕ = λ f. sectors_of (length f.bytes) in
      let lt : spot.0 < length old = omega (arith, spot.2.within, length-files names a.bytes used) in
      let is : Files p more ≡ set old spot.0 new =
      with_file-set new old spot.0 (ordered names used unused h.slots a.bytes) lt
      (ap (λ f. f.name) (get_or-files names a.bytes used spot.0 new spot.2.within) ∙ spot.2.is) in
      omega (
        arith,
        ap (sum_by size) is,
        sum_by-set size old spot.0 new (file [] []) lt,
        ap size (get_or-files names a.bytes used spot.0 (file [] []) spot.2.within),
        ap (λ t. sectors_of (length (bytes_at a t))) spot.1,
        h.filled.room,
        length-append (bytes_at a p.slot) more,
      )

  append-writer : AreKept names a used unused ps → (k : ℕ) (more : List ℕ) (p : Place) → place_in ps k ≡ Some p → p.writes ≡ true
      → after_append D k more ≡ Append k more true (leb (sectors_taken (Files p more)) most_sectors)
  append-writer h k more p e w =
      ap (λ t. Append k more t (has_room (with_more D (stream_at D k) more))) (ap is_writer (stream-is k p e) ∙ w)
      ∙ ap (λ d. Append k more true (has_room d)) (append-is h k more p e)

  pub append-full : AreKept names a used unused ps → (k : ℕ) (more : List ℕ) (p : Place) → place_in ps k ≡ Some p → p.writes ≡ true
      → sectors_of (length (bytes_at a p.slot)) + a.left < sectors_of (length (bytes_at a p.slot) + length more) → after_append D k more ≡ outcome (Err 43) D
  append-full h k more p e w full =
      let st = h.streams (k - 1) p (place-number ps k p e).1 in
      append-writer h k more p e w
      ∙ ap (Append k more true) (lt-leb (sectors_taken (Files p more)) most_sectors (omega (arith, full, sectors-then h more p st.is_there)))

  pub append-done : AreKept names a used unused ps → (b : Area) (k : ℕ) (more : List ℕ) (p q : Place) → place_in ps k ≡ Some p → p.writes ≡ true
      → sectors_of (length (bytes_at a p.slot) + length more) ≤ sectors_of (length (bytes_at a p.slot)) + a.left → Adds a b p.slot more
      → q.slot ≡ p.slot → q.writes ≡ p.writes → q.position ≡ p.position + length more
      → after_append D k more ≡ outcome (Ok tt) (disc_in names b.bytes used (set ps (k - 1) (Some q)))
  append-done h b k more p q e w room adds slot mode moved =
      let st = h.streams (k - 1) p (place-number ps k p e).1 in
      let spot = spot-at h p st.is_there in
      let fs : Files p more ≡ files_in names b.bytes used =
      files-set names a used unused ps b spot.0 (name_in names p.slot) (bytes_at a p.slot ++ more) h spot.2
      (adds.bytes ∙ ap (λ t. set a.bytes t (bytes_at a p.slot ++ more)) (sym spot.1)) in
      let new : moved_on (length more) (Some (stream_of_place names p)) ≡ stream_in names (Some q) =
      ap (λ x. Some (stream (name_in names p.slot) x p.writes)) (sym moved)
      ∙ ap (λ t. Some (stream (name_in names t) q.position p.writes)) (sym slot)
      ∙ ap (λ x. Some (stream (name_in names q.slot) q.position x)) (sym mode) in
      append-writer h k more p e w
      ∙ ap (Append k more true) (le-leb (sectors_taken (Files p more)) most_sectors (omega (arith, room, sectors-then h more p st.is_there)))
      ∙ ap (λ d. outcome (Ok tt) (with_stream d k (moved_on (length more) (stream_at D k)))) (append-is h k more p e)
      ∙ ap (λ s. outcome (Ok tt) (with_stream (record D { files = Files p more }) k (moved_on (length more) s))) (stream-is k p e)
      ∙ ap (λ s. outcome (Ok tt) (with_stream (record D { files = Files p more }) k s)) new
      ∙ ap (λ xs. outcome (Ok tt) (record { files = xs; streams = set (streams_in names ps) (k - 1) (stream_in names (Some q)) })) fs
      ∙ ap (λ xs. outcome (Ok tt) (record { files = files_in names b.bytes used; streams = xs })) (sym (map-set (stream_in names) ps (k - 1) (Some q)))
    where
      stream : List ℕ → ℕ → Bool → Stream
      stream name place writes = record { name = name; position = place; writes = writes }

  pub append-kept : AreKept names a used unused ps → (b : Area) (k : ℕ) (more : List ℕ) (p q : Place) → place_in ps k ≡ Some p → p.writes ≡ true → Adds a b p.slot more
      → q.slot ≡ p.slot → q.writes ≡ p.writes → q.position ≡ p.position + length more
      → AreKept names b used unused (set ps (k - 1) (Some q))
  append-kept h b k more p q e w adds slot mode moved =
      let number = place-number ps k p e in
      let st = h.streams (k - 1) p number.1 in
      let spot = spot-at h p st.is_there in
      keep-append names a used unused ps b spot.0 (k - 1) p q more h spot.2.within number.1 w spot.1
      (subst (λ t. Adds a b t more) (sym spot.1) adds) slot (mode ∙ w) moved

pub lt-of-not : (m n : ℕ) → (m ≤ n → ⊥) → n < m
lt-of-not m n never = elim (cases_lt n m) [ inl h ↦ h | inr h ↦ absurd (never h) ]
