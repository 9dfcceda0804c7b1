-- What the calls come to that make, empty, delete and rename files on a disc that is kept in slots.
use Rattle.std.proofs.Common.{◌≡◌, ◌≢◌, ℕ, zero, suc, ◌+◌, ◌-◌, ◌<◌, List, [], ◌∷◌, ◌++◌, length, map, get_or, set, take, replicate, cond, not, ltb, ◌||◌, Bool, true, false, Option, Some, None, Ok, Err, refl, sym, ap, ◌∙◌, subst, arith, inl, inr}
use Rattle.std.specs.List.{insert, list_any, position, range_with_len, remove}
use Rattle.std.specs.Option.{is_none}
use Rattle.std.proofs.lemmas.Bool.{cases_lt, le-ltb, lt-ltb}
use Rattle.std.proofs.lemmas.List.{ext_get_or, get_or-replicate, get_or-set_other, get_or-set_same, length-append, length-map, length-replicate, length-take, map-set}
use Rattle.std.proofs.lemmas.List.Edits.{get_or-remove_above, get_or-remove_below, length-remove}
use Rattle.std.proofs.lemmas.List.FromFn.{length-range_with_len}
use Rattle.word_store.specs.Count.{times}
use Rattle.word_store.proofs.Counts.{hit-same, range-apart, range-high, times-append}
use Rattle.ram_disc.specs.Contents.{Area, Empties, bytes_at}
use Rattle.ram_disc.specs.Disc.{AreInOrder, Disc, File, Stream, bytes_of, has_file, is_before, is_on, is_used, most_files, most_sectors, most_streams, sectors_taken}
use Rattle.ram_disc.specs.DiscCalls.{Outcome, after_delete, after_open_write, after_rename, file, free_stream, has_free_stream, has_place, unless_refused, with_file, with_stream, without_file, writer}
use Rattle.ram_disc.specs.Name.{IsName}
use Rattle.ram_disc.specs.Slots.{AreKept, HasPlace, IsAt, IsValidPlace, disc_in, file_in, files_in, is_on_slot, name_in, stream_in, streams_in}
use Rattle.ram_disc.specs.declared.places.Place.{Place}
use Rattle.ram_disc.proofs.Calls.{none-to-open, outcome, position-below, to-open}
use Rattle.ram_disc.proofs.ChainLemmas.{place-times, times-get_or}
use Rattle.ram_disc.proofs.FileLists.{with_file-insert, with_file-set, without_file-remove}
use Rattle.ram_disc.proofs.KeptSlots.{keep-new}
use Rattle.ram_disc.proofs.KeptStreams.{keep-clear, keep-stream, none-some, place-other}
use Rattle.ram_disc.proofs.NameOrder.{bytes_eq-other, is_before-differ}
use Rattle.ram_disc.proofs.SlotLemmas.{HasFiles, bytes_of-at, files-bytes, files-other_bytes, files-other_name, get_or-files, has_file-at, has_file-none, length-files, map-insert, map-remove, ordered, times-insert, times-remove, used-below, used-inside, used-once}
use Rattle.ram_disc.proofs.StreamLemmas.{any-agree, get_or-streams, is_used-at}

abbrev no_place : Option Place
no_place = None

get_or-nones : (n k : ℕ) → get_or (replicate n no_place) k None ≡ None
get_or-nones zero k = refl
get_or-nones (suc n) zero = refl
get_or-nones (suc n) (suc k) = get_or-nones n k

-- a disc of no files
pub kept-new : (names : List (List ℕ)) (a : Area) (used unused : List ℕ) → length names ≡ most_files
    → a ≡ record { chains = replicate most_files []; bytes = replicate most_files []; left = most_sectors } → used ≡ [] → unused ≡ range_with_len 0 64
    → AreKept names a used unused (replicate most_streams None)
kept-new names a used unused table is e f =
    let none : (s : ℕ) → times s used ≡ 0 = λ s. ap (times s) e in
    let bytes : a.bytes ≡ replicate most_files [] = ap (λ (x : Area). x.bytes) is in
    record {
      slots = record {
        once = λ s. omega (arith, none s, ap (times s) f, range-apart 0 64 s);
        below = λ s some. omega (arith, range-high s 0 64 (omega (arith, some, none s, ap (times s) f)));
        all = omega (arith, ap length e, ap length f, length-range_with_len 0 64);
        table = table;
        in_order = subst (λ us. AreInOrder (map (name_in names) us)) (sym e) tt;
        lawful = λ s some. absurd (omega (arith, some, none s));
      };
      filled = record {
        table = ap length bytes ∙ length-replicate {A = List ℕ} most_files [];
        empty = λ s some. ap (λ bs. get_or bs s []) bytes ∙ get_or-replicate {A = List ℕ} most_files s [] []
            (omega (arith, range-high s 0 64 (omega (arith, some, ap (times s) f))));
        room = omega (arith, ap (λ (x : Area). x.left) is, ap (λ us. sectors_taken (files_in names a.bytes us)) e);
      };
      numbers = refl;
      streams = λ k p g. absurd (none-some p (sym (get_or-nones most_streams k) ∙ g));
    }

-- the streams, where a slot that none of them is on has another name
pub streams-name : (names : List (List ℕ)) (ps : List (Option Place)) (s : ℕ) (n : List ℕ) → ((k : ℕ) (q : Place) → get_or ps k None ≡ Some q → q.slot ≢ s)
    → streams_in (set names s n) ps ≡ streams_in names ps
streams-name names ps s n other =
    ext_get_or None (streams_in (set names s n) ps) (streams_in names ps) (length-map ps (stream_in (set names s n)) ∙ sym (length-map ps (stream_in names)))
    (λ k h. get_or-streams (set names s n) ps k ∙ on k (get_or ps k None) refl ∙ sym (get_or-streams names ps k))
  where
    on : (k : ℕ) (o : Option Place) → get_or ps k None ≡ o → stream_in (set names s n) o ≡ stream_in names o
    on k None e = refl
    on k (Some q) e = ap (λ m. Some (record { name = m; position = q.position; writes = q.writes })) (get_or-set_other names s q.slot n [] (other k q e))

-- a name's place, once a slot has gone
pub place-without : (names : List (List ℕ)) (used : List ℕ) (name : List ℕ) (i j : ℕ) → i < length used → HasPlace names used name j
    → HasPlace names (remove used i) name (cond (ltb i j) (j - 1) j)
place-without names used name i j lt place =
    let ln = length-remove used i lt in
    elim (cases_lt i j) [
      | inl low ↦ (
          let P : ℕ → Type 0 = HasPlace names (remove used i) name in
          subst P (sym (ap (λ b. cond b (j - 1) j) (lt-ltb i j low))) (record {
            within = omega (arith, place.within, ln);
            before = λ k h. elim (cases_lt k i) [
              | inl early ↦ ap (λ s. is_before (name_in names s) name) (get_or-remove_below used i 0 k early lt) ∙ place.before k (omega arith)
              | inr late ↦ ap (λ s. is_before (name_in names s) name) (get_or-remove_above used i 0 k late lt) ∙ place.before (k + 1) (omega arith)
            ];
            after = λ k h l. ap (λ s. is_before name (name_in names s)) (get_or-remove_above used i 0 k (omega arith) lt)
                ∙ place.after (k + 1) (omega arith) (omega (arith, l, ln));
          })
          )
      | inr high ↦ (
          let P : ℕ → Type 0 = HasPlace names (remove used i) name in
          subst P (sym (ap (λ b. cond b (j - 1) j) (le-ltb i j high))) (record {
            within = omega (arith, high, lt, ln);
            before = λ k h. ap (λ s. is_before (name_in names s) name) (get_or-remove_below used i 0 k (omega arith) lt) ∙ place.before k h;
            after = λ k h l. elim (cases_lt k i) [
              | inl early ↦ ap (λ s. is_before name (name_in names s)) (get_or-remove_below used i 0 k early lt) ∙ place.after k h (omega (arith, l, ln))
              | inr late ↦ ap (λ s. is_before name (name_in names s)) (get_or-remove_above used i 0 k late lt) ∙ place.after (k + 1) (omega arith) (omega (arith, l, ln))
            ];
          })
          )
    ]

-- a file comes in at its name's place
files-place : (names bytes : List (List ℕ)) (used : List ℕ) (f : File) (i : ℕ) → HasPlace names used f.name i
    → with_file f (files_in names bytes used) ≡ insert (files_in names bytes used) i f
files-place names bytes used f i place =
    with_file-insert f (files_in names bytes used) i (omega (arith, place.within, length-files names bytes used))
    (λ k h. ap (λ g. is_before g.name f.name) (get_or-files names bytes used k f (omega (arith, h, place.within))) ∙ place.before k h)
    (λ k h l. let lt : k < length used = omega (arith, l, length-files names bytes used) in
    ap (λ g. is_before f.name g.name) (get_or-files names bytes used k f lt) ∙ place.after k h lt)

module _ (names : List (List ℕ)) (a : Area) (used unused : List ℕ) (ps : List (Option Place)) where
  abbrev D : Disc
  D = disc_in names a.bytes used ps

  abbrev S : ℕ → ℕ
  S i = get_or used i 0

  abbrev W : ℕ → Place
  W s = record { slot = s; position = 0; sector = 0; writes = true }

  files : AreKept names a used unused ps → HasFiles names a.bytes used unused D
  files h = record { slots = h.slots; files = refl }

  -- a file that no stream is on has other bytes
  pub files-set : (b : Area) (i : ℕ) (name : List ℕ) (x : List ℕ) → AreKept names a used unused ps → IsAt names used name i → b.bytes ≡ set a.bytes (S i) x
      → with_file (file name x) (files_in names a.bytes used) ≡ files_in names b.bytes used
  files-set b i name x h at bytes =
      let inside : S i < length a.bytes = omega (arith, used-below names used unused h.slots i at.within, h.filled.table) in
      with_file-set (file name x) (files_in names a.bytes used) i (ordered names used unused h.slots a.bytes) (omega (arith, at.within, length-files names a.bytes used))
      (ap (λ f. f.name) (get_or-files names a.bytes used i (file name x) at.within) ∙ at.is)
      ∙ ap (λ n. set (files_in names a.bytes used) i (file n x)) (sym at.is)
      ∙ sym (files-bytes names a.bytes used i x (used-once names used unused h.slots) at.within inside)
      ∙ ap (λ bs. files_in names bs used) (sym bytes)

  -- an opening to write, by the answers of its tests
  abbrev Write : List ℕ → Bool → Bool → Bool → ℕ → Outcome ℕ
  Write name t u v n = unless_refused D ((t, 47) ∷ (u, 45) ∷ (v, 44) ∷ []) n (with_stream (record D { files = with_file (file name []) (files_in names a.bytes used) }) n (Some (writer name 0)))

  write-found : AreKept names a used unused ps → (name : List ℕ) (i : ℕ) → IsAt names used name i
      → after_open_write D name ≡ Write name (not (list_any (is_on_slot (S i)) ps)) (has_free_stream D) (has_place D name) (free_stream D)
  write-found h name i at = ap (λ t. Write name (not t) (has_free_stream D) (has_place D name) (free_stream D)) (is_used-at names a used unused ps h D name i refl at)

  pub write-used : AreKept names a used unused ps → (name : List ℕ) (i : ℕ) → IsAt names used name i → list_any (is_on_slot (S i)) ps ≡ true
      → after_open_write D name ≡ outcome (Err 47) D
  write-used h name i at some = write-found h name i at ∙ ap (λ t. Write name (not t) (has_free_stream D) (has_place D name) (free_stream D)) some

  pub write-full : AreKept names a used unused ps → (name : List ℕ) (i : ℕ) → IsAt names used name i → list_any (is_on_slot (S i)) ps ≡ false
      → position is_none (take 16 ps) ≡ None → after_open_write D name ≡ outcome (Err 45) D
  write-full h name i at none e =
      write-found h name i at ∙ ap (λ t. Write name (not t) (has_free_stream D) (has_place D name) (free_stream D)) none
      ∙ ap (λ t. Write name true t (has_place D name) (free_stream D)) (none-to-open names a used unused ps false e)

  -- the streams, once one is set
  stream-files : (other : List (List ℕ)) (fs : List File) (k : ℕ) (p : Place) (qs : List (Option Stream)) → qs ≡ streams_in other ps
      → with_stream (record { files = fs; streams = qs }) (k + 1) (stream_in other (Some p)) ≡ record { files = fs; streams = streams_in other (set ps k (Some p)) }
  stream-files other fs k p qs e =
      let at : k + 1 - 1 ≡ k = omega arith in
      ap (λ xs. with_stream (record { files = fs; streams = xs }) (k + 1) (stream_in other (Some p))) e
      ∙ ap (λ j. with_streams fs (set (streams_in other ps) j (stream_in other (Some p)))) at
      ∙ ap (with_streams fs) (sym (map-set (stream_in other) ps k (Some p)))
    where
      with_streams : List File → List (Option Stream) → Disc
      with_streams fs xs = record { files = fs; streams = xs }

  pub write-done : AreKept names a used unused ps → (b : Area) (name : List ℕ) (i k : ℕ) → IsAt names used name i → list_any (is_on_slot (S i)) ps ≡ false
      → position is_none (take 16 ps) ≡ Some k → Empties a b (S i)
      → after_open_write D name ≡ outcome (Ok (k + 1)) (disc_in names b.bytes used (set ps k (Some (W (S i)))))
  write-done h b name i k at none e empties =
      let found = to-open names a used unused ps false k h e in
      let place : has_place D name ≡ true = ap (λ t. t || ltb (length (files_in names a.bytes used)) most_files) (has_file-at names a.bytes used unused D (files h) name i at) in
      write-found h name i at ∙ ap (λ t. Write name (not t) (has_free_stream D) (has_place D name) (free_stream D)) none
      ∙ ap (λ t. Write name true t (has_place D name) (free_stream D)) found.0
      ∙ ap (λ t. Write name true true t (free_stream D)) place
      ∙ ap (Write name true true true) found.1
      ∙ ap (λ fs. outcome (Ok (k + 1)) (with_stream (record D { files = fs }) (k + 1) (Some (writer name 0)))) (files-set b i name [] h at empties.bytes)
      ∙ ap (λ m. outcome (Ok (k + 1)) (with_stream (record D { files = files_in names b.bytes used }) (k + 1) (Some (writer m 0)))) (sym at.is)
      ∙ ap (outcome (Ok (k + 1))) (stream-files names (files_in names b.bytes used) k (W (S i)) (streams_in names ps) refl)

  pub write-kept : AreKept names a used unused ps → (b : Area) (i k : ℕ) → i < length used → list_any (is_on_slot (S i)) ps ≡ false
      → position is_none (take 16 ps) ≡ Some k → Empties a b (S i) → AreKept names b used unused (set ps k (Some (W (S i))))
  write-kept h b i k lt none e empties =
      let below = position-below is_none (take 16 ps) k e in
      let inside : S i < length a.bytes = omega (arith, used-below names used unused h.slots i lt, h.filled.table) in
      let nil : bytes_at b (S i) ≡ [] = ap (λ bs. get_or bs (S i) []) empties.bytes ∙ get_or-set_same a.bytes (S i) [] [] inside in
      keep-stream names b used unused ps k (W (S i)) (keep-clear names a used unused ps b i h lt none empties) (omega (arith, below, length-take 16 ps)) (record {
        is_there = times-get_or used i lt;
        within = omega arith;
        at_end = λ w. sym (ap length nil);
        alone = λ w j q f same. absurd (place-other ps (S i) j q none f same);
        others = λ j q f w same. absurd (place-other ps (S i) j q none f same);
        shell_reads = λ t. absurd (omega (arith, t, below, length-take 16 ps));
        sector = λ less. absurd (omega (arith, less, ap length nil));
      })

  -- no stream is on a file that is not there
  pub is_used-none : AreKept names a used unused ps → (name : List ℕ) (i : ℕ) → HasPlace names used name i → is_used D name ≡ false
  is_used-none h name i place = any-agree (is_on name) (λ q. false) names ps (λ k l. on k (get_or ps k None) (h.streams k)) ∙ none ps
    where
      none : (qs : List (Option Place)) → list_any (λ q. false) qs ≡ false
      none [] = refl
      none (q ∷ qs) = none qs

      on : (k : ℕ) (o : Option Place) → ((q : Place) → o ≡ Some q → IsValidPlace a used ps k q) → is_on name (stream_in names o) ≡ false
      on k None valid-place = refl
      on k (Some q) valid-place =
          let spot = place-times q.slot used (valid-place q refl).is_there in
          let other : name_in names (get_or used spot.0 0) ≢ name = elim (cases_lt spot.0 i) [
            | inl low ↦ is_before-differ (name_in names (get_or used spot.0 0)) name (place.before spot.0 low)
            | inr high ↦ λ same. is_before-differ name (name_in names (get_or used spot.0 0)) (place.after spot.0 high spot.1) (sym same)
          ] in
          bytes_eq-other (name_in names q.slot) name (λ same. other (ap (name_in names) spot.2 ∙ same))

  write-new : AreKept names a used unused ps → (name : List ℕ) (i : ℕ) → HasPlace names used name i
      → after_open_write D name ≡ Write name true (has_free_stream D) (ltb (length (files_in names a.bytes used)) most_files) (free_stream D)
  write-new h name i place =
      ap (λ t. Write name (not t) (has_free_stream D) (has_place D name) (free_stream D)) (is_used-none h name i place)
      ∙ ap (λ t. Write name true (has_free_stream D) (t || ltb (length (files_in names a.bytes used)) most_files) (free_stream D))
      (has_file-none names a.bytes used unused D (files h) name i place)

  pub write-new-full : AreKept names a used unused ps → (name : List ℕ) (i : ℕ) → HasPlace names used name i → position is_none (take 16 ps) ≡ None
      → after_open_write D name ≡ outcome (Err 45) D
  write-new-full h name i place e =
      write-new h name i place
      ∙ ap (λ t. Write name true t (ltb (length (files_in names a.bytes used)) most_files) (free_stream D)) (none-to-open names a used unused ps false e)

  pub write-new-none : AreKept names a used unused ps → (name : List ℕ) (i k : ℕ) → HasPlace names used name i → position is_none (take 16 ps) ≡ Some k
      → unused ≡ [] → after_open_write D name ≡ outcome (Err 44) D
  write-new-none h name i k place e nil =
      write-new h name i place
      ∙ ap (λ t. Write name true t (ltb (length (files_in names a.bytes used)) most_files) (free_stream D)) (to-open names a used unused ps false k h e).0
      ∙ ap (λ t. Write name true true t (free_stream D)) (le-ltb (length (files_in names a.bytes used)) most_files (omega (arith, h.slots.all, ap length nil, length-files names a.bytes used)))

  pub write-new-done : AreKept names a used unused ps → (rest : List ℕ) (s : ℕ) (name : List ℕ) (i k : ℕ) → HasPlace names used name i
      → position is_none (take 16 ps) ≡ Some k → unused ≡ rest ++ s ∷ []
      → after_open_write D name ≡ outcome (Ok (k + 1)) (disc_in (set names s name) a.bytes (insert used i s) (set ps k (Some (W s))))
  write-new-done h rest s name i k place e split =
      let found = to-open names a used unused ps false k h e in
      let counts : times s unused ≡ times s rest + 1 = ap (times s) split ∙ times-append s rest (s ∷ []) ∙ omega (arith, hit-same s s refl) in
      let free : times s used ≡ 0 = omega (arith, h.slots.once s, counts) in
      let inside : s < length names = omega (arith, h.slots.table, h.slots.below s (omega (arith, counts))) in
      let now = set names s name in
      let same : name_in now s ≡ name = get_or-set_same names s name [] inside in
      let nil : bytes_at a s ≡ [] = h.filled.empty s (omega (arith, counts)) in
      let it : file name [] ≡ file_in now a.bytes s = ap (λ m. file m []) (sym same) ∙ ap (file (name_in now s)) (sym nil) in
      let fs : with_file (file name []) (files_in names a.bytes used) ≡ files_in now a.bytes (insert used i s) =
      files-place names a.bytes used (file name []) i place
      ∙ ap (insert (files_in names a.bytes used) i) it
      ∙ ap (λ xs. insert xs i (file_in now a.bytes s)) (sym (files-other_name names a.bytes used s name free))
      ∙ sym (map-insert (file_in now a.bytes) used i s) in
      let streams : streams_in names ps ≡ streams_in now ps = sym (streams-name names ps s name (λ j q f same.
      absurd (omega (arith, free, subst (λ t. 0 < times t used) same (h.streams j q f).is_there)))) in
      write-new h name i place
      ∙ ap (λ t. Write name true t (ltb (length (files_in names a.bytes used)) most_files) (free_stream D)) found.0
      ∙ ap (λ t. Write name true true t (free_stream D)) (lt-ltb (length (files_in names a.bytes used)) most_files
      (omega (arith, h.slots.all, ap length split, length-append rest (s ∷ []), length-files names a.bytes used)))
      ∙ ap (Write name true true true) found.1
      ∙ ap (λ xs. outcome (Ok (k + 1)) (with_stream (record D { files = xs }) (k + 1) (Some (writer name 0)))) fs
      ∙ ap (λ m. outcome (Ok (k + 1)) (with_stream (record D { files = files_in now a.bytes (insert used i s) }) (k + 1) (Some (writer m 0)))) (sym same)
      ∙ ap (outcome (Ok (k + 1))) (stream-files now (files_in now a.bytes (insert used i s)) k (W s) (streams_in names ps) streams)

  pub write-new-kept : AreKept names a used unused ps → (rest : List ℕ) (s : ℕ) (name : List ℕ) (i k : ℕ) → HasPlace names used name i → IsName name
      → position is_none (take 16 ps) ≡ Some k → unused ≡ rest ++ s ∷ []
      → AreKept (set names s name) a (insert used i s) rest (set ps k (Some (W s)))
  write-new-kept h rest s name i k place lawful e split =
      let below = position-below is_none (take 16 ps) k e in
      let counts : times s unused ≡ times s rest + 1 = ap (times s) split ∙ times-append s rest (s ∷ []) ∙ omega (arith, hit-same s s refl) in
      let free : times s used ≡ 0 = omega (arith, h.slots.once s, counts) in
      let nil : bytes_at a s ≡ [] = h.filled.empty s (omega (arith, counts)) in
      let other : (j : ℕ) (q : Place) → get_or ps j None ≡ Some q → q.slot ≢ s =
      λ j q f same. absurd (omega (arith, free, subst (λ t. 0 < times t used) same (h.streams j q f).is_there)) in
      keep-stream (set names s name) a (insert used i s) rest ps k (W s) (keep-new names a used unused ps rest s i name h split place lawful) (omega (arith, below, length-take 16 ps)) (record {
        is_there = omega (arith, times-insert s used i s, hit-same s s refl);
        within = omega arith;
        at_end = λ w. sym (ap length nil);
        alone = λ w j q f same. absurd (other j q f same);
        others = λ j q f w same. absurd (other j q f same);
        shell_reads = λ t. absurd (omega (arith, t, below, length-take 16 ps));
        sector = λ less. absurd (omega (arith, less, ap length nil));
      })

  abbrev Delete : List ℕ → Bool → Bool → Outcome Unit
  Delete name t u = unless_refused D ((t, 41) ∷ (u, 47) ∷ []) tt (record D { files = without_file name (files_in names a.bytes used) })

  pub delete-missing : AreKept names a used unused ps → (name : List ℕ) (i : ℕ) → HasPlace names used name i → after_delete D name ≡ outcome (Err 41) D
  delete-missing h name i place = ap (λ t. Delete name t (not (is_used D name))) (has_file-none names a.bytes used unused D (files h) name i place)

  delete-found : AreKept names a used unused ps → (name : List ℕ) (i : ℕ) → IsAt names used name i
      → after_delete D name ≡ Delete name true (not (list_any (is_on_slot (S i)) ps))
  delete-found h name i at =
      ap (λ t. Delete name t (not (is_used D name))) (has_file-at names a.bytes used unused D (files h) name i at)
      ∙ ap (λ t. Delete name true (not t)) (is_used-at names a used unused ps h D name i refl at)

  pub delete-used : AreKept names a used unused ps → (name : List ℕ) (i : ℕ) → IsAt names used name i → list_any (is_on_slot (S i)) ps ≡ true
      → after_delete D name ≡ outcome (Err 47) D
  delete-used h name i at some = delete-found h name i at ∙ ap (λ t. Delete name true (not t)) some

  pub delete-done : AreKept names a used unused ps → (b : Area) (name : List ℕ) (i : ℕ) → IsAt names used name i → list_any (is_on_slot (S i)) ps ≡ false
      → Empties a b (S i) → after_delete D name ≡ outcome (Ok tt) (disc_in names b.bytes (remove used i) ps)
  delete-done h b name i at none e =
      let lt = at.within in
      let gone : times (S i) (remove used i) ≡ 0 = omega (arith, times-remove (S i) used i lt, h.slots.once (S i), hit-same (S i) (S i) refl) in
      let fs : without_file name (files_in names a.bytes used) ≡ files_in names b.bytes (remove used i) =
      without_file-remove name (file [] []) (files_in names a.bytes used) i (ordered names used unused h.slots a.bytes) (omega (arith, lt, length-files names a.bytes used))
      (ap (λ f. f.name) (get_or-files names a.bytes used i (file [] []) lt) ∙ at.is)
      ∙ sym (map-remove (file_in names a.bytes) used i)
      ∙ sym (ap (λ bs. files_in names bs (remove used i)) e.bytes ∙ files-other_bytes names a.bytes (remove used i) (S i) [] gone) in
      delete-found h name i at ∙ ap (λ t. Delete name true (not t)) none
      ∙ ap (λ xs. outcome (Ok tt) (record D { files = xs })) fs

  abbrev Rename : List ℕ → List ℕ → Bool → Bool → Bool → Outcome Unit
  Rename from to t u v =
      unless_refused D ((t, 41) ∷ (u, 42) ∷ (v, 47) ∷ []) tt (record D { files = with_file (file to (bytes_of D from)) (without_file from (files_in names a.bytes used)) })

  pub rename-missing : AreKept names a used unused ps → (from to : List ℕ) (i : ℕ) → HasPlace names used from i → after_rename D from to ≡ outcome (Err 41) D
  rename-missing h from to i place = ap (λ t. Rename from to t (not (has_file D to)) (not (is_used D from))) (has_file-none names a.bytes used unused D (files h) from i place)

  pub rename-there : AreKept names a used unused ps → (from to : List ℕ) (i j : ℕ) → IsAt names used from i → IsAt names used to j
      → after_rename D from to ≡ outcome (Err 42) D
  rename-there h from to i j at there =
      ap (λ t. Rename from to t (not (has_file D to)) (not (is_used D from))) (has_file-at names a.bytes used unused D (files h) from i at)
      ∙ ap (λ t. Rename from to true (not t) (not (is_used D from))) (has_file-at names a.bytes used unused D (files h) to j there)

  rename-found : AreKept names a used unused ps → (from to : List ℕ) (i j : ℕ) → IsAt names used from i → HasPlace names used to j
      → after_rename D from to ≡ Rename from to true true (not (list_any (is_on_slot (S i)) ps))
  rename-found h from to i j at place =
      ap (λ t. Rename from to t (not (has_file D to)) (not (is_used D from))) (has_file-at names a.bytes used unused D (files h) from i at)
      ∙ ap (λ t. Rename from to true (not t) (not (is_used D from))) (has_file-none names a.bytes used unused D (files h) to j place)
      ∙ ap (λ t. Rename from to true true (not t)) (is_used-at names a used unused ps h D from i refl at)

  pub rename-used : AreKept names a used unused ps → (from to : List ℕ) (i j : ℕ) → IsAt names used from i → HasPlace names used to j
      → list_any (is_on_slot (S i)) ps ≡ true → after_rename D from to ≡ outcome (Err 47) D
  rename-used h from to i j at place some = rename-found h from to i j at place ∙ ap (λ t. Rename from to true true (not t)) some

  pub rename-done : AreKept names a used unused ps → (from to : List ℕ) (i j k : ℕ) → IsAt names used from i → HasPlace names used to j
      → list_any (is_on_slot (S i)) ps ≡ false → HasPlace names (remove used i) to k
      → after_rename D from to ≡ outcome (Ok tt) (disc_in (set names (S i) to) a.bytes (insert (remove used i) k (S i)) ps)
  rename-done h from to i j k at place none there =
      let lt = at.within in
      let s = S i in
      let rest = remove used i in
      let now = set names s to in
      let inside : s < length names = used-inside names used unused h.slots i lt in
      let same : name_in now s ≡ to = get_or-set_same names s to [] inside in
      let gone : times s rest ≡ 0 = omega (arith, times-remove s used i lt, h.slots.once s, hit-same s s refl) in
      let it : file to (bytes_of D from) ≡ file_in now a.bytes s =
      ap (file to) (bytes_of-at names a.bytes used unused D (files h) from i at) ∙ ap (λ m. file m (bytes_at a s)) (sym same) in
      let left : without_file from (files_in names a.bytes used) ≡ files_in names a.bytes rest =
      without_file-remove from (file [] []) (files_in names a.bytes used) i (ordered names used unused h.slots a.bytes) (omega (arith, lt, length-files names a.bytes used))
      (ap (λ f. f.name) (get_or-files names a.bytes used i (file [] []) lt) ∙ at.is)
      ∙ sym (map-remove (file_in names a.bytes) used i) in
      let fs : with_file (file to (bytes_of D from)) (without_file from (files_in names a.bytes used)) ≡ files_in now a.bytes (insert rest k s) =
      ap (with_file (file to (bytes_of D from))) left
      ∙ files-place names a.bytes rest (file to (bytes_of D from)) k there
      ∙ ap (insert (files_in names a.bytes rest) k) it
      ∙ ap (λ xs. insert xs k (file_in now a.bytes s)) (sym (files-other_name names a.bytes rest s to gone))
      ∙ sym (map-insert (file_in now a.bytes) rest k s) in
      let streams : streams_in names ps ≡ streams_in now ps = sym (streams-name names ps s to (λ m q f. place-other ps s m q none f)) in
      rename-found h from to i j at place ∙ ap (λ t. Rename from to true true (not t)) none
      ∙ ap (λ xs. outcome (Ok tt) (record D { files = xs })) fs
      ∙ ap (λ xs. outcome (Ok tt) (record { files = files_in now a.bytes (insert rest k s); streams = xs })) streams
