-- A valid disc is kept in slots: file i in slot i, and each stream on the slot of its file.
use Rattle.std.proofs.Common.{◌≡◌, ℕ, inl, inr, zero, suc, ◌+◌, ◌-◌, ◌<◌, ◌≤◌, ◌||◌, Bool, true, false, cond, Option, Some, None, List, [], ◌∷◌, ◌++◌, length, map, get_or, replicate, refl, sym, ap, ◌∙◌, subst, arith}
use Rattle.std.specs.Prelude.{unwrap_or}
use Rattle.std.specs.Option.{option_map}
use Rattle.std.specs.List.{list_any, range_with_len}
use Rattle.std.proofs.Math.ListN.{get_or-append}
use Rattle.std.proofs.lemmas.Bool.{cases_lt, ne_eqb}
use Rattle.std.proofs.lemmas.Slice.Eq.{bytes_eq-Decides}
use Rattle.std.proofs.lemmas.List.{ext_get_or, get_or-append_right, get_or-map, get_or-replicate, length-append, length-map, length-replicate}
use Rattle.std.proofs.lemmas.List.FromFn.{get_or-map-range_with_len, length-map-range_with_len, length-range_with_len}
use Rattle.word_store.specs.Count.{times}
use Rattle.word_store.proofs.Counts.{range-apart, range-high, range-low, times-above, times-below, times-within}
use Rattle.ram_disc.specs.Contents.{Area, bytes_at}
use Rattle.ram_disc.specs.Disc.{AreInOrder, Disc, File, IsDisc, IsValidStream, Stream, bytes_of, has_name, most_files, most_sectors, sectors_taken, stream_at}
use Rattle.ram_disc.specs.DiscCalls.{file}
use Rattle.ram_disc.specs.Name.{IsName}
use Rattle.ram_disc.specs.Slots.{AreKept, IsValidPlace, disc_in, file_in, files_in, name_in, stream_in, streams_in}
use Rattle.ram_disc.specs.declared.places.Place.{Place}
use Rattle.ram_disc.proofs.FileLists.{find-name}
use Rattle.ram_disc.proofs.NameOrder.{all-get_or}

-- the slots in which a disc is kept
pub record IsKept (d : Disc) : Type 0 where
  pub names : List (List ℕ)
  pub area : Area
  pub used : List ℕ
  pub unused : List ℕ
  pub places : List (Option Place)
  pub kept : AreKept names area used unused places
  pub is : disc_in names area.bytes used places ≡ d

-- the file of a name is at this place
abbrev slot_of : List File → List ℕ → ℕ
slot_of [] name = 0
slot_of (f ∷ fs) name = cond (has_name name f) 0 (suc (slot_of fs name))

slot-found : (fs : List File) (name : List ℕ) (d : File) → list_any (has_name name) fs ≡ true → (slot_of fs name < length fs) × ((get_or fs (slot_of fs name) d).name ≡ name)
slot-found [] name d some = cc
slot-found (f ∷ fs) name d some = on (has_name name f) refl some (slot-found fs name d)
  where
    on : (b : Bool) → has_name name f ≡ b → (b || list_any (has_name name) fs) ≡ true
        → (list_any (has_name name) fs ≡ true → (slot_of fs name < length fs) × ((get_or fs (slot_of fs name) d).name ≡ name))
        → (cond b 0 (suc (slot_of fs name)) < length (f ∷ fs)) × ((get_or (f ∷ fs) (cond b 0 (suc (slot_of fs name))) d).name ≡ name)
    on true e some more = (omega arith, (bytes_eq-Decides f.name name).0 e)
    on false e some more = (let r = more some in (omega (arith, r.0), r.1))

abbrev place_of : List File → Option Stream → Option Place
place_of fs None = None
place_of fs (Some s) = Some (record { slot = slot_of fs s.name; position = s.position; sector = 0; writes = s.writes })

module _ (d : Disc) (h : IsDisc d) where
  abbrev n : ℕ
  n = length d.files

  abbrev blank : ℕ
  blank = most_files - n

  abbrev no_file : File
  no_file = file [] []

  abbrev padded : List (List ℕ) → List (List ℕ)
  padded xs = xs ++ replicate blank []

  abbrev names : List (List ℕ)
  names = padded (map (λ f. f.name) d.files)

  abbrev bytes : List (List ℕ)
  bytes = padded (map (λ f. f.bytes) d.files)

  abbrev area : Area
  area = record { chains = []; bytes = bytes; left = most_sectors - sectors_taken d.files }

  abbrev used : List ℕ
  used = range_with_len 0 n

  abbrev unused : List ℕ
  unused = range_with_len n blank

  abbrev places : List (Option Place)
  places = map (place_of d.files) d.streams

  -- ---- the files

  padded-there : (f : File → List ℕ) (i : ℕ) → i < n → get_or (padded (map f d.files)) i [] ≡ f (get_or d.files i no_file)
  padded-there f i lt = get_or-append (map f d.files) (replicate blank []) [] i (omega (arith, lt, length-map d.files f)) ∙ get_or-map f d.files i no_file [] lt

  padded-length : (f : File → List ℕ) → length (padded (map f d.files)) ≡ most_files
  padded-length f = omega (arith, length-append (map f d.files) (replicate blank []), length-map d.files f, length-replicate {A = List ℕ} blank [], h.few)

  file-there : (i : ℕ) → i < n → file_in names bytes i ≡ get_or d.files i no_file
  file-there i lt = λ j. record { name = padded-there (λ f. f.name) i lt j; bytes = padded-there (λ f. f.bytes) i lt j }

  files-same : files_in names bytes used ≡ d.files
  files-same =
      ext_get_or no_file (files_in names bytes used) d.files (length-map-range_with_len (file_in names bytes) 0 n)
      (λ i lt.
      let low : i < n = omega (arith, lt, length-map-range_with_len (file_in names bytes) 0 n) in
      get_or-map-range_with_len (file_in names bytes) 0 n i i no_file low (omega arith) ∙ file-there i low)

  names-same : map (name_in names) used ≡ map (λ f. f.name) d.files
  names-same =
      ext_get_or [] (map (name_in names) used) (map (λ f. f.name) d.files) (length-map-range_with_len (name_in names) 0 n ∙ sym (length-map d.files (λ f. f.name)))
      (λ i lt.
      let low : i < n = omega (arith, lt, length-map-range_with_len (name_in names) 0 n) in
      get_or-map-range_with_len (name_in names) 0 n i i [] low (omega arith) ∙ padded-there (λ f. f.name) i low ∙ sym (get_or-map (λ f. f.name) d.files i no_file [] low))

  -- ---- the streams

  stream-number : (k : ℕ) → stream_at d (suc k) ≡ get_or d.streams k None
  stream-number k =
      let before : suc k - 1 ≡ k = omega arith in
      λ i. cond (ne_eqb (suc k) 0 (λ e. absurd (omega (arith, e))) i) None (get_or d.streams (before i) None)

  found : (k : ℕ) (s : Stream) → get_or d.streams k None ≡ Some s → (slot_of d.files s.name < n) × ((get_or d.files (slot_of d.files s.name) no_file).name ≡ s.name)
  found k s e = slot-found d.files s.name no_file (h.streams (suc k) s (stream-number k ∙ e)).is_there

  stream-name : (k : ℕ) (s : Stream) → get_or d.streams k None ≡ Some s → name_in names (slot_of d.files s.name) ≡ s.name
  stream-name k s e = (let r = found k s e in padded-there (λ f. f.name) (slot_of d.files s.name) r.0 ∙ r.1)

  streams-same : streams_in names places ≡ d.streams
  streams-same =
      ext_get_or None (streams_in names places) d.streams (length-map places (stream_in names) ∙ length-map d.streams (place_of d.files))
      (λ k lt.
      let low : k < length d.streams = omega (arith, lt, length-map places (stream_in names), length-map d.streams (place_of d.files)) in
      get_or-map (stream_in names) places k None None (omega (arith, low, length-map d.streams (place_of d.files)))
      ∙ ap (stream_in names) (get_or-map (place_of d.files) d.streams k None None low) ∙ on k (get_or d.streams k None) refl)
    where
      on : (k : ℕ) (o : Option Stream) → get_or d.streams k None ≡ o → stream_in names (place_of d.files o) ≡ o
      on k None e = refl
      on k (Some s) e = ap (λ m. Some (record { name = m; position = s.position; writes = s.writes })) (stream-name k s e)

  -- a stream of the disc, where a place is taken
  place-stream : (k : ℕ) (p : Place) → get_or places k None ≡ Some p → (s : Stream) × (get_or d.streams k None ≡ Some s) × (place_of d.files (Some s) ≡ Some p)
  place-stream k p e = on (get_or d.streams k None) refl (sym (at d.streams k) ∙ e)
    where
      at : (ss : List (Option Stream)) (j : ℕ) → get_or (map (place_of d.files) ss) j None ≡ place_of d.files (get_or ss j None)
      at [] j = refl
      at (s ∷ ss) zero = refl
      at (s ∷ ss) (suc j) = at ss j

      on : (o : Option Stream) → get_or d.streams k None ≡ o → place_of d.files o ≡ Some p → (s : Stream) × (get_or d.streams k None ≡ Some s) × (place_of d.files (Some s) ≡ Some p)
      on None is there = cc
      on (Some s) is there = (s, is, there)

  file-bytes : (name : List ℕ) → slot_of d.files name < n → (get_or d.files (slot_of d.files name) no_file).name ≡ name → bytes_at area (slot_of d.files name) ≡ bytes_of d name
  file-bytes name lt is =
      padded-there (λ f. f.bytes) (slot_of d.files name) lt
      ∙ sym (ap (λ o. unwrap_or (option_map (λ (f : File). f.bytes) o) []) (find-name name no_file d.files (slot_of d.files name) h.in_order lt is))

  valid-places : (k : ℕ) (p : Place) → get_or places k None ≡ Some p → IsValidPlace area used places k p
  valid-places k p e =
      let r = place-stream k p e in
      subst (λ o. Is o) r.2 (there r.0 r.1)
    where
      Is : Option Place → Type 0
      Is None = Unit {0}
      Is (Some q) = IsValidPlace area used places k q

      there : (s : Stream) → get_or d.streams k None ≡ Some s → Is (place_of d.files (Some s))
      there s is =
          let f = found k s is in
          let on : IsValidStream d (suc k) s = h.streams (suc k) s (stream-number k ∙ is) in
          let same : bytes_at area (slot_of d.files s.name) ≡ bytes_of d s.name = file-bytes s.name f.0 f.1 in
          record {
            is_there = omega (arith, times-within (slot_of d.files s.name) 0 n (omega arith) (omega (arith, f.0)));
            within = omega (arith, on.within, ap length same);
            at_end = λ w. on.at_end w ∙ ap length (sym same);
            alone = λ w j other g slot.
                let o = place-stream j other g in
                let q = found j o.0 o.1 in
                let other_slot : slot_of d.files o.0.name ≡ slot_of d.files s.name = same-slot o.0 other o.2 ∙ slot in
                let name : o.0.name ≡ s.name = sym q.1 ∙ ap (λ i. (get_or d.files i no_file).name) other_slot ∙ f.1 in
                omega (arith, on.alone w (suc j) o.0 (stream-number j ∙ o.1) name);
            shell_reads = λ t. on.shell_reads (omega (arith, t));
            sector = λ less. refl;
          }
        where
          same-slot : (t : Stream) (q : Place) → place_of d.files (Some t) ≡ Some q → slot_of d.files t.name ≡ q.slot
          same-slot t q e = cc

  -- ---- all of it

  times-there : (s : ℕ) → times s used + times s unused ≤ 1
  times-there s =
      elim (cases_lt s n) [
        | inl low ↦ omega (arith, times-below s n blank low, range-apart 0 n s)
        | inr high ↦ omega (arith, times-above s 0 n (omega (arith, high)), range-apart n blank s)
      ]

  pub disc-kept : IsKept d
  disc-kept =
      record {
        names = names;
        area = area;
        used = used;
        unused = unused;
        places = places;
        kept =
            record {
              slots =
                  record {
                    once = times-there;
                    below = λ s some.
                        elim (cases_lt s most_files) [
                          | inl low ↦ low
                          | inr high ↦ absurd (omega (arith, some, high, times-above s 0 n (omega (arith, high, h.few)), times-above s n blank (omega (arith, high, h.few))))
                        ];
                    all = omega (arith, length-range_with_len 0 n, length-range_with_len n blank, h.few);
                    table = padded-length (λ f. f.name);
                    in_order = subst AreInOrder (sym names-same) h.in_order;
                    lawful = λ s some.
                        let low : s < n = omega (arith, range-high s 0 n some) in
                        subst IsName (sym (padded-there (λ f. f.name) s low)) (all-get_or (λ f. IsName f.name) d.files s no_file h.lawful low);
                  };
              filled =
                  record {
                    table = padded-length (λ f. f.bytes);
                    empty = λ s some.
                        let low : n ≤ s = range-low s n blank some in
                        let high : s < n + blank = range-high s n blank some in
                        get_or-append_right (map (λ f. f.bytes) d.files) (replicate blank []) n s [] (length-map d.files (λ f. f.bytes)) low
                        ∙ get_or-replicate {A = List ℕ} blank (s - n) [] [] (omega (arith, low, high));
                    room = omega (arith, ap sectors_taken files-same, h.room);
                  };
              numbers = length-map d.streams (place_of d.files) ∙ h.numbers;
              streams = valid-places;
            };
        is = λ i. record { files = files-same i; streams = streams-same i };
      }
