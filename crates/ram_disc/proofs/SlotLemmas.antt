-- The slots of a disc, and the files in them.
use Rattle.std.proofs.Common.{◌≡◌, ◌≢◌, ℕ, zero, suc, ◌+◌, ◌<◌, ◌≤◌, List, [], ◌∷◌, ◌++◌, length, map, get_or, set, take, drop, true, false, Some, None, refl, sym, ap, ◌∙◌, subst, arith, inl, inr}
use Rattle.std.specs.List.{find, insert, list_any, range_with_len, remove}
use Rattle.std.specs.Option.{option_map, unwrap_or}
use Rattle.std.proofs.lemmas.Bool.{cases_eq, cases_lt}
use Rattle.std.proofs.lemmas.List.{drop-map, ext_get_or, get_or-map, get_or-set_other, get_or-set_same, length-map, length-set, map-append, map-id, take-append-drop, take-map}
use Rattle.std.proofs.lemmas.List.FromFn.{map-range_with_len_more}
use Rattle.word_store.specs.Count.{hit, times}
use Rattle.word_store.proofs.Counts.{times-append}
use Rattle.ram_disc.specs.Disc.{AreInOrder, Disc, File, bytes_of, file_named, has_file, has_name, most_files}
use Rattle.ram_disc.specs.DiscCalls.{file}
use Rattle.ram_disc.specs.Slots.{AreSlots, HasPlace, IsAt, file_in, files_in, name_in}
use Rattle.ram_disc.proofs.ChainLemmas.{place-times, places-differ, times-get_or}
use Rattle.ram_disc.proofs.FileLists.{any-name, any-no_name, find-name, find-no_name, names_of}
use Rattle.ram_disc.proofs.NameOrder.{is_before-differ, order-distinct}

-- functions that agree at each element map the list to the same
pub map-agree : {X : Type 0} (f g : ℕ → X) (xs : List ℕ) → ((k : ℕ) → k < length xs → f (get_or xs k 0) ≡ g (get_or xs k 0)) → map f xs ≡ map g xs
map-agree f g [] each = refl
map-agree f g (x ∷ xs) each = ap (λ y. y ∷ map f xs) (each zero (omega arith)) ∙ ap (λ ys. g x ∷ ys) (map-agree f g xs (λ k h. each (suc k) (omega arith)))

pub map-insert : {X Y : Type 0} (f : X → Y) (xs : List X) (i : ℕ) (y : X) → map f (insert xs i y) ≡ insert (map f xs) i (f y)
map-insert f xs i y =
    map-append f (take i xs) (y ∷ drop i xs)
    ∙ ap (λ zs. zs ++ f y ∷ map f (drop i xs)) (sym (take-map f i xs)) ∙ ap (λ zs. take i (map f xs) ++ f y ∷ zs) (sym (drop-map f i xs))

pub map-remove : {X Y : Type 0} (f : X → Y) (xs : List X) (i : ℕ) → map f (remove xs i) ≡ remove (map f xs) i
map-remove f xs i =
    map-append f (take i xs) (drop (suc i) xs)
    ∙ ap (λ zs. zs ++ map f (drop (suc i) xs)) (sym (take-map f i xs)) ∙ ap (λ zs. take i (map f xs) ++ zs) (sym (drop-map f (suc i) xs))

pub times-insert : (a : ℕ) (xs : List ℕ) (i y : ℕ) → times a (insert xs i y) ≡ times a xs + hit a y
times-insert a xs i y =
    omega (arith, times-append a (take i xs) (y ∷ drop i xs), times-append a (take i xs) (drop i xs), ap (times a) (take-append-drop i xs))

pub times-remove : (a : ℕ) (xs : List ℕ) (i : ℕ) → i < length xs → times a (remove xs i) + hit a (get_or xs i 0) ≡ times a xs
times-remove a [] i h = absurd (omega arith)
times-remove a (x ∷ xs) zero h = omega arith
times-remove a (x ∷ xs) (suc i) h = omega (arith, times-remove a xs i (omega arith))

-- the names of the files of slots
pub names-files : (names bytes : List (List ℕ)) (used : List ℕ) → names_of (files_in names bytes used) ≡ map (name_in names) used
names-files names bytes [] = refl
names-files names bytes (s ∷ used) = ap (λ ns. name_in names s ∷ ns) (names-files names bytes used)

pub get_or-files : (names bytes : List (List ℕ)) (used : List ℕ) (i : ℕ) (d : File) → i < length used
    → get_or (files_in names bytes used) i d ≡ file_in names bytes (get_or used i 0)
get_or-files names bytes used i d h = get_or-map (file_in names bytes) used i 0 d h

pub length-files : (names bytes : List (List ℕ)) (used : List ℕ) → length (files_in names bytes used) ≡ length used
length-files names bytes used = length-map used (file_in names bytes)

-- a slot's bytes change: so do those of its file
pub files-bytes : (names bytes : List (List ℕ)) (used : List ℕ) (i : ℕ) (x : List ℕ) → ((s : ℕ) → times s used ≤ 1) → i < length used
    → get_or used i 0 < length bytes
    → files_in names (set bytes (get_or used i 0) x) used ≡ set (files_in names bytes used) i (file (name_in names (get_or used i 0)) x)
files-bytes names bytes used i x once h inside =
    let s = get_or used i 0 in
    let d : File = file [] [] in
    let new = files_in names (set bytes s x) used in
    let changed = set (files_in names bytes used) i (file (name_in names s) x) in
    let ln = length-files names (set bytes s x) used in
    let lo = length-files names bytes used in
    ext_get_or d new changed (omega (arith, ln, lo, length-set (files_in names bytes used) i (file (name_in names s) x))) (λ k l.
    let lt : k < length used = omega (arith, l, ln) in
    get_or-files names (set bytes s x) used k d lt
    ∙ elim (cases_eq k i) [
      | inl e ↦ (
          ap (λ j. file_in names (set bytes s x) (get_or used j 0)) e
          ∙ ap (file (name_in names s)) (get_or-set_same bytes s x [] inside)
          ∙ sym (ap (λ j. get_or changed j d) e ∙ get_or-set_same (files_in names bytes used) i (file (name_in names s) x) d (omega (arith, h, lo)))
          )
      | inr ne ↦ (
          ap (file (name_in names (get_or used k 0))) (get_or-set_other bytes s (get_or used k 0) x [] (places-differ used k i once lt h ne))
          ∙ sym (get_or-set_other (files_in names bytes used) i k (file (name_in names s) x) d ne ∙ get_or-files names bytes used k d lt)
          )
    ])

-- a slot that is not among these changes
pub not-among : (s : ℕ) (used : List ℕ) (k : ℕ) → times s used ≡ 0 → k < length used → get_or used k 0 ≢ s
not-among s used k none h e = absurd (omega (arith, none, subst (λ z. 0 < times z used) e (times-get_or used k h)))

pub files-other_bytes : (names bytes : List (List ℕ)) (used : List ℕ) (s : ℕ) (x : List ℕ) → times s used ≡ 0
    → files_in names (set bytes s x) used ≡ files_in names bytes used
files-other_bytes names bytes used s x none =
    map-agree (file_in names (set bytes s x)) (file_in names bytes) used
    (λ k h. ap (file (name_in names (get_or used k 0))) (get_or-set_other bytes s (get_or used k 0) x [] (not-among s used k none h)))

pub files-other_name : (names bytes : List (List ℕ)) (used : List ℕ) (s : ℕ) (n : List ℕ) → times s used ≡ 0
    → files_in (set names s n) bytes used ≡ files_in names bytes used
files-other_name names bytes used s n none =
    map-agree (file_in (set names s n) bytes) (file_in names bytes) used
    (λ k h. ap (λ m. file m (get_or bytes (get_or used k 0) [])) (get_or-set_other names s (get_or used k 0) n [] (not-among s used k none h)))

pub names-other : (names : List (List ℕ)) (used : List ℕ) (s : ℕ) (n : List ℕ) → times s used ≡ 0
    → map (name_in (set names s n)) used ≡ map (name_in names) used
names-other names used s n none =
    map-agree (name_in (set names s n)) (name_in names) used
    (λ k h. get_or-set_other names s (get_or used k 0) n [] (not-among s used k none h))

module _ (names : List (List ℕ)) (used unused : List ℕ) where
  -- a slot that is used
  pub used-below : AreSlots names used unused → (i : ℕ) → i < length used → get_or used i 0 < most_files
  used-below h i lt = h.below (get_or used i 0) (omega (arith, times-get_or used i lt))

  pub used-once : AreSlots names used unused → (s : ℕ) → times s used ≤ 1
  used-once h s = omega (arith, h.once s)

  pub used-inside : AreSlots names used unused → (i : ℕ) → i < length used → get_or used i 0 < length names
  used-inside h i lt = omega (arith, used-below h i lt, h.table)

  pub ordered : AreSlots names used unused → (bytes : List (List ℕ)) → AreInOrder (names_of (files_in names bytes used))
  ordered h bytes = subst AreInOrder (sym (names-files names bytes used)) h.in_order

  -- two used slots with one name are one slot
  pub slots-distinct : AreSlots names used unused → (s t : ℕ) → 0 < times s used → 0 < times t used → name_in names s ≡ name_in names t → s ≡ t
  slots-distinct h s t is other same = on (place-times s used is) (place-times t used other)
    where
      on : (i : ℕ) × (i < length used) × (get_or used i 0 ≡ s) → (j : ℕ) × (j < length used) × (get_or used j 0 ≡ t) → s ≡ t
      on (i, hi, ei) (j, hj, ej) =
          let ni : get_or (map (name_in names) used) i [] ≡ name_in names s = get_or-map (name_in names) used i 0 [] hi ∙ ap (name_in names) ei in
          let nj : get_or (map (name_in names) used) j [] ≡ name_in names t = get_or-map (name_in names) used j 0 [] hj ∙ ap (name_in names) ej in
          let e : i ≡ j = order-distinct (map (name_in names) used) i j h.in_order (omega (arith, hi, length-map used (name_in names)))
          (omega (arith, hj, length-map used (name_in names))) (ni ∙ same ∙ sym nj) in
          sym ei ∙ ap (λ k. get_or used k 0) e ∙ ej

  -- the name's slot is used
  pub at-times : (name : List ℕ) (i : ℕ) → IsAt names used name i → 0 < times (get_or used i 0) used
  at-times name i at = times-get_or used i at.within

module _ (names bytes : List (List ℕ)) (used unused : List ℕ) (d : Disc) where
  -- the disc has these files
  pub record HasFiles : Type 0 where
    pub slots : AreSlots names used unused
    pub files : d.files ≡ files_in names bytes used

  pub has_file-at : HasFiles → (name : List ℕ) (i : ℕ) → IsAt names used name i → has_file d name ≡ true
  has_file-at h name i at =
      let e = file [] [] in
      ap (list_any (has_name name)) h.files
      ∙ any-name name e (files_in names bytes used) i (omega (arith, at.within, length-files names bytes used))
      (ap (λ f. f.name) (get_or-files names bytes used i e at.within) ∙ at.is)

  pub file_named-at : HasFiles → (name : List ℕ) (i : ℕ) → IsAt names used name i → file_named d name ≡ Some (file_in names bytes (get_or used i 0))
  file_named-at h name i at =
      let e = file [] [] in
      ap (find (has_name name)) h.files
      ∙ find-name name e (files_in names bytes used) i (ordered names used unused h.slots bytes) (omega (arith, at.within, length-files names bytes used))
      (ap (λ f. f.name) (get_or-files names bytes used i e at.within) ∙ at.is)
      ∙ ap Some (get_or-files names bytes used i e at.within)

  pub bytes_of-at : HasFiles → (name : List ℕ) (i : ℕ) → IsAt names used name i → bytes_of d name ≡ get_or bytes (get_or used i 0) []
  bytes_of-at h name i at = ap (λ o. unwrap_or (option_map (λ f. f.bytes) o) []) (file_named-at h name i at)

  no-name : (name : List ℕ) (i : ℕ) → HasPlace names used name i → (k : ℕ) → k < length (files_in names bytes used)
      → (get_or (files_in names bytes used) k (file [] [])).name ≢ name
  no-name name i place k h same =
      let lt : k < length used = omega (arith, h, length-files names bytes used) in
      let e : name_in names (get_or used k 0) ≡ name = sym (ap (λ f. f.name) (get_or-files names bytes used k (file [] []) lt)) ∙ same in
      elim (cases_lt k i) [
        | inl low ↦ is_before-differ (name_in names (get_or used k 0)) name (place.before k low) e
        | inr high ↦ is_before-differ name (name_in names (get_or used k 0)) (place.after k high lt) (sym e)
      ]

  pub has_file-none : HasFiles → (name : List ℕ) (i : ℕ) → HasPlace names used name i → has_file d name ≡ false
  has_file-none h name i place =
      ap (list_any (has_name name)) h.files ∙ any-no_name name (file [] []) (files_in names bytes used) (no-name name i place)

  pub file_named-none : HasFiles → (name : List ℕ) (i : ℕ) → HasPlace names used name i → file_named d name ≡ None
  file_named-none h name i place =
      ap (find (has_name name)) h.files ∙ find-no_name name (file [] []) (files_in names bytes used) (no-name name i place)

-- one slot more
pub range-more : (n : ℕ) → range_with_len 0 (n + 1) ≡ range_with_len 0 n ++ n ∷ []
range-more n =
    sym (map-id (range_with_len 0 (n + 1))) ∙ map-range_with_len_more (λ x. x) 0 n n (omega arith) ∙ ap (λ xs. xs ++ n ∷ []) (map-id (range_with_len 0 n))
