-- Files that come, go and change their names on a disc.
use Rattle.std.proofs.Common.{◌≡◌, ℕ, ◌+◌, ◌<◌, List, [], ◌∷◌, ◌++◌, length, map, get_or, set, false, Option, refl, sym, ap, ◌∙◌, subst, arith, inl, inr}
use Rattle.std.specs.List.{insert, list_any, remove, sum_by}
use Rattle.std.proofs.lemmas.Bool.{cases_eq}
use Rattle.std.proofs.lemmas.List.{get_or-map, get_or-set_other, get_or-set_same, length-append, length-map, length-set}
use Rattle.std.proofs.lemmas.List.Edits.{length-insert, length-remove}
use Rattle.std.proofs.lemmas.List.Sums.{sum_by-insert, sum_by-remove}
use Rattle.word_store.specs.Count.{hit, times}
use Rattle.word_store.proofs.Counts.{hit-other, hit-same, times-append}
use Rattle.ram_disc.specs.Contents.{Area, Empties, bytes_at}
use Rattle.ram_disc.specs.Disc.{AreInOrder, File, is_before, sectors_of}
use Rattle.ram_disc.specs.DiscCalls.{file}
use Rattle.ram_disc.specs.Name.{IsName}
use Rattle.ram_disc.specs.Slots.{AreKept, HasPlace, file_in, files_in, is_on_slot, name_in}
use Rattle.ram_disc.specs.declared.places.Place.{Place}
use Rattle.ram_disc.proofs.KeptStreams.{place-other, place-still-valid}
use Rattle.ram_disc.proofs.NameOrder.{order-insert, order-remove}
use Rattle.ram_disc.proofs.SlotLemmas.{files-other_bytes, files-other_name, get_or-files, length-files, map-insert, map-remove, names-other, times-insert, times-remove, used-below, used-inside}

-- names stay in order where one comes in at its place
pub order-place : (names : List (List ℕ)) (used : List ℕ) (name : List ℕ) (i : ℕ) → AreInOrder (map (name_in names) used) → HasPlace names used name i
    → AreInOrder (insert (map (name_in names) used) i name)
order-place names used name i order place =
    let at : (k : ℕ) → k < length (map (name_in names) used) → get_or (map (name_in names) used) k [] ≡ name_in names (get_or used k 0) =
    λ k h. get_or-map (name_in names) used k 0 [] (omega (arith, h, length-map used (name_in names))) in
    order-insert (map (name_in names) used) i name order
    (λ k low h. ap (λ n. is_before n name) (at k h) ∙ place.before k low)
    (λ k high h. ap (is_before name) (at k h) ∙ place.after k high (omega (arith, h, length-map used (name_in names))))

module _ (names : List (List ℕ)) (a : Area) (used unused : List ℕ) (ps : List (Option Place)) where
  -- a new file, of no bytes, in a slot that was not used
  pub keep-new : (rest : List ℕ) (s i : ℕ) (name : List ℕ) → AreKept names a used unused ps → unused ≡ rest ++ s ∷ [] → HasPlace names used name i → IsName name
      → AreKept (set names s name) a (insert used i s) rest ps
  keep-new rest s i name h split place lawful =
      let counts : (t : ℕ) → times t unused ≡ times t rest + hit t s = λ t. ap (times t) split ∙ times-append t rest (s ∷ []) ∙ omega arith in
      let free : times s used ≡ 0 = omega (arith, h.slots.once s, counts s, hit-same s s refl) in
      let inside : s < length names = omega (arith, h.slots.table, h.slots.below s (omega (arith, counts s, hit-same s s refl))) in
      let size : File → ℕ = λ f. sectors_of (length f.bytes) in
      let now = set names s name in
      let files : files_in now a.bytes (insert used i s) ≡ insert (files_in names a.bytes used) i (file_in now a.bytes s) =
      map-insert (file_in now a.bytes) used i s ∙ ap (λ fs. insert fs i (file_in now a.bytes s)) (files-other_name names a.bytes used s name free) in
      let nil : bytes_at a s ≡ [] = h.filled.empty s (omega (arith, counts s, hit-same s s refl)) in
      let same : name_in now s ≡ name = get_or-set_same names s name [] inside in
      record {
        slots = record {
          once = λ t. omega (arith, h.slots.once t, times-insert t used i s, counts t);
          below = λ t some. h.slots.below t (omega (arith, some, times-insert t used i s, counts t));
          all = omega (arith, h.slots.all, length-insert used i s place.within, ap length split, length-append rest (s ∷ []));
          table = length-set names s name ∙ h.slots.table;
          in_order = subst AreInOrder
              (sym (map-insert (name_in now) used i s ∙ ap (λ ns. insert ns i (name_in now s)) (names-other names used s name free)
              ∙ ap (insert (map (name_in names) used) i) same))
              (order-place names used name i h.slots.in_order place);
          lawful = λ t some. elim (cases_eq t s) [
            | inl e ↦ subst IsName (sym (ap (name_in now) e ∙ same)) lawful
            | inr ne ↦ subst IsName (sym (get_or-set_other names s t name [] ne))
                (h.slots.lawful t (omega (arith, some, times-insert t used i s, hit-other t s ne)))
          ];
        };
        filled = record {
          table = h.filled.table;
          empty = λ t some. h.filled.empty t (omega (arith, some, counts t));
          room = omega (arith, h.filled.room, ap (sum_by size) files, sum_by-insert size (files_in names a.bytes used) i (file_in now a.bytes s), ap (λ xs. sectors_of (length xs)) nil);
        };
        numbers = h.numbers;
        streams = λ k p e. let was = h.streams k p e in
            place-still-valid a a used (insert used i s) ps k p was (omega (arith, was.is_there, times-insert p.slot used i s)) refl refl;
      }

  -- a file that no stream is on goes
  pub keep-delete : (b : Area) (i : ℕ) → AreKept names a used unused ps → i < length used → list_any (is_on_slot (get_or used i 0)) ps ≡ false
      → Empties a b (get_or used i 0) → AreKept names b (remove used i) (unused ++ get_or used i 0 ∷ []) ps
  keep-delete b i h lt none e =
      let s = get_or used i 0 in
      let size : File → ℕ = λ f. sectors_of (length f.bytes) in
      let counts : (t : ℕ) → times t (unused ++ s ∷ []) ≡ times t unused + hit t s = λ t. times-append t unused (s ∷ []) ∙ omega arith in
      let gone : times s (remove used i) ≡ 0 = omega (arith, times-remove s used i lt, h.slots.once s, hit-same s s refl) in
      let inside : s < length a.bytes = omega (arith, used-below names used unused h.slots i lt, h.filled.table) in
      let files : files_in names b.bytes (remove used i) ≡ remove (files_in names a.bytes used) i =
      ap (λ bs. files_in names bs (remove used i)) e.bytes ∙ files-other_bytes names a.bytes (remove used i) s [] gone ∙ map-remove (file_in names a.bytes) used i in
      record {
        slots = record {
          once = λ t. omega (arith, h.slots.once t, times-remove t used i lt, counts t);
          below = λ t some. h.slots.below t (omega (arith, some, times-remove t used i lt, counts t));
          all = omega (arith, h.slots.all, length-remove used i lt, length-append unused (s ∷ []));
          table = h.slots.table;
          in_order = subst AreInOrder (sym (map-remove (name_in names) used i)) (order-remove (map (name_in names) used) i h.slots.in_order);
          lawful = λ t some. h.slots.lawful t (omega (arith, some, times-remove t used i lt));
        };
        filled = record {
          table = ap length e.bytes ∙ length-set a.bytes s [] ∙ h.filled.table;
          empty = λ t some. ap (λ bs. get_or bs t []) e.bytes ∙ elim (cases_eq t s) [
            | inl same ↦ ap (λ j. get_or (set a.bytes s []) j []) same ∙ get_or-set_same a.bytes s [] [] inside
            | inr ne ↦ get_or-set_other a.bytes s t [] [] ne ∙ h.filled.empty t (omega (arith, some, counts t, hit-other t s ne))
          ];
          room = omega (
            arith,
            h.filled.room,
            e.left,
            ap (sum_by size) files,
            sum_by-remove size (files_in names a.bytes used) i (file [] []) (omega (arith, lt, length-files names a.bytes used)),
            ap size (get_or-files names a.bytes used i (file [] []) lt),
          );
        };
        numbers = h.numbers;
        streams = λ k p at.
            let other = place-other ps s k p none at in
            let was = h.streams k p at in
            place-still-valid a b used (remove used i) ps k p was (omega (arith, was.is_there, times-remove p.slot used i lt, hit-other p.slot s other))
            (ap (λ bs. get_or bs p.slot []) e.bytes ∙ get_or-set_other a.bytes s p.slot [] [] other)
            (e.others p.slot other);
      }

  -- a file has another name
  pub keep-rename : (i j : ℕ) (name : List ℕ) → AreKept names a used unused ps → i < length used → HasPlace names (remove used i) name j → IsName name
      → AreKept (set names (get_or used i 0) name) a (insert (remove used i) j (get_or used i 0)) unused ps
  keep-rename i j name h lt place lawful =
      let s = get_or used i 0 in
      let size : File → ℕ = λ f. sectors_of (length f.bytes) in
      let now = set names s name in
      let rest = remove used i in
      let again : (t : ℕ) → times t (insert rest j s) ≡ times t used = λ t. omega (arith, times-insert t rest j s, times-remove t used i lt) in
      let gone : times s rest ≡ 0 = omega (arith, times-remove s used i lt, h.slots.once s, hit-same s s refl) in
      let inside : s < length names = used-inside names used unused h.slots i lt in
      let same : name_in now s ≡ name = get_or-set_same names s name [] inside in
      let files : files_in now a.bytes (insert rest j s) ≡ insert (remove (files_in names a.bytes used) i) j (file_in now a.bytes s) =
      map-insert (file_in now a.bytes) rest j s
      ∙ ap (λ fs. insert fs j (file_in now a.bytes s)) (files-other_name names a.bytes rest s name gone ∙ map-remove (file_in names a.bytes) used i) in
      record {
        slots = record {
          once = λ t. omega (arith, h.slots.once t, again t);
          below = λ t some. h.slots.below t (omega (arith, some, again t));
          all = omega (arith, h.slots.all, length-insert rest j s place.within, length-remove used i lt);
          table = length-set names s name ∙ h.slots.table;
          in_order = subst AreInOrder
              (sym (map-insert (name_in now) rest j s ∙ ap (λ ns. insert ns j (name_in now s)) (names-other names rest s name gone)
              ∙ ap (insert (map (name_in names) rest) j) same))
              (order-place names rest name j
              (subst AreInOrder (sym (map-remove (name_in names) used i)) (order-remove (map (name_in names) used) i h.slots.in_order)) place);
          lawful = λ t some. elim (cases_eq t s) [
            | inl e ↦ subst IsName (sym (ap (name_in now) e ∙ same)) lawful
            | inr ne ↦ subst IsName (sym (get_or-set_other names s t name [] ne)) (h.slots.lawful t (omega (arith, some, again t)))
          ];
        };
        filled = record {
          table = h.filled.table;
          empty = h.filled.empty;
          room = omega (
            arith,
            h.filled.room,
            ap (sum_by size) files,
            sum_by-insert size (remove (files_in names a.bytes used) i) j (file_in now a.bytes s),
            sum_by-remove size (files_in names a.bytes used) i (file [] []) (omega (arith, lt, length-files names a.bytes used)),
            ap size (get_or-files names a.bytes used i (file [] []) lt),
          );
        };
        numbers = h.numbers;
        streams = λ k p e. let was = h.streams k p e in
            place-still-valid a a used (insert rest j s) ps k p was (omega (arith, was.is_there, again p.slot)) refl refl;
      }
