-- Streams that come, go and move on a disc.
use Rattle.std.proofs.Common.{◌≡◌, ◌≢◌, ℕ, ◌+◌, ◌/◌, ◌<◌, ◌≤◌, List, [], ◌++◌, length, get_or, set, true, false, Option, Some, None, sym, ap, ◌∙◌, subst, arith, inl, inr}
use Rattle.std.specs.List.{list_any, sum_by}
use Rattle.std.proofs.lemmas.Bool.{cases_eq, cases_lt, eqb-false, true≢false}
use Rattle.std.proofs.lemmas.List.{get_or-set_other, get_or-set_same, get_or_past, length-append, length-set}
use Rattle.std.proofs.lemmas.List.Sums.{sum_by-set}
use Rattle.word_store.specs.Count.{times}
use Rattle.ram_disc.specs.Contents.{Adds, Area, Empties, bytes_at, chain_at}
use Rattle.ram_disc.specs.Disc.{File, most_streams, sectors_of, shell_stream}
use Rattle.ram_disc.specs.DiscCalls.{file}
use Rattle.ram_disc.specs.Slots.{AreFilled, AreKept, IsValidPlace, files_in, is_on_slot, name_in}
use Rattle.ram_disc.specs.declared.places.Place.{Place}
use Rattle.ram_disc.proofs.SlotLemmas.{files-bytes, get_or-files, length-files, used-below, used-once}
use Rattle.ram_disc.proofs.StreamLemmas.{any-none}
use Rattle.ram_disc.proofs.ChainLemmas.{times-get_or}

pub some-same : (p q : Place) → Some p ≡ Some q → p ≡ q
some-same p q e = cc

pub none-some : (p : Place) → None ≡ Some p → ⊥
none-some p e = cc

-- a stream is at a number of the disc
pub place-inside : (ps : List (Option Place)) (k : ℕ) (p : Place) → get_or ps k None ≡ Some p → k < length ps
place-inside ps k p e = elim (cases_lt k (length ps)) [ inl h ↦ h | inr past ↦ absurd (none-some p (sym (get_or_past ps k None past) ∙ e)) ]

-- no stream is on the slot
pub place-other : (ps : List (Option Place)) (s k : ℕ) (p : Place) → list_any (is_on_slot s) ps ≡ false → get_or ps k None ≡ Some p → p.slot ≢ s
place-other ps s k p none e =
    eqb-false p.slot s (ap (is_on_slot s) (sym e) ∙ any-none (is_on_slot s) ps none k (place-inside ps k p e))

-- what a stream needs to come in as stream k
pub record Comes (a : Area) (used : List ℕ) (ps : List (Option Place)) (k : ℕ) (p : Place) : Type 0 where
  pub is_there : 0 < times p.slot used
  pub within : p.position ≤ length (bytes_at a p.slot)
  pub at_end : p.writes ≡ true → p.position ≡ length (bytes_at a p.slot)
  pub alone : p.writes ≡ true → (j : ℕ) (q : Place) → get_or ps j None ≡ Some q → q.slot ≡ p.slot → j ≡ k
  pub others : (j : ℕ) (q : Place) → get_or ps j None ≡ Some q → q.writes ≡ true → q.slot ≡ p.slot → j ≡ k
  pub shell_reads : k + 1 ≡ shell_stream → p.writes ≡ false
  pub sector : p.position < length (bytes_at a p.slot) → p.sector ≡ get_or (chain_at a p.slot) (p.position / 512) 0

-- a stream is as before, where its slot's bytes and sectors are as before
pub place-still-valid : (a b : Area) (used other : List ℕ) (ps : List (Option Place)) (k : ℕ) (p : Place) → IsValidPlace a used ps k p → 0 < times p.slot other
    → bytes_at b p.slot ≡ bytes_at a p.slot → chain_at b p.slot ≡ chain_at a p.slot → IsValidPlace b other ps k p
place-still-valid a b used other ps k p h is bytes chain = record {
  is_there = is;
  within = omega (arith, h.within, ap length bytes);
  at_end = λ w. h.at_end w ∙ ap length (sym bytes);
  alone = h.alone;
  shell_reads = h.shell_reads;
  sector = λ lt. h.sector (omega (arith, lt, ap length bytes)) ∙ ap (λ xs. get_or xs (p.position / 512) 0) (sym chain);
}

module _ (names : List (List ℕ)) (a : Area) (used unused : List ℕ) (ps : List (Option Place)) where
  -- a stream comes in, or moves
  pub keep-stream : (k : ℕ) (p : Place) → AreKept names a used unused ps → k < most_streams → Comes a used ps k p
      → AreKept names a used unused (set ps k (Some p))
  keep-stream k p h lt c =
      let new = set ps k (Some p) in
      let room : k < length ps = omega (arith, lt, h.numbers) in
      record {
        slots = h.slots;
        filled = h.filled;
        numbers = length-set ps k (Some p) ∙ h.numbers;
        streams = λ j q e. elim (cases_eq j k) [
          | inl same ↦ (
              let here : get_or new j None ≡ Some p = ap (λ i. get_or new i None) same ∙ get_or-set_same ps k (Some p) None room in
              let P : Place → Type 0 = λ r. IsValidPlace a used new j r in
              subst P (some-same p q (sym here ∙ e)) (record {
                is_there = c.is_there;
                within = c.within;
                at_end = c.at_end;
                alone = λ w i o f slot. elim (cases_eq i k) [
                  | inl t ↦ t ∙ sym same
                  | inr ne ↦ c.alone w i o (sym (get_or-set_other ps k i (Some p) None ne) ∙ f) slot ∙ sym same
                ];
                shell_reads = λ t. c.shell_reads (omega (arith, t, same));
                sector = c.sector;
              })
              )
          | inr ne ↦ (
              let there : get_or ps j None ≡ Some q = sym (get_or-set_other ps k j (Some p) None ne) ∙ e in
              let was = h.streams j q there in
              record {
                is_there = was.is_there;
                within = was.within;
                at_end = was.at_end;
                alone = λ w i o f slot. elim (cases_eq i k) [
                  | inl t ↦ (
                      let here : get_or new i None ≡ Some p = ap (λ x. get_or new x None) t ∙ get_or-set_same ps k (Some p) None room in
                      let is : p ≡ o = some-same p o (sym here ∙ f) in
                      absurd (ne (c.others j q there w (sym (ap (λ r. r.slot) is ∙ slot)))))
                  | inr other ↦ was.alone w i o (sym (get_or-set_other ps k i (Some p) None other) ∙ f) slot
                ];
                shell_reads = was.shell_reads;
                sector = was.sector;
              }
              )
        ];
      }

  -- a stream goes
  pub keep-none : (k : ℕ) → AreKept names a used unused ps → k < most_streams → AreKept names a used unused (set ps k None)
  keep-none k h lt =
      let new = set ps k None in
      let room : k < length ps = omega (arith, lt, h.numbers) in
      let gone : (j : ℕ) → j ≡ k → get_or new j None ≡ None = λ j same. ap (λ i. get_or new i None) same ∙ get_or-set_same ps k None None room in
      record {
        slots = h.slots;
        filled = h.filled;
        numbers = length-set ps k None ∙ h.numbers;
        streams = λ j q e. elim (cases_eq j k) [
          | inl same ↦ absurd (none-some q (sym (gone j same) ∙ e))
          | inr ne ↦ (
              let was = h.streams j q (sym (get_or-set_other ps k j None None ne) ∙ e) in
              record {
                is_there = was.is_there;
                within = was.within;
                at_end = was.at_end;
                alone = λ w i o f slot. elim (cases_eq i k) [
                  | inl t ↦ absurd (none-some o (sym (gone i t) ∙ f))
                  | inr other ↦ was.alone w i o (sym (get_or-set_other ps k i None None other) ∙ f) slot
                ];
                shell_reads = was.shell_reads;
                sector = was.sector;
              }
              )
        ];
      }

  -- a slot that is used is none of the others
  pub unused-other : AreKept names a used unused ps → (i t : ℕ) → i < length used → 0 < times t unused → t ≢ get_or used i 0
  unused-other h i t lt some e =
      absurd (omega (arith, h.slots.once (get_or used i 0), times-get_or used i lt, subst (λ z. 0 < times z unused) e some))

  -- a slot's bytes and sectors change, and no other slot's do
  pub filled-change : (b : Area) (i : ℕ) (x : List ℕ) → AreKept names a used unused ps → i < length used → b.bytes ≡ set a.bytes (get_or used i 0) x
      → b.left + sectors_of (length x) ≡ a.left + sectors_of (length (bytes_at a (get_or used i 0))) → AreFilled names b used unused
  filled-change b i x h lt bytes left =
      let s = get_or used i 0 in
      let inside : s < length a.bytes = omega (arith, used-below names used unused h.slots i lt, h.filled.table) in
      let size : File → ℕ = λ f. sectors_of (length f.bytes) in
      let old = files_in names a.bytes used in
      let files : files_in names b.bytes used ≡ set old i (file (name_in names s) x) =
      ap (λ bs. files_in names bs used) bytes ∙ files-bytes names a.bytes used i x (used-once names used unused h.slots) lt inside in
      let was = get_or-files names a.bytes used i (file [] []) lt in
      record {
        table = ap length bytes ∙ length-set a.bytes s x ∙ h.filled.table;
        empty = λ t some. ap (λ bs. get_or bs t []) bytes ∙ get_or-set_other a.bytes s t x [] (unused-other h i t lt some) ∙ h.filled.empty t some;
        room = omega (
          arith,
          h.filled.room,
          left,
          ap (sum_by size) files,
          sum_by-set size old i (file (name_in names s) x) (file [] []) (omega (arith, lt, length-files names a.bytes used)),
          ap size was,
        );
      }

  -- a slot that no stream is on is emptied
  pub keep-clear : (b : Area) (i : ℕ) → AreKept names a used unused ps → i < length used → list_any (is_on_slot (get_or used i 0)) ps ≡ false
      → Empties a b (get_or used i 0) → AreKept names b used unused ps
  keep-clear b i h lt none e = record {
    slots = h.slots;
    filled = filled-change b i [] h lt e.bytes (omega (arith, e.left));
    numbers = h.numbers;
    streams = λ k p at.
        let other = place-other ps (get_or used i 0) k p none at in
        place-still-valid a b used used ps k p (h.streams k p at) (h.streams k p at).is_there
        (ap (λ bs. get_or bs p.slot []) e.bytes ∙ get_or-set_other a.bytes (get_or used i 0) p.slot [] [] other)
        (e.others p.slot other);
  }

  -- bytes come behind those of a slot, and the stream that writes it is behind them
  pub keep-append : (b : Area) (i k : ℕ) (p q : Place) (more : List ℕ) → AreKept names a used unused ps → i < length used → get_or ps k None ≡ Some p
      → p.writes ≡ true → get_or used i 0 ≡ p.slot → Adds a b (get_or used i 0) more
      → q.slot ≡ p.slot → q.writes ≡ true → q.position ≡ p.position + length more
      → AreKept names b used unused (set ps k (Some q))
  keep-append b i k p q more h lt at writes slot adds same_slot same_mode moved =
      let s = get_or used i 0 in
      let new = set ps k (Some q) in
      let room = place-inside ps k p at in
      let was = h.streams k p at in
      let inside : s < length a.bytes = omega (arith, used-below names used unused h.slots i lt, h.filled.table) in
      let here : bytes_at b s ≡ bytes_at a s ++ more = ap (λ bs. get_or bs s []) adds.bytes ∙ get_or-set_same a.bytes s (bytes_at a s ++ more) [] inside in
      let size : length (bytes_at b q.slot) ≡ length (bytes_at a p.slot) + length more =
      ap (λ t. length (bytes_at b t)) (same_slot ∙ sym slot) ∙ ap length here ∙ length-append (bytes_at a s) more
      ∙ ap (λ t. length (bytes_at a t) + length more) slot in
      let end : q.position ≡ length (bytes_at b q.slot) = omega (arith, moved, was.at_end writes, size) in
      record {
        slots = h.slots;
        filled = filled-change b i (bytes_at a s ++ more) h lt adds.bytes (omega (arith, adds.left, length-append (bytes_at a s) more));
        numbers = length-set ps k (Some q) ∙ h.numbers;
        streams = λ j r e. elim (cases_eq j k) [
          | inl same ↦ (
              let is : get_or new j None ≡ Some q = ap (λ x. get_or new x None) same ∙ get_or-set_same ps k (Some q) None room in
              let Q : Place → Type 0 = λ o. IsValidPlace b used new j o in
              subst Q (some-same q r (sym is ∙ e)) (record {
                is_there = subst (λ t. 0 < times t used) (sym same_slot) was.is_there;
                within = omega (arith, end);
                at_end = λ w. end;
                alone = λ w x o f other. elim (cases_eq x k) [
                  | inl t ↦ t ∙ sym same
                  | inr ne ↦ was.alone writes x o (sym (get_or-set_other ps k x (Some q) None ne) ∙ f) (other ∙ same_slot) ∙ sym same
                ];
                shell_reads = λ t. absurd (true≢false (sym writes ∙ was.shell_reads (omega (arith, t, same))));
                sector = λ less. absurd (omega (arith, less, end));
              })
              )
          | inr ne ↦ (
              let there : get_or ps j None ≡ Some r = sym (get_or-set_other ps k j (Some q) None ne) ∙ e in
              let old = h.streams j r there in
              let apart : r.slot ≢ s = λ t. ne (was.alone writes j r there (t ∙ slot)) in
              let still = place-still-valid a b used used ps j r old old.is_there
              (ap (λ bs. get_or bs r.slot []) adds.bytes ∙ get_or-set_other a.bytes s r.slot (bytes_at a s ++ more) [] apart)
              (adds.others r.slot apart) in
              record {
                is_there = still.is_there;
                within = still.within;
                at_end = still.at_end;
                alone = λ w x o f other. elim (cases_eq x k) [
                  | inl t ↦ (
                      let is : get_or new x None ≡ Some q = ap (λ y. get_or new y None) t ∙ get_or-set_same ps k (Some q) None room in
                      absurd (apart (sym other ∙ sym (ap (λ y. y.slot) (some-same q o (sym is ∙ f))) ∙ same_slot ∙ sym slot))
                      )
                  | inr third ↦ still.alone w x o (sym (get_or-set_other ps k x (Some q) None third) ∙ f) other
                ];
                shell_reads = still.shell_reads;
                sector = still.sector;
              }
              )
        ];
      }
