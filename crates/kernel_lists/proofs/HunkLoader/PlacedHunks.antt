-- Hunks that are put into a store one by one.
use Rattle.std.proofs.Common.{◌≡◌, ◌≢◌, ◌∙◌, ℕ, suc, ◌<◌, ◌≤◌, ◌+◌, Some, List, [], ◌∷◌, ◌++◌, length, set, refl, sym, ap, subst, arith, append_assoc, length-set, inl}
use Rattle.std.specs.Prelude.{IsSome}
use Rattle.std.specs.List.{AllByRecursion, concat}
use Rattle.std.proofs.lemmas.List.{length-map}
use Rattle.std.proofs.lemmas.List.Sums.{sum_by-cons}
use Rattle.module_text.specs.Places.{next_word}
use Rattle.module_text.specs.ReadingOn.{Reads}
use Rattle.module_text.specs.ModuleForm.{AreHunks, end_word, hunk_type, relocation_items, relocation_type}
use Rattle.module_text.specs.Shapes.{words_in}
use Rattle.module_text.specs.declared.modules.Hunk.{Hunk}
use Rattle.module_text.specs.declared.modules.Module.{Module}
use Rattle.module_text.specs.declared.tokens.NextWord.{NextWord}
use Rattle.module_text.proofs.ReadingOn.{reads_all}
use Rattle.word_store.specs.Row.{with_words}
use Rattle.word_store.proofs.Rows.{length-with_words, with_words-apart, with_words-append, with_words-set_outside}
use Rattle.kernel_lists.specs.HunkLoader.Private.Follow.{AreInside, BeginsOther, FitsAt, HunkFollows, ListsFollow, WordsFollow, places}
use Rattle.kernel_lists.specs.HunkLoader.ModuleRow.{hunks_image, lengths_of}
use Rattle.kernel_lists.specs.HunkLoader.RelocatedWords.{relocated}
use Rattle.kernel_lists.proofs.HunkLoader.CopiedWords.{some_word, was_read}
use Rattle.kernel_lists.proofs.HunkLoader.RelocationLists.{length-relocated, places_inside, relocated-row}

-- ---- one hunk

-- the words after those of the hunk
abbrev pub after_words : (text : List ℕ) (place : ℕ) (h : Hunk) (others : List ℕ) → HunkFollows text place h others → List ℕ
after_words text place h others f = relocation_items f.is.lists ++ others

pub hunk_reads : (text : List ℕ) (place : ℕ) (h : Hunk) (others : List ℕ) (f : HunkFollows text place h others)
    → Reads text place (hunk_type ∷ length h.words ∷ h.words ++ after_words text place h others f)
hunk_reads text place h others f =
    let P : List ℕ → Type 0 = λ ws. Reads text place (ws ++ others) in
    let all : Reads text place (hunk_type ∷ length h.words ∷ (h.words ++ relocation_items f.is.lists) ++ others) = subst P f.is.all f.reads in
    rw (append_assoc h.words (relocation_items f.is.lists) others) at all

pub hunk_some : (text : List ℕ) (place : ℕ) (h : Hunk) (others : List ℕ) → HunkFollows text place h others → IsSome (next_word text place)
hunk_some text place h others f = some_word text place hunk_type (length h.words ∷ h.words ++ after_words text place h others f) (hunk_reads text place h others f)

-- the number of words, after the type
pub hunk_count : (text : List ℕ) (place : ℕ) (h : Hunk) (others : List ℕ) (f : HunkFollows text place h others) (kind : NextWord) → next_word text place ≡ Some kind
    → Reads text kind.end (length h.words ∷ h.words ++ after_words text place h others f)
hunk_count text place h others f kind e = (was_read text place kind hunk_type (length h.words ∷ h.words ++ after_words text place h others f) (hunk_reads text place h others f) e).rest

pub count_some : (text : List ℕ) (place : ℕ) (h : Hunk) (others : List ℕ) → HunkFollows text place h others → (kind : NextWord) → next_word text place ≡ Some kind → IsSome (next_word text kind.end)
count_some text place h others f kind e = some_word text kind.end (length h.words) (h.words ++ after_words text place h others f) (hunk_count text place h others f kind e)

-- and the words after it
pub record CountRead (text : List ℕ) (place : ℕ) (h : Hunk) (others : List ℕ) (f : HunkFollows text place h others) (base after : ℕ) (count : NextWord) : Type 0 where
  pub many : count.word ≡ length h.words
  pub follow : WordsFollow text count.end base after h.words (after_words text place h others f)

pub count_read : (text : List ℕ) (place : ℕ) (h : Hunk) (others : List ℕ) (f : HunkFollows text place h others) (base after : ℕ) (kind count : NextWord) → next_word text place ≡ Some kind → next_word text kind.end ≡ Some count
    → after ≡ base + count.word → CountRead text place h others f base after count
count_read text place h others f base after kind count e n at =
    let k = was_read text kind.end count (length h.words) (h.words ++ after_words text place h others f) (hunk_count text place h others f kind e) n in
    record { many = k.word; follow = record { reads = k.rest; fill = ap (λ (x : ℕ). base + x) (sym k.word) ∙ sym at } }

pub lists_follow : (text : List ℕ) (place : ℕ) (h : Hunk) (others : List ℕ) (f : HunkFollows text place h others) (after : ℕ) → Reads text after (after_words text place h others f) → ListsFollow text after f.is.lists others
lists_follow text place h others f after h' = record { reads = h'; other = f.other }

-- the offsets of its lists are those of words in the store
pub hunk_inside : (text : List ℕ) (place : ℕ) (h : Hunk) (others : List ℕ) (f : HunkFollows text place h others) (base : ℕ) (s t : List ℕ) → base + length h.words ≤ length s → t ≡ with_words s base h.words
    → AreInside t (places base (concat f.is.lists))
hunk_inside text place h others f base s t fits e =
    let size = length-with_words s base h.words in
    let P : List ℕ → Type 0 = λ os. AllByRecursion (λ o. o < length h.words) os in
    let Q : List ℕ → Type 0 = λ x. AreInside x (places base (concat f.is.lists)) in
    subst Q (sym e) (places_inside base (length h.words) (with_words s base h.words) (concat f.is.lists) (subst P f.is.offsets f.is.inside) (omega arith))

-- its words are copied and relocated
pub hunk_placed : (text : List ℕ) (place : ℕ) (h : Hunk) (others : List ℕ) (f : HunkFollows text place h others) (base : ℕ) (s t u : List ℕ) → base + length h.words ≤ length s → t ≡ with_words s base h.words
    → u ≡ relocated base t (places base (concat f.is.lists)) → u ≡ with_words s base (relocated base h.words h.relocations)
hunk_placed text place h others f base s t u fits e d =
    let P : List ℕ → Type 0 = λ os. AllByRecursion (λ o. o < length h.words) os in
    d ∙ ap (λ (x : List ℕ). relocated base x (places base (concat f.is.lists))) e
    ∙ relocated-row base s h.words (concat f.is.lists) (subst P f.is.offsets f.is.inside) fits
    ∙ ap (λ (os : List ℕ). with_words s base (relocated base h.words os)) (sym f.is.offsets)

-- ---- all hunks

-- what is left of the hunks gives the result
pub record HunksLeft (text s : List ℕ) (place at base left : ℕ) (result : List ℕ) : Type 0 where
  pub hunks : List Hunk
  pub words : List ℕ
  pub reads : Reads text place words
  pub are : AreHunks hunks words
  pub many : length hunks ≡ left
  pub room : at + left ≤ base
  pub inside : base + words_in hunks ≤ length s
  pub all : with_words (with_words s base (hunks_image base hunks)) at (lengths_of hunks) ≡ result

no_lists_end : end_word ≢ relocation_type
no_lists_end e = absurd (omega arith)

no_lists_hunk : hunk_type ≢ relocation_type
no_lists_hunk e = absurd (omega arith)

pub begins_other : (hunks : List Hunk) (words : List ℕ) → AreHunks hunks words → BeginsOther words
begins_other [] words h = rw h no_lists_end
begins_other (h ∷ hs) words k = rw (k.2, k.3.all) no_lists_hunk

-- the first hunk, and the words of those after it
pub record HunkFirst (text : List ℕ) (place : ℕ) (hunks : List Hunk) (left : ℕ) : Type 0 where
  pub h : Hunk
  pub hs : List Hunk
  pub others : List ℕ
  pub is : hunks ≡ h ∷ hs
  pub follow : HunkFollows text place h others
  pub are : AreHunks hs others
  pub many : length hs ≡ left

first_by : (text : List ℕ) (place many left : ℕ) (hunks : List Hunk) (words : List ℕ) → Reads text place words → AreHunks hunks words → length hunks ≡ many → many ≡ suc left → HunkFirst text place hunks left
first_by text place many left [] words r a m n = absurd (omega arith)
first_by text place many left (h ∷ hs) words r a m n =
    let P : List ℕ → Type 0 = λ ws. Reads text place ws in
    record {
      h = h;
      hs = hs;
      others = a.1;
      is = refl;
      follow = record { front = a.0; is = a.3; reads = subst P a.2 r; other = begins_other hs a.1 a.4 };
      are = a.4;
      many = omega arith;
    }

pub hunk_first : (text s : List ℕ) (place at base many left : ℕ) (result : List ℕ) (l : HunksLeft text s place at base many result) → many ≡ suc left → HunkFirst text place l.hunks left
hunk_first text s place at base many left result l n = first_by text place many left l.hunks l.words l.reads l.are l.many n

pub words_in-cons : (h : Hunk) (hs : List Hunk) → words_in (h ∷ hs) ≡ length h.words + words_in hs
words_in-cons h hs = sum_by-cons (λ (x : Hunk). length x.words) h hs

-- the first hunk is inside
pub first_inside : (text s : List ℕ) (place at base many left : ℕ) (result : List ℕ) (l : HunksLeft text s place at base many result) (f : HunkFirst text place l.hunks left) → base + (length f.h.words + words_in f.hs) ≤ length s
first_inside text s place at base many left result l f =
    let P : List Hunk → Type 0 = λ hs. base + words_in hs ≤ length s in
    let all = subst P f.is l.inside in
    omega (arith, words_in-cons f.h f.hs, all)

more_all : (s : List ℕ) (at base : ℕ) (h : Hunk) (hs : List Hunk) → at < base
    → with_words (with_words s base (hunks_image base (h ∷ hs))) at (lengths_of (h ∷ hs))
    ≡ with_words (with_words (set (with_words s base (relocated base h.words h.relocations)) at (length h.words)) (base + length h.words) (hunks_image (base + length h.words) hs)) (at + 1) (lengths_of hs)
more_all s at base h hs lt =
    let n = length h.words in
    let image = relocated base h.words h.relocations in
    let size : length image ≡ n = length-relocated base h.words h.relocations in
    let t = with_words s base image in
    let next = hunks_image (base + n) hs in
    let split : with_words s base (image ++ next) ≡ with_words t (base + n) next = with_words-append s base image next ∙ ap (λ (x : ℕ). with_words t (base + x) next) size in
    let out : set (with_words t (base + n) next) at n ≡ with_words (set t at n) (base + n) next = sym (with_words-set_outside t (base + n) next at n (inl (omega arith))) in
    ap (λ (x : List ℕ). with_words (set x at n) (at + 1) (lengths_of hs)) split ∙ ap (λ (x : List ℕ). with_words x (at + 1) (lengths_of hs)) out

-- the hunks that are left after the first
pub hunks_more : (text s t : List ℕ) (place at base many left end : ℕ) (result : List ℕ) (l : HunksLeft text s place at base many result) (f : HunkFirst text place l.hunks left) → many ≡ suc left
    → t ≡ with_words s base (relocated base f.h.words f.h.relocations) → Reads text end f.others
    → HunksLeft text (set t at (length f.h.words)) end (at + 1) (base + length f.h.words) left result
hunks_more text s t place at base many left end result l f n e r =
    let h = f.h in
    let u = with_words s base (relocated base h.words h.relocations) in
    let inside = first_inside text s place at base many left result l f in
    let size = ap length e ∙ length-with_words s base (relocated base h.words h.relocations) in
    let room = l.room in
    let P : List Hunk → Type 0 = λ hs. with_words (with_words s base (hunks_image base hs)) at (lengths_of hs) ≡ result in
    let next = with_words (with_words (set u at (length h.words)) (base + length h.words) (hunks_image (base + length h.words) f.hs)) (at + 1) (lengths_of f.hs) in
    record {
      hunks = f.hs;
      words = f.others;
      reads = r;
      are = f.are;
      many = f.many;
      room = omega arith;
      inside = omega (arith, size, length-set t at (length h.words));
      all =
          ap (λ (x : List ℕ). with_words (with_words (set x at (length h.words)) (base + length h.words) (hunks_image (base + length h.words) f.hs)) (at + 1) (lengths_of f.hs)) e
          ∙ sym (more_all s at base h f.hs (omega arith)) ∙ subst P f.is l.all;
    }

-- the same, by the numbers that the calls gave
pub hunks_then : (text s t u : List ℕ) (place at at' next base base' n many left end : ℕ) (result : List ℕ) (l : HunksLeft text s place at base many result) (f : HunkFirst text place l.hunks left) → many ≡ suc left
    → t ≡ with_words s base (relocated base f.h.words f.h.relocations) → Reads text end f.others → n ≡ length f.h.words → next ≡ at + 1 → at' ≡ at → base' ≡ base + n → u ≡ set t at' n
    → HunksLeft text u end next base' left result
hunks_then text s t u place at at' next base base' n many left end result l f some e r count one here room put =
    let more = hunks_more text s t place at base many left end result l f some e r in
    let P : ℕ → Type 0 = λ x. HunksLeft text (set t at x) end (at + 1) (base + x) left result in
    let Q : ℕ → Type 0 = λ x. HunksLeft text (set t at n) end x (base + n) left result in
    let R : List ℕ → Type 0 = λ x. HunksLeft text x end next (base + n) left result in
    subst (λ b. HunksLeft text u end next b left result) (sym room) (subst R (sym (put ∙ ap (λ z. set t z n) here)) (subst Q (sym one) (subst P (sym count) more)))

done_by : (s : List ℕ) (at base left : ℕ) (hunks : List Hunk) (result : List ℕ) → length hunks ≡ left → left ≡ 0 → with_words (with_words s base (hunks_image base hunks)) at (lengths_of hunks) ≡ result → s ≡ result
done_by s at base left [] result m z a = a
done_by s at base left (h ∷ hs) result m z a = absurd (omega arith)

pub hunks_done : (text s : List ℕ) (place at base left : ℕ) (result : List ℕ) → HunksLeft text s place at base left result → left ≡ 0 → s ≡ result
hunks_done text s place at base left result l z = done_by s at base left l.hunks result l.many z l.all

-- all hunks are left at first
abbrev pub row_behind : List ℕ → ℕ → ℕ → List Hunk → List ℕ
row_behind s m count hunks = with_words s (m + 2) (lengths_of hunks ++ hunks_image (m + 2 + count) hunks)

pub hunks_begin : (text s : List ℕ) (m count : ℕ) (hunks : Module) (at left : ℕ) → FitsAt text s m count hunks → at ≡ m + 2 → left ≡ count
    → HunksLeft text s 0 at (m + 2 + count) left (row_behind s m count hunks.hunks)
hunks_begin text s m count hunks at left f e n =
    let hs = hunks.hunks in
    let is = f.is in
    let size : length (lengths_of hs) ≡ count = length-map hs (λ (h : Hunk). length h.words) ∙ f.all in
    let inside = f.inside in
    let many = f.all in
    let image = hunks_image (m + 2 + count) hs in
    let apart = with_words-apart s (m + 2) (lengths_of hs) (m + 2 + count) image (omega arith) in
    let joined : with_words s (m + 2) (lengths_of hs ++ image) ≡ with_words (with_words s (m + 2) (lengths_of hs)) (m + 2 + count) image
    = with_words-append s (m + 2) (lengths_of hs) image ∙ ap (λ (x : ℕ). with_words (with_words s (m + 2) (lengths_of hs)) (m + 2 + x) image) size
    in
    record {
      hunks = hs;
      words = is.0;
      reads = reads_all text is.0 is.1;
      are = is.2;
      many = omega arith;
      room = omega arith;
      inside = omega arith;
      all = ap (λ (x : ℕ). with_words (with_words s (m + 2 + count) image) x (lengths_of hs)) e ∙ apart ∙ sym joined;
    }
