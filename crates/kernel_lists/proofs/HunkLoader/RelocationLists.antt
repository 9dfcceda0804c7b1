-- Words that are relocated one by one, and list by list.
use Rattle.std.proofs.Common.{◌≡◌, ◌≢◌, ◌∙◌, ℕ, suc, ◌<◌, ◌≤◌, ◌+◌, Some, List, [], ◌∷◌, ◌++◌, length, get_or, set, refl, sym, ap, subst, arith, append_assoc, length-set}
use Rattle.std.specs.Prelude.{IsSome}
use Rattle.std.specs.List.{AllByRecursion, concat}
use Rattle.std.proofs.lemmas.List.{map-append}
use Rattle.word_store.specs.Arithmetic.{add}
use Rattle.module_text.specs.Places.{next_word}
use Rattle.module_text.specs.ReadingOn.{Reads}
use Rattle.module_text.specs.ModuleForm.{relocation_items, relocation_type}
use Rattle.module_text.specs.declared.tokens.NextWord.{NextWord}
use Rattle.module_text.proofs.Complete.{all_back, all_front}
use Rattle.word_store.specs.Row.{with_words}
use Rattle.word_store.proofs.Rows.{get_or-with_words, set-with_words}
use Rattle.kernel_lists.specs.HunkLoader.Private.Follow.{AreInside, BeginsOther, ListsFollow, OffsetsFollow, places}
use Rattle.kernel_lists.specs.HunkLoader.RelocatedWords.{relocated}
use Rattle.kernel_lists.proofs.HunkLoader.CopiedWords.{some_word, was_read}

-- ---- the words that relocation makes

pub length-relocated : (base : ℕ) (words ps : List ℕ) → length (relocated base words ps) ≡ length words
length-relocated base words [] = refl
length-relocated base words (p ∷ ps) =
    length-relocated base (set words p (add (get_or words p 0) base)) ps ∙ length-set words p (add (get_or words p 0) base)

pub relocated-append : (base : ℕ) (words ps qs : List ℕ) → relocated base words (ps ++ qs) ≡ relocated base (relocated base words ps) qs
relocated-append base words [] qs = refl
relocated-append base words (p ∷ ps) qs = relocated-append base (set words p (add (get_or words p 0) base)) ps qs

-- words are relocated where they are in a store
pub relocated-row : (base : ℕ) (s words os : List ℕ) → AllByRecursion (λ o. o < length words) os → base + length words ≤ length s
    → relocated base (with_words s base words) (places base os) ≡ with_words s base (relocated base words os)
relocated-row base s words [] a fits = refl
relocated-row base s words (o ∷ os) a fits =
    let w = add (get_or words o 0) base in
    let size = length-set words o w in
    let one : set (with_words s base words) (base + o) (add (get_or (with_words s base words) (base + o) 0) base) ≡ with_words s base (set words o w)
    = ap (λ (x : ℕ). set (with_words s base words) (base + o) (add x base)) (get_or-with_words s base words o a.0 fits) ∙ set-with_words s base words o w a.0
    in
    ap (λ (t : List ℕ). relocated base t (places base os)) one ∙ relocated-row base s (set words o w) os (rw size a.1) (rw size fits)

-- places of a hunk in a store are in the store
pub places_inside : (base n : ℕ) (s os : List ℕ) → AllByRecursion (λ o. o < n) os → base + n ≤ length s → AreInside s (places base os)
places_inside base n s [] a fits = tt
places_inside base n s (o ∷ os) a fits = (let lt = a.0 in omega arith, places_inside base n s os a.1 fits)

pub inside_same : (s t ps : List ℕ) → length t ≡ length s → AreInside s ps → AreInside t ps
inside_same s t ps e h = let P : ℕ → Type 0 = λ n. AllByRecursion (λ a. a < n) ps in subst P (sym e) h

-- ---- one list

-- what is left of the offsets gives the result
pub record OffsetsLeft (text s : List ℕ) (place base left : ℕ) (others result : List ℕ) : Type 0 where
  pub offsets : List ℕ
  pub reads : Reads text place (offsets ++ others)
  pub many : length offsets ≡ left
  pub all : relocated base s (places base offsets) ≡ result

-- the offsets that are left are those of words in the store
pub record OffsetsInside (text s : List ℕ) (place base left : ℕ) : Type 0 where
  pub offsets : List ℕ
  pub others : List ℕ
  pub reads : Reads text place (offsets ++ others)
  pub many : length offsets ≡ left
  pub inside : AreInside s (places base offsets)

pub offsets_some : (text : List ℕ) (place : ℕ) (offsets others : List ℕ) → OffsetsFollow text place offsets others → IsSome (next_word text place)
offsets_some text place offsets others f = some_word text place (length offsets) (offsets ++ others) f.reads

pub offsets_begin : (text s : List ℕ) (place base many : ℕ) (r : NextWord) (offsets others : List ℕ) → OffsetsFollow text place offsets others → next_word text place ≡ Some r → many ≡ r.word
    → OffsetsLeft text s r.end base many others (relocated base s (places base offsets))
offsets_begin text s place base many r offsets others f e n =
    let k = was_read text place r (length offsets) (offsets ++ others) f.reads e in
    record { offsets = offsets; reads = k.rest; many = sym (n ∙ k.word); all = refl }

pub inside_begin : (text s : List ℕ) (place base many : ℕ) (r : NextWord) (offsets others : List ℕ) → OffsetsFollow text place offsets others → AreInside s (places base offsets)
    → next_word text place ≡ Some r → many ≡ r.word → OffsetsInside text s r.end base many
inside_begin text s place base many r offsets others f inside e n =
    let k = was_read text place r (length offsets) (offsets ++ others) f.reads e in
    record { offsets = offsets; others = others; reads = k.rest; many = sym (n ∙ k.word); inside = inside }

left_by : (text s : List ℕ) (place base many left : ℕ) (offsets others result : List ℕ) (r : NextWord) → Reads text place (offsets ++ others) → length offsets ≡ many → many ≡ suc left
    → relocated base s (places base offsets) ≡ result → next_word text place ≡ Some r
    → OffsetsLeft text (set s (base + r.word) (add (get_or s (base + r.word) 0) base)) r.end base left others result
left_by text s place base many left [] others result r h m n a e = absurd (omega arith)
left_by text s place base many left (o ∷ os) others result r h m n a e =
    let k = was_read text place r o (os ++ others) h e in
    record { offsets = os; reads = k.rest; many = omega arith; all = rw k.word a }

pub offsets_more : (text s : List ℕ) (place base many left : ℕ) (others result : List ℕ) (r : NextWord) → OffsetsLeft text s place base many others result → many ≡ suc left → next_word text place ≡ Some r
    → OffsetsLeft text (set s (base + r.word) (add (get_or s (base + r.word) 0) base)) r.end base left others result
offsets_more text s place base many left others result r o n e = left_by text s place base many left o.offsets others result r o.reads o.many n o.all e

-- the next offset is that of a word in the store, and so are those after it
pub record OffsetInside (text s : List ℕ) (place base left : ℕ) : Type 0 where
  pub some : IsSome (next_word text place)
  pub here : (r : NextWord) → next_word text place ≡ Some r → base + r.word < length s
  pub after : (r : NextWord) (t : List ℕ) → next_word text place ≡ Some r → length t ≡ length s → OffsetsInside text t r.end base left

inside_by : (text s : List ℕ) (place base many left : ℕ) (offsets others : List ℕ) → Reads text place (offsets ++ others) → length offsets ≡ many → many ≡ suc left → AreInside s (places base offsets) → OffsetInside text s place base left
inside_by text s place base many left [] others h m n a = absurd (omega arith)
inside_by text s place base many left (o ∷ os) others h m n a =
    record {
      some = some_word text place o (os ++ others) h;
      here = λ r e. (let k = was_read text place r o (os ++ others) h e in let lt = a.0 in rw k.word lt);
      after = λ r t e size.
          (let k = was_read text place r o (os ++ others) h e in
          record { offsets = os; others = others; reads = k.rest; many = omega arith; inside = inside_same s t (places base os) size a.1 });
    }

pub inside_more : (text s : List ℕ) (place base many left : ℕ) → OffsetsInside text s place base many → many ≡ suc left → OffsetInside text s place base left
inside_more text s place base many left o n = inside_by text s place base many left o.offsets o.others o.reads o.many n o.inside

done_by : (text s : List ℕ) (place base left : ℕ) (offsets others result : List ℕ) → Reads text place (offsets ++ others) → length offsets ≡ left → left ≡ 0 → relocated base s (places base offsets) ≡ result
    → (s ≡ result) × Reads text place others
done_by text s place base left [] others result h m z a = (a, h)
done_by text s place base left (o ∷ os) others result h m z a = absurd (omega arith)

pub offsets_done : (text s : List ℕ) (place base left : ℕ) (others result : List ℕ) → OffsetsLeft text s place base left others result → left ≡ 0 → (s ≡ result) × Reads text place others
offsets_done text s place base left others result o z = done_by text s place base left o.offsets others result o.reads o.many z o.all

-- ---- all lists

-- what is left of the lists gives the result
pub record ListsLeft (text s : List ℕ) (place base : ℕ) (others result : List ℕ) : Type 0 where
  pub lists : List (List ℕ)
  pub follow : ListsFollow text place lists others
  pub all : relocated base s (places base (concat lists)) ≡ result

-- the offsets of the lists that are left are those of words in the store
pub record ListsInside (text s : List ℕ) (place base : ℕ) : Type 0 where
  pub lists : List (List ℕ)
  pub others : List ℕ
  pub follow : ListsFollow text place lists others
  pub inside : AreInside s (places base (concat lists))

other_some : (text : List ℕ) (place : ℕ) (others : List ℕ) → Reads text place others → BeginsOther others → IsSome (next_word text place)
other_some text place [] h b = absurd b
other_some text place (w ∷ ws) h b = some_word text place w ws h

other_differs : (text : List ℕ) (place : ℕ) (r : NextWord) (others : List ℕ) → Reads text place others → BeginsOther others → next_word text place ≡ Some r → r.word ≢ relocation_type
other_differs text place r [] h b e = absurd b
other_differs text place r (w ∷ ws) h b e = let k = was_read text place r w ws h e in λ same. b (sym k.word ∙ same)

lists_some_by : (text : List ℕ) (place : ℕ) (lists : List (List ℕ)) (others : List ℕ) → Reads text place (relocation_items lists ++ others) → BeginsOther others → IsSome (next_word text place)
lists_some_by text place [] others h b = other_some text place others h b
lists_some_by text place (os ∷ more) others h b = some_word text place relocation_type (length os ∷ ((os ++ relocation_items more) ++ others)) h

pub lists_some : (text : List ℕ) (place : ℕ) (lists : List (List ℕ)) (others : List ℕ) → ListsFollow text place lists others → IsSome (next_word text place)
lists_some text place lists others f = lists_some_by text place lists others f.reads f.other

-- a list comes first, and then these
pub record ListFirst (text : List ℕ) (place : ℕ) (lists : List (List ℕ)) (others : List ℕ) : Type 0 where
  pub offsets : List ℕ
  pub more : List (List ℕ)
  pub is : lists ≡ offsets ∷ more
  pub follow : OffsetsFollow text place offsets (relocation_items more ++ others)

pub list_first : (text : List ℕ) (place : ℕ) (r : NextWord) (lists : List (List ℕ)) (others : List ℕ) → ListsFollow text place lists others → next_word text place ≡ Some r → r.word ≡ relocation_type
    → ListFirst text r.end lists others
list_first text place r [] others f e same = absurd (other_differs text place r others f.reads f.other e same)
list_first text place r (os ∷ more) others f e same =
    let k = was_read text place r relocation_type (length os ∷ ((os ++ relocation_items more) ++ others)) f.reads e in
    let rest : Reads text r.end (length os ∷ os ++ (relocation_items more ++ others)) = rw (append_assoc os (relocation_items more) others) at k.rest in
    record { offsets = os; more = more; is = refl; follow = record { reads = rest } }

-- no list comes first
pub list_none : (text : List ℕ) (place : ℕ) (r : NextWord) (lists : List (List ℕ)) (others : List ℕ) → ListsFollow text place lists others → next_word text place ≡ Some r → r.word ≢ relocation_type → lists ≡ []
list_none text place r [] others f e differs = refl
list_none text place r (os ∷ more) others f e differs =
    absurd (differs (was_read text place r relocation_type (length os ∷ ((os ++ relocation_items more) ++ others)) f.reads e).word)

-- the words after one list and those after it
pub relocated_lists : (base : ℕ) (s os : List ℕ) (more : List (List ℕ)) → relocated base s (places base (concat (os ∷ more))) ≡ relocated base (relocated base s (places base os)) (places base (concat more))
relocated_lists base s os more =
    ap (λ (ps : List ℕ). relocated base s ps) (map-append (λ (o : ℕ). base + o) os (concat more)) ∙ relocated-append base s (places base os) (places base (concat more))

-- the lists that are left after the first
pub lists_more : (text s t : List ℕ) (place end base : ℕ) (r : NextWord) (others result : List ℕ) → ListsLeft text s place base others result → next_word text place ≡ Some r → r.word ≡ relocation_type
    → ((offsets others : List ℕ) → OffsetsFollow text r.end offsets others → t ≡ relocated base s (places base offsets))
    → ((offsets others : List ℕ) → OffsetsFollow text r.end offsets others → Reads text end others)
    → ListsLeft text t end base others result
lists_more text s t place end base r others result l e same words rest =
    let k = list_first text place r l.lists others l.follow e same in
    let Q : List (List ℕ) → Type 0 = λ ls. relocated base s (places base (concat ls)) ≡ result in
    record {
      lists = k.more;
      follow = record { reads = rest k.offsets (relocation_items k.more ++ others) k.follow; other = l.follow.other };
      all =
          ap (λ (x : List ℕ). relocated base x (places base (concat k.more))) (words k.offsets (relocation_items k.more ++ others) k.follow)
          ∙ sym (relocated_lists base s k.offsets k.more) ∙ subst Q k.is l.all;
    }

-- the first of the lists that are left, and those after it, are inside
pub record ListInside (text s : List ℕ) (place base : ℕ) (lists : List (List ℕ)) (others : List ℕ) : Type 0 where
  pub first : ListFirst text place lists others
  pub inside : AreInside s (places base first.offsets)
  pub after : AreInside s (places base (concat first.more))

pub list_inside : (text s : List ℕ) (place base : ℕ) (r : NextWord) (l : ListsInside text s place base) → next_word text place ≡ Some r → r.word ≡ relocation_type → ListInside text s r.end base l.lists l.others
list_inside text s place base r l e same =
    let k = list_first text place r l.lists l.others l.follow e same in
    let P : ℕ → Type 0 = λ a. a < length s in
    let Q : List (List ℕ) → Type 0 = λ ls. AreInside s (places base (concat ls)) in
    let all : AreInside s (places base k.offsets ++ places base (concat k.more)) = rw (map-append (λ (o : ℕ). base + o) k.offsets (concat k.more)) at (subst Q k.is l.inside) in
    record { first = k; inside = all_front P (places base k.offsets) (places base (concat k.more)) all; after = all_back P (places base k.offsets) (places base (concat k.more)) all }

-- with no list left all is done
pub lists_done : (text s : List ℕ) (place base : ℕ) (r : NextWord) (others result : List ℕ) → ListsLeft text s place base others result → next_word text place ≡ Some r → r.word ≢ relocation_type
    → (s ≡ result) × Reads text place others
lists_done text s place base r others result l e differs =
    let none = list_none text place r l.lists others l.follow e differs in
    let P : List (List ℕ) → Type 0 = λ ls. relocated base s (places base (concat ls)) ≡ result in
    let Q : List (List ℕ) → Type 0 = λ ls. Reads text place (relocation_items ls ++ others) in
    (subst P none l.all, subst Q none l.follow.reads)
