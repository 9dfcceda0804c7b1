-- What stood at some addresses before the words of another store came there.
use Rattle.std.proofs.Common.{◌≡◌, ◌≢◌, ℕ, zero, suc, ◌+◌, ◌-◌, ◌<◌, ◌≤◌, Bool, true, false, cond, eqb, List, [], ◌∷◌, ◌++◌, length, get_or, set, refl, sym, ap, ◌∙◌, arith, inl, inr, append_assoc, append-nil, length-append, length-set, subst}
use Rattle.std.specs.List.{Contains, range_with_len}
use Rattle.std.specs.Prelude.{slice_range}
use Rattle.std.specs.Str.{bytes_eq}
use Rattle.std.proofs.lemmas.Bool.{cases_eq, cases_lt, eq-eqb, ne_eqb}
use Rattle.std.proofs.lemmas.List.{ext_get_or, get_or_past, get_or-set_other, get_or-set_same, set-get_or, set-set}
use Rattle.std.proofs.lemmas.List.Edits.{get_or-between}
use Rattle.std.proofs.lemmas.List.FromFn.{get_or-range_with_len, length-range_with_len}
use Rattle.std.proofs.lemmas.Slice.Eq.{bytes_eq-Decides}
use Rattle.circular_buffer.specs.Buffer.{Buffer, buffer, keep_last}
use Rattle.debugger.specs.UndoJournal.FormerWords.{addresses_of, former_at, former_words, with_new_word, with_new_words, words_before}
use Rattle.debugger.specs.UndoJournal.Journals.{differing}
use Rattle.debugger.specs.UndoJournal.Private.Rings.{ring_with}
use Rattle.debugger.specs.declared.undo_journal.former_words.FormerWord.{FormerWord}
use Rattle.debugger.proofs.UndoJournal.RingLemmas.{keep_last-append_kept, length-keep_last-le}

-- ---- one address after another

words_before-append : (fs gs : List FormerWord) (words : List ℕ) → words_before (fs ++ gs) words ≡ words_before fs (words_before gs words)
words_before-append [] gs words = refl
words_before-append (f ∷ fs) gs words = ap (λ v. set v f.address f.word) (words_before-append fs gs words)

with_new_words-append : (old new ats bs : List ℕ) → with_new_words old new (ats ++ bs) ≡ with_new_words (with_new_words old new ats) new bs
with_new_words-append old new [] bs = refl
with_new_words-append old new (a ∷ ats) bs = with_new_words-append (with_new_word old new a) new ats bs

former_words-append : (old new ats bs : List ℕ) → former_words old new (ats ++ bs) ≡ former_words old new ats ++ former_words (with_new_words old new ats) new bs
former_words-append old new [] bs = refl
former_words-append old new (a ∷ ats) bs =
    ap (λ l. former_at old new a ++ l) (former_words-append (with_new_word old new a) new ats bs)
    ∙ sym (append_assoc (former_at old new a) (former_words (with_new_word old new a) new ats) (former_words (with_new_words old new (a ∷ ats)) new bs))

former_words_more : (old new ats : List ℕ) (a : ℕ) → former_words old new (ats ++ a ∷ []) ≡ former_words old new ats ++ former_at (with_new_words old new ats) new a
former_words_more old new ats a =
    former_words-append old new ats (a ∷ []) ∙ ap (λ l. former_words old new ats ++ l) (append-nil (former_at (with_new_words old new ats) new a))

length-with_new_words : (old new ats : List ℕ) → length (with_new_words old new ats) ≡ length old
length-with_new_words old new [] = refl
length-with_new_words old new (a ∷ ats) = length-with_new_words (with_new_word old new a) new ats ∙ length-set old a (get_or new a 0)

length-one : (b : Bool) (f : FormerWord) → length (cond b [] (f ∷ [])) ≡ cond b 0 1
length-one true f = refl
length-one false f = refl

pub length-former_at-le : (old new : List ℕ) (a : ℕ) → length (former_at old new a) ≤ 1
length-former_at-le old new a = on (eqb (get_or old a 0) (get_or new a 0)) (record { address = a; word = get_or old a 0 })
  where
    on : (b : Bool) (f : FormerWord) → length (cond b [] (f ∷ [])) ≤ 1
    on true f = omega arith
    on false f = omega arith

-- the words at these addresses were taken over, and a ring had those that stood there
pub record AreNoted (old new ats : List ℕ) (before : Buffer FormerWord) (words : List ℕ) (ring : Buffer FormerWord) (n : ℕ) : Type 0 where
  pub sizes : length words ≡ length new
  pub latest : words ≡ with_new_words old new ats
  pub room : length ring.items ≤ ring.capacity
  pub former : ring ≡ ring_with before (former_words old new ats)
  pub count : n ≡ length (former_words old new ats)

-- these addresses more
pub AreNoted_append : (old new ats bs : List ℕ) (before : Buffer FormerWord) (words words2 : List ℕ) (ring ring2 : Buffer FormerWord) (n more : ℕ)
    → AreNoted old new ats before words ring n → length old ≡ length new
    → words2 ≡ with_new_words words new bs → ring2 ≡ ring_with ring (former_words words new bs) → more ≡ length (former_words words new bs)
    → AreNoted old new (ats ++ bs) before words2 ring2 (n + more)
AreNoted_append old new ats bs before words words2 ring ring2 n more h size at some long =
    let latest : words2 ≡ with_new_words old new (ats ++ bs) = at ∙ (ap (λ v. with_new_words v new bs) h.latest ∙ sym (with_new_words-append old new ats bs)) in
    let all : former_words old new (ats ++ bs) ≡ former_words old new ats ++ former_words words new bs =
    former_words-append old new ats bs ∙ ap (λ v. former_words old new ats ++ former_words v new bs) (sym h.latest) in
    let kept : ring_with ring (former_words words new bs) ≡ ring_with before (former_words old new (ats ++ bs)) =
    ap (λ r. ring_with r (former_words words new bs)) h.former
    ∙ (ap (λ l. buffer l before.capacity) (keep_last-append_kept before.capacity (before.items ++ former_words old new ats) (former_words words new bs))
    ∙ (ap (λ l. buffer (keep_last before.capacity l) before.capacity) (append_assoc before.items (former_words old new ats) (former_words words new bs))
    ∙ ap (λ l. ring_with before l) (sym all))) in
    record {
      sizes = ap length latest ∙ (length-with_new_words old new (ats ++ bs) ∙ size);
      latest = latest;
      room = subst (λ (r : Buffer FormerWord). length r.items ≤ r.capacity) (sym some) (length-keep_last-le ring.capacity (ring.items ++ former_words words new bs));
      former = some ∙ kept;
      count = omega (arith, h.count, long, ap length all, length-append (former_words old new ats) (former_words words new bs));
    }

-- one address more
pub AreNoted_more : (old new ats : List ℕ) (a : ℕ) (before : Buffer FormerWord) (words words2 : List ℕ) (ring ring2 : Buffer FormerWord) (n more : ℕ)
    → AreNoted old new ats before words ring n → length old ≡ length new
    → words2 ≡ with_new_word words new a → ring2 ≡ ring_with ring (former_at words new a) → more ≡ length (former_at words new a)
    → AreNoted old new (ats ++ a ∷ []) before words2 ring2 (n + more)
AreNoted_more old new ats a before words words2 ring ring2 n more h size at one long =
    let all : former_at words new a ≡ former_words words new (a ∷ []) = sym (append-nil (former_at words new a)) in
    AreNoted_append old new ats (a ∷ []) before words words2 ring ring2 n more h size at (one ∙ ap (ring_with ring) all) (long ∙ ap length all)

-- ---- addresses in a row

pub range_with_len-append : (a m n : ℕ) → range_with_len a (m + n) ≡ range_with_len a m ++ range_with_len (a + m) n
range_with_len-append a zero n =
    let none : 0 + n ≡ n = omega arith in
    let at : a ≡ a + 0 = omega arith in
    ap (range_with_len a) none ∙ ap (λ i. range_with_len i n) at
range_with_len-append a (suc m) n =
    let one : suc m + n ≡ suc (m + n) = omega arith in
    let at : a + 1 + m ≡ a + suc m = omega arith in
    ap (range_with_len a) one ∙ ap (λ l. a ∷ l) (range_with_len-append (a + 1) m n ∙ ap (λ i. range_with_len (a + 1) m ++ range_with_len i n) at)

-- nothing is noted where the words are the same
with_new_word-same : (old new : List ℕ) (a : ℕ) → get_or old a 0 ≡ get_or new a 0 → with_new_word old new a ≡ old
with_new_word-same old new a same = ap (λ w. set old a w) (sym same) ∙ set-get_or old a 0

former_at-same : (old new : List ℕ) (a : ℕ) → get_or old a 0 ≡ get_or new a 0 → former_at old new a ≡ []
former_at-same old new a same = ap (λ b. cond b [] ((record { address = a; word = get_or old a 0 }) ∷ [])) (eq-eqb (get_or old a 0) (get_or new a 0) same)

first_same : (old new : List ℕ) (first n : ℕ) → ((i : ℕ) → i < suc n → get_or old (first + i) 0 ≡ get_or new (first + i) 0) → get_or old first 0 ≡ get_or new first 0
first_same old new first n same = subst (λ a. get_or old a 0 ≡ get_or new a 0) (omega arith) (same 0 (omega arith))

rest_same : (old new : List ℕ) (first n : ℕ) → ((i : ℕ) → i < suc n → get_or old (first + i) 0 ≡ get_or new (first + i) 0)
    → (i : ℕ) → i < n → get_or old (first + 1 + i) 0 ≡ get_or new (first + 1 + i) 0
rest_same old new first n same i low = subst (λ a. get_or old a 0 ≡ get_or new a 0) (omega arith) (same (i + 1) (omega arith))

pub with_new_words-same : (old new : List ℕ) (first n : ℕ) → ((i : ℕ) → i < n → get_or old (first + i) 0 ≡ get_or new (first + i) 0)
    → with_new_words old new (range_with_len first n) ≡ old
with_new_words-same old new first zero same = refl
with_new_words-same old new first (suc n) same =
    ap (λ v. with_new_words v new (range_with_len (first + 1) n)) (with_new_word-same old new first (first_same old new first n same))
    ∙ with_new_words-same old new (first + 1) n (rest_same old new first n same)

pub former_words-same : (old new : List ℕ) (first n : ℕ) → ((i : ℕ) → i < n → get_or old (first + i) 0 ≡ get_or new (first + i) 0)
    → former_words old new (range_with_len first n) ≡ []
former_words-same old new first zero same = refl
former_words-same old new first (suc n) same =
    let at = first_same old new first n same in
    ap (λ l. l ++ former_words (with_new_word old new first) new (range_with_len (first + 1) n)) (former_at-same old new first at)
    ∙ (ap (λ v. former_words v new (range_with_len (first + 1) n)) (with_new_word-same old new first at)
    ∙ former_words-same old new (first + 1) n (rest_same old new first n same))

-- both have the same words from the first address up to the end
pub same_words : (old new : List ℕ) (first end : ℕ) → bytes_eq (slice_range old first end) (slice_range new first end) ≡ true
    → (i : ℕ) → i < end - first → get_or old (first + i) 0 ≡ get_or new (first + i) 0
same_words old new first end same i low =
    let inside : first + i < end = omega arith in
    let lists : slice_range old first end ≡ slice_range new first end = (bytes_eq-Decides (slice_range old first end) (slice_range new first end)).0 same in
    sym (get_or-between old first end i 0 inside) ∙ (ap (λ l. get_or l i 0) lists ∙ get_or-between new first end i 0 inside)

-- ---- put back

former_at-other : (old new : List ℕ) (a : ℕ) → get_or old a 0 ≢ get_or new a 0 → former_at old new a ≡ (record { address = a; word = get_or old a 0 }) ∷ []
former_at-other old new a other = ap (λ b. cond b [] ((record { address = a; word = get_or old a 0 }) ∷ [])) (ne_eqb (get_or old a 0) (get_or new a 0) other)

words_before-former_at : (old new : List ℕ) (a : ℕ) → words_before (former_at old new a) (with_new_word old new a) ≡ old
words_before-former_at old new a =
    elim (cases_eq (get_or old a 0) (get_or new a 0)) [
      | inl same ↦ ap (λ l. words_before l (with_new_word old new a)) (former_at-same old new a same) ∙ with_new_word-same old new a same
      | inr other ↦ ap (λ l. words_before l (with_new_word old new a)) (former_at-other old new a other)
          ∙ (set-set old a (get_or new a 0) (get_or old a 0) ∙ set-get_or old a 0)
    ]

pub words_before-former_words : (old new ats : List ℕ) → words_before (former_words old new ats) (with_new_words old new ats) ≡ old
words_before-former_words old new [] = refl
words_before-former_words old new (a ∷ ats) =
    words_before-append (former_at old new a) (former_words (with_new_word old new a) new ats) (with_new_words old new (a ∷ ats))
    ∙ (ap (words_before (former_at old new a)) (words_before-former_words (with_new_word old new a) new ats) ∙ words_before-former_at old new a)

-- ---- as many as differ

pub differing-same : (words : List ℕ) → differing words words ≡ 0
differing-same [] = refl
differing-same (w ∷ words) = ap (λ b. cond b 0 1 + differing words words) (eq-eqb w w refl) ∙ omega (arith, differing-same words)

differing-at : (old new : List ℕ) (a : ℕ) → length old ≡ length new → differing old new ≡ length (former_at old new a) + differing (with_new_word old new a) new
differing-at [] [] a h = refl
differing-at [] (y ∷ new) a h = absurd (omega arith)
differing-at (x ∷ old) [] a h = absurd (omega arith)
differing-at (x ∷ old) (y ∷ new) zero h = rw (eq-eqb y y refl) (omega (arith, length-one (eqb x y) (record { address = 0; word = x })))
differing-at (x ∷ old) (y ∷ new) (suc a) h =
    let rest = differing-at old new a (omega arith) in
    let one = length-one (eqb (get_or old a 0) (get_or new a 0)) (record { address = suc a; word = get_or old a 0 }) in
    let other = length-one (eqb (get_or old a 0) (get_or new a 0)) (record { address = a; word = get_or old a 0 }) in
    omega (arith, rest, one, other)

pub differing-former_words : (old new ats : List ℕ) → length old ≡ length new
    → differing old new ≡ length (former_words old new ats) + differing (with_new_words old new ats) new
differing-former_words old new [] h = omega arith
differing-former_words old new (a ∷ ats) h =
    let rest = differing-former_words (with_new_word old new a) new ats (length-set old a (get_or new a 0) ∙ h) in
    omega (arith, differing-at old new a h, length-append (former_at old new a) (former_words (with_new_word old new a) new ats), rest)

-- ---- all that differ

-- the words differ at these addresses at most
abbrev pub DifferAt : List ℕ → List ℕ → List ℕ → Type 0
DifferAt old new ats = (a : ℕ) → get_or old a 0 ≢ get_or new a 0 → Contains ats a

none-contained : (a : ℕ) → Contains {X = ℕ} [] a → ⊥
none-contained a c = omega (arith, c.1)

Contains-rest : (a : ℕ) (ats : List ℕ) (b : ℕ) → b ≢ a → Contains (a ∷ ats) b → Contains ats b
Contains-rest a ats b ne (zero, inside, is) = absurd (ne (sym is))
Contains-rest a ats b ne (suc i, inside, is) = (i, omega arith, is)

-- the words are then the new ones
pub with_new_words_all : (old new ats : List ℕ) → length old ≡ length new → DifferAt old new ats → with_new_words old new ats ≡ new
with_new_words_all old new [] h covered =
    ext_get_or 0 old new h
    (λ a inside. elim (cases_eq (get_or old a 0) (get_or new a 0)) [ inl same ↦ same | inr other ↦ absurd (none-contained a (covered a other)) ])
with_new_words_all old new (a ∷ ats) h covered =
    with_new_words_all (with_new_word old new a) new ats (length-set old a (get_or new a 0) ∙ h)
    (λ b other. elim (cases_eq b a) [
      | inl is ↦ absurd (other (ap (λ i. get_or (with_new_word old new a) i 0) is ∙ (at-it ∙ ap (λ i. get_or new i 0) (sym is))))
      | inr ne ↦ Contains-rest a ats b ne (covered b (λ same. other (get_or-set_other old a b (get_or new a 0) 0 ne ∙ same)))
    ])
  where
    at-it : get_or (with_new_word old new a) a 0 ≡ get_or new a 0
    at-it = elim (cases_lt a (length old)) [
      | inl inside ↦ get_or-set_same old a (get_or new a 0) 0 inside
      | inr past ↦ get_or_past (with_new_word old new a) a 0 (omega (arith, length-set old a (get_or new a 0))) ∙ sym (get_or_past new a 0 (omega arith))
    ]

-- they differ at addresses of the store
pub DifferAt-addresses : (old new : List ℕ) → length old ≡ length new → DifferAt old new (addresses_of new)
DifferAt-addresses old new h = λ a other. elim (cases_lt a (length new)) [
  | inl inside ↦ (a, omega (arith, length-range_with_len 0 (length new)), get_or-range_with_len 0 (length new) a a inside ∙ omega arith)
  | inr past ↦ absurd (other (get_or_past old a 0 (omega arith) ∙ sym (get_or_past new a 0 past)))
]
