-- The globals of hunks, pair by pair and hunk by hunk.
use Rattle.std.proofs.Common.{◌≡◌, ◌≢◌, ◌⊎◌, inl, inr, ◌∙◌, ℕ, zero, suc, ◌+◌, ◌-◌, ◌<◌, ◌≤◌, List, [], ◌∷◌, ◌++◌, length, get_or, set, take, drop, reverse, nat_le, nat_eq, cond, ◌&&◌, Bool, true, false, refl, sym, ap, arith, length-set, get_or-set_other, add-zero}
use Rattle.std.specs.Prelude.{slice_range}
use Rattle.std.specs.List.{AllByRecursion}
use Rattle.std.proofs.lemmas.Bool.Decides.{nat_tests}
use Rattle.std.proofs.lemmas.List.{get_or-drop, length-drop, reverse-append, take_more}
use Rattle.word_store.proofs.Elements.{all-append}
use Rattle.word_store.specs.Arithmetic.{add, mul}
use Rattle.word_store.proofs.Rows.{range_first, range_none}
use Rattle.kernel_lists.specs.HunkLoader.Globals.{Global, global, global_of_number, globals_back, globals_of_hunk, globals_of_pairs, highest, with_globals}
use Rattle.kernel_lists.specs.HunkLoader.GlobalWords.{AreClear}
use Rattle.kernel_lists.specs.HunkLoader.ModuleHunks.{placed}

-- ---- globals that are set

pub with_globals-append : (s : List ℕ) (g : ℕ) (xs ys : List Global) → with_globals s g (xs ++ ys) ≡ with_globals (with_globals s g xs) g ys
with_globals-append s g [] ys = refl
with_globals-append s g (x ∷ xs) ys = with_globals-append (set s (g + x.number) x.value) g xs ys

pub length-with_globals : (s : List ℕ) (g : ℕ) (xs : List Global) → length (with_globals s g xs) ≡ length s
length-with_globals s g [] = refl
length-with_globals s g (x ∷ xs) = length-with_globals (set s (g + x.number) x.value) g xs ∙ length-set s (g + x.number) x.value

-- the numbers are those of globals
abbrev pub AreGlobals : List Global → Type 0
AreGlobals xs = AllByRecursion (λ x. x.number ≤ 1000) xs

-- other words stay
pub with_globals-other : (s : List ℕ) (g from end : ℕ) (xs : List Global) (a : ℕ) → AreGlobals xs → AreClear g from end → from ≤ a → a < end → get_or (with_globals s g xs) a 0 ≡ get_or s a 0
with_globals-other s g from end [] a all clear low high = refl
with_globals-other s g from end (x ∷ xs) a all clear low high =
    with_globals-other (set s (g + x.number) x.value) g from end xs a all.1 clear low high ∙ get_or-set_other s (g + x.number) a x.value 0 (by (clear x.number all.0))
  where
    by : (g + x.number < from) ⊎ (end ≤ g + x.number) → a ≢ g + x.number
    by (inl before) = λ e. absurd (omega arith)
    by (inr after) = λ e. absurd (omega arith)

pub number-is : (number value : ℕ) → AreGlobals (global_of_number number value)
number-is number value = on (nat_le 1 number) (nat_le number 1000) refl
  where
    on : (a b : Bool) → nat_le number 1000 ≡ b → AreGlobals (cond (a && b) (global number value ∷ []) [])
    on true true e = (grind (arith, nat_tests), tt)
    on true false e = tt
    on false true e = tt
    on false false e = tt

pairs-are : (base : ℕ) (words : List ℕ) → AreGlobals (globals_of_pairs base words)
pairs-are base [] = tt
pairs-are base (offset ∷ []) = tt
pairs-are base (offset ∷ number ∷ before) = on (nat_eq offset 0) (all-append (λ x. x.number ≤ 1000) (global_of_number number (add (mul 4 base) offset)) (globals_of_pairs base before) (number-is number (add (mul 4 base) offset)) (pairs-are base before))
  where
    on : (b : Bool) → AreGlobals (global_of_number number (add (mul 4 base) offset) ++ globals_of_pairs base before)
        → AreGlobals (cond b [] (global_of_number number (add (mul 4 base) offset) ++ globals_of_pairs base before))
    on true all = tt
    on false all = all

back-are : (base : ℕ) (words : List ℕ) → AreGlobals (globals_back base words)
back-are base [] = tt
back-are base (top ∷ before) = on (nat_eq top 0) (pairs-are base before)
  where
    on : (b : Bool) → AreGlobals (globals_of_pairs base before) → AreGlobals (cond b [] (globals_of_pairs base before))
    on true all = tt
    on false all = all

pub hunk-are : (base : ℕ) (words : List ℕ) → AreGlobals (globals_of_hunk (placed base words))
hunk-are base words = back-are base (reverse words)

-- ---- a hunk's words, from the last one back

pub range_back : (s : List ℕ) (a b : ℕ) → a ≤ b → b < length s → reverse (slice_range s a (b + 1)) ≡ get_or s b 0 ∷ reverse (slice_range s a b)
range_back s a b le lt =
    let n = b - a in
    let more : b + 1 - a ≡ n + 1 = omega arith in
    let here : a + n ≡ b = omega arith in
    let last : slice_range s a (b + 1) ≡ slice_range s a b ++ get_or s b 0 ∷ []
    = ap (λ (x : ℕ). take x (drop a s)) more ∙ take_more (drop a s) n 0 (omega (arith, length-drop a s))
    ∙ ap (λ (w : ℕ). take n (drop a s) ++ w ∷ []) (get_or-drop a s n 0 ∙ ap (λ (x : ℕ). get_or s x 0) here) in
    ap (λ (xs : List ℕ). reverse xs) last ∙ reverse-append (slice_range s a b) (get_or s b 0 ∷ [])

pub length-range : (s : List ℕ) (a n : ℕ) → a + n ≤ length s → length (slice_range s a (a + n)) ≡ n
length-range s a zero fits = rw (add-zero a, range_none s a) refl
length-range s a (suc n) fits =
    let next : a + suc n ≡ a + 1 + n = omega arith in
    rw (range_first s a (a + suc n) (omega arith) fits, next) (ap (λ (x : ℕ). suc x) (length-range s (a + 1) n (omega arith)))

pub get-range : (s : List ℕ) (a n i : ℕ) → i < n → a + n ≤ length s → get_or (slice_range s a (a + n)) i 0 ≡ get_or s (a + i) 0
get-range s a zero i lt fits = absurd (omega arith)
get-range s a (suc n) zero lt fits = rw (range_first s a (a + suc n) (omega arith) fits, add-zero a) refl
get-range s a (suc n) (suc i) lt fits =
    let next : a + suc n ≡ a + 1 + n = omega arith in
    let same : a + suc i ≡ a + 1 + i = omega arith in
    rw (range_first s a (a + suc n) (omega arith) fits, next, same) (get-range s (a + 1) n i (omega arith) (omega arith))

-- the highest number of a hunk with words is its last word
pub highest-last : (s : List ℕ) (base n : ℕ) → 0 < n → base + n ≤ length s → highest (slice_range s base (base + n)) ≡ get_or s (base + (n - 1)) 0
highest-last s base n some fits =
    ap (λ (x : ℕ). get_or (slice_range s base (base + n)) (x - 1) 0) (length-range s base n fits) ∙ get-range s base n (n - 1) (omega arith) fits

pub highest-none : (s : List ℕ) (base : ℕ) → highest (slice_range s base (base + 0)) ≡ 0
highest-none s base = rw (add-zero base, range_none s base) refl

pub some_words : (s : List ℕ) (base n : ℕ) → base + n ≤ length s → highest (slice_range s base (base + n)) ≢ 0 → 0 < n
some_words s base zero fits some = absurd (some (highest-none s base))
some_words s base (suc n) fits some = omega arith

-- where it is 0, there are no globals
pub globals-none : (s : List ℕ) (base n : ℕ) → base + n ≤ length s → highest (slice_range s base (base + n)) ≡ 0 → globals_of_hunk (placed base (slice_range s base (base + n))) ≡ []
globals-none s base zero fits none = rw (add-zero base, range_none s base) refl
globals-none s base (suc n) fits none =
    let next : base + suc n ≡ base + n + 1 = omega arith in
    let last : get_or s (base + n) 0 ≡ 0 = ap (λ (x : ℕ). get_or s x 0) (omega arith) ∙ sym (highest-last s base (suc n) (omega arith) fits) ∙ none in
    rw (next, range_back s base (base + n) (omega arith) (omega arith), last) refl

-- else they are those of the pairs before it
pub globals-some : (s : List ℕ) (base n end : ℕ) → base + n ≤ length s → end + 1 ≡ base + n → base ≤ end → highest (slice_range s base (base + n)) ≢ 0
    → globals_of_hunk (placed base (slice_range s base (base + n))) ≡ globals_of_pairs base (reverse (slice_range s base end))
globals-some s base n end fits last le some =
    let top : highest (slice_range s base (base + n)) ≡ get_or s end 0 = highest-last s base n (omega arith) fits ∙ ap (λ (x : ℕ). get_or s x 0) (omega arith) in
    let differs : get_or s end 0 ≢ 0 = λ e. some (top ∙ e) in
    let test : nat_eq (get_or s end 0) 0 ≡ false = grind (arith, nat_tests) in
    rw (sym last, range_back s base end le (omega arith), test) refl

-- ---- pairs

-- the last pair, whose offset is not 0, and those before it
pub pairs-more : (s : List ℕ) (base left rest : ℕ) → rest + 2 ≡ left → base + left ≤ length s → get_or s (base + (left - 1)) 0 ≢ 0
    → globals_of_pairs base (reverse (slice_range s base (base + left)))
    ≡ global_of_number (get_or s (base + (left - 2)) 0) (add (mul 4 base) (get_or s (base + (left - 1)) 0)) ++ globals_of_pairs base (reverse (slice_range s base (base + rest)))
pairs-more s base left rest is fits some =
    let two : base + left ≡ base + rest + 1 + 1 = omega arith in
    let one : base + (left - 1) ≡ base + rest + 1 = omega arith in
    let none : base + (left - 2) ≡ base + rest = omega arith in
    let differs : get_or s (base + rest + 1) 0 ≢ 0 = λ k. some (ap (λ (x : ℕ). get_or s x 0) one ∙ k) in
    let test : nat_eq (get_or s (base + rest + 1) 0) 0 ≡ false = grind (arith, nat_tests) in
    rw (one, none, two, range_back s base (base + rest + 1) (omega arith) (omega arith), range_back s base (base + rest) (omega arith) (omega arith), test) refl

-- a last pair with offset 0
pub pairs-stop : (s : List ℕ) (base left : ℕ) → 2 ≤ left → base + left ≤ length s → get_or s (base + (left - 1)) 0 ≡ 0 → globals_of_pairs base (reverse (slice_range s base (base + left))) ≡ []
pairs-stop s base left some fits none = by (left - 2) (omega arith)
  where
    by : (rest : ℕ) → rest + 2 ≡ left → globals_of_pairs base (reverse (slice_range s base (base + left))) ≡ []
    by rest is =
        let two : base + left ≡ base + rest + 1 + 1 = omega arith in
        let zero' : get_or s (base + rest + 1) 0 ≡ 0 = ap (λ (x : ℕ). get_or s x 0) (omega arith) ∙ none in
        rw (two, range_back s base (base + rest + 1) (omega arith) (omega arith), range_back s base (base + rest) (omega arith) (omega arith), zero') refl

-- too few words are left
pub pairs-end : (s : List ℕ) (base left : ℕ) → base + left ≤ length s → left < 2 → globals_of_pairs base (reverse (slice_range s base (base + left))) ≡ []
pairs-end s base zero fits few = rw (add-zero base, range_none s base) refl
pairs-end s base (suc zero) fits few = rw (range_back s base base (omega arith) (omega arith), range_none s base) refl
pairs-end s base (suc (suc n)) fits few = absurd (omega arith)
