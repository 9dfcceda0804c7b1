-- The lines of a hunk, one after another.
use Rattle.std.proofs.Common.{◌≡◌, ◌∙◌, ℕ, zero, suc, ◌<◌, ◌≤◌, ◌+◌, ◌*◌, ◌/◌, ◌%◌, true, Option, List, [], ◌∷◌, ◌++◌, length, get_or, take, drop, refl, sym, ap, arith, append_assoc, append-nil, add-one, add-zero, drop-cons, length-take, nat_lt}
use Rattle.std.specs.Prelude.{IsSome, slice_get}
use Rattle.std.specs.Option.{option_map}
use Rattle.std.proofs.Math.Seq.{take-suc}
use Rattle.std.proofs.lemmas.Bool.Decides.{nat_tests}
use Rattle.std.proofs.lemmas.List.{take-append-drop}
use Rattle.word_store.specs.Bytes.{byte_at, byte_of}
use Rattle.module_text.specs.declared.modules.Hunk.{Hunk}
use Rattle.assembly.specs.ModuleListing.Listing.{listed}
use Rattle.assembly.specs.ModuleListing.HunkListing.{lines_from, listing, listings_from}

-- ---- bytes

get_some : (words : List ℕ) (i : ℕ) (f : ℕ → ℕ) → i < length words → IsSome (option_map f (slice_get words i))
get_some [] i f lt = absurd (omega arith)
get_some (w ∷ ws) zero f lt = refl
get_some (w ∷ ws) (suc i) f lt = get_some ws i f (omega arith)

-- a byte of the words is there
pub byte_some : (words : List ℕ) (a : ℕ) → a < 4 * length words → IsSome (byte_at words a)
byte_some words a lt = get_some words (a / 4) (λ w. byte_of w (a % 4)) (omega arith)

-- ---- lines

-- a line, and the lines after it
pub lines_some : (code : ℕ → Option ℕ) (end most a : ℕ) → a < end → lines_from code end (suc most) a ≡ (listed code a).text ++ lines_from code end most (a + (listed code a).length)
lines_some code end most a lt = let inside : nat_lt a end ≡ true = grind (arith, nat_tests) in rw inside refl

-- a line more
pub lines_more : (code : ℕ → Option ℕ) (end most a : ℕ) → a < end → end ≤ a + most
    → (fewer : ℕ) × (most ≡ suc fewer) × (lines_from code end most a ≡ (listed code a).text ++ lines_from code end fewer (a + (listed code a).length))
lines_more code end zero a lt enough = absurd (omega arith)
lines_more code end (suc most) a lt enough = (most, refl, lines_some code end most a lt)

-- ---- listings of hunks

listings-append : (k : ℕ) (xs ys : List Hunk) → listings_from k (xs ++ ys) ≡ listings_from k xs ++ listings_from (k + length xs) ys
listings-append k [] ys = rw (add-zero k) refl
listings-append k (x ∷ xs) ys =
    let same : k + 1 + length xs ≡ k + suc (length xs) = omega arith in
    ap (λ (t : List ℕ). listing k x.words ++ t) (listings-append (k + 1) xs ys ∙ ap (λ (j : ℕ). listings_from (k + 1) xs ++ listings_from j ys) same)
    ∙ sym (append_assoc (listing k x.words) (listings_from (k + 1) xs) (listings_from (k + suc (length xs)) ys))

number_of : (xs : List Hunk) (i : ℕ) → i < length xs → 1 + length (take i xs) ≡ i + 1
number_of xs i lt = omega (arith, length-take i xs)

-- listings, cut round a hunk
pub listings_at : (xs : List Hunk) (i : ℕ) (h : Hunk) → i < length xs → h ≡ get_or xs i h
    → listings_from 1 xs ≡ listings_from 1 (take i xs) ++ (listing (i + 1) h.words ++ listings_from (i + 1 + 1) (drop (suc i) xs))
listings_at xs i h lt e =
    ap (listings_from 1) (sym (take-append-drop i xs)) ∙ listings-append 1 (take i xs) (drop i xs) ∙ rw (number_of xs i lt, drop-cons xs i h lt, ← e) refl

-- one hunk more
pub listings_more : (xs : List Hunk) (i : ℕ) (h : Hunk) → i < length xs → h ≡ get_or xs i h → listings_from 1 (take (i + 1) xs) ≡ listings_from 1 (take i xs) ++ listing (i + 1) h.words
listings_more xs i h lt e =
    let more : take (i + 1) xs ≡ take i xs ++ h ∷ [] = rw (add-one, e) (take-suc xs i h lt) in
    let one : listings_from (1 + length (take i xs)) (h ∷ []) ≡ listing (i + 1) h.words = rw (number_of xs i lt) (append-nil (listing (i + 1) h.words)) in
    ap (listings_from 1) more ∙ listings-append 1 (take i xs) (h ∷ []) ∙ ap (λ (t : List ℕ). listings_from 1 (take i xs) ++ t) one
