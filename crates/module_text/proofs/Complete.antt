-- Every text of a module is read as the module.
use Rattle.std.proofs.Common.{◌≡◌, ℕ, suc, ◌<◌, ◌-◌, true, Ok, List, [], ◌∷◌, ◌++◌, length, refl, sym, ap, arith, append_assoc, append-nil, nat_lt, ◌==◌, false}
use Rattle.std.specs.List.{AllByRecursion, concat}
use Rattle.std.proofs.lemmas.Bool.Decides.{nat_tests}
use Rattle.module_text.specs.Tokens.{tokens_of}
use Rattle.module_text.specs.Grammar.{offsets_or_type, words_or_type}
use Rattle.module_text.specs.ModuleForm.{AreHunks, IsHunk, IsModule, relocation_items}
use Rattle.module_text.specs.ModuleOfText.{Rest, hunk, module_of, rest}
use Rattle.module_text.specs.declared.modules.Hunk.{Hunk}
use Rattle.module_text.specs.declared.modules.Module.{Module}
use Rattle.module_text.specs.declared.grammar.Expects.TheVariants.{FirstType, NextType}
use Rattle.module_text.proofs.Runs.{run, tokens_again}

-- the words of a hunk, and what follows them
pub words_again : (ws : List ℕ) (n : ℕ) (behind : List ℕ) (q : Rest) → run (NextType n) behind ≡ Ok q → run (words_or_type (length ws) n) (ws ++ behind) ≡ Ok (rest (ws ++ q.words) q.relocations q.hunks)
words_again [] n behind q h = h
words_again (w ∷ ws) n behind q h =
    let some : (suc (length ws) == 0) ≡ false = grind (arith, nat_tests) in
    let one : suc (length ws) - 1 ≡ length ws = omega arith in
    rw (some, one, words_again ws n behind q h) refl

-- the offsets of a relocation list, and what follows them
pub offsets_again : (os : List ℕ) (n : ℕ) (behind : List ℕ) (q : Rest) → AllByRecursion (λ o. o < n) os → run (NextType n) behind ≡ Ok q
    → run (offsets_or_type (length os) n) (os ++ behind) ≡ Ok (rest q.words (os ++ q.relocations) q.hunks)
offsets_again [] n behind q a h = h
offsets_again (o ∷ os) n behind q a h =
    let some : (suc (length os) == 0) ≡ false = grind (arith, nat_tests) in
    let one : suc (length os) - 1 ≡ length os = omega arith in
    let lt : o < n = a.0 in
    let inside : nat_lt o n ≡ true = grind (arith, nat_tests) in
    rw (some, one, inside, offsets_again os n behind q a.1 h) refl

-- the parts of a fact about each element of two lists
pub all_front : {A : Type 0} (P : A → Type 0) (xs ys : List A) → AllByRecursion P (xs ++ ys) → AllByRecursion P xs
all_front P [] ys h = tt
all_front P (x ∷ xs) ys h = (h.0, all_front P xs ys h.1)

pub all_back : {A : Type 0} (P : A → Type 0) (xs ys : List A) → AllByRecursion P (xs ++ ys) → AllByRecursion P ys
all_back P [] ys h = h
all_back P (x ∷ xs) ys h = all_back P xs ys h.1

-- relocation lists, and what follows them
pub lists_again : (lists : List (List ℕ)) (n : ℕ) (behind : List ℕ) (q : Rest) → AllByRecursion (λ o. o < n) (concat lists) → run (NextType n) behind ≡ Ok q
    → run (NextType n) (relocation_items lists ++ behind) ≡ Ok (rest q.words (concat lists ++ q.relocations) q.hunks)
lists_again [] n behind q a h = h
lists_again (os ∷ lists) n behind q a h =
    let P : ℕ → Type 0 = λ o. o < n in
    let more = lists_again lists n behind q (all_back P os (concat lists) a) h in
    let all = offsets_again os n (relocation_items lists ++ behind) (rest q.words (concat lists ++ q.relocations) q.hunks) (all_front P os (concat lists) a) more in
    rw (append_assoc os (relocation_items lists) behind, all) (ap (λ (xs : List ℕ). Ok (rest q.words xs q.hunks)) (sym (append_assoc os (concat lists) q.relocations)))

-- a hunk with its relocation lists, after its type, and what follows them
hunk_again : (h : Hunk) (front behind : List ℕ) (hs : List Hunk) → IsHunk h front → ((n : ℕ) → run (NextType n) behind ≡ Ok (rest [] [] hs))
    → (run FirstType (front ++ behind) ≡ Ok (rest [] [] (h ∷ hs))) × ((n : ℕ) → run (NextType n) (front ++ behind) ≡ Ok (rest [] [] (h ∷ hs)))
hunk_again h front behind hs is next =
    let n = length h.words in
    let inside = rw is.offsets at is.inside in
    let lists = lists_again is.lists n behind (rest [] [] hs) inside (next n) in
    let words = words_again h.words n (relocation_items is.lists ++ behind) (rest [] (concat is.lists ++ []) hs) lists in
    let same : hunk (h.words ++ []) (concat is.lists ++ []) ≡ h = rw (append-nil h.words, append-nil (concat is.lists), ← is.offsets) refl in
    let all = append_assoc h.words (relocation_items is.lists) behind in
    (rw (is.all, all, words, same) refl, λ k. rw (is.all, all, words, same) refl)

pub hunks_again : (hunks : List Hunk) (words : List ℕ) → AreHunks hunks words → (run FirstType words ≡ Ok (rest [] [] hunks)) × ((n : ℕ) → run (NextType n) words ≡ Ok (rest [] [] hunks))
hunks_again [] words h = (rw h refl, λ n. rw h refl)
hunks_again (h ∷ hs) words k = rw k.2 (hunk_again h k.0 k.1 hs k.3 (hunks_again hs k.1 k.4).1)

pub complete : (text : List ℕ) (m : Module) → IsModule text m → module_of text ≡ Ok m
unfolding module_of
complete text m h = rw (tokens_again FirstType (length text) (tokens_of text) h.0 (rest [] [] m.hunks) h.1 (hunks_again m.hunks h.0 h.2).0) refl
