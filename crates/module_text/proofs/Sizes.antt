-- How many hunks and words a text has room for.
use Rattle.std.proofs.Common.{◌≡◌, ◌∙◌, ℕ, suc, ◌<◌, ◌≤◌, ◌+◌, ◌^◌, Bool, true, false, cond, Result, Ok, Err, List, [], ◌∷◌, length, refl, ap, arith, length-append}
use Rattle.std.specs.Prelude.{IfOk}
use Rattle.std.specs.List.{AllByRecursion, concat}
use Rattle.module_text.specs.Tokens.{Token, ends_token, is_blank, onto_first_token, token, tokens_from, tokens_of}
use Rattle.module_text.specs.ModuleForm.{AreHunks, AreWords, IsHunk, IsModule, hunk_type, item, relocation_items, relocation_type}
use Rattle.module_text.specs.ModuleOfText.{module_of}
use Rattle.module_text.specs.TextReader.Answers.{Gives}
use Rattle.module_text.specs.Canonical.{IsPrintable, IsPrintableHunk}
use Rattle.module_text.specs.declared.text_reader.ends.TextEnd.{TextEnd}
use Rattle.module_text.specs.declared.modules.Hunk.{Hunk}
use Rattle.module_text.specs.declared.modules.Module.{Module}
use Rattle.module_text.proofs.Sound.{sound}

length-onto : (n c : ℕ) (ts : List Token) → length (onto_first_token n c ts) ≤ 1 + length ts
length-onto n c [] = omega arith
length-onto n c (t ∷ ts) = omega arith

tokens_by : (n c : ℕ) (cs : List ℕ) (blank ends : Bool) → length (tokens_from (n + 1) cs) ≤ length cs
    → length (cond blank (tokens_from (n + 1) cs) (cond ends (token n c ∷ tokens_from (n + 1) cs) (onto_first_token n c (tokens_from (n + 1) cs)))) ≤ suc (length cs)
tokens_by n c cs true ends few = omega (arith, few)
tokens_by n c cs false true few = omega (arith, few)
tokens_by n c cs false false few = omega (arith, few, length-onto n c (tokens_from (n + 1) cs))

-- each token has a byte
tokens_few : (n : ℕ) (text : List ℕ) → length (tokens_from n text) ≤ length text
tokens_few n [] = omega arith
tokens_few n (c ∷ cs) = tokens_by n c cs (is_blank c) (ends_token cs) (tokens_few (n + 1) cs)

words_few : (ts : List Token) (ws : List ℕ) → AreWords ts ws → length ws ≡ length ts
words_few [] [] h = refl
words_few [] (w ∷ ws) h = absurd h
words_few (t ∷ ts) [] h = absurd h
words_few (t ∷ ts) (w ∷ ws) h = ap (λ k. suc k) (words_few ts ws h.1)

offsets_few : (lists : List (List ℕ)) → length (concat lists) ≤ length (relocation_items lists)
offsets_few [] = omega arith
offsets_few (os ∷ lists) =
    omega (arith, offsets_few lists, length-append os (concat lists), length-append (item relocation_type os) (relocation_items lists))

printable_hunk : (h : Hunk) (words : List ℕ) → IsHunk h words → length words < 2 ^ 30 → IsPrintableHunk h
printable_hunk h words is few =
    let size = ap length is.all ∙ length-append (item hunk_type h.words) (relocation_items is.lists) in
    let offsets = ap length is.offsets in
    record { words = omega (arith, size); relocations = omega (arith, size, offsets, offsets_few is.lists); inside = is.inside }

printable_hunks : (hunks : List Hunk) (words : List ℕ) → AreHunks hunks words → length words < 2 ^ 30 → AllByRecursion IsPrintableHunk hunks
printable_hunks [] words h few = tt
printable_hunks (h ∷ hs) words k few =
    let size = ap length k.2 ∙ length-append k.0 k.1 in
    (printable_hunk h k.0 k.3 (omega (arith, size)), printable_hunks hs k.1 k.4 (omega (arith, size)))

hunks_few : (hunks : List Hunk) (words : List ℕ) → AreHunks hunks words → length hunks ≤ length words
hunks_few [] words h = omega arith
hunks_few (h ∷ hs) words k =
    let size = ap length k.2 ∙ length-append k.0 k.1 in
    let front = ap length k.3.all in
    omega (arith, size, front, hunks_few hs k.1 k.4)

text_size : (text : List ℕ) (m : Module) (h : IsModule text m) → length h.0 ≤ length text
text_size text m h = omega (arith, words_few (tokens_of text) h.0 h.1, tokens_few 0 text)

-- a module that was read can be printed
pub printable : (text : List ℕ) (r : Result Module TextEnd) → Gives (λ m. m) r (module_of text) → length text < 2 ^ 30 → IfOk r IsPrintable
printable text (Err e) g short = tt
printable text (Ok m) g short =
    let h = sound text m g in
    printable_hunks m.hunks h.0 h.2 (omega (arith, text_size text m h))

-- and has no more hunks than its text has bytes
pub few_hunks : (text : List ℕ) (r : Result Module TextEnd) → Gives (λ m. m) r (module_of text) → IfOk r (λ m. length m.hunks ≤ length text)
few_hunks text (Err e) g = tt
few_hunks text (Ok m) g = let h = sound text m g in omega (arith, hunks_few m.hunks h.0 h.2, text_size text m h)
