-- Code in the store, a line at a time.
use Rattle.std.proofs.Common.{◌≡◌, ◌∙◌, ℕ, ◌<◌, ◌≤◌, ◌+◌, ◌*◌, Bool, true, false, cond, List, [], ◌∷◌, Ok, Err, nat_le, refl, sym, ap, arith, add-one, length, get_or, drop, drop-cons}
use Rattle.std.proofs.Math.ListN.{length-set}
use Rattle.std.proofs.lemmas.Bool.Decides.{nat_tests}
use Rattle.word_store.specs.Bytes.{set_byte_at}
use Rattle.module_text.specs.TextReader.Refusal.{refusal}
use Rattle.session_text.specs.declared.sessions.SessionLine.{SessionLine}
use Rattle.bare_machine.specs.Boot.{code_of, with_bytes, with_lines}

pub with_bytes-length : (words : List ℕ) (a : ℕ) (bytes : List ℕ) → length (with_bytes words a bytes) ≡ length words
with_bytes-length words a [] = refl
with_bytes-length words a (b ∷ bs) = with_bytes-length (set_byte_at words a b) (a + 1) bs ∙ simp length-set

-- a line that has its place
pub with_lines-next : (words : List ℕ) (a : ℕ) (lines : List SessionLine) (i : ℕ) (line : SessionLine) (bytes : List ℕ) → i < length lines → line ≡ get_or lines i line → bytes ≡ code_of line.form → a + length bytes ≤ 4 * length words
    → with_lines words a (drop i lines) ≡ with_lines (with_bytes words a bytes) (a + length bytes) (drop (i + 1) lines)
with_lines-next words a lines i line bytes lt is e fits =
    let first : drop i lines ≡ line ∷ drop (i + 1) lines = rw (drop-cons lines i line lt, ← is, add-one) refl in
    rw (first, e) (let place : a + length (code_of line.form) ≤ 4 * length words = rw (← e) fits in grind (arith, nat_tests))

-- the lines leave as many words as there were
pub with_lines-length : (lines : List SessionLine) (words : List ℕ) (a : ℕ) (left : List ℕ) → with_lines words a lines ≡ Ok left → length left ≡ length words
with_lines-length [] words a left is = (let same : words ≡ left = cc in sym (ap length same))
with_lines-length (line ∷ lines) words a left is = on (nat_le (a + length (code_of line.form)) (4 * length words)) is (with_lines-length lines (with_bytes words a (code_of line.form)) (a + length (code_of line.form)) left)
  where
    on : (b : Bool) → cond b (with_lines (with_bytes words a (code_of line.form)) (a + length (code_of line.form)) lines) (Err (refusal line.line 1)) ≡ Ok left
        → (with_lines (with_bytes words a (code_of line.form)) (a + length (code_of line.form)) lines ≡ Ok left → length left ≡ length (with_bytes words a (code_of line.form)))
        → length left ≡ length words
    on true e rest = rest e ∙ with_bytes-length words a (code_of line.form)
    on false e rest = cc
