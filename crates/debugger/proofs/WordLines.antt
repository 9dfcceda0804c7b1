-- The lines of words, one at a time.
use Rattle.std.proofs.Common.{◌≡◌, ◌∙◌, ℕ, ◌<◌, ◌≤◌, ◌+◌, min, List, [], ◌∷◌, ◌++◌, sym, ap, arith, append_assoc, append-nil, add-one, inl, inr, length, get_or, take, take_all, drop, drop-cons}
use Rattle.std.proofs.lemmas.Bool.{cases_lt}
use Rattle.std.proofs.lemmas.List.{drop_all}
use Rattle.debugger.specs.Texts.{word_line, word_lines}

-- the bytes so far, and the lines of the words from number a on, are all the lines
pub record IsWordsSoFar (from : ℕ) (words : List ℕ) (a : ℕ) (bytes : List ℕ) : Type 0 where
  pub same : word_lines from words ≡ bytes ++ word_lines (from + a) (drop a words)

pub words-first : (from : ℕ) (words : List ℕ) → IsWordsSoFar from words 0 []
words-first from words = (let here : from ≡ from + 0 = omega arith in record { same = ap (λ a. word_lines a words) here })

module _ {from : ℕ} {words : List ℕ} {a : ℕ} {bytes : List ℕ} (d : IsWordsSoFar from words a bytes) where
  -- the line of a word
  pub words-at : a < length words → word_lines from words ≡ bytes ++ (word_line (from + a) (get_or words a 0) ++ word_lines (from + (a + 1)) (drop (a + 1) words))
  words-at h =
      let there : from + a + 1 ≡ from + (a + 1) = omega arith in
      let rest : drop a words ≡ get_or words a 0 ∷ drop (a + 1) words = rw (add-one) (drop-cons words a 0 h) in
      d.same ∙ ap (λ ws. bytes ++ word_lines (from + a) ws) rest ∙ ap (λ b. bytes ++ (word_line (from + a) (get_or words a 0) ++ word_lines b (drop (a + 1) words))) there

  pub words-next : a < length words → IsWordsSoFar from words (a + 1) (bytes ++ word_line (from + a) (get_or words a 0))
  words-next h = record { same = words-at h ∙ sym (append_assoc bytes (word_line (from + a) (get_or words a 0)) (word_lines (from + (a + 1)) (drop (a + 1) words))) }

  pub words-all : length words ≤ a → word_lines from words ≡ bytes
  words-all h = d.same ∙ ap (λ ws. bytes ++ word_lines (from + a) ws) (drop_all a words h) ∙ append-nil bytes

-- ---- the words of a store that are there
