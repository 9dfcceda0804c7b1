-- A dump, a line at a time.
use Rattle.std.proofs.Common.{◌≡◌, ◌∙◌, ℕ, ◌<◌, ◌≤◌, ◌+◌, List, [], ◌++◌, refl, sym, ap, append_assoc, append-nil, add-one, length, get_or, drop, drop-cons}
use Rattle.std.proofs.lemmas.List.{drop_all}
use Rattle.tripos_run.specs.Texts.{dump_text, word_text}

-- the bytes so far, and the lines of the words from a on, make the whole dump
pub record IsDumpSoFar (words : List ℕ) (a : ℕ) (bytes : List ℕ) : Type 0 where
  pub same : dump_text 0 words ≡ bytes ++ dump_text a (drop a words)

pub dump-first : (words : List ℕ) → IsDumpSoFar words 0 []
dump-first words = record { same = refl }

module _ {words : List ℕ} {a : ℕ} {bytes : List ℕ} (d : IsDumpSoFar words a bytes) where
  -- the line of a word
  pub dump-at : a < length words → dump_text 0 words ≡ bytes ++ (word_text a (get_or words a 0) ++ dump_text (a + 1) (drop (a + 1) words))
  dump-at h =
      let next : dump_text a (drop a words) ≡ word_text a (get_or words a 0) ++ dump_text (a + 1) (drop (a + 1) words) = rw (drop-cons words a 0 h, add-one) refl in
      d.same ∙ ap (λ v. bytes ++ v) next

  pub dump-next : a < length words → IsDumpSoFar words (a + 1) (bytes ++ word_text a (get_or words a 0))
  dump-next h = record { same = dump-at h ∙ sym (append_assoc bytes (word_text a (get_or words a 0)) (dump_text (a + 1) (drop (a + 1) words))) }

  pub dump-all : length words ≤ a → dump_text 0 words ≡ bytes
  dump-all h = rw (d.same, drop_all a words h, append-nil) refl
