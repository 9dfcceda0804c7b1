-- The lines of words that are others than before, one after the other.
use Rattle.std.proofs.Common.{◌≡◌, ◌∙◌, ℕ, ◌<◌, ◌≤◌, ◌+◌, Bool, List, [], ◌++◌, refl, sym, ap, append_assoc, append-nil, add-one, length, get_or, drop, drop-cons}
use Rattle.std.proofs.lemmas.List.{drop_all}
use Rattle.show_run.specs.declared.step_log.moments.Moment.{Moment}
use Rattle.show_run.specs.StepLog.Writes.{changed_line, changed_lines}

-- the bytes so far, and the lines of the words from a on, make all lines
pub record AreChangedSoFar (m : Moment) (kernels : ℕ → Bool) (old words : List ℕ) (a : ℕ) (bytes : List ℕ) : Type 0 where
  pub same : changed_lines m kernels old 0 words ≡ bytes ++ changed_lines m kernels old a (drop a words)

pub changed-first : (m : Moment) (kernels : ℕ → Bool) (old words : List ℕ) → AreChangedSoFar m kernels old words 0 []
changed-first m kernels old words = record { same = refl }

module _ {m : Moment} {kernels : ℕ → Bool} {old words : List ℕ} {a : ℕ} {bytes : List ℕ} (d : AreChangedSoFar m kernels old words a bytes) where
  abbrev here : List ℕ
  here = changed_line m kernels old a (get_or words a 0)

  -- the line of a word
  pub changed-at : a < length words → changed_lines m kernels old 0 words ≡ bytes ++ (here ++ changed_lines m kernels old (a + 1) (drop (a + 1) words))
  changed-at h =
      let next : changed_lines m kernels old a (drop a words) ≡ here ++ changed_lines m kernels old (a + 1) (drop (a + 1) words) = rw (drop-cons words a 0 h, add-one) refl in
      d.same ∙ ap (λ v. bytes ++ v) next

  pub changed-next : a < length words → AreChangedSoFar m kernels old words (a + 1) (bytes ++ here)
  changed-next h = record { same = changed-at h ∙ sym (append_assoc bytes here (changed_lines m kernels old (a + 1) (drop (a + 1) words))) }

  pub changed-all : length words ≤ a → changed_lines m kernels old 0 words ≡ bytes
  changed-all h = rw (d.same, drop_all a words h, append-nil) refl
