-- How past is kept: by the words that are now, and for each member the words in which it differs from the next. So the words of a member
-- are those of the next one, with its former words put back.
use Rattle.std.specs.Prelude.{◌≡◌, ℕ, ◌≤◌, ◌&&◌, if◌then◌else◌, nat_le, List, [], ◌∷◌, drop, length, sum_by, take}
use Rattle.debugger.specs.UndoJournal.FormerWords.{words_before}
use Rattle.debugger.specs.UndoJournal.Journals.{Past, differing, first_words}
use Rattle.debugger.specs.declared.undo_journal.former_words.FormerWord.{FormerWord}
use Rattle.debugger.specs.declared.undo_journal.members.Member.{Member}

module _ {T : Type 0} where
  -- the past that these former words and members are
  abbrev pub past_of : List ℕ → List FormerWord → List (Member T) → List (Past T)
  past_of now fs [] = []
  past_of now fs (m ∷ ms) =
      let later = past_of now (drop m.changed fs) ms in
      (record { words = words_before (take m.changed fs) (first_words now later); side = m.side }) ∷ later

  -- each member has as many former words as words change from it to the next
  abbrev pub AreCounted : List ℕ → List FormerWord → List (Member T) → Type 0
  AreCounted now fs [] = fs ≡ []
  AreCounted now fs (m ∷ ms) =
      let next = first_words now (past_of now (drop m.changed fs) ms) in
      (m.changed ≤ length fs) × (differing (words_before (take m.changed fs) next) next ≡ m.changed) × AreCounted now (drop m.changed fs) ms

  -- how many words change in the members
  abbrev pub total_changed : List (Member T) → ℕ
  total_changed members = sum_by (λ m. m.changed) members

  -- the longest suffix of at most so many members, in which at most so many words change
  abbrev pub newest_members : ℕ → ℕ → List (Member T) → List (Member T)
  newest_members steps changes [] = []
  newest_members steps changes (m ∷ ms) =
      if nat_le (length (m ∷ ms)) steps && nat_le (total_changed (m ∷ ms)) changes then m ∷ ms else newest_members steps changes ms
