-- The newest members of a past: the longest suffix that is small enough.
use Rattle.std.proofs.Common.{◌≡◌, ℕ, ◌≤◌, ◌&&◌, Bool, true, false, cond, leb, List, [], ◌∷◌, length, refl, arith}
use Rattle.std.proofs.lemmas.Bool.{and_from, and_parts, cond-true, le-leb, leb-true}
use Rattle.std.proofs.lemmas.List.Sums.{sum_by-cons}
use Rattle.debugger.specs.UndoJournal.KeptPast.{newest_members, total_changed}
use Rattle.debugger.specs.declared.undo_journal.members.Member.{Member}

module _ {T : Type 0} where
  abbrev pub changes_of : Member T → ℕ
  changes_of m = m.changed

  module _ (steps changes : ℕ) where
    -- these members are small enough
    abbrev pub are_few : List (Member T) → Bool
    are_few ms = leb (length ms) steps && leb (total_changed ms) changes

    pub newest_members_all : (ms : List (Member T)) → length ms ≤ steps → total_changed ms ≤ changes → newest_members steps changes ms ≡ ms
    newest_members_all [] few less = refl
    newest_members_all (m ∷ ms) few less =
        cond-true (are_few (m ∷ ms)) (m ∷ ms) (newest_members steps changes ms)
        (and_from (leb (length (m ∷ ms)) steps) (leb (total_changed (m ∷ ms)) changes) (le-leb (length (m ∷ ms)) steps few) (le-leb (total_changed (m ∷ ms)) changes less))

    pub newest_members-within : (ms : List (Member T)) → (length (newest_members steps changes ms) ≤ steps) × (total_changed (newest_members steps changes ms) ≤ changes)
    newest_members-within [] = (omega arith, omega arith)
    newest_members-within (m ∷ ms) = on (are_few (m ∷ ms)) refl (newest_members-within ms)
      where
        on : (b : Bool) → are_few (m ∷ ms) ≡ b → (length (newest_members steps changes ms) ≤ steps) × (total_changed (newest_members steps changes ms) ≤ changes)
            → (length (cond b (m ∷ ms) (newest_members steps changes ms)) ≤ steps) × (total_changed (cond b (m ∷ ms) (newest_members steps changes ms)) ≤ changes)
        on true e rest =
            let parts = and_parts (leb (length (m ∷ ms)) steps) (leb (total_changed (m ∷ ms)) changes) e in
            (leb-true (length (m ∷ ms)) steps parts.0, leb-true (total_changed (m ∷ ms)) changes parts.1)
        on false e rest = rest

    -- they are no more than all
    pub newest_members-le : (ms : List (Member T)) → (length (newest_members steps changes ms) ≤ length ms) × (total_changed (newest_members steps changes ms) ≤ total_changed ms)
    newest_members-le [] = (omega arith, omega arith)
    newest_members-le (m ∷ ms) = on (are_few (m ∷ ms)) (newest_members-le ms)
      where
        on : (b : Bool) → (length (newest_members steps changes ms) ≤ length ms) × (total_changed (newest_members steps changes ms) ≤ total_changed ms)
            → (length (cond b (m ∷ ms) (newest_members steps changes ms)) ≤ length (m ∷ ms)) × (total_changed (cond b (m ∷ ms) (newest_members steps changes ms)) ≤ total_changed (m ∷ ms))
        on true rest = (omega arith, omega arith)
        on false rest = (omega (arith, rest.0), omega (arith, rest.1, sum_by-cons changes_of m ms))
