-- A journal of stores: the words that are now, and those that were before them, each with what was noted beside them.
use Rattle.std.specs.Prelude.{ℕ, ◌+◌, ◌-◌, ◌==◌, ◌&&◌, Bool, if◌then◌else◌, nat_le, Option, Some, None, List, [], ◌∷◌, ◌++◌, length, take, refl}
use Rattle.std.specs.Coded.{Coded, code_by, coded×, coded_list, coded_ℕ}
use Rattle.circular_buffer.specs.Buffer.{keep_last, last_item}

-- a member of past
pub record Past (T : Type 0) : Type 0 where
  -- the words of its store
  pub words : List ℕ
  -- what was noted beside them
  pub side : T

-- the words that are now, and what is past
pub record Journal (T : Type 0) : Type 0 where
  -- the words that are now
  pub words : List ℕ
  -- the stores before, the oldest first
  pub past : List (Past T)
  -- the most members that past has
  pub steps : ℕ
  -- the most words that change in past, from each member to the next and from the last one to now
  pub changes : ℕ

-- in how many places the words differ
abbrev pub differing : List ℕ → List ℕ → ℕ
differing [] ys = 0
differing (x ∷ xs) [] = 0
differing (x ∷ xs) (y ∷ ys) = (if x == y then 0 else 1) + differing xs ys

module _ {T : Type 0} where
  -- the words of the first member, or those that are now where there is none
  abbrev pub first_words : List ℕ → List (Past T) → List ℕ
  first_words now [] = now
  first_words now (p ∷ ps) = p.words

  -- how many words change from each member to the next, and from the last one to now
  abbrev pub changed_words : List ℕ → List (Past T) → ℕ
  changed_words now [] = 0
  changed_words now (p ∷ ps) = differing p.words (first_words now ps) + changed_words now ps

  -- there are at most so many members, in which at most so many words change
  abbrev pub fits : ℕ → ℕ → List ℕ → List (Past T) → Bool
  fits steps changes now ps = nat_le (length ps) steps && nat_le (changed_words now ps) changes

  -- the longest suffix that fits
  abbrev pub cut : ℕ → ℕ → List ℕ → List (Past T) → List (Past T)
  cut steps changes now [] = []
  cut steps changes now (p ∷ ps) = if fits steps changes now (p ∷ ps) then p ∷ ps else cut steps changes now ps

  abbrev pub journal : List ℕ → List (Past T) → ℕ → ℕ → Journal T
  journal words past steps changes = record { words = words; past = past; steps = steps; changes = changes }

  -- The words that are now go into past, with what is noted beside them, and these words are now. Of past the longest suffix that fits
  -- is left.
  abbrev pub noted : Journal T → List ℕ → T → Journal T
  noted j words side =
      journal words (cut j.steps j.changes words (j.past ++ (record { words = j.words; side = side }) ∷ [])) j.steps j.changes

  -- the words of the last member, or those that are now where there is none
  abbrev pub words_back : List ℕ → Option (Past T) → List ℕ
  words_back now None = now
  words_back now (Some p) = p.words

  -- what was noted beside the words of the last member, where there is one
  abbrev pub side_back : Option (Past T) → Option T
  side_back None = None
  side_back (Some p) = Some p.side

  -- the last member goes, and its words are now
  abbrev pub went_back : Journal T → Journal T
  went_back j = journal (words_back j.words (last_item j.past)) (take (length j.past - 1) j.past) j.steps j.changes

  -- the last n members stay
  abbrev pub shortened : Journal T → ℕ → Journal T
  shortened j n = journal j.words (keep_last n j.past) j.steps j.changes

  -- members of past, coded by those of T
  abbrev pub past_code : Coded T → Coded (Past T)
  past_code c =
      code_by (List ℕ × T) (coded× (coded_list coded_ℕ) c) (λ p. (p.words, p.side)) (λ q. record { words = q.0; side = q.1 }) (λ _. refl)

  -- journals likewise
  abbrev pub journal_code : Coded T → Coded (Journal T)
  journal_code c =
      code_by (List ℕ × (List (Past T) × (ℕ × ℕ))) (coded× (coded_list coded_ℕ) (coded× (coded_list (past_code c)) (coded× coded_ℕ coded_ℕ)))
      (λ j. (j.words, (j.past, (j.steps, j.changes)))) (λ q. journal q.0 q.1.0 q.1.1.0 q.1.1.1) (λ _. refl)
