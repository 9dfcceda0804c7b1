-- What is kept of a past is its longest suffix that fits.
use Rattle.std.proofs.Common.{◌≡◌, ℕ, suc, ◌+◌, ◌<◌, ◌≤◌, ◌&&◌, ◌⊎◌, inl, inr, Bool, true, false, cond, leb, List, [], ◌∷◌, ◌++◌, length, refl, ap, ◌∙◌, arith, append_assoc, length-append}
use Rattle.std.specs.List.{AllByRecursion}
use Rattle.std.proofs.lemmas.Bool.{le-leb, lt-leb}
use Rattle.std.proofs.Math.Bool.{and-false}
use Rattle.tripos_machine.specs.State.{State, words_of}
use Rattle.debugger.specs.UndoJournal.Journals.{Past, changed_words, cut, differing, first_words, fits as fits_journal}
use Rattle.debugger.specs.MachineHistory.Moments.{read, states}
use Rattle.debugger.specs.MachineHistory.Pasts.{changes, file_turns, first_of, fits, kept, most_changes, most_states, most_turns}
use Rattle.debugger.specs.declared.machine_history.files.KeptFiles.{KeptFiles}
use Rattle.debugger.specs.declared.machine_history.moments.Moment.{Moment}
use Rattle.debugger.proofs.MachineHistory.FilesOfStates.{EndsInTurn}

-- ---- the law

module _ (now : State) where
  pub is-suffix : (ss : List State) → (dropped : List State) × (dropped ++ kept ss now ≡ ss)
  is-suffix [] = ([], refl)
  is-suffix (s ∷ ss) = on (fits (s ∷ ss) now) (is-suffix ss)
    where
      on : (b : Bool) → (dropped : List State) × (dropped ++ kept ss now ≡ ss) → (dropped : List State) × (dropped ++ cond b (s ∷ ss) (kept ss now) ≡ s ∷ ss)
      on true rest = ([], refl)
      on false rest = (s ∷ rest.0, ap (λ l. s ∷ l) rest.1)

  pub kept-fits : (ss : List State) → fits (kept ss now) now ≡ true
  kept-fits [] = refl
  kept-fits (s ∷ ss) = on (fits (s ∷ ss) now) refl (kept-fits ss)
    where
      on : (b : Bool) → fits (s ∷ ss) now ≡ b → fits (kept ss now) now ≡ true → fits (cond b (s ∷ ss) (kept ss now)) now ≡ true
      on true e rest = e
      on false e rest = rest

  whole : (back : List State) → fits back now ≡ true → length back ≤ length (kept back now)
  whole [] e = omega arith
  whole (s ∷ ss) e = rw e (omega arith)

  pub is-longest : (front back : List State) → fits back now ≡ true → length back ≤ length (kept (front ++ back) now)
  is-longest [] back e = whole back e
  is-longest (s ∷ front) back e = on (fits (s ∷ (front ++ back)) now) (is-longest front back e)
    where
      on : (b : Bool) → length back ≤ length (kept (front ++ back) now) → length back ≤ length (cond b (s ∷ (front ++ back)) (kept (front ++ back) now))
      on true rest = omega (arith, length-append front back)
      on false rest = rest

  -- ---- too many turns

  turns-more : (front back : List State) → file_turns back ≤ file_turns (front ++ back)
  turns-more [] back = omega arith
  turns-more (s ∷ front) back = let rest = turns-more front back in omega (arith, rest)

  too-many : (ss : List State) → most_turns < file_turns ss → fits ss now ≡ false
  too-many ss many = ap (λ c. (leb (length ss) most_states && leb (changes ss now) most_changes) && c) (lt-leb (file_turns ss) most_turns many) ∙ and-false (leb (length ss) most_states && leb (changes ss now) most_changes)

  -- of a past with too many turns the first of them goes, and all before it
  pub skipped : (front : List State) (s : State) (rest : List State) → most_turns < file_turns (s ∷ rest) → kept (front ++ s ∷ rest) now ≡ kept rest now
  skipped [] s rest many = ap (λ b. cond b (s ∷ rest) (kept rest now)) (too-many (s ∷ rest) many)
  skipped (f ∷ front) s rest many =
      let more = turns-more (f ∷ front) (s ∷ rest) in
      ap (λ b. cond b (f ∷ front ++ s ∷ rest) (kept (front ++ s ∷ rest) now)) (too-many (f ∷ front ++ s ∷ rest) (omega (arith, many, more)))
      ∙ skipped front s rest many

  pub room-kept : (gone rest : List State) (s : State) → (gone ≡ []) ⊎ EndsInTurn gone rest s → kept ((gone ++ rest) ++ s ∷ []) now ≡ kept (rest ++ s ∷ []) now
  room-kept gone rest s (inl none) = ap (λ g. kept ((g ++ rest) ++ s ∷ []) now) none
  room-kept gone rest s (inr e) =
      let whole : (gone ++ rest) ++ s ∷ [] ≡ e.front ++ e.turn ∷ (rest ++ s ∷ []) =
      ap (λ g. (g ++ rest) ++ s ∷ []) e.is ∙ ap (λ l. l ++ s ∷ []) (append_assoc e.front (e.turn ∷ []) rest) ∙ append_assoc e.front (e.turn ∷ rest) (s ∷ []) in
      let many = e.many in
      let more : file_turns (e.turn ∷ (rest ++ s ∷ [])) ≡ 17 = ap (λ b. cond b 1 0 + file_turns (rest ++ s ∷ [])) e.serves ∙ omega (arith, many) in
      ap (λ l. kept l now) whole ∙ skipped e.front e.turn (rest ++ s ∷ []) (omega (arith, more))

-- ---- what a journal keeps

module _ (keys : List (ℕ × ℕ)) (fs : List KeptFiles) (now : State) (words : List ℕ) (same : words_of now ≡ words) where
  abbrev HasWords : Past Moment → Type 0
  HasWords p = words_of (read keys fs p) ≡ p.words

  first-read : (ps : List (Past Moment)) → AllByRecursion HasWords ps → words_of (first_of (states keys fs ps) now) ≡ first_words words ps
  first-read [] all = same
  first-read (p ∷ ps) all = all.0

  changes-read : (ps : List (Past Moment)) → AllByRecursion HasWords ps → changes (states keys fs ps) now ≡ changed_words words ps
  changes-read [] all = refl
  changes-read (p ∷ ps) all = λ i. differing (all.0 i) (first-read ps all.1 i) + changes-read ps all.1 i

  length-read : (ps : List (Past Moment)) → length (states keys fs ps) ≡ length ps
  length-read [] = refl
  length-read (p ∷ ps) = ap suc (length-read ps)

  and-true : (a : Bool) → (a && true) ≡ a
  and-true true = refl
  and-true false = refl

  fits-read : (ps : List (Past Moment)) → AllByRecursion HasWords ps → file_turns (states keys fs ps) ≤ most_turns → fits (states keys fs ps) now ≡ fits_journal most_states most_changes words ps
  fits-read ps all few =
      ap (λ c. (leb (length (states keys fs ps)) most_states && leb (changes (states keys fs ps) now) most_changes) && c) (le-leb (file_turns (states keys fs ps)) most_turns few)
      ∙ and-true (leb (length (states keys fs ps)) most_states && leb (changes (states keys fs ps) now) most_changes)
      ∙ (λ i. leb (length-read ps i) most_states && leb (changes-read ps all i) most_changes)

  pub kept-read : (ps : List (Past Moment)) → AllByRecursion HasWords ps → file_turns (states keys fs ps) ≤ most_turns → kept (states keys fs ps) now ≡ states keys fs (cut most_states most_changes words ps)
  kept-read [] all few = refl
  kept-read (p ∷ ps) all few =
      ap (λ b. cond b (states keys fs (p ∷ ps)) (kept (states keys fs ps) now)) (fits-read (p ∷ ps) all few)
      ∙ ap (λ l. cond (fits_journal most_states most_changes words (p ∷ ps)) (states keys fs (p ∷ ps)) l) (kept-read ps all.1 (omega (arith, few)))
      ∙ on (fits_journal most_states most_changes words (p ∷ ps))
    where
      on : (b : Bool) → cond b (states keys fs (p ∷ ps)) (states keys fs (cut most_states most_changes words ps)) ≡ states keys fs (cond b (p ∷ ps) (cut most_states most_changes words ps))
      on true = refl
      on false = refl
