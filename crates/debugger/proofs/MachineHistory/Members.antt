-- The members of a history, and the states that are read off them.
use Rattle.std.proofs.Common.{◌≡◌, ℕ, zero, suc, ◌-◌, None, List, [], ◌∷◌, ◌++◌, length, drop, refl, ap, subst, ◌∙◌}
use Rattle.std.specs.List.{AllByRecursion}
use Rattle.circular_buffer.specs.Buffer.{keep_last}
use Rattle.debugger.specs.UndoJournal.Journals.{Past}
use Rattle.tripos_machine.specs.State.{IsSound, State, steps_of, stop_of, words_of}
use Rattle.debugger.specs.MachineHistory.FilesBefore.{files_at}
use Rattle.debugger.specs.MachineHistory.Histories.{IsMember}
use Rattle.debugger.specs.MachineHistory.Moments.{HoldsState, kernel_in, number, read, state_in, states}
use Rattle.debugger.specs.MachineHistory.Pasts.{Files}
use Rattle.debugger.specs.declared.machine_history.files.KeptFiles.{KeptFiles}
use Rattle.debugger.specs.declared.machine_history.moments.Moment.{Moment}
use Rattle.debugger.specs.declared.machine_history.moments.Moment.TheVariants.{Bare, Full}

steps-in : (keys : List (ℕ × ℕ)) (words : List ℕ) (f : Files) (m : Moment) → steps_of (state_in keys words f m) ≡ number m
unfolding kernel_in
steps-in keys words f (Bare m) = refl
steps-in keys words f (Full m) = refl

pub goes-in : (keys : List (ℕ × ℕ)) (words : List ℕ) (f : Files) (m : Moment) → stop_of (state_in keys words f m) ≡ None
unfolding kernel_in
goes-in keys words f (Bare m) = refl
goes-in keys words f (Full m) = refl

module _ (keys : List (ℕ × ℕ)) (fs : List KeptFiles) where
  pub steps-read : (p : Past Moment) → steps_of (read keys fs p) ≡ number p.side
  steps-read p = steps-in keys p.words (files_at (number p.side) fs) p.side

  pub states-length : (ps : List (Past Moment)) → length (states keys fs ps) ≡ length ps
  states-length [] = refl
  states-length (p ∷ ps) = ap suc (states-length ps)

  pub states-joined : (ps qs : List (Past Moment)) → states keys fs (ps ++ qs) ≡ states keys fs ps ++ states keys fs qs
  states-joined [] qs = refl
  states-joined (p ∷ ps) qs = ap (λ l. read keys fs p ∷ l) (states-joined ps qs)

  -- what holds of the steps of the states holds of those of the moments
  pub numbers-hold : (P : ℕ → Type 0) (ps : List (Past Moment)) → AllByRecursion (λ s. P (steps_of s)) (states keys fs ps) → AllByRecursion (λ p. P (number p.side)) ps
  numbers-hold P [] all = tt
  numbers-hold P (p ∷ ps) all = (subst P (steps-read p) all.0, numbers-hold P ps all.1)

-- ---- other files

module _ (keys : List (ℕ × ℕ)) (fs gs : List KeptFiles) where
  abbrev pub SameFiles : Past Moment → Type 0
  SameFiles p = files_at (number p.side) fs ≡ files_at (number p.side) gs

  pub read-same : (p : Past Moment) → SameFiles p → read keys fs p ≡ read keys gs p
  read-same p e = ap (λ f. state_in keys p.words f p.side) e

  pub states-same : (ps : List (Past Moment)) → AllByRecursion SameFiles ps → states keys fs ps ≡ states keys gs ps
  states-same [] all = refl
  states-same (p ∷ ps) all = λ i. read-same p all.0 i ∷ states-same ps all.1 i

module _ (keys : List (ℕ × ℕ)) (size : ℕ) (fs gs : List KeptFiles) where
  pub member-same : (p : Past Moment) → SameFiles keys fs gs p → IsMember keys size fs p → IsMember keys size gs p
  member-same p e m = record {
    size = m.size;
    words = subst (λ s. words_of s ≡ p.words) (read-same keys fs gs p e) m.words;
    holds = subst (HoldsState keys p.words p.side) (read-same keys fs gs p e) m.holds;
    sound = subst IsSound (read-same keys fs gs p e) m.sound;
  }

  pub members-same : (ps : List (Past Moment)) → AllByRecursion (SameFiles keys fs gs) ps → AllByRecursion (IsMember keys size fs) ps → AllByRecursion (IsMember keys size gs) ps
  members-same [] all ms = tt
  members-same (p ∷ ps) all ms = (member-same p all.0 ms.0, members-same ps all.1 ms.1)

-- ---- the last of a list

pub drop-states : (keys : List (ℕ × ℕ)) (fs : List KeptFiles) (n : ℕ) (ps : List (Past Moment)) → drop n (states keys fs ps) ≡ states keys fs (drop n ps)
drop-states keys fs n [] = dropped n
  where
    dropped : (n : ℕ) → drop {A = State} n [] ≡ states keys fs (drop n [])
    dropped zero = refl
    dropped (suc n) = refl
drop-states keys fs zero (p ∷ ps) = refl
drop-states keys fs (suc n) (p ∷ ps) = drop-states keys fs n ps

pub keep-states : (keys : List (ℕ × ℕ)) (fs : List KeptFiles) (n : ℕ) (ps : List (Past Moment)) → keep_last n (states keys fs ps) ≡ states keys fs (keep_last n ps)
keep-states keys fs n ps = ap (λ l. drop (l - n) (states keys fs ps)) (states-length keys fs ps) ∙ drop-states keys fs (length ps - n) ps
