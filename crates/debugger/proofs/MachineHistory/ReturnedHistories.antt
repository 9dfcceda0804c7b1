-- A history that has gone back.
use Rattle.std.proofs.Common.{◌≡◌, ℕ, zero, suc, ◌+◌, ◌-◌, ◌<◌, ◌≤◌, Option, Some, None, List, [], ◌∷◌, length, take, drop, get_or, length-take-le, take-take, take_all, refl, sym, ap, subst, ◌∙◌, arith}
use Rattle.std.specs.Prelude.{slice_get}
use Rattle.circular_buffer.specs.Buffer.{Buffer, last_item}
use Rattle.debugger.specs.UndoJournal.Journals.{Journal, Past, journal, side_back, went_back, words_back}
use Rattle.tripos_machine.specs.State.{State}
use Rattle.debugger.specs.MachineHistory.Histories.{files_back, journal_back, moment_back, ring_of}
use Rattle.debugger.specs.MachineHistory.Moments.{number, read, states}
use Rattle.debugger.specs.declared.machine_history.files.KeptFiles.{KeptFiles}
use Rattle.debugger.specs.declared.machine_history.moments.Moment.{Moment}
use Rattle.debugger.proofs.MachineHistory.NotedStates.{AreKept, HasReturned, has-returned}
use Rattle.debugger.proofs.MachineHistory.SplitLists.{is-split}

-- ---- the journal, state after state

module _ {X : Type 0} where
  get-none : (k : ℕ) (xs : List X) → length xs ≤ k → slice_get xs k ≡ None
  get-none k [] few = refl
  get-none zero (x ∷ xs) few = absurd (omega (arith, few))
  get-none (suc k) (x ∷ xs) few = get-none k xs (omega (arith, few))

  get-taken : (k : ℕ) (xs : List X) → slice_get (take (suc k) xs) k ≡ slice_get xs k
  get-taken zero [] = refl
  get-taken (suc k) [] = refl
  get-taken zero (x ∷ xs) = refl
  get-taken (suc k) (x ∷ xs) = get-taken k xs

  -- the last of the first ones
  last-taken : (n k : ℕ) (xs : List X) → n ≡ suc k → n ≤ length xs → last_item (take n xs) ≡ slice_get xs k
  last-taken n k xs is few =
      let count : length (take n xs) - 1 ≡ k = omega (arith, is, length-take-le n xs few) in
      ap (slice_get (take n xs)) count ∙ ap (λ m. slice_get (take m xs) k) is ∙ get-taken k xs

module _ (j : Journal Moment) where
  pub back-none : journal_back 0 j ≡ j
  back-none =
      let len = length j.past in
      let whole : len - 0 ≡ len = omega arith in
      let words : words_back j.words (slice_get j.past (len - 0)) ≡ j.words = ap (words_back j.words) (get-none (len - 0) j.past (omega arith)) in
      let past : take (len - 0) j.past ≡ j.past = ap (λ n. take n j.past) whole ∙ take_all len j.past (omega arith) in
      λ i. journal (words i) (past i) j.steps j.changes

  pub moment-none : moment_back 0 j ≡ None
  moment-none = ap side_back (get-none (length j.past - 0) j.past (omega arith))

  module _ (n : ℕ) (few : n < length j.past) where
    k : ℕ
    k = length j.past - (n + 1)

    pub last-back : last_item (journal_back n j).past ≡ slice_get j.past (length j.past - (n + 1))
    last-back = last-taken (length j.past - n) (length j.past - (n + 1)) j.past (omega (arith, few)) (omega arith)

    words-any : (v w : List ℕ) (k : ℕ) → k < length j.past → words_back v (slice_get j.past k) ≡ words_back w (slice_get j.past k)
    words-any v w k low = (let s = is-split k j.past low in ap (words_back v) s.got ∙ sym (ap (words_back w) s.got))

    pub back-more : went_back (journal_back n j) ≡ journal_back (n + 1) j
    back-more =
        let len = length j.past in
        let size : length (take (len - n) j.past) ≡ len - n = length-take-le (len - n) j.past (omega arith) in
        let words : words_back (journal_back n j).words (last_item (journal_back n j).past) ≡ words_back j.words (slice_get j.past (len - (n + 1))) =
        ap (words_back (journal_back n j).words) last-back ∙ words-any (journal_back n j).words j.words (len - (n + 1)) (omega (arith, few)) in
        let count : length (take (len - n) j.past) - 1 ≡ len - (n + 1) = omega (arith, size) in
        let past : take (length (take (len - n) j.past) - 1) (take (len - n) j.past) ≡ take (len - (n + 1)) j.past =
        ap (λ m. take m (take (len - n) j.past)) count ∙ take-take (len - (n + 1)) (len - n) j.past (omega arith) in
        λ i. journal (words i) (past i) j.steps j.changes

-- ---- the states

take-states : (keys : List (ℕ × ℕ)) (fs : List KeptFiles) (n : ℕ) (ps : List (Past Moment)) → take n (states keys fs ps) ≡ states keys fs (take n ps)
take-states keys fs zero [] = refl
take-states keys fs (suc n) [] = refl
take-states keys fs zero (p ∷ ps) = refl
take-states keys fs (suc n) (p ∷ ps) = ap (λ l. read keys fs p ∷ l) (take-states keys fs n ps)

get-states : (keys : List (ℕ × ℕ)) (fs : List KeptFiles) (k : ℕ) (ps : List (Past Moment)) (p : Past Moment) (d : State) → slice_get ps k ≡ Some p → get_or (states keys fs ps) k d ≡ read keys fs p
get-states keys fs k [] p d e = cc
get-states keys fs zero (q ∷ ps) p d e = (let same : q ≡ p = cc in ap (read keys fs) same)
get-states keys fs (suc k) (q ∷ ps) p d e = get-states keys fs k ps p d e

-- what is known of the state that is gone back to
pub record GoesBack (keys : List (ℕ × ℕ)) (size : ℕ) (o : Option (Buffer KeptFiles)) (k : ℕ) (ps : List (Past Moment)) (now : State) : Type 0 where
  pub member : Past Moment
  pub got : slice_get ps k ≡ Some member
  pub rest : HasReturned keys size o (number member.side) (take k ps)
  pub state : get_or (states keys (ring_of o) ps) k now ≡ read keys (ring_of o) member
  pub past : take k (states keys (ring_of o) ps) ≡ states keys (ring_of (files_back (number member.side) o)) (take k ps)

module _ (keys : List (ℕ × ℕ)) (size : ℕ) (o : Option (Buffer KeptFiles)) (n k : ℕ) (ps : List (Past Moment)) (h : AreKept keys size o n ps) (few : k < length ps) (now : State) where
  pub goes-back : GoesBack keys size o k ps now
  goes-back =
      let s = is-split k ps few in
      let r = has-returned keys size n (take k ps) s.member (drop (suc k) ps) o (subst (AreKept keys size o n) s.is h) in
      record {
        member = s.member;
        got = s.got;
        rest = r;
        state = get-states keys (ring_of o) k ps s.member now s.got;
        past = take-states keys (ring_of o) k ps ∙ sym r.same;
      }
