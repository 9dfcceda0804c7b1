-- The past that is kept as former words: its size, a member more, its last member, and its newest ones.
use Rattle.std.proofs.Common.{◌≡◌, ℕ, suc, ◌+◌, ◌-◌, ◌≤◌, ◌&&◌, Bool, true, false, cond, leb, Some, List, [], ◌∷◌, ◌++◌, length, take, drop, refl, sym, ap, subst, ◌∙◌, arith, length-append, length-drop}
use Rattle.std.proofs.lemmas.List.{drop-append-le, drop-drop, drop-take, drop_all, length-take, take-append-drop, take-append-le, take-take, take_all}
use Rattle.std.proofs.lemmas.List.Sums.{sum_by-cons}
use Rattle.circular_buffer.specs.Buffer.{keep_last, last_item}
use Rattle.debugger.specs.UndoJournal.FormerWords.{words_before}
use Rattle.debugger.specs.UndoJournal.Journals.{Past, changed_words, cut, differing, first_words, fits}
use Rattle.debugger.specs.UndoJournal.KeptPast.{AreCounted, newest_members, past_of, total_changed}
use Rattle.debugger.specs.declared.undo_journal.former_words.FormerWord.{FormerWord}
use Rattle.debugger.specs.declared.undo_journal.members.Member.{Member}
use Rattle.debugger.proofs.UndoJournal.MemberLemmas.{are_few, changes_of, newest_members-le}
use Rattle.debugger.proofs.UndoJournal.RingLemmas.{keep_last_all, split_at_last}

module _ {T : Type 0} where
  -- ---- its size

  pub total_changed-length : (now : List ℕ) (fs : List FormerWord) (ms : List (Member T)) → AreCounted now fs ms → total_changed ms ≡ length fs
  total_changed-length now fs [] h = sym (ap length h)
  total_changed-length now fs (m ∷ ms) h =
      let low = h.0 in omega (arith, sum_by-cons changes_of m ms, total_changed-length now (drop m.changed fs) ms h.2, length-drop m.changed fs)

  pub changed_words-past_of : (now : List ℕ) (fs : List FormerWord) (ms : List (Member T)) → AreCounted now fs ms
      → changed_words now (past_of now fs ms) ≡ total_changed ms
  changed_words-past_of now fs [] h = refl
  changed_words-past_of now fs (m ∷ ms) h =
      let one = h.1 in omega (arith, one, sum_by-cons changes_of m ms, changed_words-past_of now (drop m.changed fs) ms h.2)

  pub length-past_of : (now : List ℕ) (fs : List FormerWord) (ms : List (Member T)) → length (past_of now fs ms) ≡ length ms
  length-past_of now fs [] = refl
  length-past_of now fs (m ∷ ms) = ap suc (length-past_of now (drop m.changed fs) ms)

  -- ---- a member more

  abbrev pub member : List ℕ → T → Past T
  member words side = record { words = words; side = side }

  first_words-push : (now words : List ℕ) (side : T) (ps : List (Past T)) → first_words now (ps ++ member words side ∷ []) ≡ first_words words ps
  first_words-push now words side [] = refl
  first_words-push now words side (p ∷ ps) = refl

  module _ (now words : List ℕ) (new : List FormerWord) (m : Member T) (count : m.changed ≡ length new) (is : words_before new now ≡ words) where
    pub past_of-push : (fs : List FormerWord) (ms : List (Member T)) → AreCounted words fs ms
        → past_of now (fs ++ new) (ms ++ m ∷ []) ≡ past_of words fs ms ++ member words m.side ∷ []
    past_of-push fs [] h =
        ap (λ l. member (words_before (take m.changed (l ++ new)) now) m.side ∷ []) h
        ∙ (ap (λ l. member (words_before l now) m.side ∷ []) (take_all m.changed new (omega arith)) ∙ ap (λ v. member v m.side ∷ []) is)
    past_of-push fs (k ∷ ms) h =
        let later = past_of words (drop k.changed fs) ms in
        let rest = ap (λ l. past_of now l (ms ++ m ∷ [])) (drop-append-le k.changed fs new h.0) ∙ past_of-push (drop k.changed fs) ms h.2 in
        ap (λ ps. member (words_before (take k.changed (fs ++ new)) (first_words now ps)) k.side ∷ ps) rest
        ∙ (λ i. member (words_before (take-append-le k.changed fs new h.0 i) (first_words-push now words m.side later i)) k.side ∷ (later ++ member words m.side ∷ []))

    pub AreCounted-push : differing words now ≡ length new → (fs : List FormerWord) (ms : List (Member T)) → AreCounted words fs ms → AreCounted now (fs ++ new) (ms ++ m ∷ [])
    AreCounted-push d fs [] h =
        subst (λ l. AreCounted now (l ++ new) (m ∷ [])) (sym h) (
          omega arith,
          ap (λ l. differing (words_before l now) now) (take_all m.changed new (omega arith)) ∙ (ap (λ v. differing v now) is ∙ (d ∙ sym count)),
          drop_all m.changed new (omega arith),
        )
    AreCounted-push d fs (k ∷ ms) h =
        let later = past_of words (drop k.changed fs) ms in
        let dropped = drop-append-le k.changed fs new h.0 in
        let rest = ap (λ l. past_of now l (ms ++ m ∷ [])) dropped ∙ past_of-push (drop k.changed fs) ms h.2 in
        let next = ap (first_words now) rest ∙ first_words-push now words m.side later in
        let low = h.0 in (
          omega (arith, length-append fs new),
          (λ i. differing (words_before (take-append-le k.changed fs new low i) (next i)) (next i)) ∙ h.1,
          subst (λ l. AreCounted now l (ms ++ m ∷ [])) (sym dropped) (AreCounted-push d (drop k.changed fs) ms h.2),
        )

  -- ---- its last member

  -- this is the last member, behind these, and its former words are the last
  pub record IsLast (now : List ℕ) (fs : List FormerWord) (ms : List (Member T)) (m : Member T) : Type 0 where
    pub low : m.changed ≤ length fs
    pub differs : differing (words_before (drop (length fs - m.changed) fs) now) now ≡ m.changed
    pub counted : AreCounted (words_before (drop (length fs - m.changed) fs) now) (take (length fs - m.changed) fs) ms

  past_of-IsLast : (now : List ℕ) (fs : List FormerWord) (ms : List (Member T)) (m : Member T) → IsLast now fs ms m
      → let n = length fs - m.changed in let words = words_before (drop n fs) now in
      past_of now fs (ms ++ m ∷ []) ≡ past_of words (take n fs) ms ++ member words m.side ∷ []
  past_of-IsLast now fs ms m s =
      let n = length fs - m.changed in
      let low = s.low in
      let count : m.changed ≡ length (drop n fs) = omega (arith, length-drop n fs) in
      ap (λ l. past_of now l (ms ++ m ∷ [])) (sym (take-append-drop n fs)) ∙ past_of-push now (words_before (drop n fs) now) (drop n fs) m count refl (take n fs) ms s.counted

  IsLast-split : (now : List ℕ) (fs : List FormerWord) (ms : List (Member T)) (m : Member T) → AreCounted now fs (ms ++ m ∷ []) → IsLast now fs ms m
  IsLast-split now fs [] m h =
      let low = h.0 in
      let none : length fs - m.changed ≡ 0 = omega (arith, length-drop m.changed fs, ap length h.2) in
      record {
        low = low;
        differs = ap (λ k. differing (words_before (drop k fs) now) now) none
            ∙ (ap (λ l. differing (words_before l now) now) (sym (take_all m.changed fs (omega arith))) ∙ h.1);
        counted = ap (λ k. take k fs) none;
      }
  IsLast-split now fs (k ∷ ms) m h =
      let gs = drop k.changed fs in
      let r = IsLast-split now gs ms m h.2 in
      let rest = length gs - m.changed in
      let n = length fs - m.changed in
      let low = h.0 in
      let less = r.low in
      let long = length-drop k.changed fs in
      let at : k.changed + rest ≡ n = omega arith in
      let words = words_before (drop n fs) now in
      let same : words_before (drop rest gs) now ≡ words = ap (λ l. words_before l now) (drop-drop rest k.changed fs ∙ ap (λ i. drop i fs) at) in
      let front : take rest gs ≡ drop k.changed (take n fs) = sym (drop-take k.changed rest fs) ∙ ap (λ i. drop k.changed (take i fs)) at in
      let next : first_words now (past_of now gs (ms ++ m ∷ [])) ≡ first_words words (past_of words (drop k.changed (take n fs)) ms) =
      ap (first_words now) (past_of-IsLast now gs ms m r)
      ∙ (first_words-push now (words_before (drop rest gs) now) m.side (past_of (words_before (drop rest gs) now) (take rest gs) ms)
      ∙ (λ i. first_words (same i) (past_of (same i) (front i) ms))) in
      record {
        low = omega arith;
        differs = ap (λ v. differing v now) (sym same) ∙ r.differs;
        counted = (
          omega (arith, length-take n fs),
          (λ i. differing (words_before (take-take k.changed n fs (omega arith) i) (sym next i)) (sym next i)) ∙ h.1,
          subst (λ l. AreCounted words l ms) front (subst (λ v. AreCounted v (take rest gs) ms) same r.counted),
        );
      }

  module _ (now : List ℕ) (fs : List FormerWord) (ms : List (Member T)) (m : Member T) (h : AreCounted now fs ms) (e : last_item ms ≡ Some m) where
    pub IsLast-last_item : IsLast now fs (take (length ms - 1) ms) m
    IsLast-last_item = IsLast-split now fs (take (length ms - 1) ms) m (subst (AreCounted now fs) (split_at_last ms m e) h)

    pub past_of-last_item : let n = length fs - m.changed in let words = words_before (drop n fs) now in
        past_of now fs ms ≡ past_of words (take n fs) (take (length ms - 1) ms) ++ member words m.side ∷ []
    past_of-last_item = ap (past_of now fs) (split_at_last ms m e) ∙ past_of-IsLast now fs (take (length ms - 1) ms) m IsLast-last_item

  -- ---- its newest members

  -- with the last former words, as many as they have, these members are this past
  abbrev HasPast : List ℕ → List FormerWord → List (Member T) → List (Past T) → Type 0
  HasPast now fs ms ps = AreCounted now (keep_last (total_changed ms) fs) ms × (past_of now (keep_last (total_changed ms) fs) ms ≡ ps)

  pub newest-past : (steps changes : ℕ) (now : List ℕ) (fs : List FormerWord) (ms : List (Member T)) → AreCounted now fs ms
      → HasPast now fs (newest_members steps changes ms) (cut steps changes now (past_of now fs ms))
  newest-past steps changes now fs [] h = (ap (keep_last 0) h, refl)
  newest-past steps changes now fs (m ∷ ms) h =
      let both = on (are_few steps changes (m ∷ ms)) (newest-past steps changes now (drop m.changed fs) ms h.2) in
      (both.0, both.1 ∙ ap (λ b. cond b (past_of now fs (m ∷ ms)) (cut steps changes now (past_of now (drop m.changed fs) ms))) (sym same))
    where
      same : fits steps changes now (past_of now fs (m ∷ ms)) ≡ are_few steps changes (m ∷ ms)
      same = λ i. leb (length-past_of now fs (m ∷ ms) i) steps && leb (changed_words-past_of now fs (m ∷ ms) h i) changes

      on : (b : Bool) → HasPast now (drop m.changed fs) (newest_members steps changes ms) (cut steps changes now (past_of now (drop m.changed fs) ms))
          → HasPast now fs (cond b (m ∷ ms) (newest_members steps changes ms)) (cond b (past_of now fs (m ∷ ms)) (cut steps changes now (past_of now (drop m.changed fs) ms)))
      on true rest =
          let all : keep_last (total_changed (m ∷ ms)) fs ≡ fs = keep_last_all (total_changed (m ∷ ms)) fs (omega (arith, total_changed-length now fs (m ∷ ms) h)) in
          (subst (λ l. AreCounted now l (m ∷ ms)) (sym all) h, ap (λ l. past_of now l (m ∷ ms)) all)
      on false rest =
          let n = total_changed (newest_members steps changes ms) in
          let low = h.0 in
          let at : m.changed + (length (drop m.changed fs) - n) ≡ length fs - n =
          omega (arith, low, (newest_members-le steps changes ms).1, total_changed-length now (drop m.changed fs) ms h.2, length-drop m.changed fs) in
          let last : keep_last n (drop m.changed fs) ≡ keep_last n fs = drop-drop (length (drop m.changed fs) - n) m.changed fs ∙ ap (λ k. drop k fs) at in
          (subst (λ l. AreCounted now l (newest_members steps changes ms)) last rest.0, ap (λ l. past_of now l (newest_members steps changes ms)) (sym last) ∙ rest.1)
