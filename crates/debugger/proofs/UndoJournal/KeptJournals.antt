-- What the calls leave in the fields of a journal.
use Rattle.std.proofs.Common.{◌≡◌, ℕ, ◌+◌, ◌-◌, ◌≤◌, Some, List, [], ◌∷◌, ◌++◌, length, take, drop, refl, sym, ap, subst, ◌∙◌, arith, length-append}
use Rattle.std.proofs.lemmas.List.{length-take}
use Rattle.std.proofs.lemmas.List.Sums.{sum_by_push}
use Rattle.circular_buffer.specs.Buffer.{Buffer, buffer, keep_last, last_item}
use Rattle.debugger.specs.UndoJournal.FormerWords.{former_words, with_new_words, words_before}
use Rattle.debugger.specs.UndoJournal.Journals.{Journal, changed_words, cut, differing, journal, noted, shortened, side_back, went_back, words_back}
use Rattle.debugger.specs.UndoJournal.KeptJournal.{IsKept, journal_of}
use Rattle.debugger.specs.UndoJournal.KeptPast.{AreCounted, newest_members, past_of, total_changed}
use Rattle.debugger.specs.UndoJournal.Private.Rings.{ring_with}
use Rattle.debugger.specs.declared.undo_journal.former_words.FormerWord.{FormerWord}
use Rattle.debugger.specs.declared.undo_journal.journals.Journal.TheInside.{Inside}
use Rattle.debugger.specs.declared.undo_journal.members.Member.{Member}
use Rattle.debugger.proofs.UndoJournal.CutLemmas.{cut_last}
use Rattle.debugger.proofs.UndoJournal.FormerWordLemmas.{DifferAt, differing-former_words, differing-same, with_new_words_all, words_before-former_words}
use Rattle.debugger.proofs.UndoJournal.MemberLemmas.{changes_of, newest_members-le, newest_members-within}
use Rattle.debugger.proofs.UndoJournal.PastLemmas.{AreCounted-push, IsLast-last_item, changed_words-past_of, member, newest-past, past_of-last_item, past_of-push, total_changed-length}
use Rattle.debugger.proofs.UndoJournal.RingLemmas.{keep_last-keep_last, keep_last_all, last_item-push, take-push}

module _ {T : Type 0} where
  abbrev pub fields : List ℕ → Buffer FormerWord → Buffer (Member T) → ℕ → ℕ → Inside T
  fields latest former members steps changes = record { latest = latest; former = former; members = members; most_steps = steps; most_changes = changes }

  -- valid fields, which are this journal
  pub record IsKeptAs (i : Inside T) (j : Journal T) : Type 0 where
    pub kept : IsKept i
    pub is : journal_of i ≡ j

  -- ---- a note

  abbrev new_member : T → ℕ → Member T
  new_member side changed = record { side = side; changed = changed }

  module _ (i : Inside T) (kept : IsKept i) (new ats : List ℕ) (size : length i.latest ≡ length new) (differ : DifferAt i.latest new ats) (side : T) (changed : ℕ)
      (members : Buffer (Member T)) (pushed : members ≡ ring_with i.members (new_member side changed ∷ [])) where
    -- no member went when the new one came
    all-pushed : members ≡ buffer (i.members.items ++ new_member side changed ∷ []) i.members.capacity
    all-pushed =
        let few = kept.few in
        let places = kept.places in
        pushed ∙ ap (λ l. buffer l i.members.capacity)
        (keep_last_all i.members.capacity (i.members.items ++ new_member side changed ∷ []) (omega (arith, length-append i.members.items (new_member side changed ∷ []))))

    pub total-noted : length i.former.items + changed ≡ total_changed members.items
    total-noted =
        omega (
          arith,
          total_changed-length i.latest i.former.items i.members.items kept.counted,
          sum_by_push changes_of i.members.items (new_member side changed),
          ap (λ (b : Buffer (Member T)). total_changed b.items) all-pushed,
        )

    module _ (count : changed ≡ length (former_words i.latest new ats)) where
      abbrev more : List FormerWord
      more = i.former.items ++ former_words i.latest new ats

      abbrev newest : List (Member T)
      newest = newest_members i.most_steps i.most_changes (i.members.items ++ new_member side changed ∷ [])

      -- the newest members and their former words
      noted-past : AreCounted new (keep_last (total_changed newest) (keep_last i.most_changes more)) newest
          × (past_of new (keep_last (total_changed newest) (keep_last i.most_changes more)) newest
          ≡ cut i.most_steps i.most_changes new (past_of i.latest i.former.items i.members.items ++ member i.latest side ∷ []))
      noted-past =
          let m = new_member side changed in
          let all = with_new_words_all i.latest new ats size differ in
          let back : words_before (former_words i.latest new ats) new ≡ i.latest =
          sym (ap (words_before (former_words i.latest new ats)) all) ∙ words_before-former_words i.latest new ats in
          let none : differing (with_new_words i.latest new ats) new ≡ 0 = ap (λ v. differing v new) all ∙ differing-same new in
          let differ : differing i.latest new ≡ length (former_words i.latest new ats) = omega (arith, differing-former_words i.latest new ats size, none) in
          let both = newest-past i.most_steps i.most_changes new more (i.members.items ++ m ∷ [])
          (AreCounted-push new i.latest (former_words i.latest new ats) m count back differ i.former.items i.members.items kept.counted) in
          let same = keep_last-keep_last (total_changed newest) i.most_changes more (newest_members-within i.most_steps i.most_changes (i.members.items ++ m ∷ [])).1 in (
            subst (λ l. AreCounted new l newest) (sym same) both.0,
            ap (λ l. past_of new l newest) same
                ∙ (both.1 ∙ ap (cut i.most_steps i.most_changes new) (past_of-push new i.latest (former_words i.latest new ats) m count back i.former.items i.members.items kept.counted)),
          )

      pub keep-noted : (latest : List ℕ) (former former2 : Buffer FormerWord) (members2 : Buffer (Member T))
          → latest ≡ with_new_words i.latest new ats → former ≡ ring_with i.former (former_words i.latest new ats)
          → members2 ≡ buffer (newest_members i.most_steps i.most_changes members.items) members.capacity
          → former2 ≡ buffer (keep_last (total_changed members2.items) former.items) former.capacity
          → IsKeptAs (fields latest former2 members2 i.most_steps i.most_changes) (noted (journal_of i) new side)
      keep-noted latest former former2 members2 at one two three =
          let e1 : latest ≡ new = at ∙ with_new_words_all i.latest new ats size differ in
          let e2 : members2 ≡ buffer newest (i.most_steps + 1) =
          two ∙ (ap (λ (b : Buffer (Member T)). buffer (newest_members i.most_steps i.most_changes b.items) b.capacity) all-pushed ∙ ap (buffer newest) kept.places) in
          let ring : former ≡ buffer (keep_last i.most_changes more) i.most_changes = one ∙ ap (λ n. buffer (keep_last n more) n) kept.room in
          let e3 : former2 ≡ buffer (keep_last (total_changed newest) (keep_last i.most_changes more)) i.most_changes =
          three ∙ (ap (λ (b : Buffer (Member T)). buffer (keep_last (total_changed b.items) former.items) former.capacity) e2
          ∙ ap (λ (b : Buffer FormerWord). buffer (keep_last (total_changed newest) b.items) b.capacity) ring) in
          let same : fields latest former2 members2 i.most_steps i.most_changes
          ≡ fields new (buffer (keep_last (total_changed newest) (keep_last i.most_changes more)) i.most_changes) (buffer newest (i.most_steps + 1)) i.most_steps i.most_changes =
          λ k. fields (e1 k) (e3 k) (e2 k) i.most_steps i.most_changes in
          subst (λ f. IsKeptAs f (noted (journal_of i) new side)) (sym same) (record {
            kept = record {
              counted = noted-past.0;
              few = (newest_members-within i.most_steps i.most_changes (i.members.items ++ new_member side changed ∷ [])).0;
              room = refl;
              places = refl;
              bound = kept.bound;
            };
            is = ap (λ ps. journal new ps i.most_steps i.most_changes) noted-past.1;
          })

  -- ---- a step back

  pub record IsBack (i : Inside T) (m : Member T) (next : Inside T) : Type 0 where
    pub kept : IsKeptAs next (went_back (journal_of i))
    pub side : Some m.side ≡ side_back (last_item (journal_of i).past)
    pub words : next.latest ≡ words_back i.latest (last_item (journal_of i).past)

  pub is-back : (i : Inside T) → IsKept i → (m : Member T) → last_item i.members.items ≡ Some m
      → (latest : List ℕ) (former : Buffer FormerWord) (members : Buffer (Member T))
      → latest ≡ words_before (drop (length i.former.items - m.changed) i.former.items) i.latest
      → former ≡ buffer (take (length i.former.items - m.changed) i.former.items) i.former.capacity
      → members ≡ buffer (take (length i.members.items - 1) i.members.items) i.members.capacity
      → IsBack i m (fields latest former members i.most_steps i.most_changes)
  is-back i kept m last latest former members at one two =
      let fs = i.former.items in
      let ms = i.members.items in
      let n = length fs - m.changed in
      let words = words_before (drop n fs) i.latest in
      let front = take (length ms - 1) ms in
      let ps = past_of words (take n fs) front in
      let all = past_of-last_item i.latest fs ms m kept.counted last in
      let end : last_item (past_of i.latest fs ms) ≡ Some (member words m.side) = ap (λ l. last_item l) all ∙ last_item-push ps (member words m.side) in
      let rest : take (length (past_of i.latest fs ms) - 1) (past_of i.latest fs ms) ≡ ps = ap (λ l. take (length l - 1) l) all ∙ take-push ps (member words m.side) in
      let e2 : former ≡ buffer (take n fs) i.most_changes = one ∙ ap (buffer (take n fs)) kept.room in
      let e3 : members ≡ buffer front (i.most_steps + 1) = two ∙ ap (buffer front) kept.places in
      let same : fields latest former members i.most_steps i.most_changes ≡ fields words (buffer (take n fs) i.most_changes) (buffer front (i.most_steps + 1)) i.most_steps i.most_changes =
      λ k. fields (at k) (e2 k) (e3 k) i.most_steps i.most_changes in
      let few = kept.few in
      subst (IsBack i m) (sym same) (record {
        kept = record {
          kept = record {
            counted = (IsLast-last_item i.latest fs ms m kept.counted last).counted;
            few = omega (arith, length-take (length ms - 1) ms);
            room = refl;
            places = refl;
            bound = kept.bound;
          };
          is = λ k. journal (words_back i.latest (sym end k)) (sym rest k) i.most_steps i.most_changes;
        };
        side = ap side_back (sym end);
        words = ap (words_back i.latest) (sym end);
      })

  -- ---- the last n members

  pub keep-last : (i : Inside T) → IsKept i → (n total : ℕ) → total ≡ length i.former.items
      → (former : Buffer FormerWord) (members : Buffer (Member T))
      → members ≡ buffer (newest_members n total i.members.items) i.members.capacity
      → former ≡ buffer (keep_last (total_changed members.items) i.former.items) i.former.capacity
      → IsKeptAs (fields i.latest former members i.most_steps i.most_changes) (shortened (journal_of i) n)
  keep-last i kept n total all former members one two =
      let fs = i.former.items in
      let ms = i.members.items in
      let newest = newest_members n total ms in
      let e1 : members ≡ buffer newest (i.most_steps + 1) = one ∙ ap (buffer newest) kept.places in
      let e2 : former ≡ buffer (keep_last (total_changed newest) fs) i.most_changes =
      two ∙ (ap (λ (b : Buffer (Member T)). buffer (keep_last (total_changed b.items) fs) i.former.capacity) e1 ∙ ap (buffer (keep_last (total_changed newest) fs)) kept.room) in
      let same : fields i.latest former members i.most_steps i.most_changes
      ≡ fields i.latest (buffer (keep_last (total_changed newest) fs) i.most_changes) (buffer newest (i.most_steps + 1)) i.most_steps i.most_changes =
      λ k. fields i.latest (e2 k) (e1 k) i.most_steps i.most_changes in
      let both = newest-past n total i.latest fs ms kept.counted in
      let low : changed_words i.latest (past_of i.latest fs ms) ≤ total =
      omega (arith, all, changed_words-past_of i.latest fs ms kept.counted, total_changed-length i.latest fs ms kept.counted) in
      subst (λ f. IsKeptAs f (shortened (journal_of i) n)) (sym same) (record {
        kept = record {
          counted = both.0;
          few = omega (arith, kept.few, (newest_members-le n total ms).0);
          room = refl;
          places = refl;
          bound = kept.bound;
        };
        is = ap (λ ps. journal i.latest ps i.most_steps i.most_changes) (both.1 ∙ cut_last n total i.latest (past_of i.latest fs ms) low);
      })
