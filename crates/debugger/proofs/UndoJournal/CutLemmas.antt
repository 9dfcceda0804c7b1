-- What is left of past after a note: its longest suffix that fits.
use Rattle.std.proofs.Common.{◌≡◌, ℕ, suc, ◌-◌, ◌<◌, ◌≤◌, Bool, true, false, cond, leb, ◌&&◌, Some, List, [], ◌∷◌, ◌++◌, length, take, drop, refl, sym, ap, ◌∙◌, arith, inl, inr, length-append}
use Rattle.std.proofs.lemmas.Bool.{and_from, cases_lt, cond-true, le-leb, lt-leb}
use Rattle.std.proofs.lemmas.List.{drop_all}
use Rattle.circular_buffer.specs.Buffer.{keep_last, last_item}
use Rattle.debugger.specs.UndoJournal.Journals.{Journal, Past, changed_words, cut, differing, fits, journal, noted, side_back, went_back, words_back}
use Rattle.debugger.proofs.UndoJournal.RingLemmas.{keep_last_all, last_item-push, take-push}

module _ {T : Type 0} (steps changes : ℕ) (now : List ℕ) where
  pub suffix-cut : (ps : List (Past T)) → (dropped : List (Past T)) × (dropped ++ cut steps changes now ps ≡ ps)
  suffix-cut [] = ([], refl)
  suffix-cut (p ∷ ps) = on (fits steps changes now (p ∷ ps)) (suffix-cut ps)
    where
      on : (b : Bool) → (dropped : List (Past T)) × (dropped ++ cut steps changes now ps ≡ ps)
          → (dropped : List (Past T)) × (dropped ++ cond b (p ∷ ps) (cut steps changes now ps) ≡ p ∷ ps)
      on true rest = ([], refl)
      on false rest = (p ∷ rest.0, ap (λ l. p ∷ l) rest.1)

  pub fits-cut : (ps : List (Past T)) → fits steps changes now (cut steps changes now ps) ≡ true
  fits-cut [] = rw (le-leb 0 steps (omega arith)) (le-leb 0 changes (omega arith))
  fits-cut (p ∷ ps) = on (fits steps changes now (p ∷ ps)) refl (fits-cut ps)
    where
      on : (b : Bool) → fits steps changes now (p ∷ ps) ≡ b → fits steps changes now (cut steps changes now ps) ≡ true
          → fits steps changes now (cond b (p ∷ ps) (cut steps changes now ps)) ≡ true
      on true e rest = e
      on false e rest = rest

  cut_all : (ps : List (Past T)) → fits steps changes now ps ≡ true → cut steps changes now ps ≡ ps
  cut_all [] e = refl
  cut_all (p ∷ ps) e = cond-true (fits steps changes now (p ∷ ps)) (p ∷ ps) (cut steps changes now ps) e

  pub cut-longest : (front back : List (Past T)) → fits steps changes now back ≡ true → length back ≤ length (cut steps changes now (front ++ back))
  cut-longest [] back e = omega (arith, ap length (cut_all back e))
  cut-longest (p ∷ front) back e = on (fits steps changes now (p ∷ (front ++ back))) (cut-longest front back e)
    where
      on : (b : Bool) → length back ≤ length (cut steps changes now (front ++ back))
          → length back ≤ length (cond b (p ∷ (front ++ back)) (cut steps changes now (front ++ back)))
      on true rest = omega (arith, length-append front back)
      on false rest = rest

  -- if any noted_member is left, the last one is
  cut-push : (ps : List (Past T)) (p : Past T) → 0 < length (cut steps changes now (ps ++ p ∷ []))
      → (front : List (Past T)) × (cut steps changes now (ps ++ p ∷ []) ≡ front ++ p ∷ [])
  cut-push [] p some = on (fits steps changes now (p ∷ [])) some
    where
      on : (b : Bool) → 0 < length (cond {A = List (Past T)} b (p ∷ []) []) → (front : List (Past T)) × (cond b (p ∷ []) [] ≡ front ++ p ∷ [])
      on true some = ([], refl)
      on false some = absurd (omega (arith, some))
  cut-push (q ∷ ps) p some = on (fits steps changes now (q ∷ (ps ++ p ∷ []))) (cut-push ps p) some
    where
      on : (b : Bool) → (0 < length (cut steps changes now (ps ++ p ∷ [])) → (front : List (Past T)) × (cut steps changes now (ps ++ p ∷ []) ≡ front ++ p ∷ []))
          → 0 < length (cond b (q ∷ (ps ++ p ∷ [])) (cut steps changes now (ps ++ p ∷ [])))
          → (front : List (Past T)) × (cond b (q ∷ (ps ++ p ∷ [])) (cut steps changes now (ps ++ p ∷ [])) ≡ front ++ p ∷ [])
      on true rest some = (q ∷ ps, refl)
      on false rest some = rest some

-- where words may change as much as they do, the last members are left
pub cut_last : {T : Type 0} (n changes : ℕ) (now : List ℕ) (ps : List (Past T)) → changed_words now ps ≤ changes → cut n changes now ps ≡ keep_last n ps
cut_last n changes now [] h = sym (drop_all (0 - n) [] (omega arith))
cut_last n changes now (p ∷ ps) h =
    elim (cases_lt n (length (p ∷ ps))) [
      | inl more ↦
          let at : length (p ∷ ps) - n ≡ suc (length ps - n) = omega arith in
          ap (λ b. cond (b && leb (changed_words now (p ∷ ps)) changes) (p ∷ ps) (cut n changes now ps)) (lt-leb (length (p ∷ ps)) n more)
          ∙ (cut_last n changes now ps (omega arith) ∙ ap (λ k. drop k (p ∷ ps)) (sym at))
      | inr few ↦
          cut_all n changes now (p ∷ ps) (and_from (leb (length (p ∷ ps)) n) (leb (changed_words now (p ∷ ps)) changes) (le-leb (length (p ∷ ps)) n few) (le-leb (changed_words now (p ∷ ps)) changes h))
          ∙ sym (keep_last_all n (p ∷ ps) few)
    ]

-- ---- a step back from a note

module _ {T : Type 0} (j : Journal T) (words : List ℕ) (side : T) where
  abbrev noted_member : Past T
  noted_member = record { words = j.words; side = side }

  last_item-noted : 0 < length (noted j words side).past → last_item (noted j words side).past ≡ Some noted_member
  last_item-noted some =
      let left = cut-push j.steps j.changes words j.past noted_member some in
      ap (λ l. last_item l) left.1 ∙ last_item-push left.0 noted_member

  pub back-words : 0 < length (noted j words side).past → (went_back (noted j words side)).words ≡ j.words
  back-words some = ap (words_back words) (last_item-noted some)

  pub back-side : 0 < length (noted j words side).past → side_back (last_item (noted j words side).past) ≡ Some side
  back-side some = ap side_back (last_item-noted some)

  pub room-noted : 1 ≤ j.steps → differing j.words words ≤ j.changes → 0 < length (noted j words side).past
  room-noted one few =
      let change : changed_words words (noted_member ∷ []) ≤ j.changes = omega (arith, few) in
      omega (
        arith,
        cut-longest j.steps j.changes words j.past (noted_member ∷ [])
            (and_from (leb 1 j.steps) (leb (changed_words words (noted_member ∷ [])) j.changes) (le-leb 1 j.steps one) (le-leb (changed_words words (noted_member ∷ [])) j.changes change)),
      )

  pub back-whole : fits j.steps j.changes words (j.past ++ noted_member ∷ []) ≡ true → went_back (noted j words side) ≡ j
  back-whole e =
      let all = cut_all j.steps j.changes words (j.past ++ noted_member ∷ []) e in
      ap (λ ps. went_back (journal words ps j.steps j.changes)) all
      ∙ (ap (λ o. journal (words_back words o) (take (length (j.past ++ noted_member ∷ []) - 1) (j.past ++ noted_member ∷ [])) j.steps j.changes) (last_item-push j.past noted_member)
      ∙ ap (λ ps. journal j.words ps j.steps j.changes) (take-push j.past noted_member))
