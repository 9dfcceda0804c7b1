-- The words of the root, as the lists that are read off own them.
use Rattle.std.proofs.Common.{◌≡◌, ◌⊎◌, inl, inr, ℕ, zero, suc, ◌+◌, ◌-◌, ◌<◌, ◌≤◌, Bool, true, false, not, eqb, get_or, List, [], ◌∷◌, ◌++◌, refl, sym, ap, ◌∙◌, subst, arith}
use Rattle.std.specs.Prelude.{IsTrue}
use Rattle.kernel_model.specs.KernelRecord.Ranges.{is_period, is_store_size}
use Rattle.kernel_lists.specs.OwnedWords.Owned.{Holds, row_from}
use Rattle.kernel_lists.proofs.OwnedWords.OwnedWords.{Holds-append}
use Rattle.kernel_model.specs.KernelRecord.Lists.{Lists}
use Rattle.kernel_model.specs.KernelRecord.Recovered.{lists_in}
use Rattle.kernel_model.specs.KernelRecord.KernelRanges.{has_residents}
use Rattle.kernel_model.specs.KernelRecord.Root.{number_words, resident_data, root_words, unused_entries}
use Rattle.kernel_model.specs.KernelRecord.Task.{filled}
use Rattle.kernel_model.specs.KernelRecord.Versions.{highest_id_of}
use Rattle.kernel_model.proofs.KernelRecord.RootCounts.{RootWords, root-held}
use Rattle.store_claims.specs.AdoptionLaw.Passes.{IsValidRoot}
use Rattle.kernel_check.specs.ListPasses.Private.RootRules.{HasRootWords, NumbersMayBe}

-- ---- rows of zeros

zeros-row : (s : List ℕ) (a i n : ℕ) → ((k : ℕ) → k < n → get_or s (a + i + k) 0 ≡ 0) → Holds s (row_from a i (filled n []))
zeros-row s a i zero all = tt
zeros-row s a i (suc n) all = (
  (let here : a + i + 0 ≡ a + i = omega arith in ap (λ z. get_or s z 0) (sym here) ∙ all 0 (omega arith)),
  zeros-row s a (suc i) n (λ k low. (let next : a + suc i + k ≡ a + i + suc k = omega arith in ap (λ z. get_or s z 0) next ∙ all (suc k) (omega (arith, low)))),
)

row-zeros : (s : List ℕ) (a i n : ℕ) → Holds s (row_from a i (filled n [])) → (k : ℕ) → k < n → get_or s (a + i + k) 0 ≡ 0
row-zeros s a i zero h k low = absurd (omega (arith, low))
row-zeros s a i (suc n) h zero low = (let here : a + i + 0 ≡ a + i = omega arith in ap (λ z. get_or s z 0) here ∙ h.0)
row-zeros s a i (suc n) h (suc k) low = (let next : a + i + suc k ≡ a + suc i + k = omega arith in ap (λ z. get_or s z 0) next ∙ row-zeros s a (suc i) n h.1 k (omega (arith, low)))

-- ---- what is read off

module _ (s : List ℕ) where
  abbrev l : Lists
  l = lists_in s

  the-size : l.size ≡ get_or s 109 0
  unfolding lists_in
  the-size = refl

  the-period : l.period ≡ get_or s 110 0
  unfolding lists_in
  the-period = refl

  the-version : l.version ≡ get_or s 111 0
  unfolding lists_in
  the-version = refl

  the-tick : l.tick ≡ get_or s 108 0
  unfolding lists_in
  the-tick = refl

  the-residents : l.residents ≡ has_residents s
  unfolding lists_in
  the-residents = refl

  pub numbers-from : IsValidRoot s → NumbersMayBe s
  unfolding lists_in
  numbers-from r = record { size = r.size; version = r.version; store_size = r.store_size; period = r.period }

  numbers-to : NumbersMayBe s → IsTrue (is_store_size l.version l.size) × IsTrue (is_period l.period)
  unfolding lists_in
  numbers-to n = (n.store_size, n.period)

  pub words-from : IsValidRoot s → HasRootWords s
  words-from r =
      let w : RootWords s l = root-held s l (get_or s 102 0) r.words in
      let n = w.numbers in
      let first = r.words in
      record {
        table = first.0;
        first_block = first.1.1.0;
        residents = on l.residents n.1.1.1.1.0;
        zeros = λ i low. row-zeros s 108 5 7 n.1.1.1.1.1 i low;
        highest = w.highest ∙ ap highest_id_of the-version;
        unused = λ i low. (let at : 121 + highest_id_of (get_or s 111 0) + i ≡ 120 + (highest_id_of (get_or s 111 0) + 1) + i = omega arith in
            ap (λ z. get_or s z 0) at ∙ row-zeros s 120 (highest_id_of (get_or s 111 0) + 1) (63 - highest_id_of (get_or s 111 0)) (subst (λ v. Holds s (unused_entries v)) the-version w.unused) i low);
        end = ap (λ z. get_or s (z - 2) 0) r.size ∙ w.end;
      }
    where
      on : (b : Bool) → get_or s 112 0 ≡ resident_data b → (get_or s 112 0 ≡ 0) ⊎ (get_or s 112 0 ≡ 201)
      on true e = inr e
      on false e = inl e

  -- the word of the residents is the one that they own
  resident-word : (get_or s 112 0 ≡ 0) ⊎ (get_or s 112 0 ≡ 201) → get_or s 112 0 ≡ resident_data l.residents
  resident-word (inl none) = none ∙ sym (ap resident_data (the-residents ∙ ap (λ w. not (eqb w 0)) none))
  resident-word (inr some) = some ∙ sym (ap resident_data (the-residents ∙ ap (λ w. not (eqb w 0)) some))

  pub root-from : NumbersMayBe s → HasRootWords s → IsValidRoot s
  root-from n w = record {
    size = n.size ∙ sym the-size;
    version = subst (λ v. (1 ≤ v) × (v ≤ 2)) (sym the-version) n.version;
    store_size = (numbers-to n).0;
    period = (numbers-to n).1;
    words = held;
  }
    where
      top : ℕ
      top = highest_id_of (get_or s 111 0)

      unused : Holds s (unused_entries l.version)
      unused = subst (λ v. Holds s (unused_entries v)) (sym the-version)
          (zeros-row s 120 (top + 1) (63 - top) (λ k low. (let at : 120 + (top + 1) + k ≡ 121 + top + k = omega arith in ap (λ z. get_or s z 0) at ∙ w.unused k low)))

      numbers : Holds s (row_from 108 0 (number_words l))
      numbers = (sym the-tick, (sym the-size, (sym the-period, (sym the-version, (resident-word w.residents, zeros-row s 108 5 7 w.zeros)))))

      end : get_or s (l.size - 2) 0 ≡ 0
      end = ap (λ z. get_or s (z - 2) 0) (the-size ∙ sym n.size) ∙ w.end

      held : Holds s (root_words l (get_or s 102 0))
      held = (
        w.table,
        (
          refl,
          (
            w.first_block,
            Holds-append s (row_from 108 0 (number_words l)) ((120, highest_id_of l.version) ∷ (unused_entries l.version ++ (l.size - 2, 0) ∷ [])) numbers
                (w.highest ∙ ap highest_id_of (sym the-version), Holds-append s (unused_entries l.version) ((l.size - 2, 0) ∷ []) unused (end, tt)),
          ),
        ),
      )
