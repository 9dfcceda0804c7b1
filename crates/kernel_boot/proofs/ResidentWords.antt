-- The words of a kernel with residents.
use Rattle.std.proofs.Common.{◌≡◌, ℕ, ◌-◌, ◌≤◌, Bool, true, false, List, [], ◌∷◌, ◌++◌, map, replicate, inl, inr, refl, sym, subst, arith}
use Rattle.std.proofs.lemmas.Bool.{cases_eq}
use Rattle.kernel_lists.specs.OwnedWords.Owned.{Holds, Pairs, row_from, written}
use Rattle.kernel_lists.proofs.OwnedWords.OwnedWords.{Holds-append}
use Rattle.kernel_lists.specs.GetvecChain.BlockWords.{blocks_words}
use Rattle.kernel_lists.specs.HunkLoader.ModuleExchanges.{modules_words}
use Rattle.kernel_model.specs.KernelRecord.Ranges.{IsVersion}
use Rattle.kernel_model.specs.KernelRecord.Lists.{Lists, address_of_task}
use Rattle.kernel_model.specs.KernelRecord.Owned.{device_words, owned, tasks_words}
use Rattle.kernel_model.specs.KernelRecord.Residents.{resident_words}
use Rattle.kernel_model.specs.KernelRecord.Root.{number_words, root_words, unused_entries}
use Rattle.kernel_model.specs.KernelRecord.Versions.{highest_id_of}
use Rattle.kernel_boot.specs.Private.BootWords.{resident_pairs}
use Rattle.kernel_boot.specs.ResidentKernel.{resident_lists}
use Rattle.kernel_boot.proofs.FoundWords.{all-found, are_low, end-zero, word_among}

-- the root's words but for the end word, and all others
abbrev front_words : Lists → Pairs
front_words l = (100, 120) ∷ (102, 0) ∷ (103, 200) ∷ (row_from 108 0 (number_words l) ++ ((120, highest_id_of l.version) ∷ unused_entries l.version))

abbrev rest_words : Lists → Pairs
rest_words l = blocks_words l.blocks ++ (tasks_words l ++ (modules_words l.modules ++ (device_words l ++ resident_words l)))

module _ (n p : ℕ) (large : 1024 ≤ n) where
  abbrev HoldWith : ℕ → Bool → Type 0
  HoldWith v r = Holds (written (resident_pairs n v p r) (replicate n 0)) (owned (resident_lists v p n r))

  -- what was written leads from the addresses of these words to what they have
  abbrev AreFound : ℕ → Bool → Pairs → Type 0
  AreFound v r ws = (are_low ws ≡ true) × (map (λ w. word_among (resident_pairs n v p r) w.0) ws ≡ map (λ w. w.1) ws)

  joined : (v : ℕ) (r : Bool) → root_words (resident_lists v p n r) (address_of_task (resident_lists v p n r) 0) ≡ front_words (resident_lists v p n r) ++ (n - 2, 0) ∷ []
      → are_low (resident_pairs n v p r) ≡ true → AreFound v r (front_words (resident_lists v p n r)) → AreFound v r (rest_words (resident_lists v p n r)) → HoldWith v r
  unfolding owned
  joined v r cut low front rest =
      let es : Pairs = resident_pairs n v p r in
      let l : Lists = resident_lists v p n r in
      let s : List ℕ = written es (replicate n 0) in
      Holds-append s (root_words l (address_of_task l 0)) (rest_words l)
      (subst (Holds s) (sym cut)
      (Holds-append s (front_words l) ((n - 2, 0) ∷ [])
      (all-found n large es (front_words l) low front.0 front.1)
      (end-zero n large es (n - 2) low (omega (arith, large)) (omega (arith, large)), tt)))
      (all-found n large es (rest_words l) low rest.0 rest.1)

  first-words : (r : Bool) → HoldWith 1 r
  first-words true = joined 1 true refl refl (refl, refl) (refl, refl)
  first-words false = joined 1 false refl refl (refl, refl) (refl, refl)

  second-words : (r : Bool) → HoldWith 2 r
  second-words true = joined 2 true refl refl (refl, refl) (refl, refl)
  second-words false = joined 2 false refl refl (refl, refl) (refl, refl)

  pub holds-residents : (v : ℕ) (r : Bool) → IsVersion v → HoldWith v r
  holds-residents v r is =
      elim (cases_eq v 1) [
        | inl e ↦ subst (λ z. HoldWith z r) (sym e) (first-words r)
        | inr ne ↦ (let two : 2 ≡ v = omega (arith, ne, is.0, is.1) in subst (λ z. HoldWith z r) two (second-words r))
      ]
