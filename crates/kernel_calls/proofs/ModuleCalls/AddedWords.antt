-- The words that change where a guest gets one more module: one of its task block, and its globals.
use Rattle.std.proofs.Common.{◌≡◌, ℕ, zero, suc, ◌+◌, ◌-◌, ◌<◌, ◌≤◌, List, [], ◌∷◌, ◌++◌, length, drop, set, cond, Bool, true, inl, inr, refl, sym, ap, ◌∙◌, subst, arith}
use Rattle.std.specs.List.{flat_map}
use Rattle.std.proofs.lemmas.Bool.{cases_eq}
use Rattle.word_store.proofs.Elements.{all-append}
use Rattle.word_store.proofs.Counts.{hit-other}
use Rattle.kernel_lists.specs.OwnedWords.Exchange.{Exchange}
use Rattle.kernel_lists.specs.OwnedWords.LinkedWords.{first_of}
use Rattle.kernel_lists.specs.OwnedWords.Owned.{Pairs, owners, row_from, written}
use Rattle.kernel_lists.proofs.OwnedWords.Exchanges.{exchange-left, exchange-right, exchange-row}
use Rattle.kernel_lists.proofs.OwnedWords.OwnedWords.{owners-append, written-append}
use Rattle.kernel_lists.specs.PacketQueue.QueueWords.{queue_words}
use Rattle.kernel_lists.specs.Coroutines.CoroutineExchanges.{words_of_coroutines}
use Rattle.kernel_lists.specs.HunkLoader.Globals.{Global, globals_in, globals_of_hunk, with_globals}
use Rattle.kernel_lists.specs.HunkLoader.ModuleHunks.{PlacedHunk, hunks_in}
use Rattle.kernel_lists.proofs.HunkLoader.GlobalLists.{AreGlobals, hunk-are}
use Rattle.kernel_model.specs.KernelRecord.Task.{Task, filled, globals_of, is_guest_id, name_words, queue_head, stack_of, state_word, task_words}
use Rattle.kernel_model.specs.KernelRecord.Versions.{head_words_of}
use Rattle.kernel_calls.specs.ModuleCalls.AddModule.{global_words, with_further}

-- ---- globals

pub globals-written : (s : List ℕ) (g : ℕ) (xs : List Global) → with_globals s g xs ≡ written (global_words g xs) s
globals-written s g [] = refl
globals-written s g (x ∷ xs) = globals-written (set s (g + x.number) x.value) g xs ∙ sym (written-append (global_words g xs) ((g + x.number, x.value) ∷ []) s)

-- they lie among 1,001 words
pub globals-within : (g a : ℕ) (xs : List Global) → AreGlobals xs → 0 < owners a (global_words g xs) → (g ≤ a) × (a < g + 1001)
globals-within g a [] all some = absurd (omega (arith, some))
globals-within g a (x ∷ xs) all some =
    elim (cases_eq a (g + x.number)) [
      | inl e ↦ (omega (arith, e), omega (arith, e, all.0))
      | inr ne ↦ globals-within g a xs all.1 (omega (arith, some, owners-append a (global_words g xs) ((g + x.number, x.value) ∷ []), hit-other a (g + x.number) ne))
    ]

pub module-globals : (s : List ℕ) (m : ℕ) → AreGlobals (globals_in s m)
module-globals s m = all (hunks_in s m)
  where
    all : (hs : List PlacedHunk) → AreGlobals (flat_map globals_of_hunk hs)
    all [] = tt
    all (h ∷ hs) = all-append (λ (x : Global). x.number ≤ 1000) (globals_of_hunk h) (flat_map globals_of_hunk hs) (hunk-are h.base h.words) (all hs)

-- ---- the word of the module

-- where there is room behind some words, the next one holds 0
filled-room : (k : ℕ) (xs : List ℕ) → length xs < k → filled k xs ≡ xs ++ 0 ∷ filled (k - suc (length xs)) []
filled-room zero xs few = absurd (omega (arith, few))
filled-room (suc k) [] few = (let e : k ≡ suc k - suc 0 = omega arith in ap (λ n. 0 ∷ filled n []) e)
filled-room (suc k) (x ∷ xs) few =
    let e : k - suc (length xs) ≡ suc k - suc (suc (length xs)) = omega arith in
    ap (λ z. x ∷ z) (filled-room k xs (omega (arith, few))) ∙ ap (λ n. x ∷ (xs ++ 0 ∷ filled n [])) e

filled-more : (k m : ℕ) (xs : List ℕ) → length xs < k → filled k (xs ++ m ∷ []) ≡ xs ++ m ∷ filled (k - suc (length xs)) []
filled-more zero m xs few = absurd (omega (arith, few))
filled-more (suc k) m [] few = (let e : k ≡ suc k - suc 0 = omega arith in ap (λ n. m ∷ filled n []) e)
filled-more (suc k) m (x ∷ xs) few =
    let e : k - suc (length xs) ≡ suc k - suc (suc (length xs)) = omega arith in
    ap (λ z. x ∷ z) (filled-more k m xs (omega (arith, few))) ∙ ap (λ n. x ∷ (xs ++ m ∷ filled n [])) e

module _ (version : ℕ) (t : Task) (m n : ℕ) where
  abbrev k : ℕ
  k = head_words_of version - 23

  -- the words of the task, by its modules
  abbrev state_by : List ℕ → Pairs
  state_by ms =
      row_from t.address 4
      (state_word t ∷ t.flags ∷ stack_of version t ∷ t.highest ∷ globals_of version t ∷ t.maker ∷ first_of (λ z. z) ms 0
      ∷ t.saved.a ∷ t.saved.b ∷ t.saved.c ∷ t.saved.p ∷ t.saved.g ∷ t.saved.pc ∷ [])

  abbrev fault_by : Bool → List ℕ → Pairs
  fault_by b ms = row_from t.address 21 (t.fault ∷ t.fault_address ∷ cond b (filled k (drop 1 ms)) [])

  abbrev others : Pairs
  others = queue_words (queue_head t.address) t.queue ++ words_of_coroutines t.address t.coroutines

  abbrev words_by : Bool → List ℕ → Pairs
  words_by b ms = ((t.address, n) ∷ name_words t) ++ (state_by ms ++ (fault_by b ms ++ others))

  pub further-exchange : (x : ℕ) (xs : List ℕ) → t.modules ≡ x ∷ xs → is_guest_id t.id ≡ true → length xs < k
      → Exchange (task_words version t n) (task_words version (with_further m t) n) ((t.address + (21 + suc (suc (length xs))), 0) ∷ []) ((t.address + (21 + suc (suc (length xs))), m) ∷ [])
  further-exchange x xs is guest few =
      subst (λ b. Exchange (words_by b t.modules) (words_by b (t.modules ++ m ∷ [])) old new) (sym guest)
      (subst (λ ms. Exchange (words_by true ms) (words_by true (ms ++ m ∷ [])) old new) (sym is)
      (exchange-right ((t.address, n) ∷ name_words t) _ _ old new
      (exchange-right (state_by (x ∷ xs)) _ _ old new
      (exchange-left (fault_by true (x ∷ xs)) (fault_by true (x ∷ (xs ++ m ∷ []))) others old new
      (subst (λ ws. Exchange (row_from t.address 21 (t.fault ∷ t.fault_address ∷ ws)) (fault_by true (x ∷ (xs ++ m ∷ []))) old new) (sym (filled-room k xs few))
      (subst (λ ws. Exchange (row_from t.address 21 (t.fault ∷ t.fault_address ∷ (xs ++ 0 ∷ rest))) (row_from t.address 21 (t.fault ∷ t.fault_address ∷ ws)) old new) (sym (filled-more k m xs few))
      (exchange-row t.address 21 0 m (t.fault ∷ t.fault_address ∷ xs) rest)))))))
    where
      rest : List ℕ
      rest = filled (k - suc (length xs)) []

      old : Pairs
      old = (t.address + (21 + suc (suc (length xs))), 0) ∷ []

      new : Pairs
      new = (t.address + (21 + suc (suc (length xs))), m) ∷ []
