-- Coroutines that stay as they are while another one is made or deleted.
use Rattle.std.proofs.Common.{◌≡◌, ◌≢◌, inl, inr, ℕ, ◌+◌, ◌-◌, ◌<◌, ◌≤◌, List, [], ◌∷◌, get_or, true, Some, refl, sym, ap, ◌∙◌, subst, arith}
use Rattle.std.specs.List.{AllByRecursion, range_with_len}
use Rattle.std.proofs.lemmas.Bool.{cases_lt}
use Rattle.kernel_lists.specs.GetvecChain.Block.{used_block}
use Rattle.word_store.specs.Count.{node_words, times, words_of}
use Rattle.kernel_lists.specs.LinkedList.Places.{has}
use Rattle.kernel_lists.specs.GetvecChain.Run.{need}
use Rattle.kernel_lists.specs.GetvecChain.Tiling.{blocks_in, used_at}
use Rattle.word_store.proofs.Counts.{times-above, times-below, times-words_more}
use Rattle.kernel_lists.specs.TaskBlock.Lists.{coroutines_in}
use Rattle.kernel_lists.specs.Coroutines.Active.{LeadsOut, active_in}
use Rattle.kernel_lists.specs.Coroutines.Coroutines.{HasBlock, HasCoroutines}
use Rattle.kernel_lists.specs.Coroutines.Refusals.{is_known}
use Rattle.kernel_lists.proofs.LinkedList.Members.{has-there, has-here}
use Rattle.kernel_lists.proofs.Coroutines.KnownCoroutines.{known-block}
use Rattle.kernel_lists.proofs.Coroutines.OutwardLists.{LeadsOut-same}

-- the active ones lead out as before, where the words that name them are as they were
pub same-out : (s v : List ℕ) (t : ℕ) → HasCoroutines s t → get_or v (t + 18) 0 ≡ get_or s (t + 18) 0 → ((k : ℕ) → is_known s t k ≡ true → has k (active_in s t) ≡ true → get_or v (k + 1) 0 ≡ get_or s (k + 1) 0)
    → LeadsOut v t 0 (t + 18) (active_in s t)
same-out s v t h current parents = LeadsOut-same s v t 0 (t + 18) (active_in s t) h.active current (each (active_in s t) h.members (λ k some. some))
  where
    each : (ks : List ℕ) → AllByRecursion (λ k. has k (coroutines_in s t) ≡ true) ks → ((k : ℕ) → has k ks ≡ true → has k (active_in s t) ≡ true) → AllByRecursion (λ k. get_or v (k + 1) 0 ≡ get_or s (k + 1) 0) ks
    each [] members within = tt
    each (k ∷ ks) members within = (parents k members.0 (within k (has-here k ks)), each ks members.1 (λ m some. within m (has-there m k ks some)))

-- a coroutine has its block, where its size and its highest index are as they were
pub same-block : (s v : List ℕ) (t k : ℕ) → HasCoroutines s t → is_known s t k ≡ true → used_at k (blocks_in v) ≡ used_at k (blocks_in s) → get_or v (k + 4) 0 ≡ get_or s (k + 4) 0 → HasBlock v k
same-block s v t k h known used high =
    let b : HasBlock s k = known-block s t k h known in
    record {
      start = b.start;
      here = b.here;
      block = used ∙ b.block ∙ ap (λ z. Some (used_block b.start (need z))) (sym high);
      high = subst (λ z. 16 ≤ z) (sym high) b.high;
    }

-- an address that is in no node's words is none of all words
pub words-none : (size : ℕ → ℕ) (a : ℕ) (ks : List ℕ) → ((k : ℕ) → has k ks ≡ true → times a (node_words size k) ≡ 0) → times a (words_of size ks) ≡ 0
words-none size a [] none = refl
words-none size a (k ∷ ks) none =
    omega (arith, times-words_more size a k ks, none k (has-here k ks), words-none size a ks (λ m some. none m (has-there m k ks some)))

-- a range has no address that is none of its words
pub range-none : (a p n : ℕ) → ((i : ℕ) → i < n → a ≢ p + i) → times a (range_with_len p n) ≡ 0
range-none a p n none =
    elim (cases_lt a p) [
      | inl low ↦ times-below a p n low
      | inr h ↦ elim (cases_lt a (p + n)) [
        | inl within ↦ absurd (none (a - p) (omega arith) (omega arith))
        | inr high ↦ times-above a p n (omega arith)
      ]
    ]
