-- A kernel with residents is a valid one: each of its words is owned once.
use Rattle.std.proofs.Common.{◌≡◌, ◌≢◌, ℕ, ◌+◌, ◌-◌, ◌%◌, ◌<◌, ◌≤◌, Bool, true, false, List, [], ◌∷◌, ◌++◌, replicate, inl, inr, refl, ap, ◌∙◌, arith}
use Rattle.std.proofs.lemmas.Bool.{and_parts, cases_eq, cases_lt, eqb-true, leb-true, ltb-true, or_cases}
use Rattle.std.proofs.lemmas.List.{length-replicate}
use Rattle.std.specs.Prelude.{IsTrue, ◌==◌, ◌&&◌, ◌||◌, nat_le, nat_lt}
use Rattle.std.specs.List.{range_with_len}
use Rattle.word_store.specs.Count.{hit, times}
use Rattle.word_store.proofs.Counts.{hit-le, hit-other, hit-same, range-apart, times-above, times-below, times-within}
use Rattle.kernel_lists.specs.OwnedWords.LinkedWords.{linked_words}
use Rattle.kernel_lists.specs.OwnedWords.Owned.{Pairs, owners, written}
use Rattle.kernel_lists.proofs.OwnedWords.OwnedWords.{length-written, owners-append, written-other}
use Rattle.kernel_model.specs.KernelRecord.Ranges.{IsVersion, is_period, is_store_size}
use Rattle.kernel_model.specs.KernelRecord.ChangedStore.{IsChanged}
use Rattle.kernel_model.specs.KernelRecord.HoldsLists.{HoldsLists}
use Rattle.kernel_model.specs.KernelRecord.Lists.{Lists}
use Rattle.kernel_model.specs.KernelRecord.Owned.{owned}
use Rattle.kernel_model.specs.KernelRecord.Task.{Task, task_address, task_words}
use Rattle.kernel_model.specs.KernelRecord.ValidLists.{AreValid}
use Rattle.kernel_model.proofs.KernelRecord.CutRanges.{times-cut}
use Rattle.kernel_model.proofs.KernelRecord.RootCounts.{owners-nodes}
use Rattle.kernel_model.proofs.KernelRecord.TaskCounts.{owners-task_by}
use Rattle.kernel_boot.specs.Private.BootWords.{resident_pairs}
use Rattle.kernel_boot.specs.ResidentKernel.{console, fault_reporter, files, resident_block_size, resident_lists, shell}
use Rattle.kernel_boot.proofs.ResidentRules.{residents-coroutines, residents-numbers, residents-queues, residents-tasks, residents-tile}
use Rattle.kernel_boot.proofs.ResidentWords.{holds-residents}
use Rattle.kernel_boot.proofs.StoreSizes.{size-even, size-low}

-- how often an address is among a number of words from one on
abbrev from : ℕ → ℕ → ℕ → ℕ
from a t k = times a (range_with_len t k)

-- the words 200 to 283 are the block's size word, three task blocks, the head of the console's reads, the key packet with its
-- arguments, and the shell's packet
cut-block : (a : ℕ) → from a 200 84 ≡ hit a 200 + (from a 201 23 + (from a 224 23 + (from a 247 23 + (hit a 270 + (from a 271 5 + (from a 276 3 + from a 279 5))))))
cut-block a =
    omega (
      arith,
      times-cut a 200 1 83 201 84 refl refl,
      times-cut a 201 23 60 224 83 refl refl,
      times-cut a 224 23 37 247 60 refl refl,
      times-cut a 247 23 14 270 37 refl refl,
      times-cut a 270 1 13 271 14 refl refl,
      times-cut a 271 5 8 276 13 refl refl,
      times-cut a 276 3 5 279 8 refl refl,
    )

-- the words of the fault reporter and of its packet, if it is there
abbrev reporter_count : Bool → ℕ → ℕ
reporter_count true a = from a 287 28
reporter_count false a = 0

-- the address is one of the root, the task table and the residents' block, or of the size word behind it
abbrev is_covered : Bool → ℕ → Bool
is_covered r x =
    (nat_le 100 x && nat_lt x 184) || ((nat_le 200 x && nat_lt x 284) || ((r && (nat_le 287 x && nat_lt x 315)) || (x == 200 + resident_block_size r)))

abbrev are_covered : Bool → Pairs → Bool
are_covered r [] = true
are_covered r (e ∷ es) = is_covered r e.0 && are_covered r es

module _ (n v p : ℕ) (version : IsVersion v) (size : IsTrue (is_store_size v n)) (period : IsTrue (is_period p)) where
  low : 1024 ≤ n
  low = size-low v n size

  even : n % 2 ≡ 0
  even = size-even v n size

  abbrev task_pairs : Task → List Task → Pairs
  task_pairs t ts = linked_words task_address (task_words v) (t ∷ ts) 0

  -- the tasks of the chain, one after the other
  shell-count : (a : ℕ) → owners a (task_pairs shell []) ≡ from a 201 23 + from a 279 5
  shell-count a = omega (arith, owners-append a (task_words v shell 0) [], owners-task_by a v shell 0)

  reporter-count : (a : ℕ) → owners a (task_pairs fault_reporter (shell ∷ [])) ≡ from a 287 23 + (from a 201 23 + from a 279 5)
  reporter-count a =
      omega (arith, owners-append a (task_words v fault_reporter 201) (task_pairs shell []), owners-task_by a v fault_reporter 201, shell-count a)

  chain-count : (a next : ℕ) (ts : List Task) → owners a (task_words v console 247 ++ (task_words v files next ++ linked_words task_address (task_words v) ts 0))
      ≡ from a 224 23 + (from a 247 23 + owners a (linked_words task_address (task_words v) ts 0))
  chain-count a next ts =
      omega (
        arith,
        owners-append a (task_words v console 247) (task_words v files next ++ linked_words task_address (task_words v) ts 0),
        owners-append a (task_words v files next) (linked_words task_address (task_words v) ts 0),
        owners-task_by a v console 247,
        owners-task_by a v files next,
      )

  abbrev lists : Bool → Lists
  lists r = resident_lists v p n r

  -- the words 100 to 183 and 200 to 283, those of the fault reporter, the next block's size word, and the end word
  abbrev all_words : Bool → ℕ → ℕ
  all_words r a = from a 100 84 + (from a 200 84 + (reporter_count r a + (hit a (200 + resident_block_size r) + hit a (n - 2))))

  count : (r : Bool) (a : ℕ) → owners a (owned (lists r)) ≡ all_words r a
  count true a = omega (arith, owners-nodes a (lists true), chain-count a 287 (fault_reporter ∷ shell ∷ []), reporter-count a, cut-block a, times-cut a 287 23 5 310 28 refl refl)
  count false a = omega (arith, owners-nodes a (lists false), chain-count a 201 (shell ∷ []), shell-count a, cut-block a)

  far : (r : Bool) (a : ℕ) → 317 ≤ a → all_words r a ≡ hit a (n - 2)
  far true a past =
      omega (arith, times-above a 100 84 (omega (arith, past)), times-above a 200 84 (omega (arith, past)), times-above a 287 28 (omega (arith, past)), hit-other a 316 (λ e. absurd (omega (arith, e, past))))
  far false a past =
      omega (arith, times-above a 100 84 (omega (arith, past)), times-above a 200 84 (omega (arith, past)), hit-other a 288 (λ e. absurd (omega (arith, e, past))))

  -- near words lie in one of the ranges at most
  near : (r : Bool) (a : ℕ) → a ≤ 316 → all_words r a ≤ 1
  near r a here =
      let end : hit a (n - 2) ≡ 0 = hit-other a (n - 2) (λ e. absurd (omega (arith, e, here, low))) in
      elim (cases_lt a 200) [
        | inl first ↦
            omega (arith, end, range-apart 100 84 a, times-below a 200 84 first, before r (omega (arith, first)))
        | inr past ↦
            elim (cases_lt a 284) [
              | inl second ↦
                  omega (arith, end, times-above a 100 84 (omega (arith, past)), range-apart 200 84 a, before r (omega (arith, second)))
              | inr third ↦
                  omega (arith, end, times-above a 100 84 (omega (arith, third)), times-above a 200 84 (omega (arith, third)), behind r)
            ]
      ]
    where
      before : (b : Bool) → a ≤ 286 → reporter_count b a + hit a (200 + resident_block_size b) ≡ 0
      before true h = omega (arith, times-below a 287 28 (omega (arith, h)), hit-other a 316 (λ e. absurd (omega (arith, e, h))))
      before false h = omega (arith, hit-other a 288 (λ e. absurd (omega (arith, e, h))))

      behind : (b : Bool) → reporter_count b a + hit a (200 + resident_block_size b) ≤ 1
      behind true =
          elim (cases_eq a 316) [
            | inl e ↦ omega (arith, hit-le a 316, times-above a 287 28 (omega (arith, e)))
            | inr ne ↦ omega (arith, hit-other a 316 ne, range-apart 287 28 a)
          ]
      behind false = omega (arith, hit-le a 288)

  once : (r : Bool) (a : ℕ) → owners a (owned (lists r)) ≤ 1
  once r a =
      elim (cases_lt a 317) [
        | inl here ↦ omega (arith, count r a, near r a (omega (arith, here)))
        | inr past ↦ omega (arith, count r a, far r a (omega (arith, past)), hit-le a (n - 2))
      ]

  within : (r : Bool) (a : ℕ) → 0 < owners a (owned (lists r)) → a < n
  within r a some =
      elim (cases_lt a n) [
        | inl h ↦ h
        | inr past ↦
            absurd (omega (
              arith,
              some,
              count r a,
              far r a (omega (arith, past, low)),
              hit-other a (n - 2) (λ e. absurd (omega (arith, e, past, low))),
            ))
      ]

  valid : (r : Bool) → AreValid (lists r)
  valid r = record {
    blocks = residents-tile n v p low even r;
    numbers = residents-numbers n v p low even r version size period;
    modules = tt;
    tasks = residents-tasks n v p low even r;
    coroutines = residents-coroutines n v p low even r;
    queues = residents-queues n v p low even r;
    owns = record { apart = once r; inside = within r };
  }

  residents-hold : (r : Bool) → HoldsLists (written (resident_pairs n v p r) (replicate n 0)) (lists r)
  residents-hold r = record {
    valid = valid r;
    size = length-written (resident_pairs n v p r) (replicate n 0) ∙ length-replicate n 0;
    holds = holds-residents n p low v r version;
  }

  -- ---- what nobody owns is not written

  some-word : (r : Bool) (x : ℕ) → is_covered r x ≡ true → 0 < all_words r x
  some-word r x c =
      elim (or_cases (nat_le 100 x && nat_lt x 184) _ c) [
        | inl root ↦ (let b = between 100 184 x root in omega (arith, times-within x 100 84 b.0 b.1))
        | inr other ↦
            elim (or_cases (nat_le 200 x && nat_lt x 284) _ other) [
              | inl block ↦ (let b = between 200 284 x block in omega (arith, times-within x 200 84 b.0 b.1))
              | inr further ↦
                  elim (or_cases (r && (nat_le 287 x && nat_lt x 315)) _ further) [
                    | inl reporter ↦ on r reporter
                    | inr next ↦ omega (arith, hit-same x (200 + resident_block_size r) (eqb-true x (200 + resident_block_size r) next))
                  ]
            ]
      ]
    where
      between : (low high y : ℕ) → (nat_le low y && nat_lt y high) ≡ true → (low ≤ y) × (y < high)
      between low high y e = (let parts = and_parts (nat_le low y) (nat_lt y high) e in (leb-true low y parts.0, ltb-true y high parts.1))

      on : (b : Bool) → (b && (nat_le 287 x && nat_lt x 315)) ≡ true → 0 < all_words b x
      on true e = (let b = between 287 315 x e in omega (arith, times-within x 287 28 b.0 b.1))
      on false e = cc

  free : (r : Bool) (es : Pairs) → are_covered r es ≡ true → (a : ℕ) → owners a (owned (lists r)) ≡ 0 → owners a es ≡ 0
  free r [] c a none = refl
  free r (e ∷ es) c a none =
      let parts = and_parts (is_covered r e.0) (are_covered r es) c in
      let away : a ≢ e.0 = λ same. absurd (omega (arith, none, count r a, ap (all_words r) same, some-word r e.0 parts.0)) in
      omega (arith, hit-other a e.0 away, free r es parts.1 a none)

  covered : (r : Bool) → are_covered r (resident_pairs n v p r) ≡ true
  covered true = refl
  covered false = refl

  pub residents-changed : (r : Bool) → IsChanged (replicate n 0) (written (resident_pairs n v p r) (replicate n 0)) (lists r) []
  residents-changed r =
      let holds : HoldsLists (written (resident_pairs n v p r) (replicate n 0)) (lists r) = residents-hold r in
      record {
        lists = holds;
        size = length-written (resident_pairs n v p r) (replicate n 0);
        written = record { holds = holds.holds; others = λ a none. written-other a (resident_pairs n v p r) (replicate n 0) (free r (resident_pairs n v p r) (covered r) a none) };
      }
