-- A kernel without tasks, modules and packets is a valid one.
use Rattle.std.proofs.Common.{◌≡◌, ℕ, ◌+◌, ◌-◌, ◌%◌, ◌<◌, ◌≤◌, [], replicate, inl, inr, refl, ◌∙◌, subst, arith}
use Rattle.std.proofs.lemmas.Bool.{cases_eq, cases_lt}
use Rattle.std.proofs.lemmas.List.{length-replicate}
use Rattle.std.specs.Prelude.{IsTrue}
use Rattle.std.specs.List.{range_with_len}
use Rattle.word_store.specs.Count.{hit, times}
use Rattle.word_store.proofs.Counts.{hit-le, hit-other, range-apart, times-above, times-within}
use Rattle.kernel_lists.specs.OwnedWords.Owned.{owners, written}
use Rattle.kernel_lists.proofs.OwnedWords.OwnedWords.{length-written, written-other}
use Rattle.kernel_model.specs.KernelRecord.Ranges.{IsVersion, is_period, is_store_size}
use Rattle.kernel_model.specs.KernelRecord.ChangedStore.{IsChanged}
use Rattle.kernel_model.specs.KernelRecord.HoldsLists.{HoldsLists}
use Rattle.kernel_model.specs.KernelRecord.Owned.{OwnsApart, owned}
use Rattle.kernel_model.specs.KernelRecord.ValidLists.{AreValid}
use Rattle.kernel_model.proofs.KernelRecord.RootCounts.{owners-nodes}
use Rattle.kernel_boot.specs.EmptyKernel.{empty_lists}
use Rattle.kernel_boot.proofs.EmptyWords.{holds-empty, pairs}
use Rattle.kernel_boot.proofs.StoreSizes.{size-even, size-low}

module _ (n v p : ℕ) (version : IsVersion v) (size : IsTrue (is_store_size v n)) (period : IsTrue (is_period p)) where
  low : 1024 ≤ n
  low = size-low v n size

  even : n % 2 ≡ 0
  even = size-even v n size

  -- the words 100 to 183, the size word and the end word
  count : (a : ℕ) → owners a (owned (empty_lists v p n)) ≡ times a (range_with_len 100 84) + (hit a (n - 2) + hit a 200)
  count a = omega (arith, owners-nodes a (empty_lists v p n))

  within : (a : ℕ) → 0 < times a (range_with_len 100 84) + (hit a (n - 2) + hit a 200) → a < n
  within a some =
      elim (cases_lt a n) [
        | inl h ↦ h
        | inr past ↦
            absurd (omega (
              arith,
              some,
              times-above a 100 84 (omega (arith, past, low)),
              hit-other a (n - 2) (λ e. absurd (omega (arith, e, past, low))),
              hit-other a 200 (λ e. absurd (omega (arith, e, past, low))),
            ))
      ]

  ends : (a : ℕ) → hit a (n - 2) + hit a 200 ≤ 1
  ends a =
      elim (cases_eq a 200) [
        | inl e ↦ omega (arith, hit-le a 200, hit-other a (n - 2) (λ f. absurd (omega (arith, e, f, low))))
        | inr ne ↦ omega (arith, hit-le a (n - 2), hit-other a 200 ne)
      ]

  once : (a : ℕ) → owners a (owned (empty_lists v p n)) ≤ 1
  once a =
      elim (cases_lt a 184) [
        | inl near ↦ omega (arith, count a, range-apart 100 84 a, hit-other a (n - 2) (λ e. absurd (omega (arith, e, near, low))), hit-other a 200 (λ e. absurd (omega (arith, e, near))))
        | inr past ↦ omega (arith, count a, times-above a 100 84 (omega (arith, past)), ends a)
      ]

  apart : OwnsApart (empty_lists v p n)
  apart = record { apart = once; inside = λ a some. within a (subst (λ z. 0 < z) (count a) some) }

  valid : AreValid (empty_lists v p n)
  valid = record {
    blocks = (refl, omega (arith, low), omega (arith, even, low), omega (arith, low));
    numbers = record { version = version; size = size; period = period; residents = λ e. cc };
    modules = tt;
    tasks = record { each = tt; distinct = λ a. omega arith; order = tt; shell = refl; console = refl; files = refl; reporter = λ e. cc };
    coroutines = tt;
    queues =
        record {
          tasks = tt;
          clock = tt;
          keyboard = tt;
          output = tt;
          pending = tt;
          due = tt;
          no_console = λ e. refl;
          key = refl;
          fault = refl;
          running = inl refl;
        };
    owns = apart;
  }

  empty-holds : HoldsLists (written (pairs n v p) (replicate n 0)) (empty_lists v p n)
  empty-holds = record { valid = valid; size = length-written (pairs n v p) (replicate n 0) ∙ length-replicate n 0; holds = holds-empty n v p low }

  -- what nobody owns is not written
  free : (a : ℕ) → owners a (owned (empty_lists v p n)) ≡ 0 → owners a (pairs n v p) ≡ 0
  free a none =
      let away : (b : ℕ) → 100 ≤ b → b < 184 → hit a b ≡ 0 = λ b from to. hit-other a b (λ e. absurd (omega (arith, count a, none, times-within a 100 84 (omega (arith, e, from)) (omega (arith, e, to)))))
      in
      omega (
        arith,
        count a,
        none,
        away 120 (omega arith) (omega arith),
        away 111 (omega arith) (omega arith),
        away 110 (omega arith) (omega arith),
        away 109 (omega arith) (omega arith),
        away 103 (omega arith) (omega arith),
        away 100 (omega arith) (omega arith),
      )

  pub empty-changed : IsChanged (replicate n 0) (written (pairs n v p) (replicate n 0)) (empty_lists v p n) []
  empty-changed = record {
    lists = empty-holds;
    size = length-written (pairs n v p) (replicate n 0);
    written = record { holds = holds-empty n v p low; others = λ a none. written-other a (pairs n v p) (replicate n 0) (free a none) };
  }
