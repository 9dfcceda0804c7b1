-- What the test of a buffer's words says.
use Rattle.std.proofs.Common.{◌≡◌, ◌↔◌, ℕ, zero, suc, ◌+◌, ◌<◌, ◌≤◌, Bool, true, false, not, IsTrue, ◌||◌, ltb, inl, inr, refl, sym, ap, ◌∙◌, subst, arith}
use Rattle.std.specs.List.{list_any, range_with_len}
use Rattle.std.proofs.lemmas.Bool.{cases_eq, cases_lt, lt-ltb, not-true, or_parts}
use Rattle.kernel_lists.specs.OwnedWords.Owned.{owners}
use Rattle.kernel_model.specs.KernelRecord.Changes.{AreUnowned}
use Rattle.kernel_model.specs.KernelRecord.Lists.{Lists}
use Rattle.kernel_model.specs.KernelRecord.Owned.{owned}
use Rattle.resident_tasks.specs.ResidentRequests.Buffers.{covered, is_unowned}
use Rattle.kernel_calls.proofs.PacketCalls.PacketTests.{any-none, none-each}

-- the words of a buffer that passes are nobody's, and the other way round
pub unowned-words : (l : Lists) (a n : ℕ) → is_unowned l a n ≡ true → AreUnowned l a (a + covered n)
unowned-words l a n e c low high =
    elim (cases_lt 0 (owners c (owned l))) [
      | inl some ↦ absurd (clash (ltb 0 (owners c (owned l))) (lt-ltb 0 (owners c (owned l)) some) (none-each (λ b. ltb 0 (owners b (owned l))) (covered n) a (not-true _ e) c low high))
      | inr none ↦ omega (arith, none)
    ]
  where
    clash : (b : Bool) → b ≡ true → b ≡ false → ⊥
    clash b e f = cc

pub words-unowned : (l : Lists) (a n : ℕ) → AreUnowned l a (a + covered n) → is_unowned l a n ≡ true
words-unowned l a n none = ap not (any-none (λ b. ltb 0 (owners b (owned l))) (covered n) a (λ c low high. ap (λ n. ltb 0 n) (none c low high)))

pub unowned-is : (l : Lists) (a n k : ℕ) → k ≡ covered n → (b : Bool) → IsTrue b ↔ AreUnowned l a (a + k) → b ≡ is_unowned l a n
unowned-is l a n k e true test = sym (words-unowned l a n (subst (λ z. AreUnowned l a (a + z)) e (test.0 refl)))
unowned-is l a n k e false test = on (is_unowned l a n) refl
  where
    on : (b : Bool) → is_unowned l a n ≡ b → false ≡ b
    on true is = absurd (no (test.1 (subst (λ z. AreUnowned l a (a + z)) (sym e) (unowned-words l a n is))))
      where
        no : IsTrue false → ⊥
        no e = cc
    on false is = refl
