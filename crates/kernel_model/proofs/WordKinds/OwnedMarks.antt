-- What a keeper that knows the words of lists marks: the words that they own.
use Rattle.std.proofs.Common.{◌≡◌, ℕ, ◌^◌, ◌%◌, ◌<◌, ◌&&◌, cond, eqb, leb, Bool, true, false, inl, inr, sym, subst, arith}
use Rattle.std.specs.Prelude.{◌↔◌}
use Rattle.std.proofs.lemmas.Bool.{and_parts, cases_lt, false_from_ne_true, leb-true}
use Rattle.word_store.specs.Count.{times}
use Rattle.kernel_lists.specs.OwnedWords.Owned.{owners}
use Rattle.kernel_model.specs.KernelRecord.Changes.{AreUnowned}
use Rattle.kernel_model.specs.KernelRecord.KernelRanges.{AreClear}
use Rattle.kernel_model.specs.KernelRecord.Lists.{Lists}
use Rattle.kernel_model.specs.KernelRecord.Owned.{owned}
use Rattle.kernel_model.specs.KernelRecord.ValidLists.{AreValid}
use Rattle.kernel_model.proofs.WordKinds.KnownWords.{addresses, times-addresses}

-- a store has fewer than 2 ^ 32 words
pub size-low : (l : Lists) → AreValid l → l.size < 2 ^ 32
size-low l v = on (eqb l.version 1) (and_parts (leb 1024 l.size) (leb l.size most) (and_parts (leb 1024 l.size && leb l.size most) (eqb (l.size % 2) 0) v.numbers.size).0).1
  where
    most : ℕ
    most = cond (eqb l.version 1) 262144 4194304

    on : (b : Bool) → leb l.size (cond b 262144 4194304) ≡ true → l.size < 2 ^ 32
    on true le = omega (arith, leb-true l.size 262144 le)
    on false le = omega (arith, leb-true l.size 4194304 le)

-- so words that are clear of marks are unowned, and the other way round
pub clear-unowned : (marks : ℕ → Bool) (l : Lists) (a b : ℕ) → AreValid l → ((c : ℕ) → marks c ≡ true ↔ 0 < times c (addresses (owned l))) → AreClear marks a b ↔ AreUnowned l a b
clear-unowned marks l a b v marked = (there, back)
  where
    there : AreClear marks a b → AreUnowned l a b
    there clear c low high =
        elim (cases_lt 0 (owners c (owned l))) [
          | inl some ↦ absurd (clash (marks c) (clear c low high (omega (arith, v.owns.inside c some, size-low l v))) ((marked c).1 (subst (λ n. 0 < n) (sym (times-addresses c (owned l))) some)))
          | inr none ↦ omega (arith, none)
        ]
      where
        clash : (x : Bool) → x ≡ false → x ≡ true → ⊥
        clash x e f = cc

    back : AreUnowned l a b → AreClear marks a b
    back unowned c low high _ = false_from_ne_true (marks c) (λ yes. absurd (omega (arith, (marked c).0 yes, times-addresses c (owned l), unowned c low high)))
