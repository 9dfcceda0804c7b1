-- A keeper that knows the words of lists marks exactly these, and a store of which none of them was written holds the lists.
use Rattle.std.proofs.Common.{◌≡◌, ◌<◌, ℕ, Bool, true, false, List, inl, inr, refl, sym, subst, ◌∙◌, arith}
use Rattle.std.specs.Prelude.{◌↔◌, nat_lt}
use Rattle.std.proofs.lemmas.Bool.{cases_lt}
use Rattle.std.proofs.lemmas.Bool.Decides.{nat_tests}
use Rattle.word_store.specs.Count.{times}
use Rattle.word_store.specs.declared.registers.Regs.{Regs}
use Rattle.instruction_set.specs.Instruction.{instruction}
use Rattle.kernel_lists.specs.OwnedWords.Owned.{owners}
use Rattle.kernel_lists.proofs.OwnedWords.OwnedWords.{Holds-same}
use Rattle.kernel_model.specs.KernelRecord.HoldsLists.{HoldsLists}
use Rattle.kernel_model.specs.KernelRecord.Lists.{Lists}
use Rattle.kernel_model.specs.KernelRecord.Owned.{owned}
use Rattle.kernel_model.proofs.WordKinds.KnownWords.{addresses, times-addresses}
use Rattle.guest_turns.specs.Guarded.{is_owned}
use Rattle.guest_turns.proofs.MarkedWords.{KeepsMarked, keeps-marked}

-- marks that are true exactly at these addresses
marks-owned : (l : Lists) (mark : Bool) (a : ℕ) → (mark ≡ true) ↔ (0 < times a (addresses (owned l))) → mark ≡ is_owned l a
marks-owned l mark a iff = on mark iff (times-addresses a (owned l))
  where
    on : (b : Bool) → (b ≡ true) ↔ (0 < times a (addresses (owned l))) → times a (addresses (owned l)) ≡ owners a (owned l) → b ≡ nat_lt 0 (owners a (owned l))
    on true i e = (let some : 0 < owners a (owned l) = omega (arith, e, i.0 refl) in grind (arith, nat_tests))
    on false i e = (let none : owners a (owned l) ≡ 0 = nobody i e in grind (arith, nat_tests))
      where
        clash : false ≡ true → ⊥
        clash f = cc

        nobody : (false ≡ true) ↔ (0 < times a (addresses (owned l))) → times a (addresses (owned l)) ≡ owners a (owned l) → owners a (owned l) ≡ 0
        nobody i e = elim (cases_lt 0 (owners a (owned l))) [ inl some ↦ absurd (clash (i.1 (omega (arith, e, some)))) | inr none ↦ omega (arith, none) ]

pub marks-lists : (l : Lists) (marks : ℕ → Bool) → ((a : ℕ) → (marks a ≡ true) ↔ (0 < times a (addresses (owned l)))) → marks ≡ is_owned l
marks-lists l marks known = λ i a. marks-owned l (marks a) a (known a) i

pub holds-kept : (s t : List ℕ) (l : Lists) → HoldsLists s l → KeepsMarked (is_owned l) s t → HoldsLists t l
holds-kept s t l h k =
    record {
      valid = h.valid;
      size = k.size ∙ h.size;
      holds = Holds-same s t (owned l) h.holds (λ a some. k.same a (grind (arith, nat_tests)));
    }

-- an instruction that writes none of them leaves such a store
pub holds-executed : (s t : List ℕ) (r : Regs) (l : Lists) → HoldsLists s l → t ≡ (instruction (is_owned l) s r).words → HoldsLists t l
holds-executed s t r l h words = holds-kept s t l h (subst (KeepsMarked (is_owned l) s) (sym words) (keeps-marked (is_owned l) s r))
