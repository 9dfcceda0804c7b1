-- Two changes of a store, one after the other, that both write plain words.
use Rattle.std.proofs.Common.{◌≡◌, ◌≤◌, ◌<◌, ℕ, List, [], ◌∷◌, ◌++◌, length, get_or, set, eqb, true, false, refl, sym, ap, ◌∙◌, arith, get_or-set_other, get_or-set_same}
use Rattle.std.proofs.lemmas.List.{get_or_past}
use Rattle.std.proofs.lemmas.Bool.Decides.{nat_tests}
use Rattle.std.specs.Prelude.{nat_lt}
use Rattle.kernel_lists.specs.OwnedWords.Owned.{Pairs, owners, written}
use Rattle.kernel_lists.proofs.OwnedWords.OwnedWords.{length-written, written-append}
use Rattle.kernel_model.specs.KernelRecord.ChangedStore.{IsChanged}
use Rattle.kernel_model.specs.KernelRecord.Lists.{Lists}
use Rattle.kernel_model.specs.KernelRecord.Owned.{owned}

-- what is at an address after a write depends on what stood there
set-at : (s t : List ℕ) (b w a : ℕ) → length s ≡ length t → get_or s a 0 ≡ get_or t a 0 → get_or (set s b w) a 0 ≡ get_or (set t b w) a 0
set-at s t b w a long same =
    elim (eqb a b) as (λ c. eqb a b ≡ c → get_or (set s b w) a 0 ≡ get_or (set t b w) a 0) [
      | true ↦ λ e. (let at : a ≡ b = grind (arith, nat_tests) in here at)
      | false ↦ λ e. (let other : a ≡ b → ⊥ = λ at. grind (arith, nat_tests) in get_or-set_other s b a w 0 other ∙ same ∙ sym (get_or-set_other t b a w 0 other))
    ] refl
  where
    here : a ≡ b → get_or (set s b w) a 0 ≡ get_or (set t b w) a 0
    here at =
        elim (nat_lt b (length s)) as (λ c. nat_lt b (length s) ≡ c → get_or (set s b w) a 0 ≡ get_or (set t b w) a 0) [
          | true ↦ λ e.
              (let inside : b < length s = grind (arith, nat_tests) in
              ap (λ z. get_or (set s b w) z 0) at ∙ get_or-set_same s b w 0 inside ∙ sym (get_or-set_same t b w 0 (omega (arith, long, inside))) ∙ ap (λ z. get_or (set t b w) z 0) (sym at))
          | false ↦ λ e.
              (let past : length s ≤ b = grind (arith, nat_tests) in
              get_or_past (set s b w) a 0 (omega (arith, at, past, length-written ((b, w) ∷ []) s))
              ∙ sym (get_or_past (set t b w) a 0 (omega (arith, at, past, long, length-written ((b, w) ∷ []) t))))
        ] refl

written-at : (ps : Pairs) (s t : List ℕ) (a : ℕ) → length s ≡ length t → get_or s a 0 ≡ get_or t a 0 → get_or (written ps s) a 0 ≡ get_or (written ps t) a 0
written-at [] s t a long same = same
written-at (e ∷ es) s t a long same = set-at (written es s) (written es t) e.0 e.1 a (length-written es s ∙ long ∙ sym (length-written es t)) (written-at es s t a long same)

-- the later words are written over the earlier ones; what nobody owns after both was owned by nobody between them
pub changed-twice : (s t u : List ℕ) (l m : Lists) (before after : Pairs) → IsChanged s t l before → IsChanged t u m after → ((a : ℕ) → owners a (owned m) ≡ 0 → owners a (owned l) ≡ 0)
    → IsChanged s u m (after ++ before)
changed-twice s t u l m before after x y keeps =
    record {
      lists = y.lists;
      size = y.size ∙ x.size;
      written =
          record {
            holds = y.written.holds;
            others = λ a none.
                y.written.others a none
                ∙ written-at after t (written before s) a (x.size ∙ sym (length-written before s)) (x.written.others a (keeps a none))
                ∙ ap (λ z. get_or z a 0) (sym (written-append after before s));
          };
    }
