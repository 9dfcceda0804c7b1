-- A store whose lists change: owned words are exchanged for words of which some stood there already, and plain words are written
-- after a change.
use Rattle.std.proofs.Common.{◌≡◌, ◌≢◌, ℕ, ◌<◌, List, [], ◌∷◌, ◌++◌, get_or, length, set, inl, inr, sym, ap, ◌∙◌, subst, arith}
use Rattle.std.proofs.lemmas.Bool.{cases_eq}
use Rattle.std.proofs.lemmas.List.{get_or-set_other, get_or-set_same, length-set}
use Rattle.kernel_lists.specs.OwnedWords.Exchange.{Exchange, Splits}
use Rattle.kernel_lists.specs.OwnedWords.Owned.{Holds, Pairs, owners, written}
use Rattle.kernel_lists.specs.OwnedWords.Written.{IsWritten}
use Rattle.kernel_lists.proofs.OwnedWords.Exchanges.{exchange-as}
use Rattle.kernel_lists.proofs.OwnedWords.OwnedWords.{Holds-append, Holds-left, Holds-right, Holds-same, length-written, owners-append}
use Rattle.kernel_lists.proofs.OwnedWords.WrittenWords.{ordered-hold}
use Rattle.kernel_model.specs.KernelRecord.ChangedStore.{IsChanged}
use Rattle.kernel_model.specs.KernelRecord.Lists.{Lists}
use Rattle.kernel_model.specs.KernelRecord.Owned.{owned}
use Rattle.kernel_model.specs.KernelRecord.ValidLists.{AreValid}

-- of the new words some are kept as they are, and the others are written
pub exchange-kept : (s t : List ℕ) (l m : Lists) (old new kept all : Pairs) → Holds s (owned l) → AreValid m → length s ≡ m.size → Exchange (owned l) (owned m) old new
    → Splits new kept all → Holds s kept → t ≡ written all s → IsChanged s t m []
exchange-kept s t l m old new kept all holds valid size x split kept-held is =
    let long : length t ≡ length s = ap length is ∙ length-written all s in
    let whole : Exchange (owned l) (owned m) old (all ++ kept) =
    exchange-as (owned l) (owned m) old new (all ++ kept) x
    (λ a. omega (arith, split.count a, owners-append a all kept))
    (λ r k. (let o = split.opens r k in Holds-append r all kept o.1 o.0))
    (λ r k. split.closes r (Holds-right r all kept k) (Holds-left r all kept k))
    in
    let w : IsWritten s (written all s) (owned m) [] =
    ordered-hold s (owned l) (owned m) old all kept [] all
    (record {
      writes =
          record {
            holds = holds;
            exchange = whole;
            there = kept-held;
            apart = valid.owns.apart;
            inside = λ a some. omega (arith, valid.owns.inside a some, size);
            unowned = λ a some. absurd (omega (arith, some));
          };
      order = record { count = λ a. omega arith; opens = λ v k. (tt, k); closes = λ v j k. k };
      once = λ a. omega arith;
      plain_inside = λ a some. absurd (omega (arith, some));
    })
    in
    let v : IsWritten s t (owned m) [] = subst (λ z. IsWritten s z (owned m) []) (sym is) w in
    record { lists = record { valid = valid; size = long ∙ size; holds = v.holds }; size = long; written = v }

-- one more plain word is written
pub changed-plain : (s t : List ℕ) (m : Lists) (plain : Pairs) (a w : ℕ) → IsChanged s t m plain → owners a (owned m) ≡ 0 → a < length t → IsChanged s (set t a w) m ((a, w) ∷ plain)
changed-plain s t m plain a w c none inside =
    let differ : (b : ℕ) → 0 < owners b (owned m) → b ≢ a = λ b some e. absurd (omega (arith, some, none, ap (λ z. owners z (owned m)) e)) in
    let holds : Holds (set t a w) (owned m) = Holds-same t (set t a w) (owned m) c.lists.holds (λ b some. get_or-set_other t a b w 0 (differ b some)) in
    let long : length (set t a w) ≡ length t = length-set t a w in
    let there : a < length (written plain s) = omega (arith, inside, c.size, length-written plain s) in
    record {
      lists = record { valid = c.lists.valid; size = long ∙ c.lists.size; holds = holds };
      size = long ∙ c.size;
      written =
          record {
            holds = holds;
            others = λ b free.
                elim (cases_eq b a) [
                  | inl e ↦ ap (λ z. get_or (set t a w) z 0) e ∙ get_or-set_same t a w 0 inside ∙ sym (get_or-set_same (written plain s) a w 0 there) ∙ sym (ap (λ z. get_or (set (written plain s) a w) z 0) e)
                  | inr ne ↦ get_or-set_other t a b w 0 ne ∙ c.written.others b free ∙ sym (get_or-set_other (written plain s) a b w 0 ne)
                ];
          };
    }
