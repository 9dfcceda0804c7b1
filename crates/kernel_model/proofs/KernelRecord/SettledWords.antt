-- The plain words once lists have changed, and the store that stands for the settled kernel.
use Rattle.std.proofs.Common.{◌≡◌, ℕ, ◌+◌, ◌<◌, List, [], ◌∷◌, length, get_or, eqb, cond, Bool, true, false, Option, Some, None, refl, sym, ap, ◌∙◌, arith}
use Rattle.std.specs.Prelude.{is_some}
use Rattle.std.proofs.lemmas.List.FromFn.{get_or-map-range_with_len, length-map-range_with_len}
use Rattle.kernel_lists.specs.OwnedWords.Owned.{Pairs, owners, word_in, written}
use Rattle.kernel_lists.specs.OwnedWords.Written.{IsWritten}
use Rattle.kernel_lists.proofs.OwnedWords.OwnedWords.{word_in-none}
use Rattle.kernel_model.specs.KernelRecord.Image.{HasPlainWords, IsImage, image, plain_words, settled}
use Rattle.kernel_model.specs.KernelRecord.Kernel.{Kernel}
use Rattle.kernel_model.specs.KernelRecord.Lists.{Lists}
use Rattle.kernel_model.specs.KernelRecord.Owned.{OwnsApart, owned}
use Rattle.kernel_model.proofs.KernelRecord.ImageWords.{image-list}

-- an address that is owned has a word
pub word_in-some : (a : ℕ) (es : Pairs) → 0 < owners a es → is_some (word_in a es) ≡ true
word_in-some a [] some = absurd (omega (arith, some))
word_in-some a (e ∷ es) some = on (eqb a e.0) refl some (word_in-some a es)
  where
    on : (b : Bool) → eqb a e.0 ≡ b → 0 < cond b 1 0 + owners a es → (0 < owners a es → is_some (word_in a es) ≡ true) → is_some (cond b (Some e.1) (word_in a es)) ≡ true
    on true e some more = refl
    on false e some more = more (omega (arith, some))

abbrev plain_word : List ℕ → Lists → ℕ → Option ℕ
plain_word s l a = cond (is_some (word_in a (owned l))) None (Some (get_or s a 0))

plain-word : (s : List ℕ) (l : Lists) (a : ℕ) → a < l.size → get_or (plain_words s l) a None ≡ plain_word s l a
unfolding plain_words
plain-word s l a low = get_or-map-range_with_len (plain_word s l) 0 l.size a a None low (omega arith)

length-plain : (s : List ℕ) (l : Lists) → length (plain_words s l) ≡ l.size
unfolding plain_words
length-plain s l = length-map-range_with_len (plain_word s l) 0 l.size

-- a word that nobody owns is the store's
plain-unowned : (s : List ℕ) (l : Lists) (a : ℕ) → a < l.size → owners a (owned l) ≡ 0 → get_or (plain_words s l) a None ≡ Some (get_or s a 0)
plain-unowned s l a low none = plain-word s l a low ∙ ap (λ o. cond (is_some o) None (Some (get_or s a 0))) (word_in-none a (owned l) none)

-- a word that is owned is no plain one
plain-owned : (s : List ℕ) (l : Lists) (a : ℕ) → a < l.size → 0 < owners a (owned l) → get_or (plain_words s l) a None ≡ None
plain-owned s l a low some = plain-word s l a low ∙ ap (λ b. cond b None (Some (get_or s a 0))) (word_in-some a (owned l) some)

pub settled-plain : (k : Kernel) (l : Lists) (plain : Pairs) → OwnsApart l → HasPlainWords (settled plain k l)
unfolding settled
settled-plain k l plain own =
    let s : List ℕ = written plain (image k) in
    record {
      size = length-plain s l;
      plain = λ a low none. (get_or s a 0, plain-unowned s l a low none);
      owned = λ a some. plain-owned s l a (own.inside a some) some;
    }

pub settled-image : (s t : List ℕ) (k : Kernel) (l : Lists) (plain : Pairs) → IsImage s k → l.size ≡ k.lists.size → OwnsApart l → length t ≡ length s
    → IsWritten s t (owned l) plain → IsImage t (settled plain k l)
unfolding settled
settled-image s t k l plain is same own size w = record {
  size = size ∙ is.size ∙ sym same;
  holds = w.holds;
  plain = λ a low none.
      plain-unowned (written plain (image k)) l a (omega (arith, low, size, is.size, same)) none
      ∙ ap (λ z. Some (get_or (written plain z) a 0)) (sym (image-list s k is))
      ∙ ap (λ z. Some z) (sym (w.others a none));
}
