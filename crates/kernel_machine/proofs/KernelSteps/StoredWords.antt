-- A store that stands for a kernel, and the plain words that it has beside its lists.
use Rattle.std.proofs.Common.{◌≡◌, ℕ, ◌+◌, ◌<◌, List, [], ◌∷◌, length, get_or, eqb, cond, Bool, true, false, Option, Some, None, refl, sym, ap, ◌∙◌, arith, inl, inr}
use Rattle.std.specs.Prelude.{is_some}
use Rattle.std.proofs.lemmas.Bool.{cases_lt}
use Rattle.std.proofs.lemmas.List.{ext_get_or}
use Rattle.std.proofs.lemmas.List.FromFn.{get_or-map-range_with_len, length-map-range_with_len}
use Rattle.kernel_lists.specs.OwnedWords.Owned.{Pairs, owners, word_in, written}
use Rattle.kernel_lists.specs.OwnedWords.Written.{IsWritten}
use Rattle.kernel_lists.proofs.OwnedWords.OwnedWords.{word_in-none}
use Rattle.kernel_model.specs.KernelRecord.ChangedStore.{IsChanged}
use Rattle.kernel_model.specs.KernelRecord.HoldsLists.{HoldsLists}
use Rattle.kernel_model.specs.KernelRecord.Image.{HasPlainWords, IsImage, image, plain_at, plain_words, settled}
use Rattle.kernel_model.specs.KernelRecord.Kernel.{Kernel}
use Rattle.kernel_model.specs.KernelRecord.Lists.{Lists}
use Rattle.kernel_model.specs.KernelRecord.Owned.{OwnsApart, owned}
use Rattle.kernel_model.specs.KernelRecord.ValidKernel.{IsValid}
use Rattle.kernel_model.specs.KernelRecord.ValidLists.{AreValid}
use Rattle.kernel_model.proofs.KernelRecord.ImageWords.{image-list, valid-image}
use Rattle.kernel_machine.specs.KernelSteps.Stepped.{with_store}
use Rattle.kernel_model.proofs.KernelRecord.SettledWords.{word_in-some}

-- the store of a kernel with valid lists
pub record HasStore (s : List ℕ) (k : Kernel) : Type 0 where
  pub valid : AreValid k.lists
  pub image : IsImage s k
  pub plain : HasPlainWords k

-- it is the image
pub store-image : (s : List ℕ) (k : Kernel) → HasStore s k → s ≡ image k
store-image s k h = image-list s k h.image

pub store-holds : (s : List ℕ) (k : Kernel) → HasStore s k → HoldsLists s k.lists
store-holds s k h = record { valid = h.valid; size = h.image.size; holds = h.image.holds }

pub valid-store : (k : Kernel) → IsValid k → HasStore (image k) k
valid-store k h = record { valid = h.lists; image = valid-image k h; plain = h.plain }

-- ---- plain words

module _ (s : List ℕ) (l : Lists) where
  abbrev word_at : ℕ → Option ℕ
  word_at a = cond (is_some (word_in a (owned l))) None (Some (get_or s a 0))

  words-length : length (plain_words s l) ≡ l.size
  unfolding plain_words
  words-length = length-map-range_with_len word_at 0 l.size

  word-there : (a : ℕ) → a < l.size → get_or (plain_words s l) a None ≡ word_at a
  unfolding plain_words
  word-there a low = get_or-map-range_with_len word_at 0 l.size a a None low (omega arith)

  word-unowned : (a : ℕ) → a < l.size → owners a (owned l) ≡ 0 → get_or (plain_words s l) a None ≡ Some (get_or s a 0)
  word-unowned a low none = word-there a low ∙ ap (λ o. cond (is_some o) None (Some (get_or s a 0))) (word_in-none a (owned l) none)

  word-owned : (a : ℕ) → a < l.size → 0 < owners a (owned l) → get_or (plain_words s l) a None ≡ None
  word-owned a low some = word-there a low ∙ ap (λ b. cond b None (Some (get_or s a 0))) (word_in-some a (owned l) some)

  -- the kernel that takes all its plain words from a store
  pub plain-stored : (k : Kernel) → OwnsApart l → HasPlainWords (with_store s l k)
  plain-stored k own = record {
    size = words-length;
    plain = λ a low none. (get_or s a 0, word-unowned a low none);
    owned = λ a some. word-owned a (own.inside a some) some;
  }

-- the store t stands for it, where of the words that nobody owns these plain ones were written
pub image-stored : (s t : List ℕ) (l : Lists) (k : Kernel) (plain : Pairs) → length t ≡ l.size → IsWritten s t (owned l) plain → IsImage t (with_store (written plain s) l k)
image-stored s t l k plain size w = record {
  size = size;
  holds = w.holds;
  plain = λ a low none. word-unowned (written plain s) l a (omega (arith, low, size)) none ∙ ap (λ z. Some z) (sym (w.others a none));
}

pub stored : (s : List ℕ) (l : Lists) (k : Kernel) → HoldsLists s l → HasStore s (with_store s l k)
stored s l k h = record {
  valid = h.valid;
  image = image-stored s s l k [] h.size (record { holds = h.holds; others = λ a none. refl });
  plain = plain-stored s l k h.valid.owns;
}

-- lists that own the same words leave the same plain ones
pub same-plain : (s : List ℕ) (k : Kernel) (l : Lists) → HasStore s k → l.size ≡ k.lists.size → ((a : ℕ) → owners a (owned l) ≡ owners a (owned k.lists)) → plain_words s l ≡ k.plain
same-plain s k l h size own = ext_get_or None (plain_words s l) k.plain (words-length s l ∙ size ∙ sym h.plain.size) each
  where
    each : (a : ℕ) → a < length (plain_words s l) → get_or (plain_words s l) a None ≡ plain_at k a
    each a low =
        let inside : a < l.size = omega (arith, low, words-length s l) in
        elim (cases_lt 0 (owners a (owned l))) [
          | inl some ↦ word-owned s l a inside some ∙ sym (h.plain.owned a (omega (arith, some, own a)))
          | inr few ↦
              let none : owners a (owned l) ≡ 0 = omega (arith, few) in
              word-unowned s l a inside none ∙ sym (h.image.plain a (omega (arith, inside, size, h.image.size)) (sym (own a) ∙ none))
        ]

-- settling such lists changes nothing else
pub settled-same : (s : List ℕ) (k : Kernel) (l : Lists) → HasStore s k → l.size ≡ k.lists.size → ((a : ℕ) → owners a (owned l) ≡ owners a (owned k.lists))
    → settled [] k l ≡ record k { lists = l }
unfolding settled
settled-same s k l h size own =
    let plain : plain_words (image k) l ≡ k.plain = ap (λ z. plain_words z l) (sym (store-image s k h)) ∙ same-plain s k l h size own in
    ap (λ ps. record k { lists = l; plain = ps }) plain

-- the store of a kernel whose lists have changed, while they own the same words
pub changed-store : (s t : List ℕ) (k : Kernel) (l : Lists) → HasStore s k → l.size ≡ k.lists.size → ((a : ℕ) → owners a (owned l) ≡ owners a (owned k.lists)) → IsChanged s t l []
    → HasStore t (record k { lists = l })
changed-store s t k l h size own c = record {
  valid = c.lists.valid;
  image =
      record {
        size = c.lists.size;
        holds = c.lists.holds;
        plain = λ a low none. h.image.plain a (omega (arith, low, c.size)) (sym (own a) ∙ none) ∙ ap (λ w. Some w) (sym (c.written.others a none));
      };
  plain =
      record {
        size = h.plain.size ∙ sym size;
        plain = λ a low none. h.plain.plain a (omega (arith, low, size)) (sym (own a) ∙ none);
        owned = λ a some. h.plain.owned a (omega (arith, some, own a));
      };
}
