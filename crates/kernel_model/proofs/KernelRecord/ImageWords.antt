-- The store that a kernel stands for, word by word and as a list.
use Rattle.std.proofs.Common.{◌≡◌, ◌≢◌, ℕ, ◌<◌, List, [], ◌∷◌, length, get_or, cond, Some, refl, sym, ap, ◌∙◌, arith, inl, inr}
use Rattle.std.specs.Prelude.{unwrap_or}
use Rattle.std.proofs.lemmas.Bool.{cases_lt, eq-eqb, ne_eqb}
use Rattle.std.proofs.lemmas.List.{ext_get_or}
use Rattle.std.proofs.lemmas.List.FromFn.{get_or-map-range_with_len, length-map-range_with_len}
use Rattle.word_store.proofs.Counts.{hit-same}
use Rattle.kernel_lists.specs.OwnedWords.Owned.{AreApart, Holds, Pairs, owners, word_in}
use Rattle.kernel_lists.proofs.OwnedWords.OwnedWords.{word_in-holds, word_in-none}
use Rattle.kernel_model.specs.KernelRecord.Image.{HasPlainWords, IsImage, image, plain_at, word_of}
use Rattle.kernel_model.specs.KernelRecord.Kernel.{Kernel}
use Rattle.kernel_model.specs.KernelRecord.Owned.{owned}
use Rattle.kernel_model.specs.KernelRecord.ValidKernel.{IsValid}

image-word : (s : List ℕ) (k : Kernel) → IsImage s k → (a : ℕ) → a < length s → word_of k a ≡ get_or s a 0
unfolding word_of
image-word s k is a low =
    elim (cases_lt 0 (owners a (owned k.lists))) [
      | inl some ↦ ap (λ o. unwrap_or o (unwrap_or (plain_at k a) 0)) (word_in-holds s a (owned k.lists) is.holds some)
      | inr few ↦
          let none : owners a (owned k.lists) ≡ 0 = omega (arith, few) in
          ap (λ o. unwrap_or o (unwrap_or (plain_at k a) 0)) (word_in-none a (owned k.lists) none) ∙ ap (λ o. unwrap_or o 0) (is.plain a low none)
    ]

pub image-list : (s : List ℕ) (k : Kernel) → IsImage s k → s ≡ image k
unfolding image
image-list s k is =
    ext_get_or 0 s (image k) (is.size ∙ sym (length-map-range_with_len (word_of k) 0 k.lists.size))
    (λ a low. sym (image-word s k is a low) ∙ sym (get_or-map-range_with_len (word_of k) 0 k.lists.size a a 0 (omega (arith, low, is.size)) (omega arith)))

-- a store that has each word of some pairs holds them, where no address is twice
holds-words : (s : List ℕ) (other : ℕ → ℕ) (es : Pairs) → AreApart es → ((a : ℕ) → 0 < owners a es → get_or s a 0 ≡ unwrap_or (word_in a es) (other a)) → Holds s es
holds-words s other [] apart same = tt
holds-words s other (e ∷ es) apart same = (
  same e.0 (omega (arith, hit-same e.0 e.0 refl)) ∙ ap (λ b. unwrap_or (cond b (Some e.1) (word_in e.0 es)) (other e.0)) (eq-eqb e.0 e.0 refl),
  holds-words s other es (λ a. omega (arith, apart a))
      (λ a some.
      let differ : a ≢ e.0 = λ k. absurd (omega (arith, some, apart a, hit-same a e.0 k)) in
      same a (omega (arith, some)) ∙ ap (λ b. unwrap_or (cond b (Some e.1) (word_in a es)) (other a)) (ne_eqb a e.0 differ)),
)

-- the image of a kernel that owns words apart and has the plain words
pub image-of : (k : Kernel) → AreApart (owned k.lists) → ((a : ℕ) → 0 < owners a (owned k.lists) → a < k.lists.size) → HasPlainWords k → IsImage (image k) k
unfolding image word_of
image-of k apart inside plain =
    let size : length (image k) ≡ k.lists.size = length-map-range_with_len (word_of k) 0 k.lists.size in
    let word : (a : ℕ) → a < k.lists.size → get_or (image k) a 0 ≡ word_of k a = λ a low. get_or-map-range_with_len (word_of k) 0 k.lists.size a a 0 low (omega arith) in
    record {
      size = size;
      holds = holds-words (image k) (λ a. unwrap_or (plain_at k a) 0) (owned k.lists) apart (λ a some. word a (inside a some));
      plain = λ a low none.
          let p = plain.plain a (omega (arith, low, size)) none in
          let here : get_or (image k) a 0 ≡ p.0 =
          word a (omega (arith, low, size)) ∙ ap (λ o. unwrap_or o (unwrap_or (plain_at k a) 0)) (word_in-none a (owned k.lists) none) ∙ ap (λ o. unwrap_or o 0) p.1
          in
          p.1 ∙ ap (λ w. Some w) (sym here);
    }

pub valid-image : (k : Kernel) → IsValid k → IsImage (image k) k
valid-image k v = image-of k v.lists.owns.apart v.lists.owns.inside v.plain
