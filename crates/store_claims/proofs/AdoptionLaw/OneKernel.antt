-- The valid kernel that stands for a store and other parts is the one that is read off.
use Rattle.std.proofs.Common.{◌≡◌, ◌↔◌, ℕ, ◌+◌, ◌<◌, Bool, true, false, List, [], ◌∷◌, length, cond, eqb, Option, Some, None, get_or, refl, sym, ap, ◌∙◌, subst, arith, inl, inr}
use Rattle.std.specs.Prelude.{is_some}
use Rattle.std.proofs.lemmas.Bool.{cases_lt}
use Rattle.std.proofs.lemmas.List.{ext_get_or}
use Rattle.std.proofs.lemmas.List.FromFn.{get_or-map-range_with_len, length-map-range_with_len}
use Rattle.kernel_lists.specs.OwnedWords.Owned.{Pairs, owners, word_in}
use Rattle.kernel_lists.proofs.OwnedWords.OwnedWords.{word_in-none}
use Rattle.kernel_model.specs.KernelRecord.HoldsLists.{HoldsLists}
use Rattle.kernel_model.specs.KernelRecord.Image.{HasPlainWords, IsImage, plain_at, plain_words}
use Rattle.kernel_model.specs.KernelRecord.Kernel.{Kernel}
use Rattle.kernel_model.specs.KernelRecord.Lists.{Lists}
use Rattle.kernel_model.specs.KernelRecord.Owned.{OwnsApart, owned}
use Rattle.kernel_model.specs.KernelRecord.Recovered.{lists_in}
use Rattle.kernel_model.specs.KernelRecord.ValidKernel.{IsValid}
use Rattle.kernel_model.proofs.KernelRecord.RecoveredLists.{lists-back}
use Rattle.store_claims.specs.AdoptionLaw.OtherParts.{OtherParts}
use Rattle.store_claims.specs.AdoptionLaw.Adoption.{HasKernel, IsAdopted, OthersFit, StoreRepresentsKernel, kernel_in}
use Rattle.kernel_model.proofs.KernelRecord.SettledWords.{word_in-some}

-- ---- the plain words of a store beside some lists

module _ (s : List ℕ) (l : Lists) where
  abbrev plain_word : ℕ → Option ℕ
  plain_word a = cond (is_some (word_in a (owned l))) None (Some (get_or s a 0))

  plain-word : (a : ℕ) → a < l.size → get_or (plain_words s l) a None ≡ plain_word a
  unfolding plain_words
  plain-word a low = get_or-map-range_with_len plain_word 0 l.size a a None low (omega arith)

  length-plain : length (plain_words s l) ≡ l.size
  unfolding plain_words
  length-plain = length-map-range_with_len plain_word 0 l.size

  plain-unowned : (a : ℕ) → a < l.size → owners a (owned l) ≡ 0 → get_or (plain_words s l) a None ≡ Some (get_or s a 0)
  plain-unowned a low none = plain-word a low ∙ ap (λ o. cond (is_some o) None (Some (get_or s a 0))) (word_in-none a (owned l) none)

  plain-owned : (a : ℕ) → a < l.size → 0 < owners a (owned l) → get_or (plain_words s l) a None ≡ None
  plain-owned a low some = plain-word a low ∙ ap (λ b. cond b None (Some (get_or s a 0))) (word_in-some a (owned l) some)

-- ---- the kernel that is read off

module _ (s : List ℕ) (o : OtherParts) where
  -- it has the plain words
  has-plain : OwnsApart (lists_in s) → HasPlainWords (kernel_in s o)
  unfolding kernel_in
  has-plain own =
      let l : Lists = lists_in s in
      record {
        size = length-plain s l;
        plain = λ a low none. (get_or s a 0, plain-unowned s l a low none);
        owned = λ a some. plain-owned s l a (own.inside a some) some;
      }

  -- and the store is its image
  is-image : HoldsLists s (lists_in s) → IsImage s (kernel_in s o)
  unfolding kernel_in
  is-image h =
      let l : Lists = lists_in s in
      record {
        size = h.size;
        holds = h.holds;
        plain = λ a low none. plain-unowned s l a (omega (arith, low, h.size)) none;
      }

  -- so it is valid and stands for them, where the store and the other parts are as they must be
  pub adopted : IsAdopted s o → HasKernel s o
  unfolding kernel_in
  adopted h =
      let c : OthersFit o (kernel_in s o) = h.others in (
        kernel_in s o,
        record {
          lists = h.lists.valid;
          plain = has-plain h.lists.valid.owns;
          ticks = λ goes. c.ticks;
          running = λ goes. c.running;
          registers = c.registers;
          residents = c.residents;
          steps = c.steps;
        },
        record {
          image = is-image h.lists;
          version = c.version;
          period = c.period;
          regs = refl;
          steps = refl;
          console = refl;
          shell = refl;
          disc = refl;
          type_ahead = refl;
          keys = refl;
          pipes = refl;
          goes = refl;
        },
      )

-- ---- and no other does

module _ (s : List ℕ) (o : OtherParts) (k : Kernel) (v : IsValid k) (st : StoreRepresentsKernel s o k) where
  lists-one : k.lists ≡ lists_in s
  lists-one = sym (lists-back s k.lists v.lists st.image.size st.image.holds)

  plain-each : (a : ℕ) → a < length k.plain → plain_at k a ≡ get_or (plain_words s k.lists) a None
  plain-each a low =
      let inside : a < k.lists.size = omega (arith, low, v.plain.size) in
      elim (cases_lt 0 (owners a (owned k.lists))) [
        | inl some ↦ v.plain.owned a some ∙ sym (plain-owned s k.lists a inside some)
        | inr few ↦
            let none : owners a (owned k.lists) ≡ 0 = omega (arith, few) in
            st.image.plain a (omega (arith, inside, st.image.size)) none ∙ sym (plain-unowned s k.lists a inside none)
      ]

  plain-one : k.plain ≡ plain_words s (lists_in s)
  plain-one = ext_get_or None k.plain (plain_words s k.lists) (v.plain.size ∙ sym (length-plain s k.lists)) plain-each ∙ ap (plain_words s) lists-one

  pub one-kernel-in : k ≡ kernel_in s o
  unfolding kernel_in
  one-kernel-in =
      let is : ◌≡◌ {A = Kernel} k (kernel_in s o) = λ i. record {
        lists = lists-one i;
        plain = plain-one i;
        regs = st.regs i;
        steps = st.steps i;
        console = st.console i;
        shell = st.shell i;
        disc = st.disc i;
        type_ahead = st.type_ahead i;
        keys = st.keys i;
        pipes = st.pipes i;
        stop = st.goes i;
      } in
      is

  is-adopted : IsAdopted s o
  is-adopted = record {
    lists = subst (HoldsLists s) lists-one (record { valid = v.lists; size = st.image.size; holds = st.image.holds });
    others = subst (OthersFit o) one-kernel-in (record {
      version = st.version;
      period = st.period;
      ticks = v.ticks st.goes;
      running = v.running st.goes;
      registers = v.registers;
      residents = v.residents;
      steps = v.steps;
    });
  }

pub has-kernel : (s : List ℕ) (o : OtherParts) → HasKernel s o ↔ IsAdopted s o
has-kernel s o = (λ h. is-adopted s o h.0 h.1 h.2, adopted s o)
