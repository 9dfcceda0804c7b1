-- A keeper that was told of words that became the kernel's, or are nobody's any more, knows the words of the lists.
use Rattle.std.proofs.Common.{◌≡◌, ◌↔◌, ℕ, ◌+◌, ◌<◌, true, List, [], ◌∷◌, ◌++◌, map, refl, subst, sym, arith}
use Rattle.std.specs.List.{range_with_len}
use Rattle.word_store.specs.Count.{IsApart, times}
use Rattle.word_store.proofs.Counts.{times-append}
use Rattle.kernel_lists.specs.OwnedWords.Owned.{Pairs, owners}
use Rattle.kernel_model.specs.KernelRecord.ChangedStore.{Knows}
use Rattle.kernel_model.specs.KernelRecord.HoldsLists.{HoldsLists}
use Rattle.kernel_model.specs.KernelRecord.Lists.{Lists}
use Rattle.kernel_model.specs.KernelRecord.Owned.{OwnsApart, owned}
use Rattle.kernel_model.specs.KernelRecord.KernelRanges.{is_kernel_word}
use Rattle.kernel_model.proofs.KernelRecord.RangesOwned.{ranges-owned}
use Rattle.kernel_model.proofs.KernelRecord.WalkedLists.{can-walk}
use Rattle.kernel_model.specs.WordKinds.Keeper.{AreTogether, IsStoreOf}

pub knows-released : (tells told : List ℕ → Type 0) (l m : Lists) (p n : ℕ) → OwnsApart l → ((a : ℕ) → owners a (owned l) ≡ owners a (owned m) + times a (range_with_len p n)) → Knows tells l
    → ((known after : List ℕ) → tells known → IsApart known → AreTogether known after (range_with_len p n) → told after) → Knows told m
knows-released tells told l m p n owns less knows release after count =
    let known : List ℕ = after ++ range_with_len p n in
    let together : AreTogether known after (range_with_len p n) = λ a. times-append a after (range_with_len p n) in
    let same : (a : ℕ) → times a known ≡ owners a (owned l) = λ a. omega (arith, together a, count a, less a) in
    release known after (knows known same) (λ a. omega (arith, same a, owns.apart a)) together

-- ---- the addresses of owned words, which such a keeper knows

abbrev pub addresses : Pairs → List ℕ
addresses es = map (λ e. e.0) es

pub times-addresses : (a : ℕ) (es : Pairs) → times a (addresses es) ≡ owners a es
times-addresses a [] = refl
times-addresses a (e ∷ es) = omega (arith, times-addresses a es)

-- a store that holds lists, of whose words these are the addresses
pub store-known : (s known : List ℕ) (l : Lists) → HoldsLists s l → ((a : ℕ) → times a known ≡ owners a (owned l)) → IsStoreOf s known l
store-known s known l h same = record {
  lists = h;
  addresses = same;
  walk = can-walk s l h;
  kernel = λ a. subst (λ n. (is_kernel_word s a ≡ true) ↔ (0 < n)) (sym (same a)) (ranges-owned s l h a);
}

pub store-of : (s : List ℕ) (l : Lists) → HoldsLists s l → IsStoreOf s (addresses (owned l)) l
store-of s l h = store-known s (addresses (owned l)) l h (λ a. times-addresses a (owned l))

pub tells-owned : (tells : List ℕ → Type 0) (l : Lists) → Knows tells l → tells (addresses (owned l))
tells-owned tells l knows = knows (addresses (owned l)) (λ a. times-addresses a (owned l))

pub knows-claimed : (tells told : List ℕ → Type 0) (l m : Lists) (p n : ℕ) → ((a : ℕ) → owners a (owned m) ≡ owners a (owned l) + times a (range_with_len p n)) → Knows tells l
    → ((known after : List ℕ) → tells known → AreTogether after known (range_with_len p n) → told after) → Knows told m
knows-claimed tells told l m p n more knows claim after count =
    let known : List ℕ = addresses (owned l) in
    let same : (a : ℕ) → times a known ≡ owners a (owned l) = λ a. times-addresses a (owned l) in
    claim known after (knows known same) (λ a. omega (arith, same a, count a, more a))
