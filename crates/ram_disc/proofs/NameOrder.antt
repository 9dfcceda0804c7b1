-- Names in byte order.
use Rattle.std.proofs.Common.{◌≡◌, ◌≢◌, ℕ, zero, suc, ◌<◌, ◌≤◌, List, [], ◌∷◌, length, get_or, Bool, true, false, Ordering, refl, sym, ap, ◌∙◌, arith}
use Rattle.std.specs.declared.cmp.Ordering.TheVariants.{Less, Equal, Greater}
use Rattle.std.specs.List.{AllByRecursion, insert, remove}
use Rattle.std.specs.Ordering.{is_lt, nat_cmp, ordering_reverse}
use Rattle.std.specs.Cmp.Lexicographic.{slice_cmp}
use Rattle.std.specs.FinMap.{nat_cmp-IsAntisymmetric, slice_cmp-IsAntisymmetric}
use Rattle.std.specs.Str.{bytes_eq}
use Rattle.std.proofs.lemmas.Bool.{false≢true}
use Rattle.std.proofs.lemmas.Cmp.{nat_list_cmp_total, tied_itself}
use Rattle.std.proofs.lemmas.Slice.Eq.{bytes_eq-Decides}
use Rattle.ram_disc.specs.Disc.{AreInOrder, is_before}

pub is_before-cmp : (a b : List ℕ) → slice_cmp nat_cmp a b ≡ Less → is_before a b ≡ true
is_before-cmp a b e = ap is_lt e

pub cmp-is_before : (a b : List ℕ) → is_before a b ≡ true → slice_cmp nat_cmp a b ≡ Less
cmp-is_before a b h = on (slice_cmp nat_cmp a b) h
  where
    on : (r : Ordering) → is_lt r ≡ true → r ≡ Less
    on Less h = refl
    on Equal h = absurd (false≢true h)
    on Greater h = absurd (false≢true h)

pub is_before-greater : (a b : List ℕ) → slice_cmp nat_cmp a b ≡ Greater → is_before b a ≡ true
is_before-greater a b e = ap is_lt (nat_list_cmp_total.antisymm b a ∙ ap ordering_reverse e)

pub same-cmp : (a b : List ℕ) → slice_cmp nat_cmp a b ≡ Equal → a ≡ b
same-cmp a b e = slice_cmp-IsAntisymmetric nat_cmp-IsAntisymmetric a b e

pub is_before-self : (a : List ℕ) → is_before a a ≡ false
is_before-self a = ap is_lt (tied_itself nat_list_cmp_total a)

pub is_before-back : (a b : List ℕ) → is_before a b ≡ true → is_before b a ≡ false
is_before-back a b h = ap is_lt (nat_list_cmp_total.antisymm b a ∙ ap ordering_reverse (cmp-is_before a b h))

pub is_before-trans : (a b c : List ℕ) → is_before a b ≡ true → is_before b c ≡ true → is_before a c ≡ true
is_before-trans a b c h k = is_before-cmp a c (nat_list_cmp_total.trans a b c (cmp-is_before a b h) (cmp-is_before b c k))

pub is_before-differ : (a b : List ℕ) → is_before a b ≡ true → a ≢ b
is_before-differ a b h e = false≢true (sym (is_before-self a) ∙ ap (is_before a) e ∙ h)

pub bytes_eq-other : (a b : List ℕ) → a ≢ b → bytes_eq a b ≡ false
bytes_eq-other a b ne = on (bytes_eq a b) (bytes_eq-Decides a b).0
  where
    on : (t : Bool) → (t ≡ true → a ≡ b) → t ≡ false
    on true f = absurd (ne (f refl))
    on false f = refl

-- what holds of all elements holds of the one at a place
pub all-get_or : {X : Type 0} (P : X → Type 0) (xs : List X) (i : ℕ) (d : X) → AllByRecursion P xs → i < length xs → P (get_or xs i d)
all-get_or P [] i d all h = absurd (omega arith)
all-get_or P (x ∷ xs) zero d all h = all.0
all-get_or P (x ∷ xs) (suc i) d all h = all-get_or P xs i d all.1 (omega arith)

pub get_or-all : {X : Type 0} (P : X → Type 0) (xs : List X) (d : X) → ((i : ℕ) → i < length xs → P (get_or xs i d)) → AllByRecursion P xs
get_or-all P [] d each = tt
get_or-all P (x ∷ xs) d each = (each zero (omega arith), get_or-all P xs d (λ i h. each (suc i) (omega arith)))

pub all-insert : {X : Type 0} (P : X → Type 0) (xs : List X) (i : ℕ) (y : X) → P y → AllByRecursion P xs → AllByRecursion P (insert xs i y)
all-insert P xs zero y h all = (h, all)
all-insert P [] (suc i) y h all = (h, tt)
all-insert P (x ∷ xs) (suc i) y h all = (all.0, all-insert P xs i y h all.1)

pub all-remove : {X : Type 0} (P : X → Type 0) (xs : List X) (i : ℕ) → AllByRecursion P xs → AllByRecursion P (remove xs i)
all-remove P [] zero all = tt
all-remove P [] (suc i) all = tt
all-remove P (x ∷ xs) zero all = all.1
all-remove P (x ∷ xs) (suc i) all = (all.0, all-remove P xs i all.1)

-- two names in order, by their places
pub order-get_or : (ns : List (List ℕ)) (i j : ℕ) → AreInOrder ns → i < j → j < length ns → is_before (get_or ns i []) (get_or ns j []) ≡ true
order-get_or [] i j order h k = absurd (omega arith)
order-get_or (n ∷ ns) zero zero order h k = absurd (omega arith)
order-get_or (n ∷ ns) zero (suc j) order h k = all-get_or (λ m. is_before n m ≡ true) ns j [] order.0 (omega arith)
order-get_or (n ∷ ns) (suc i) zero order h k = absurd (omega arith)
order-get_or (n ∷ ns) (suc i) (suc j) order h k = order-get_or ns i j order.1 (omega arith) (omega arith)

-- names in order are distinct
pub order-distinct : (ns : List (List ℕ)) (i j : ℕ) → AreInOrder ns → i < length ns → j < length ns → get_or ns i [] ≡ get_or ns j [] → i ≡ j
order-distinct [] i j order h k same = absurd (omega arith)
order-distinct (n ∷ ns) zero zero order h k same = refl
order-distinct (n ∷ ns) zero (suc j) order h k same =
    absurd (is_before-differ n (get_or ns j []) (all-get_or (λ m. is_before n m ≡ true) ns j [] order.0 (omega arith)) same)
order-distinct (n ∷ ns) (suc i) zero order h k same =
    absurd (is_before-differ n (get_or ns i []) (all-get_or (λ m. is_before n m ≡ true) ns i [] order.0 (omega arith)) (sym same))
order-distinct (n ∷ ns) (suc i) (suc j) order h k same = ap suc (order-distinct ns i j order.1 (omega arith) (omega arith) same)

-- a name comes in at its place
pub order-insert : (ns : List (List ℕ)) (i : ℕ) (name : List ℕ) → AreInOrder ns → ((k : ℕ) → k < i → k < length ns → is_before (get_or ns k []) name ≡ true)
    → ((k : ℕ) → i ≤ k → k < length ns → is_before name (get_or ns k []) ≡ true) → AreInOrder (insert ns i name)
order-insert ns zero name order before after = (get_or-all (λ m. is_before name m ≡ true) ns [] (λ k h. after k (omega arith) h), order)
order-insert [] (suc i) name order before after = (tt, tt)
order-insert (n ∷ ns) (suc i) name order before after = (
  all-insert (λ m. is_before n m ≡ true) ns i name (before zero (omega arith) (omega arith)) order.0,
  order-insert ns i name order.1 (λ k h l. before (suc k) (omega arith) (omega arith)) (λ k h l. after (suc k) (omega arith) (omega arith)),
)

pub order-remove : (ns : List (List ℕ)) (i : ℕ) → AreInOrder ns → AreInOrder (remove ns i)
order-remove [] zero order = tt
order-remove [] (suc i) order = tt
order-remove (n ∷ ns) zero order = order.1
order-remove (n ∷ ns) (suc i) order = (all-remove (λ m. is_before n m ≡ true) ns i order.0, order-remove ns i order.1)
