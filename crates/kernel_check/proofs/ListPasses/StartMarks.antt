-- Marks at the starts of used blocks, and at modules.
use Rattle.std.proofs.Common.{◌≡◌, ℕ, ◌+◌, ◌<◌, ◌&&◌, ◌||◌, Bool, true, false, not, cond, eqb, leb, ltb, get_or, List, [], ◌∷◌, length, Some, refl, sym, ap, ◌∙◌, arith}
use Rattle.std.proofs.lemmas.Bool.{false≢true}
use Rattle.std.proofs.lemmas.Bool.Decides.{nat_tests}
use Rattle.kernel_lists.specs.LinkedList.Places.{has}
use Rattle.kernel_lists.specs.declared.getvec_chain.pieces.Block.{Block}
use Rattle.kernel_lists.specs.GetvecChain.Block.{is_used_at, used_block}
use Rattle.kernel_lists.specs.GetvecChain.Run.{need}
use Rattle.kernel_lists.specs.GetvecChain.Tiling.{IsTiled, blocks_in, used_at}
use Rattle.kernel_lists.proofs.GetvecChain.UsedBlocks.{UsedBlock, used_at-is}
use Rattle.kernel_model.specs.KernelRecord.ValidBlocks.{HasBlock}
use Rattle.store_claims.specs.WordClaims.Marks.{IsSet, is_open}
use Rattle.store_claims.proofs.WordClaims.ClaimedWords.{open-low}
use Rattle.kernel_check.specs.ListPasses.StartMarks.{IsShut, OpensMembers, OpensStarts, starts_at}
use Rattle.std.proofs.Math.Bool.{or-false, or_assoc}

-- one word is opened
opened-one : (m v : List Bool) (p a : ℕ) → IsSet m v p 1 true → a < length m → is_open v a ≡ (is_open m a || eqb p a)
opened-one m v p a set low = set.marks a low ∙ ap (λ z. cond z true (is_open m a)) test ∙ turn (eqb p a) (is_open m a)
  where
    test : (leb p a && ltb a (p + 1)) ≡ eqb p a
    test = grind (arith, nat_tests)

    turn : (x o : Bool) → cond x true o ≡ (o || x)
    turn true true = refl
    turn true false = refl
    turn false true = refl
    turn false false = refl

shut-false : (s : List ℕ) (m : List Bool) (a : ℕ) → IsShut s m → is_open m a ≡ false
shut-false s m a shut = on (is_open m a) refl
  where
    on : (b : Bool) → is_open m a ≡ b → is_open m a ≡ false
    on true e = absurd (shut.none a e)
    on false e = e

-- ---- used blocks

-- these blocks are left
pub record IsMarking (s : List ℕ) (m : List Bool) (rest all : List Block) : Type 0 where
  pub size : length m ≡ length s
  pub shown : (a : ℕ) → a < length s → (is_open m a || starts_at a rest) ≡ starts_at a all

-- ---- modules

pub record IsNaming (s : List ℕ) (m : List Bool) (rest all : List ℕ) : Type 0 where
  pub size : length m ≡ length s
  pub shown : (a : ℕ) → a < length s → (is_open m a || has a rest) ≡ has a all

pub named : (s : List ℕ) (m v : List Bool) (ps all : List ℕ) (p : ℕ) (rest : List ℕ) → IsNaming s m ps all → ps ≡ p ∷ rest → IsSet m v p 1 true → IsNaming s v rest all
named s m v ps all p rest g is set = record {
  size = set.size ∙ g.size;
  shown = λ a low.
      ap (λ z. z || has a rest) (opened-one m v p a set (omega (arith, low, g.size))) ∙ or_assoc (is_open m a) (eqb p a) (has a rest)
      ∙ ap (λ z. is_open m a || (z || has a rest)) (flip p a) ∙ ap (λ z. is_open m a || has a z) (sym is) ∙ g.shown a low;
}
  where
    flip : (x y : ℕ) → eqb x y ≡ eqb y x
    flip x y = grind (arith, nat_tests)

-- ---- a block of a size

-- where a used block starts there is one
used-there : (a : ℕ) (bs : List Block) → starts_at a bs ≡ true → (b : Block) × (used_at (a + 1) bs ≡ Some b)
used-there a [] e = absurd (false≢true e)
used-there a (b ∷ bs) e = on (not b.free && eqb b.start a) refl e (λ k. used-there a bs k)
  where
    same : is_used_at (a + 1) b ≡ (not b.free && eqb b.start a)
    same = ap (λ z. not b.free && z) test
      where
        test : eqb (b.start + 1) (a + 1) ≡ eqb b.start a
        test = grind (arith, nat_tests)

    on : (t : Bool) → (not b.free && eqb b.start a) ≡ t → (t || starts_at a bs) ≡ true → (starts_at a bs ≡ true → (c : Block) × (used_at (a + 1) bs ≡ Some c)) → (c : Block) × (used_at (a + 1) (b ∷ bs) ≡ Some c)
    on true is e later = (b, ap (λ t. cond t (Some b) (used_at (a + 1) bs)) (same ∙ is))
    on false is e later = (let r = later e in (r.0, ap (λ t. cond t (Some b) (used_at (a + 1) bs)) (same ∙ is) ∙ r.1))

there-used : (a : ℕ) (bs : List Block) (c : Block) → used_at (a + 1) bs ≡ Some c → starts_at a bs ≡ true
there-used a [] c e = cc
there-used a (b ∷ bs) c e = on (is_used_at (a + 1) b) refl e (λ k. there-used a bs c k)
  where
    same : is_used_at (a + 1) b ≡ (not b.free && eqb b.start a)
    same = ap (λ z. not b.free && z) test
      where
        test : eqb (b.start + 1) (a + 1) ≡ eqb b.start a
        test = grind (arith, nat_tests)

    or-right : (x y : Bool) → y ≡ true → (x || y) ≡ true
    or-right true y e = refl
    or-right false y e = e

    on : (t : Bool) → is_used_at (a + 1) b ≡ t → cond t (Some b) (used_at (a + 1) bs) ≡ Some c → (used_at (a + 1) bs ≡ Some c → starts_at a bs ≡ true) → starts_at a (b ∷ bs) ≡ true
    on true is e later = ap (λ z. z || starts_at a bs) (sym same ∙ is)
    on false is e later = or-right (not b.free && eqb b.start a) (starts_at a bs) (later e)

module _ (s : List ℕ) (m : List Bool) (tiled : IsTiled s) (o : OpensStarts s m) (start u : ℕ) where
  pub block-there : is_open m start ≡ true → get_or s start 0 ≡ need u → HasBlock (blocks_in s) (start + 1) u
  block-there shown size =
      let r = used-there start (blocks_in s) (sym (o.are_open start (omega (arith, o.size, open-low m start shown))) ∙ shown) in
      let b : UsedBlock s 200 (start + 1) r.0 = used_at-is s 200 (blocks_in s) (start + 1) r.0 tiled r.1 in
      let at : r.0.start ≡ start = omega (arith, b.start) in
      let same : ◌≡◌ {A = Block} r.0 (used_block start (need u)) = λ i. record { start = at i; size = (sym b.word ∙ ap (λ z. get_or s z 0) at ∙ size) i; free = b.used i } in
      record { start = start; here = refl; block = r.1 ∙ ap Some same }

  pub there-block : HasBlock (blocks_in s) (start + 1) u → (is_open m start ≡ true) × (get_or s start 0 ≡ need u)
  there-block h =
      let at : h.start ≡ start = omega (arith, h.here) in
      let is : used_at (start + 1) (blocks_in s) ≡ Some (used_block start (need u)) = h.block ∙ ap (λ z. Some (used_block z (need u))) at in
      let b : UsedBlock s 200 (start + 1) (used_block start (need u)) = used_at-is s 200 (blocks_in s) (start + 1) (used_block start (need u)) tiled is in
      (o.are_open start (omega (arith, b.inside)) ∙ there-used start (blocks_in s) (used_block start (need u)) is, b.word)
