-- Blocks that are looked up: the one whose data hold an address, and the used one whose data begin at an address.
use Rattle.std.proofs.Common.{◌≡◌, ◌⊎◌, inl, inr, ℕ, ◌+◌, ◌%◌, ◌<◌, ◌≤◌, ◌&&◌, List, [], ◌∷◌, length, get_or, eqb, ltb, not, cond, Bool, true, false, refl, sym, ap, ◌∙◌, subst, arith, Some, None, Option}
use Rattle.std.proofs.lemmas.Bool.Decides.{nat_tests}
use Rattle.std.specs.List.{find}
use Rattle.kernel_lists.specs.declared.getvec_chain.pieces.Block.{Block}
use Rattle.kernel_lists.specs.GetvecChain.Block.{block_end, has_data, is_used_at}
use Rattle.kernel_lists.specs.GetvecChain.Tiling.{IsBlockIn, Tiles, holding, used_at}
use Rattle.kernel_lists.proofs.GetvecChain.Tilings.{Tiles-inside}

-- a block among those that are from an address on
pub record IsAmong (s : List ℕ) (at : ℕ) (b : Block) : Type 0 where
  pub low : at ≤ b.start
  pub valid : IsBlockIn s b
  pub inside : block_end b + 2 ≤ length s

pub find-among : (s : List ℕ) (at : ℕ) (bs : List Block) (test : Block → Bool) (b : Block) → Tiles s at bs → find test bs ≡ Some b → IsAmong s at b × (test b ≡ true)
find-among s at [] test b t e = cc
find-among s at (c ∷ bs) test b t e = on (test c) refl (λ k. find-among s (block_end c) bs test b t.2 k) e
  where
    on : (x : Bool) → test c ≡ x → (find test bs ≡ Some b → IsAmong s (block_end c) b × (test b ≡ true)) → cond x (Some c) (find test bs) ≡ Some b → IsAmong s at b × (test b ≡ true)
    on true is later e =
        let same : c ≡ b = cc in
        subst (λ z. IsAmong s at z × (test z ≡ true)) same (record { low = omega (arith, t.0); valid = t.1; inside = Tiles-inside s (block_end c) bs t.2 }, is)
    on false is later e = (let l = later e in (record { low = omega (arith, l.0.low, t.0); valid = l.0.valid; inside = l.0.inside }, l.1))

-- the used block whose data begin at v
pub record UsedBlock (s : List ℕ) (at v : ℕ) (b : Block) : Type 0 where
  pub start : b.start + 1 ≡ v
  pub used : b.free ≡ false
  pub word : get_or s b.start 0 ≡ b.size
  pub some : 2 ≤ b.size
  pub even : b.size % 2 ≡ 0
  pub low : at ≤ b.start
  pub inside : block_end b + 2 ≤ length s

pub is_used_at-true : (v : ℕ) (b : Block) → is_used_at v b ≡ true → (b.free ≡ false) × (b.start + 1 ≡ v)
is_used_at-true v b h = on b.free refl (eqb (b.start + 1) v) refl h
  where
    on : (f : Bool) → b.free ≡ f → (x : Bool) → eqb (b.start + 1) v ≡ x → (not f && x) ≡ true → (b.free ≡ false) × (b.start + 1 ≡ v)
    on true free x is h = cc
    on false used true is h = (used, grind (arith, nat_tests))
    on false used false is h = cc

pub used_at-is : (s : List ℕ) (at : ℕ) (bs : List Block) (v : ℕ) (b : Block) → Tiles s at bs → used_at v bs ≡ Some b → UsedBlock s at v b
used_at-is s at bs v b t e =
    let among = find-among s at bs (is_used_at v) b t e in
    let is = is_used_at-true v b among.1 in
    record {
      start = is.1;
      used = is.0;
      word = among.0.valid.word ∙ ap (λ f. cond f (b.size + 1) b.size) is.0;
      some = among.0.valid.some;
      even = among.0.valid.even;
      low = among.0.low;
      inside = among.0.inside;
    }

-- where a used block was found, its data begin behind its size word
pub used_at-found : (s : List ℕ) (at : ℕ) (bs : List Block) (v : ℕ) (b : Block) → Tiles s at bs → used_at v bs ≡ Some b → used_at (b.start + 1) bs ≡ Some b
used_at-found s at bs v b t e = ap (λ z. used_at z bs) (used_at-is s at bs v b t e).start ∙ e

-- the block whose data hold the address a
pub record HoldingBlock (s : List ℕ) (at a : ℕ) (b : Block) : Type 0 where
  pub above : b.start < a
  pub below : a < block_end b
  pub valid : IsBlockIn s b
  pub low : at ≤ b.start
  pub inside : block_end b + 2 ≤ length s

pub has_data-true : (b : Block) (a : ℕ) → has_data b a ≡ true → (b.start < a) × (a < block_end b)
has_data-true b a h = on (ltb b.start a) refl (ltb a (block_end b)) refl h
  where
    on : (x : Bool) → ltb b.start a ≡ x → (y : Bool) → ltb a (block_end b) ≡ y → (x && y) ≡ true → (b.start < a) × (a < block_end b)
    on true above true below h = (grind (arith, nat_tests), grind (arith, nat_tests))
    on true above false below h = cc
    on false above y below h = cc

pub holding-is : (s : List ℕ) (at : ℕ) (bs : List Block) (a : ℕ) (b : Block) → Tiles s at bs → holding a bs ≡ Some b → HoldingBlock s at a b
holding-is s at bs a b t e =
    let among = find-among s at bs (λ z. has_data z a) b t e in
    let within = has_data-true b a among.1 in
    record { above = within.0; below = within.1; valid = among.0.valid; low = among.0.low; inside = among.0.inside }

-- no block begins before the first
pub used_at-before : (s : List ℕ) (at : ℕ) (bs : List Block) (v : ℕ) → Tiles s at bs → v ≤ at → used_at v bs ≡ None
used_at-before s at bs v t low = on (used_at v bs) refl
  where
    on : (o : Option Block) → used_at v bs ≡ o → o ≡ None
    on None is = refl
    on (Some b) is = (let u = used_at-is s at bs v b t is in absurd (omega (arith, u.low, u.start, low)))

pub holding-before : (s : List ℕ) (at : ℕ) (bs : List Block) (a : ℕ) → Tiles s at bs → a ≤ at → holding a bs ≡ None
holding-before s at bs a t low = on (holding a bs) refl
  where
    on : (o : Option Block) → holding a bs ≡ o → o ≡ None
    on None is = refl
    on (Some b) is = (let u = holding-is s at bs a b t is in absurd (omega (arith, u.low, u.above, low)))

-- A walk seeks the block whose data hold the address a. It has passed blocks of which none does, and these are left.
pub record IsSought (s : List ℕ) (a : ℕ) (all : Option Block) (bs : List Block) : Type 0 where
  pub at : ℕ
  pub tiles : Tiles s at bs
  pub answer : all ≡ holding a bs

pub sought-first : (s : List ℕ) (a at : ℕ) (bs items : List Block) → Tiles s at bs → items ≡ bs → IsSought s a (holding a bs) items
sought-first s a at bs items t is = subst (IsSought s a (holding a bs)) (sym is) (record { at = at; tiles = t; answer = refl })

-- the block b comes next
module _ (s : List ℕ) (a : ℕ) (all : Option Block) (items : List Block) (b : Block) (rest : List Block) (w : IsSought s a all items) (is : items ≡ b ∷ rest) where
  here : Tiles s w.at (b ∷ rest)
  here = subst (Tiles s w.at) is w.tiles

  pub sought-inside : block_end b + 2 ≤ length s
  sought-inside = Tiles-inside s (block_end b) rest here.2

  -- it ends behind the address, which no later one holds
  pub sought-last : a < block_end b → all ≡ cond (has_data b a) (Some b) None
  sought-last low = w.answer ∙ ap (holding a) is ∙ ap (cond (has_data b a) (Some b)) (holding-before s (block_end b) rest a here.2 (omega (arith, low)))

  -- it ends before
  pub sought-on : block_end b ≤ a → IsSought s a all rest
  sought-on high =
      let past : ltb a (block_end b) ≡ false = grind (arith, nat_tests) in
      record {
        at = block_end b;
        tiles = here.2;
        answer = w.answer ∙ ap (holding a) is ∙ ap (λ x. cond (ltb b.start a && x) (Some b) (holding a rest)) past ∙ no_block (ltb b.start a);
      }
    where
      no_block : (x : Bool) → cond (x && false) (Some b) (holding a rest) ≡ holding a rest
      no_block true = refl
      no_block false = refl

-- two used blocks are one, or one ends before the other begins
abbrev pub AreDisjoint : Block → Block → Type 0
AreDisjoint b c = (block_end b ≤ c.start) ⊎ (block_end c ≤ b.start)

pub used_at-apart : (s : List ℕ) (at : ℕ) (bs : List Block) (v w : ℕ) (b c : Block) → Tiles s at bs → used_at v bs ≡ Some b → used_at w bs ≡ Some c → (v ≡ w) ⊎ AreDisjoint b c
used_at-apart s at [] v w b c t e k = cc
used_at-apart s at (d ∷ bs) v w b c t e k = on (is_used_at v d) refl (is_used_at w d) refl (λ e k. used_at-apart s (block_end d) bs v w b c t.2 e k) e k
  where
    on : (x : Bool) → is_used_at v d ≡ x → (y : Bool) → is_used_at w d ≡ y → (used_at v bs ≡ Some b → used_at w bs ≡ Some c → (v ≡ w) ⊎ AreDisjoint b c)
        → cond x (Some d) (used_at v bs) ≡ Some b → cond y (Some d) (used_at w bs) ≡ Some c → (v ≡ w) ⊎ AreDisjoint b c
    on true at_v true at_w later e k = inl (sym (is_used_at-true v d at_v).1 ∙ (is_used_at-true w d at_w).1)
    on true at_v false at_w later e k = (let same : d ≡ b = cc in let u = used_at-is s (block_end d) bs w c t.2 k in inr (inl (omega (arith, u.low, ap block_end same))))
    on false at_v true at_w later e k = (let same : d ≡ c = cc in let u = used_at-is s (block_end d) bs v b t.2 e in inr (inr (omega (arith, u.low, ap block_end same))))
    on false at_v false at_w later e k = later e k

-- the data of a used block are held by it
pub used_at-holding : (s : List ℕ) (at : ℕ) (bs : List Block) (v a : ℕ) (b : Block) → Tiles s at bs → used_at v bs ≡ Some b → v ≤ a → a < block_end b → holding a bs ≡ Some b
used_at-holding s at [] v a b t e low high = cc
used_at-holding s at (d ∷ bs) v a b t e low high = on (is_used_at v d) refl (λ e. used_at-holding s (block_end d) bs v a b t.2 e low high) e
  where
    here : d ≡ b → is_used_at v d ≡ true → holding a (d ∷ bs) ≡ Some b
    here same at_v =
        let start = (is_used_at-true v d at_v).1 in
        let end : block_end d ≡ block_end b = ap block_end same in
        let above : ltb d.start a ≡ true = grind (arith, nat_tests) in
        let below : ltb a (block_end d) ≡ true = grind (arith, nat_tests) in
        rw (above, below) (ap Some same)

    later_on : used_at v bs ≡ Some b → holding a bs ≡ Some b → holding a (d ∷ bs) ≡ Some b
    later_on e is =
        let u = used_at-is s (block_end d) bs v b t.2 e in
        let far : block_end d < a = omega (arith, u.low, u.start, low) in
        let not_below : ltb a (block_end d) ≡ false = grind (arith, nat_tests) in
        rw not_below (skip (ltb d.start a)) ∙ is
      where
        skip : (x : Bool) → cond (x && false) (Some d) (holding a bs) ≡ holding a bs
        skip true = refl
        skip false = refl

    on : (x : Bool) → is_used_at v d ≡ x → (used_at v bs ≡ Some b → holding a bs ≡ Some b) → cond x (Some d) (used_at v bs) ≡ Some b → holding a (d ∷ bs) ≡ Some b
    on true at_v later e = here (cc) at_v
    on false at_v later e = later_on e (later e)
