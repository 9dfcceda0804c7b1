-- A store after a block was given back, beside the store before it.
use Rattle.std.proofs.Common.{◌≡◌, ◌≢◌, ℕ, ◌+◌, ◌-◌, ◌&&◌, List, [], ◌∷◌, length, get_or, set, eqb, cond, not, Bool, true, false, refl, sym, ap, ◌∙◌, subst, arith, Some, None, Option, get_or-set_other, get_or-set_same, length-set}
use Rattle.std.proofs.lemmas.Bool.Decides.{nat_tests}
use Rattle.kernel_lists.specs.declared.getvec_chain.pieces.Block.{Block}
use Rattle.kernel_lists.specs.GetvecChain.Block.{block_end, free_block, is_used_at}
use Rattle.kernel_lists.specs.GetvecChain.Give.{given, given_store}
use Rattle.kernel_lists.specs.GetvecChain.Tiling.{IsTiled, Tiles, blocks_in, used_at}
use Rattle.kernel_lists.proofs.GetvecChain.Tilings.{IsTiled-by, Tiles-inside, blocks_in-is}
use Rattle.kernel_lists.proofs.GetvecChain.UsedBlocks.{UsedBlock, is_used_at-true, used_at-before, used_at-is}
use Rattle.kernel_lists.proofs.GetvecChain.Writes.{IsBlockIn-same, Tiles-above}

-- where no used block has its data at v, nothing is given
pub given-none : (v : ℕ) (bs : List Block) → used_at v bs ≡ None → given v bs ≡ bs
given-none v [] e = refl
given-none v (b ∷ bs) e = on (is_used_at v b) (λ k. given-none v bs k) e
  where
    on : (x : Bool) → (used_at v bs ≡ None → given v bs ≡ bs) → ◌≡◌ {A = Option Block} (cond x (Some b) (used_at v bs)) None → cond x (free_block b.start b.size) b ∷ given v bs ≡ b ∷ bs
    on true later e = cc
    on false later e = ap (λ z. b ∷ z) (later e)

-- the blocks are where 1 was added to the size word
pub given-Tiles : (s : List ℕ) (at : ℕ) (bs : List Block) (v : ℕ) (c : Block) → Tiles s at bs → used_at v bs ≡ Some c → Tiles (set s c.start (c.size + 1)) at (given v bs)
given-Tiles s at [] v c t e = cc
given-Tiles s at (b ∷ bs) v c t e = on (is_used_at v b) refl (λ k. given-Tiles s (block_end b) bs v c t.2 k) e
  where
    r : List ℕ
    r = set s c.start (c.size + 1)

    on : (x : Bool) → is_used_at v b ≡ x → (used_at v bs ≡ Some c → Tiles r (block_end b) (given v bs)) → cond x (Some b) (used_at v bs) ≡ Some c → Tiles r at (cond x (free_block b.start b.size) b ∷ given v bs)
    on true test later e =
        let is : b ≡ c = cc in
        let is_used = is_used_at-true v b test in
        let rest : given v bs ≡ bs = given-none v bs (used_at-before s (block_end b) bs v t.2 (omega (arith, is_used.1, t.1.some))) in
        let inside = Tiles-inside s (block_end b) bs t.2 in
        let start : c.start ≡ b.start = ap (λ z. z.start) (sym is) in
        let word : get_or r b.start 0 ≡ b.size + 1
        = ap (λ z. get_or r z 0) (sym start) ∙ get_or-set_same s c.start (c.size + 1) 0 (omega (arith, start, inside)) ∙ ap (λ z. z.size + 1) (sym is) in (
          t.0,
          record { word = word; some = t.1.some; even = t.1.even },
          subst (Tiles r (block_end b)) (sym rest)
              (Tiles-above s r (block_end b) bs (length-set s c.start (c.size + 1)) (λ a low. get_or-set_other s c.start a (c.size + 1) 0 (λ e. absurd (omega (arith, e, low, start, t.1.some)))) t.2),
        )
    on false test later e =
        let u = used_at-is s (block_end b) bs v c t.2 e in
        (t.0, IsBlockIn-same s r b (get_or-set_other s c.start b.start (c.size + 1) 0 (λ e. absurd (omega (arith, e, u.low, t.1.some)))) t.1, later e)

-- the other used blocks are those that were
pub used_at-given-other : (v w : ℕ) (bs : List Block) → w ≢ v → used_at w (given v bs) ≡ used_at w bs
used_at-given-other v w [] other = refl
used_at-given-other v w (b ∷ bs) other = on (is_used_at v b) refl (used_at-given-other v w bs other)
  where
    on : (x : Bool) → is_used_at v b ≡ x → used_at w (given v bs) ≡ used_at w bs
        → cond (is_used_at w (cond x (free_block b.start b.size) b)) (Some (cond x (free_block b.start b.size) b)) (used_at w (given v bs)) ≡ cond (is_used_at w b) (Some b) (used_at w bs)
    on true test later =
        let start = (is_used_at-true v b test).1 in
        let no : eqb (b.start + 1) w ≡ false = grind (arith, nat_tests, other) in
        later ∙ sym (rw no (skip (not b.free)))
      where
        skip : (f : Bool) → cond (f && false) (Some b) (used_at w bs) ≡ used_at w bs
        skip true = refl
        skip false = refl
    on false test later = ap (λ z. cond (is_used_at w b) (Some b) z) later

-- and the block is free
pub used_at-given : (v : ℕ) (bs : List Block) → used_at v (given v bs) ≡ None
used_at-given v [] = refl
used_at-given v (b ∷ bs) = on (is_used_at v b) refl (used_at-given v bs)
  where
    on : (x : Bool) → is_used_at v b ≡ x → used_at v (given v bs) ≡ None
        → cond (is_used_at v (cond x (free_block b.start b.size) b)) (Some (cond x (free_block b.start b.size) b)) (used_at v (given v bs)) ≡ None
    on true test later = later
    on false test later = ap (λ z. cond z (Some b) (used_at v (given v bs))) test ∙ later

-- t is s, where the used block c at v was given back
pub record AfterGive (s t : List ℕ) (v : ℕ) (c : Block) : Type 0 where
  pub tiled : IsTiled t
  pub blocks : blocks_in t ≡ given v (blocks_in s)
  -- it is no used block any more, and the other used blocks are those that were
  pub is_free : used_at v (blocks_in t) ≡ None
  pub others : (w : ℕ) → w ≢ v → used_at w (blocks_in t) ≡ used_at w (blocks_in s)
  -- only its size word changes
  pub size_word : get_or t c.start 0 ≡ c.size + 1
  pub words : (a : ℕ) → a ≢ c.start → get_or t a 0 ≡ get_or s a 0
  pub same_length : length t ≡ length s

-- what is written is the size word with 1 added
pub given_store-is : (s : List ℕ) (v : ℕ) (c : Block) → IsTiled s → used_at v (blocks_in s) ≡ Some c → set s c.start (c.size + 1) ≡ given_store s v
given_store-is s v c tiled e =
    let u = used_at-is s 200 (blocks_in s) v c tiled e in
    let start : c.start ≡ v - 1 = omega (arith, u.start) in
    let word : c.size ≡ get_or s (v - 1) 0 = sym u.word ∙ ap (λ z. get_or s z 0) start in
    λ i. set s (start i) (word i + 1)

pub after_give : (s t : List ℕ) (v : ℕ) (c : Block) → IsTiled s → used_at v (blocks_in s) ≡ Some c → t ≡ given_store s v → AfterGive s t v c
after_give s t v c tiled e is =
    record {
      tiled = IsTiled-by t (given v (blocks_in s)) tiles;
      blocks = blocks;
      is_free = ap (used_at v) blocks ∙ used_at-given v (blocks_in s);
      others = λ w other. ap (used_at w) blocks ∙ used_at-given-other v w (blocks_in s) other;
      size_word = ap (λ z. get_or z c.start 0) words ∙ get_or-set_same s c.start (c.size + 1) 0 (omega (arith, u.inside));
      words = λ a other. ap (λ z. get_or z a 0) words ∙ get_or-set_other s c.start a (c.size + 1) 0 other;
      same_length = ap length words ∙ length-set s c.start (c.size + 1);
    }
  where
    u : UsedBlock s 200 v c
    u = used_at-is s 200 (blocks_in s) v c tiled e

    words : t ≡ set s c.start (c.size + 1)
    words = is ∙ sym (given_store-is s v c tiled e)

    tiles : Tiles t 200 (given v (blocks_in s))
    tiles = subst (λ z. Tiles z 200 (given v (blocks_in s))) (sym words) (given-Tiles s 200 (blocks_in s) v c tiled e)

    blocks : blocks_in t ≡ given v (blocks_in s)
    blocks = blocks_in-is t (given v (blocks_in s)) tiles
