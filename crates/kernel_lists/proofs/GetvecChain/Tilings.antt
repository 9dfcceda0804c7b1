-- A store that is tiled: its blocks are found from its words, and stay while no size word changes.
use Rattle.std.proofs.Common.{◌≡◌, ◌≢◌, ℕ, zero, suc, ◌+◌, ◌-◌, ◌%◌, ◌≤◌, List, [], ◌∷◌, length, get_or, eqb, cond, Bool, true, false, refl, sym, ap, ◌∙◌, subst, arith}
use Rattle.std.proofs.lemmas.Bool.Decides.{nat_tests}
use Rattle.kernel_lists.specs.declared.getvec_chain.pieces.Block.{Block}
use Rattle.kernel_lists.specs.GetvecChain.Block.{block_end, block_of_word, size_word}
use Rattle.kernel_lists.specs.GetvecChain.Tiling.{IsBlockIn, IsTiled, IsTiledFrom, Tiles, blocks_from, blocks_in, first_blocks}

-- blocks end two words before the store does, or sooner
pub Tiles-inside : (s : List ℕ) (at : ℕ) (bs : List Block) → Tiles s at bs → at + 2 ≤ length s
Tiles-inside s at [] t = omega (arith, t.0)
Tiles-inside s at (b ∷ bs) t = omega (arith, t.0, Tiles-inside s (block_end b) bs t.2)

-- a block is that of its size word
pub block_of_word-size_word : (b : Block) (at w : ℕ) → b.start ≡ at → w ≡ size_word b → b.size % 2 ≡ 0 → block_of_word at w ≡ b
block_of_word-size_word b at w start word even =
    let size : w - w % 2 ≡ b.size = ap (λ z. z - z % 2) word ∙ size_of b.free in
    let free : eqb (w % 2) 1 ≡ b.free = ap (λ z. eqb (z % 2) 1) word ∙ free_of b.free in
    let is : ◌≡◌ {A = Block} (record { start = at; size = w - w % 2; free = eqb (w % 2) 1 }) b = λ i. record { start = sym start i; size = size i; free = free i } in
    is
  where
    size_of : (f : Bool) → cond f (b.size + 1) b.size - cond f (b.size + 1) b.size % 2 ≡ b.size
    size_of true = omega (arith, even)
    size_of false = omega (arith, even)

    free_of : (f : Bool) → eqb (cond f (b.size + 1) b.size % 2) 1 ≡ f
    free_of true = (let e : (b.size + 1) % 2 ≡ 1 = omega (arith, even) in grind (arith, nat_tests))
    free_of false = grind (arith, nat_tests)

-- the size word of a block that is in the store is not 0
pub size_word-some : (b : Block) → 2 ≤ b.size → 2 ≤ size_word b
size_word-some b some = elim b.free as (λ f. 2 ≤ cond f (b.size + 1) b.size) [ true ↦ omega (arith, some) | false ↦ some ]

pub first_blocks-is : (n : ℕ) (s : List ℕ) (at : ℕ) (bs : List Block) → Tiles s at bs → length s ≤ n + at → first_blocks n s at ≡ bs
unfolding first_blocks
first_blocks-is zero s at [] t few = refl
first_blocks-is zero s at (b ∷ bs) t few = absurd (omega (arith, few, Tiles-inside s at (b ∷ bs) t))
first_blocks-is (suc n) s at [] t few = rw t.1 refl
first_blocks-is (suc n) s at (b ∷ bs) t few =
    let word : get_or s at 0 ≡ size_word b = ap (λ z. get_or s z 0) (sym t.0) ∙ t.1.word in
    let two : 2 ≤ get_or s at 0 = omega (arith, word, size_word-some b t.1.some) in
    let some : eqb (get_or s at 0) 0 ≡ false = grind (arith, nat_tests) in
    let first : block_of_word at (get_or s at 0) ≡ b = block_of_word-size_word b at (get_or s at 0) t.0 word t.1.even in
    let others : first_blocks n s (block_end (block_of_word at (get_or s at 0))) ≡ bs
    = ap (λ z. first_blocks n s (block_end z)) first ∙ first_blocks-is n s (block_end b) bs t.2 (omega (arith, few, t.0, t.1.some)) in
    rw some (λ i. first i ∷ others i)

-- the blocks that are from an address on are found from the store alone
pub blocks_from-is : (s : List ℕ) (at : ℕ) (bs : List Block) → Tiles s at bs → blocks_from s at ≡ bs
blocks_from-is s at bs t = first_blocks-is (length s) s at bs t (omega arith)

-- the store alone says which blocks it has
pub blocks_in-is : (s : List ℕ) (bs : List Block) → Tiles s 200 bs → blocks_in s ≡ bs
blocks_in-is s bs t = blocks_from-is s 200 bs t

-- so a store of blocks is tiled
pub IsTiledFrom-by : (s : List ℕ) (at : ℕ) (bs : List Block) → Tiles s at bs → IsTiledFrom s at
IsTiledFrom-by s at bs t = subst (Tiles s at) (sym (blocks_from-is s at bs t)) t

pub IsTiled-by : (s : List ℕ) (bs : List Block) → Tiles s 200 bs → IsTiled s
IsTiled-by s bs t = IsTiledFrom-by s 200 bs t

-- a store has room for the words before the first block and for the end word
pub IsTiled-inside : (s : List ℕ) → IsTiled s → 202 ≤ length s
IsTiled-inside s t = omega (arith, Tiles-inside s 200 (blocks_in s) t)

-- at the end word no blocks are left
pub Tiles-at_end : (s : List ℕ) (at : ℕ) (bs : List Block) → Tiles s at bs → at + 2 ≡ length s → bs ≡ []
Tiles-at_end s at [] t end = refl
Tiles-at_end s at (b ∷ bs) t end = absurd (omega (arith, t.0, t.1.some, Tiles-inside s (block_end b) bs t.2, end))

-- before it, the word there is the size word of the next block, and the others tile from that block's end on
pub record NextBlock (s : List ℕ) (at : ℕ) (b : Block) : Type 0 where
  pub is : blocks_from s at ≡ b ∷ blocks_from s (block_end b)
  pub start : b.start ≡ at
  pub valid : IsBlockIn s b
  pub tiled : IsTiledFrom s (block_end b)
  pub inside : block_end b + 2 ≤ length s

pub IsTiledFrom-next : (s : List ℕ) (at : ℕ) (b : Block) → IsTiledFrom s at → at + 2 ≢ length s → b ≡ block_of_word at (get_or s at 0) → NextBlock s at b
IsTiledFrom-next s at b t some read = first_of_list (blocks_from s at) refl t
  where
    first_of_list : (bs : List Block) → blocks_from s at ≡ bs → Tiles s at bs → NextBlock s at b
    first_of_list [] is t = absurd (some t.0)
    first_of_list (a ∷ bs) is t =
        let word : get_or s at 0 ≡ size_word a = ap (λ z. get_or s z 0) (sym t.0) ∙ t.1.word in
        let same : a ≡ b = sym (read ∙ block_of_word-size_word a at (get_or s at 0) t.0 word t.1.even) in
        let tiles : Tiles s (block_end b) bs = subst (λ z. Tiles s (block_end z) bs) same t.2 in
        record {
          is = is ∙ ap (λ z. z ∷ bs) same ∙ ap (λ z. b ∷ z) (sym (blocks_from-is s (block_end b) bs tiles));
          start = ap (λ z. z.start) (sym same) ∙ t.0;
          valid = subst (IsBlockIn s) same t.1;
          tiled = IsTiledFrom-by s (block_end b) bs tiles;
          inside = Tiles-inside s (block_end b) bs tiles;
        }
