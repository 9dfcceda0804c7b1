-- Whether the words from an address on tile, told block by block.
use Rattle.std.proofs.Common.{◌≡◌, ◌≢◌, ◌↔◌, ℕ, zero, suc, ◌+◌, ◌-◌, ◌%◌, ◌≤◌, List, [], ◌∷◌, cond, eqb, get_or, length, refl, sym, ap, ◌∙◌, subst, arith}
use Rattle.kernel_lists.specs.declared.getvec_chain.pieces.Block.{Block}
use Rattle.kernel_lists.specs.GetvecChain.Block.{block_end, block_of_word, size_word}
use Rattle.kernel_lists.specs.GetvecChain.Tiling.{IsTiledFrom, Tiles, blocks_from}
use Rattle.kernel_lists.proofs.GetvecChain.Tilings.{IsTiledFrom-by, IsTiledFrom-next, NextBlock, Tiles-at_end}

-- a word is the size word of its block
word-back : (at w : ℕ) → size_word (block_of_word at w) ≡ w
word-back at w = on (w % 2) refl
  where
    on : (r : ℕ) → w % 2 ≡ r → cond (eqb r 1) (w - r + 1) (w - r) ≡ w
    on zero e = omega (arith, e)
    on (suc zero) e = omega (arith, e)
    on (suc (suc r)) e = absurd (omega (arith, e))

even-size : (at w : ℕ) → (w - w % 2) % 2 ≡ 0
even-size at w = omega arith

-- at the end word
pub tiled-at-end : (s : List ℕ) (at : ℕ) → at + 2 ≡ length s → IsTiledFrom s at ↔ (get_or s at 0 ≡ 0)
tiled-at-end s at end = (there, λ none. IsTiledFrom-by s at [] (end, none))
  where
    there : IsTiledFrom s at → get_or s at 0 ≡ 0
    there t = (let none : blocks_from s at ≡ [] = Tiles-at_end s at (blocks_from s at) t end in (subst (Tiles s at) none t).1)

-- before it
pub tiled-before : (s : List ℕ) (at : ℕ) (b : Block) → at + 2 ≢ length s → b ≡ block_of_word at (get_or s at 0)
    → IsTiledFrom s at ↔ ((2 ≤ b.size) × (block_end b + 2 ≤ length s) × IsTiledFrom s (block_end b))
tiled-before s at b before read = (there, back)
  where
    there : IsTiledFrom s at → (2 ≤ b.size) × (block_end b + 2 ≤ length s) × IsTiledFrom s (block_end b)
    there t = (let n : NextBlock s at b = IsTiledFrom-next s at b t before read in (n.valid.some, n.inside, n.tiled))

    back : (2 ≤ b.size) × (block_end b + 2 ≤ length s) × IsTiledFrom s (block_end b) → IsTiledFrom s at
    back h =
        let w : ℕ = get_or s at 0 in
        let start : b.start ≡ at = ap (λ z. z.start) read in
        let word : get_or s b.start 0 ≡ size_word b = ap (λ z. get_or s z 0) start ∙ sym (word-back at w) ∙ ap size_word (sym read) in
        let even : b.size % 2 ≡ 0 = ap (λ z. z.size % 2) read ∙ even-size at w in
        IsTiledFrom-by s at (b ∷ blocks_from s (block_end b)) (start, record { word = word; some = h.0; even = even }, h.2)
