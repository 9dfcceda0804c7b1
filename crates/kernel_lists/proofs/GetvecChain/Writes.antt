-- Writes that change no size word: the blocks stay.
use Rattle.std.proofs.Common.{◌≡◌, ℕ, ◌+◌, ◌<◌, ◌≤◌, ◌&&◌, List, [], ◌∷◌, length, get_or, set, ltb, cond, Bool, true, false, refl, sym, ap, ◌∙◌, arith, Some, None, get_or-set_other, length-set}
use Rattle.std.proofs.lemmas.Bool.Decides.{nat_tests}
use Rattle.kernel_lists.specs.declared.getvec_chain.pieces.Block.{Block}
use Rattle.kernel_lists.specs.GetvecChain.Block.{block_end}
use Rattle.kernel_lists.specs.GetvecChain.Tiling.{IsBlockIn, IsTiled, Tiles, blocks_in, holding, used_at}
use Rattle.kernel_lists.proofs.GetvecChain.Tilings.{IsTiled-by, Tiles-inside, blocks_in-is}
use Rattle.kernel_lists.proofs.GetvecChain.UsedBlocks.{holding-before, used_at-holding}

pub IsBlockIn-same : (s t : List ℕ) (b : Block) → get_or t b.start 0 ≡ get_or s b.start 0 → IsBlockIn s b → IsBlockIn t b
IsBlockIn-same s t b same h = record { word = same ∙ h.word; some = h.some; even = h.even }

-- blocks are in another store too, if each word from the first block to the end word that is no data of a block is the same there
pub Tiles-kept : (s t : List ℕ) (at : ℕ) (bs : List Block) → length t ≡ length s → ((a : ℕ) → at ≤ a → a + 2 ≤ length s → holding a bs ≡ None → get_or t a 0 ≡ get_or s a 0) → Tiles s at bs → Tiles t at bs
Tiles-kept s t at [] len same h = (omega (arith, len, h.0), same at (omega arith) (omega (arith, h.0)) refl ∙ h.1)
Tiles-kept s t at (b ∷ bs) len same h = (
  h.0,
  IsBlockIn-same s t b (same b.start (omega (arith, h.0)) (omega (arith, inside, h.0)) first) h.1,
  Tiles-kept s t (block_end b) bs len (λ a low high none. same a (omega (arith, low, h.0)) high (later a low ∙ none)) h.2,
)
  where
    inside : at + 2 ≤ length s
    inside = Tiles-inside s at (b ∷ bs) h

    first : holding b.start (b ∷ bs) ≡ None
    first =
        let test : ltb b.start b.start ≡ false = grind (arith, nat_tests) in
        rw test (holding-before s (block_end b) bs b.start h.2 (omega arith))

    later : (a : ℕ) → block_end b ≤ a → holding a (b ∷ bs) ≡ holding a bs
    later a low =
        let test : ltb a (block_end b) ≡ false = grind (arith, nat_tests) in
        rw test (skip (ltb b.start a))
      where
        skip : (x : Bool) → cond (x && false) (Some b) (holding a bs) ≡ holding a bs
        skip true = refl
        skip false = refl

-- so they are where each word from the first block on is the same
pub Tiles-above : (s t : List ℕ) (at : ℕ) (bs : List Block) → length t ≡ length s → ((a : ℕ) → at ≤ a → get_or t a 0 ≡ get_or s a 0) → Tiles s at bs → Tiles t at bs
Tiles-above s t at bs len same h = Tiles-kept s t at bs len (λ a low _ _. same a low) h

-- a tiled store, and another with the same blocks
pub record SameBlocks (s t : List ℕ) : Type 0 where
  pub tiled : IsTiled t
  pub blocks : blocks_in t ≡ blocks_in s

-- the blocks stay if no word changes but words below 200, words after the end word, and data of blocks
pub SameBlocks-kept : (s t : List ℕ) → IsTiled s → length t ≡ length s → ((a : ℕ) → 200 ≤ a → a + 2 ≤ length s → holding a (blocks_in s) ≡ None → get_or t a 0 ≡ get_or s a 0) → SameBlocks s t
SameBlocks-kept s t tiled len same =
    let tiles : Tiles t 200 (blocks_in s) = Tiles-kept s t 200 (blocks_in s) len same tiled in
    record { tiled = IsTiled-by t (blocks_in s) tiles; blocks = blocks_in-is t (blocks_in s) tiles }

pub SameBlocks-then : (s t r : List ℕ) → SameBlocks s t → SameBlocks t r → SameBlocks s r
SameBlocks-then s t r h k = record { tiled = k.tiled; blocks = k.blocks ∙ h.blocks }

-- a write to a word that is data of a block
pub SameBlocks-set_data : (s : List ℕ) (a w : ℕ) (b : Block) → IsTiled s → holding a (blocks_in s) ≡ Some b → SameBlocks s (set s a w)
SameBlocks-set_data s a w b tiled is =
    SameBlocks-kept s (set s a w) tiled (length-set s a w) (λ c _ _ none. get_or-set_other s a c w 0 (λ e. absurd (none_some (sym none ∙ ap (λ z. holding z (blocks_in s)) e ∙ is))))
  where
    none_some : None ≡ Some b → ⊥
    none_some e = cc

-- a write to data of the used block at v
pub SameBlocks-set_used : (s : List ℕ) (v a w : ℕ) (b : Block) → IsTiled s → used_at v (blocks_in s) ≡ Some b → v ≤ a → a < block_end b → SameBlocks s (set s a w)
SameBlocks-set_used s v a w b tiled is low high = SameBlocks-set_data s a w b tiled (used_at-holding s 200 (blocks_in s) v a b tiled is low high)

-- many writes to data of the used block at v
pub SameBlocks-used : (s t : List ℕ) (v : ℕ) (b : Block) → IsTiled s → used_at v (blocks_in s) ≡ Some b → length t ≡ length s → ((a : ℕ) → (v ≤ a → block_end b ≤ a) → get_or t a 0 ≡ get_or s a 0) → SameBlocks s t
SameBlocks-used s t v b tiled is len same =
    SameBlocks-kept s t tiled len (λ a _ _ none. same a (λ low. past a low none (ltb a (block_end b)) refl))
  where
    past : (a : ℕ) → v ≤ a → holding a (blocks_in s) ≡ None → (x : Bool) → ltb a (block_end b) ≡ x → block_end b ≤ a
    past a low none true test = (let below : a < block_end b = grind (arith, nat_tests) in let held = used_at-holding s 200 (blocks_in s) v a b tiled is low below in cc)
    past a low none false test = grind (arith, nat_tests)

-- a write below the first block
pub SameBlocks-set_below : (s : List ℕ) (a w : ℕ) → IsTiled s → a < 200 → SameBlocks s (set s a w)
SameBlocks-set_below s a w tiled low = SameBlocks-kept s (set s a w) tiled (length-set s a w) (λ c above _ _. get_or-set_other s a c w 0 (λ e. absurd (omega (arith, e, above, low))))
