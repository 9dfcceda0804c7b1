-- A store after a take, beside the store before it.
use Rattle.std.proofs.Common.{◌≡◌, ◌≢◌, ◌⊎◌, inl, inr, ℕ, ◌+◌, ◌-◌, ◌<◌, ◌≤◌, List, length, get_or, sym, ap, ◌∙◌, subst, arith, Some, None}
use Rattle.kernel_lists.specs.declared.getvec_chain.pieces.Block.{Block}
use Rattle.kernel_lists.specs.GetvecChain.Block.{block_end, used_block}
use Rattle.kernel_lists.specs.GetvecChain.Tiling.{IsTiled, Tiles, blocks_in, used_at}
use Rattle.kernel_lists.specs.GetvecChain.Run.{need}
use Rattle.kernel_lists.specs.GetvecChain.Take.{IsTaken, split_run, taken}
use Rattle.kernel_lists.proofs.GetvecChain.Runs.{FoundRun, first_run-found, need-even}
use Rattle.kernel_lists.proofs.GetvecChain.SizeWords.{length-with_size_words}
use Rattle.kernel_lists.proofs.GetvecChain.Takes.{taken-Tiles, taken_store-outside, taken_store-unwritten, used_at-outside_run, used_at-taken, used_at-taken-other}
use Rattle.kernel_lists.proofs.GetvecChain.Tilings.{IsTiled-by, blocks_in-is}
use Rattle.kernel_lists.proofs.GetvecChain.UsedBlocks.{AreDisjoint}

-- t is s, where the block at v was taken
pub record AfterTake (s t : List ℕ) (u v : ℕ) : Type 0 where
  pub tiled : IsTiled t
  pub blocks : blocks_in t ≡ taken (need u) (blocks_in s)
  -- the block is used, was no used block, and lies between word 200 and the end word
  pub is_used : used_at v (blocks_in t) ≡ Some (used_block (v - 1) (need u))
  pub was_none : used_at v (blocks_in s) ≡ None
  pub low : 201 ≤ v
  pub inside : v - 1 + need u + 2 ≤ length s
  -- the other used blocks are those that were, and none meets it
  pub others : (w : ℕ) → w ≢ v → used_at w (blocks_in t) ≡ used_at w (blocks_in s)
  pub kept : (w : ℕ) (b : Block) → used_at w (blocks_in s) ≡ Some b → used_at w (blocks_in t) ≡ Some b
  pub apart : (w : ℕ) (b : Block) → used_at w (blocks_in s) ≡ Some b → AreDisjoint b (used_block (v - 1) (need u))
  -- only its size word and that of the rest are written
  pub unwritten : (a : ℕ) → a ≢ v - 1 → a ≢ v - 1 + need u → get_or t a 0 ≡ get_or s a 0
  -- so the words of the other used blocks stay, and those below the first block and from the end word on
  pub words : (w : ℕ) (b : Block) → used_at w (blocks_in s) ≡ Some b → (a : ℕ) → b.start ≤ a → a < block_end b → get_or t a 0 ≡ get_or s a 0
  pub below : (a : ℕ) → a < 200 → get_or t a 0 ≡ get_or s a 0
  pub above : (a : ℕ) → length s ≤ a + 2 → get_or t a 0 ≡ get_or s a 0
  pub same_length : length t ≡ length s

pub after_take : (s t : List ℕ) (u v : ℕ) → IsTiled s → IsTaken s t u v → AfterTake s t u v
after_take s t u v tiled h =
    record {
      tiled = IsTiled-by t (taken n (blocks_in s)) tiles;
      blocks = blocks;
      is_used = ap (used_at v) blocks ∙ ap (λ z. used_at z (taken n (blocks_in s))) h.front ∙ new.0 ∙ ap (λ z. Some (used_block z n)) start;
      was_none = ap (λ z. used_at z (blocks_in s)) h.front ∙ new.1;
      low = omega (arith, h.front, f.low);
      inside = omega (arith, h.front, f.enough, f.inside);
      others = others;
      kept = λ w b is. others w (λ e. absurd (not_new w b is e)) ∙ is;
      apart = λ w b is. subst (λ z. AreDisjoint b (used_block z n)) start (apart_from b (outside w b is));
      unwritten = unwritten;
      words = λ w b is a low high. stays a (λ above. in_block b a (outside w b is) low high above);
      below = λ a low. stays a (λ above. absurd (omega (arith, low, above, f.low)));
      above = λ a high. stays a (λ _. omega (arith, high, f.inside));
      same_length = ap length h.words ∙ length-with_size_words s (split_run h.run.start h.run.end n);
    }
  where
    n : ℕ
    n = need u

    f : FoundRun s n 200 h.run
    f = first_run-found s n 200 (blocks_in s) h.run tiled h.first

    start : h.run.start ≡ v - 1
    start = omega (arith, h.front)

    tiles : Tiles t 200 (taken n (blocks_in s))
    tiles = subst (λ z. Tiles z 200 (taken n (blocks_in s))) (sym h.words) (taken-Tiles s n 200 (blocks_in s) h.run (need-even u).0 (need-even u).1 tiled h.first)

    blocks : blocks_in t ≡ taken n (blocks_in s)
    blocks = blocks_in-is t (taken n (blocks_in s)) tiles

    new : (used_at (h.run.start + 1) (taken n (blocks_in s)) ≡ Some (used_block h.run.start n)) × (used_at (h.run.start + 1) (blocks_in s) ≡ None)
    new = used_at-taken s n 200 (blocks_in s) h.run tiled h.first

    others : (w : ℕ) → w ≢ v → used_at w (blocks_in t) ≡ used_at w (blocks_in s)
    others w other = ap (used_at w) blocks ∙ used_at-taken-other n (blocks_in s) h.run w h.first (λ e. other (e ∙ sym h.front))

    not_new : (w : ℕ) (b : Block) → used_at w (blocks_in s) ≡ Some b → w ≡ v → ⊥
    not_new w b is e = (let none : used_at w (blocks_in s) ≡ None = ap (λ z. used_at z (blocks_in s)) (e ∙ h.front) ∙ new.1 in cc)

    outside : (w : ℕ) (b : Block) → used_at w (blocks_in s) ≡ Some b → (block_end b ≤ h.run.start) ⊎ (h.run.end ≤ b.start)
    outside w b is = used_at-outside_run s n 200 (blocks_in s) h.run w b tiled h.first is

    unwritten : (a : ℕ) → a ≢ v - 1 → a ≢ v - 1 + n → get_or t a 0 ≡ get_or s a 0
    unwritten a first second =
        ap (λ z. get_or z a 0) h.words ∙ taken_store-unwritten s h.run n a (λ e. first (e ∙ start)) (λ e. second (e ∙ ap (λ z. z + n) start))

    stays : (a : ℕ) → (h.run.start ≤ a → h.run.end ≤ a) → get_or t a 0 ≡ get_or s a 0
    stays a out = ap (λ z. get_or z a 0) h.words ∙ taken_store-outside s n 200 a h.run (need-even u).0 (need-even u).1 f out

    apart_from : (b : Block) → (block_end b ≤ h.run.start) ⊎ (h.run.end ≤ b.start) → AreDisjoint b (used_block h.run.start n)
    apart_from b (inl before) = inl before
    apart_from b (inr after) = inr (omega (arith, after, f.enough))

    in_block : (b : Block) (a : ℕ) → (block_end b ≤ h.run.start) ⊎ (h.run.end ≤ b.start) → b.start ≤ a → a < block_end b → h.run.start ≤ a → h.run.end ≤ a
    in_block b a (inl before) low high above = absurd (omega (arith, before, high, above))
    in_block b a (inr after) low high above = omega (arith, after, low)
