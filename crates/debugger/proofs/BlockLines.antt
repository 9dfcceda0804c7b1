-- The lines of blocks, one at a time.
use Rattle.std.proofs.Common.{◌≡◌, ◌∙◌, ℕ, ◌<◌, ◌+◌, ◌^◌, Option, List, [], ◌∷◌, ◌++◌, length, sym, ap, subst, arith, append_assoc, append-nil}
use Rattle.std.specs.List.{AllByRecursion}
use Rattle.byte_streams.specs.Pending.{IsCut, IsGathered}
use Rattle.byte_streams.proofs.GatheredTexts.{IsCut-more, IsCut-then, IsGathered-nothing, IsGathered-then}
use Rattle.kernel_lists.specs.GetvecChain.Block.{block_end}
use Rattle.kernel_lists.specs.GetvecChain.Tiling.{Tiles}
use Rattle.kernel_lists.specs.declared.getvec_chain.pieces.Block.{Block}
use Rattle.kernel_model.specs.KernelRecord.BlockUse.{use_of}
use Rattle.kernel_model.specs.KernelRecord.Lists.{Lists}
use Rattle.kernel_model.specs.declared.kernel_record.uses.Use.{Use}
use Rattle.kernel_lists.proofs.GetvecChain.Tilings.{Tiles-inside}
use Rattle.debugger.specs.Texts.{block_line, block_lines}

-- ---- where blocks begin

-- the address of a block's data is a word
pub tiles-inside : (s : List ℕ) (at : ℕ) (bs : List Block) → length s < 2 ^ 32 → Tiles s at bs → AllByRecursion (λ b. b.start + 1 < 2 ^ 32) bs
tiles-inside s at [] low t = tt
tiles-inside s at (b ∷ bs) low t = (omega (arith, low, t.0, Tiles-inside s at (b ∷ bs) t), tiles-inside s (block_end b) bs low t.2)

-- ---- lines

-- the lines of the blocks before these were gathered
pub record IsBlocksSoFar (l : Lists) (rest : List Block) (h k : Option (List ℕ)) (p q : List ℕ) : Type 0 where
  pub front : List ℕ
  pub all : front ++ block_lines l rest ≡ block_lines l l.blocks
  pub gathered : IsGathered h k p q front

pub blocks-first : (l : Lists) (bs : List Block) (h : Option (List ℕ)) (p : List ℕ) → bs ≡ l.blocks → IsBlocksSoFar l bs h h p p
blocks-first l bs h p is = record { front = []; all = ap (block_lines l) is; gathered = IsGathered-nothing h p }

module _ (l : Lists) (b : Block) (bs rest : List Block) (is : rest ≡ b ∷ bs) {h k : Option (List ℕ)} {p q : List ℕ} (d : IsBlocksSoFar l rest h k p q) (used : Use) (known : used ≡ use_of l b) where
  blocks-at : block_lines l l.blocks ≡ d.front ++ (block_line b used ++ block_lines l bs)
  blocks-at = sym d.all ∙ ap (λ xs. d.front ++ block_lines l xs) is ∙ ap (λ u. d.front ++ (block_line b u ++ block_lines l bs)) (sym known)

  -- the line of a block
  pub blocks-next : {m : Option (List ℕ)} {r : List ℕ} → IsGathered k m q r (block_line b used) → IsBlocksSoFar l bs h m p r
  blocks-next {m} {r} more = record {
    front = d.front ++ block_line b used;
    all = append_assoc d.front (block_line b used) (block_lines l bs) ∙ sym blocks-at;
    gathered = IsGathered-then d.gathered more;
  }

  -- the sink failed at it
  pub blocks-cut : {m : Option (List ℕ)} → IsCut k m q (block_line b used) → IsCut h m p (block_lines l l.blocks)
  blocks-cut {m} cut = subst (IsCut h m p) (sym blocks-at) (IsCut-then d.gathered (IsCut-more (block_lines l bs) cut))
