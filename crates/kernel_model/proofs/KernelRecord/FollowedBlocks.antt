-- Blocks that follow one another, looked up by an address.
use Rattle.std.proofs.Common.{◌≡◌, ℕ, ◌%◌, ◌<◌, ◌≤◌, List, [], ◌∷◌, ◌++◌, ltb, cond, Bool, true, false, Some, refl, sym, ap, ◌∙◌, arith}
use Rattle.std.specs.Prelude.{find}
use Rattle.std.proofs.lemmas.Bool.{and_from, and_right, le-ltb, lt-ltb}
use Rattle.word_store.proofs.Counts.{hit-other}
use Rattle.kernel_lists.specs.OwnedWords.Owned.{owners}
use Rattle.kernel_lists.specs.declared.getvec_chain.pieces.Block.{Block}
use Rattle.kernel_lists.specs.GetvecChain.Block.{block_end, has_data}
use Rattle.kernel_lists.specs.GetvecChain.BlockWords.{blocks_words}
use Rattle.kernel_lists.specs.GetvecChain.Tiling.{Follow, holding}
use Rattle.kernel_lists.proofs.GetvecChain.SizeWords.{Follow-order}

has_data-from : (b : Block) (a : ℕ) → b.start < a → a < block_end b → has_data b a ≡ true
has_data-from b a above below = and_from (ltb b.start a) (ltb a (block_end b)) (lt-ltb b.start a above) (lt-ltb a (block_end b) below)

pub has_data-behind : (b : Block) (a : ℕ) → block_end b ≤ a → has_data b a ≡ false
has_data-behind b a behind = and_right (ltb b.start a) (ltb a (block_end b)) (le-ltb a (block_end b) behind)

-- a block among those that follow one another
pub record IsWithin (at end : ℕ) (b : Block) : Type 0 where
  pub low : at ≤ b.start
  pub high : block_end b ≤ end
  pub some : 2 ≤ b.size
  pub even : b.size % 2 ≡ 0

pub found-within : (test : Block → Bool) (at : ℕ) (bs : List Block) (end : ℕ) (b : Block) → Follow at bs end → find test bs ≡ Some b → IsWithin at end b
found-within test at [] end b f e = cc
found-within test at (c ∷ cs) end b f e = on (test c) e (found-within test (block_end c) cs end b f.3)
  where
    on : (t : Bool) → cond t (Some c) (find test cs) ≡ Some b → (find test cs ≡ Some b → IsWithin (block_end c) end b) → IsWithin at end b
    on true e more =
        let same : c ≡ b = cc in
        let here : IsWithin at end c = record { low = omega (arith, f.0); high = Follow-order (block_end c) cs end f.3; some = f.1; even = f.2 } in
        rw same at here
    on false e more = (let w = more e in record { low = omega (arith, w.low, f.0); high = w.high; some = w.some; even = w.even })

-- the data of a block that was found are held by it alone
pub found-holding : (test : Block → Bool) (at : ℕ) (bs : List Block) (end : ℕ) (b : Block) (a : ℕ) → Follow at bs end → find test bs ≡ Some b → b.start < a → a < block_end b
    → holding a bs ≡ Some b
found-holding test at [] end b a f e above below = cc
found-holding test at (c ∷ cs) end b a f e above below = on (test c) e (λ later. found-holding test (block_end c) cs end b a f.3 later above below)
  where
    on : (t : Bool) → cond t (Some c) (find test cs) ≡ Some b → (find test cs ≡ Some b → holding a cs ≡ Some b) → holding a (c ∷ cs) ≡ Some b
    on true e more =
        let same : b ≡ c = cc in
        ap (λ t. cond t (Some c) (holding a cs)) (ap (λ z. has_data z a) (sym same) ∙ has_data-from b a above below) ∙ ap Some (sym same)
    on false e more =
        let w : IsWithin (block_end c) end b = found-within test (block_end c) cs end b f.3 e in
        ap (λ t. cond t (Some c) (holding a cs)) (has_data-behind c a (omega (arith, w.low, above))) ∙ more e

-- no block begins before the first one
pub starts-low : (at : ℕ) (bs : List Block) (end a : ℕ) → Follow at bs end → a < at → owners a (blocks_words bs) ≡ 0
starts-low at [] end a f low = refl
starts-low at (b ∷ bs) end a f low =
    omega (arith, hit-other a b.start (λ e. absurd (omega (arith, e, f.0, low))), starts-low (block_end b) bs end a f.3 (omega (arith, f.0, low)))

-- an address among the data of a block of the list
pub record IsDataOf (at end : ℕ) (bs : List Block) (b : Block) (a : ℕ) : Type 0 where
  pub holds : holding a bs ≡ Some b
  pub no_start : owners a (blocks_words bs) ≡ 0
  pub low : at ≤ b.start
  pub high : block_end b ≤ end

pub member-data : (at : ℕ) (before : List Block) (b : Block) (after : List Block) (end a : ℕ) → Follow at (before ++ b ∷ after) end → b.start < a → a < block_end b
    → IsDataOf at end (before ++ b ∷ after) b a
member-data at [] b after end a f above below =
    record {
      holds = ap (λ t. cond t (Some b) (holding a after)) (has_data-from b a above below);
      no_start = omega (arith, hit-other a b.start (λ e. absurd (omega (arith, e, above))), starts-low (block_end b) after end a f.3 below);
      low = omega (arith, f.0);
      high = Follow-order (block_end b) after end f.3;
    }
member-data at (c ∷ cs) b after end a f above below =
    let r : IsDataOf (block_end c) end (cs ++ b ∷ after) b a = member-data (block_end c) cs b after end a f.3 above below in
    record {
      holds = ap (λ t. cond t (Some c) (holding a (cs ++ b ∷ after))) (has_data-behind c a (omega (arith, r.low, above))) ∙ r.holds;
      no_start = omega (arith, hit-other a c.start (λ e. absurd (omega (arith, e, r.low, above))), r.no_start);
      low = omega (arith, r.low, f.0);
      high = r.high;
    }
