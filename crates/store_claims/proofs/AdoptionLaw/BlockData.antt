-- Data of used blocks among blocks that follow one another.
use Rattle.std.proofs.Common.{◌≡◌, ℕ, ◌+◌, ◌<◌, ◌≤◌, ◌&&◌, ◌||◌, Bool, true, false, not, cond, ltb, Some, List, [], ◌∷◌, refl, sym, ap, ◌∙◌, arith, inl, inr}
use Rattle.std.proofs.lemmas.Bool.{and_parts, and_right, cases_lt, false≢true, le-ltb}
use Rattle.word_store.proofs.Counts.{hit-other}
use Rattle.kernel_lists.specs.OwnedWords.Owned.{owners}
use Rattle.kernel_lists.specs.declared.getvec_chain.pieces.Block.{Block}
use Rattle.kernel_lists.specs.GetvecChain.Block.{block_end, has_data}
use Rattle.kernel_lists.specs.GetvecChain.BlockWords.{blocks_words}
use Rattle.kernel_lists.specs.GetvecChain.Tiling.{Follow, holding}
use Rattle.kernel_lists.proofs.GetvecChain.SizeWords.{Follow-order}
use Rattle.kernel_lists.proofs.GetvecChain.UsedBlocks.{has_data-true}
use Rattle.kernel_model.specs.KernelRecord.ValidBlocks.{AreData}
use Rattle.store_claims.specs.ListClaims.BlockData.{is_used_data}
use Rattle.kernel_model.proofs.KernelRecord.FollowedBlocks.{has_data-behind, starts-low}

abbrev here : Block → ℕ → Bool
here b a = not b.free && has_data b a

is-here : (b : Block) (a : ℕ) → here b a ≡ true → (b.free ≡ false) × (b.start < a) × (a < block_end b)
is-here b a h =
    let both = and_parts (not b.free) (has_data b a) h in
    let inner = has_data-true b a both.1 in
    (used b.free both.0, inner.0, inner.1)
  where
    used : (f : Bool) → not f ≡ true → f ≡ false
    used true e = absurd (false≢true e)
    used false e = refl

-- such a word lies behind the first size word, before the end, and is no size word
pub record LiesInData (at end : ℕ) (bs : List Block) (a : ℕ) : Type 0 where
  pub low : at < a
  pub high : a < end
  pub no_start : owners a (blocks_words bs) ≡ 0

pub lies-in-data : (at : ℕ) (bs : List Block) (end a : ℕ) → Follow at bs end → is_used_data a bs ≡ true → LiesInData at end bs a
lies-in-data at [] end a f e = absurd (false≢true e)
lies-in-data at (b ∷ bs) end a f e = on (here b a) refl (λ k. lies-in-data (block_end b) bs end a f.3 k) e
  where
    on : (t : Bool) → here b a ≡ t → (is_used_data a bs ≡ true → LiesInData (block_end b) end bs a) → (t || is_used_data a bs) ≡ true → LiesInData at end (b ∷ bs) a
    on true is later e =
        let h = is-here b a is in
        record {
          low = omega (arith, h.1, f.0);
          high = omega (arith, h.2, Follow-order (block_end b) bs end f.3);
          no_start = omega (arith, hit-other a b.start (λ e. absurd (omega (arith, e, h.1))), starts-low (block_end b) bs end a f.3 h.2);
        }
    on false is later e =
        let r : LiesInData (block_end b) end bs a = later e in
        record {
          low = omega (arith, r.low, f.0);
          high = r.high;
          no_start = omega (arith, hit-other a b.start (λ e. absurd (omega (arith, e, r.low))), r.no_start);
        }

-- what a used block holds is such a word
pub held-used : (bs : List Block) (a : ℕ) (b : Block) → holding a bs ≡ Some b → b.free ≡ false → is_used_data a bs ≡ true
held-used [] a b e used = cc
held-used (c ∷ cs) a b e used = on (has_data c a) refl (λ k. held-used cs a b k used) e
  where
    all : (x y : Bool) → y ≡ true → (x || y) ≡ true
    all true y e = refl
    all false y e = e

    on : (t : Bool) → has_data c a ≡ t → (holding a cs ≡ Some b → is_used_data a cs ≡ true) → cond t (Some c) (holding a cs) ≡ Some b → (here c a || is_used_data a cs) ≡ true
    on true is later e =
        let same : c ≡ b = cc in
        let free : c.free ≡ false = ap (λ z. z.free) same ∙ used in
        (λ i. (not (free i) && is i) || is_used_data a cs)
    on false is later e = all (here c a) (is_used_data a cs) (later e)

-- words of a range, all of them such, are data of one block
pub one-block : (at : ℕ) (bs : List Block) (end p n : ℕ) → Follow at bs end → 0 < n → ((a : ℕ) → p ≤ a → a < p + n → is_used_data a bs ≡ true) → AreData bs p n
one-block at [] end p n f some all = absurd (false≢true (all p (omega arith) (omega (arith, some))))
one-block at (b ∷ bs) end p n f some all = on (here b p) refl (λ k. one-block (block_end b) bs end p n f.3 some k)
  where
    -- behind the block the others have them
    behind : (a : ℕ) → block_end b ≤ a → is_used_data a (b ∷ bs) ≡ true → is_used_data a bs ≡ true
    behind a high e = sym (ap (λ t. (not b.free && t) || is_used_data a bs) (has_data-behind b a high) ∙ none b.free) ∙ e
      where
        none : (f : Bool) → ((not f && false) || is_used_data a bs) ≡ is_used_data a bs
        none true = refl
        none false = refl

    -- the word behind the block is none of them
    no-end : is_used_data (block_end b) (b ∷ bs) ≡ true → ⊥
    no-end e = (let r : LiesInData (block_end b) end bs (block_end b) = lies-in-data (block_end b) bs end (block_end b) f.3 (behind (block_end b) (omega arith) e) in omega (arith, r.low))

    on : (t : Bool) → here b p ≡ t → (((a : ℕ) → p ≤ a → a < p + n → is_used_data a bs ≡ true) → AreData bs p n) → AreData (b ∷ bs) p n
    on true is later =
        let h = is-here b p is in
        let inner : has_data b p ≡ true = (and_parts (not b.free) (has_data b p) is).1 in
        record {
          block = b;
          holds = ap (λ t. cond t (Some b) (holding p bs)) inner;
          used = h.0;
          whole = elim (cases_lt (block_end b) (p + n)) [
            | inl past ↦ absurd (no-end (all (block_end b) (omega (arith, h.2)) past))
            | inr fits ↦ omega (arith, fits)
          ];
        }
    on false is later =
        let first : is_used_data p bs ≡ true = sym (ap (λ t. t || is_used_data p bs) is) ∙ all p (omega arith) (omega (arith, some)) in
        let low : block_end b < p = (lies-in-data (block_end b) bs end p f.3 first).low in
        let r : AreData bs p n = later (λ a above below. behind a (omega (arith, low, above)) (all a above below)) in
        record {
          block = r.block;
          holds = ap (λ t. cond t (Some b) (holding p bs)) (has_data-behind b p (omega (arith, low))) ∙ r.holds;
          used = r.used;
          whole = r.whole;
        }
