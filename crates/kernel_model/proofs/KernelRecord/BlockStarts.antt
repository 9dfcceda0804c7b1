-- Where the blocks of a list begin and lie, and a store that has them.
use Rattle.std.proofs.Common.{◌≡◌, ◌⊎◌, ℕ, ◌+◌, ◌<◌, ◌≤◌, List, [], ◌∷◌, ◌++◌, length, replicate, eqb, not, ◌&&◌, cond, Bool, true, false, Some, inl, inr, refl, sym, ap, ◌∙◌, subst, arith, append-nil}
use Rattle.std.proofs.lemmas.Bool.{cases_eq, cases_lt, eq-eqb, ne_eqb}
use Rattle.std.proofs.lemmas.List.{get_or-replicate, length-replicate}
use Rattle.word_store.proofs.Counts.{hit-other, hit-same}
use Rattle.kernel_lists.specs.OwnedWords.Owned.{owners}
use Rattle.kernel_lists.specs.declared.getvec_chain.pieces.Block.{Block}
use Rattle.kernel_lists.specs.GetvecChain.Block.{block_end, has_data, is_used_at}
use Rattle.kernel_lists.specs.GetvecChain.BlockWords.{blocks_words}
use Rattle.kernel_lists.specs.GetvecChain.Run.{AreFree}
use Rattle.kernel_lists.specs.GetvecChain.Take.{with_size_words}
use Rattle.kernel_lists.specs.GetvecChain.Tiling.{Follow, Tiles, holding, used_at}
use Rattle.kernel_lists.proofs.GetvecChain.SizeWords.{Follow-order, length-with_size_words, with_size_words-Tiles}
use Rattle.kernel_lists.proofs.GetvecChain.UsedBlocks.{has_data-true}
use Rattle.kernel_model.specs.KernelRecord.ValidBlocks.{AreData}
use Rattle.word_store.proofs.Elements.{find-passes}
use Rattle.kernel_model.proofs.KernelRecord.FollowedBlocks.{IsWithin, found-holding, found-within}

-- ---- a store

-- blocks that follow one another are in some store
abbrev pub store_of : List Block → ℕ → List ℕ
store_of bs end = with_size_words (replicate (end + 2) 0) bs

pub store-Tiles : (at : ℕ) (bs : List Block) (end : ℕ) → Follow at bs end → Tiles (store_of bs end) at bs
store-Tiles at bs end f =
    subst (Tiles (store_of bs end) at) (append-nil bs)
    (with_size_words-Tiles (replicate (end + 2) 0) at bs end [] f (sym (length-replicate (end + 2) 0), get_or-replicate (end + 2) end 0 0 (omega arith)))

pub length-store : (bs : List Block) (end : ℕ) → length (store_of bs end) ≡ end + 2
length-store bs end = length-with_size_words (replicate (end + 2) 0) bs ∙ length-replicate (end + 2) 0

pub Tiles-Follow : (s : List ℕ) (at : ℕ) (bs : List Block) (end : ℕ) → Tiles s at bs → length s ≡ end + 2 → Follow at bs end
Tiles-Follow s at [] end t size = omega (arith, t.0, size)
Tiles-Follow s at (b ∷ bs) end t size = (t.0, t.1.some, t.1.even, Tiles-Follow s (block_end b) bs end t.2 size)

-- ---- starts

-- they lie between the ends, and no two are one
pub starts-within : (at : ℕ) (bs : List Block) (end a : ℕ) → Follow at bs end → 0 < owners a (blocks_words bs) → (at ≤ a) × (a < end)
starts-within at [] end a f some = absurd (omega (arith, some))
starts-within at (b ∷ bs) end a f some =
    elim (cases_eq a b.start) [
      | inl e ↦ (omega (arith, e, f.0), omega (arith, e, f.1, Follow-order (block_end b) bs end f.3))
      | inr ne ↦ (let w = starts-within (block_end b) bs end a f.3 (omega (arith, some, hit-other a b.start ne)) in (omega (arith, w.0, f.0), w.1))
    ]

pub starts-once : (at : ℕ) (bs : List Block) (end a : ℕ) → Follow at bs end → owners a (blocks_words bs) ≤ 1
starts-once at [] end a f = omega arith
starts-once at (b ∷ bs) end a f =
    elim (cases_eq a b.start) [
      | inl e ↦ elim (cases_lt 0 (owners a (blocks_words bs))) [
        | inl some ↦ absurd (omega (arith, e, f.1, (starts-within (block_end b) bs end a f.3 some).0))
        | inr none ↦ omega (arith, hit-same a b.start e, none)
      ]
      | inr ne ↦ omega (arith, hit-other a b.start ne, starts-once (block_end b) bs end a f.3)
    ]

-- a word of blocks that are free is the start of one, or lies in the data of one
pub record InFree (bs : List Block) (a : ℕ) : Type 0 where
  pub before : List Block
  pub block : Block
  pub after : List Block
  pub is : bs ≡ before ++ block ∷ after
  pub free : block.free ≡ true
  pub above : block.start < a
  pub below : a < block_end block

pub in-free : (at : ℕ) (bs : List Block) (end a : ℕ) → Follow at bs end → AreFree bs → at ≤ a → a < end → owners a (blocks_words bs) ≡ 0 → InFree bs a
in-free at [] end a f free low high none = absurd (omega (arith, f, low, high))
in-free at (b ∷ bs) end a f free low high none =
    elim (cases_lt a (block_end b)) [
      | inl below ↦ record { before = []; block = b; after = bs; is = refl; free = free.0; above = above (cases_eq a b.start); below = below }
      | inr behind ↦ (let r = in-free (block_end b) bs end a f.3 free.1 behind high (omega (arith, none)) in
          record { before = b ∷ r.before; block = r.block; after = r.after; is = ap (λ z. b ∷ z) r.is; free = r.free; above = r.above; below = r.below })
    ]
  where
    above : ◌⊎◌ (a ≡ b.start) (a ≡ b.start → ⊥) → b.start < a
    above (inl e) = absurd (omega (arith, none, hit-same a b.start e))
    above (inr ne) = omega (arith, ne, f.0, low)

-- ---- data

-- a used block that holds an address is the used block at its first data word
pub holding-used_at : (at : ℕ) (bs : List Block) (end a : ℕ) (b : Block) → Follow at bs end → holding a bs ≡ Some b → b.free ≡ false → used_at (b.start + 1) bs ≡ Some b
holding-used_at at [] end a b f e used = cc
holding-used_at at (c ∷ cs) end a b f e used = on (has_data c a) refl e (λ h. holding-used_at (block_end c) cs end a b f.3 h used)
  where
    on : (x : Bool) → has_data c a ≡ x → cond x (Some c) (holding a cs) ≡ Some b → (holding a cs ≡ Some b → used_at (b.start + 1) cs ≡ Some b) → used_at (b.start + 1) (c ∷ cs) ≡ Some b
    on true is e more =
        let same : b ≡ c = cc in
        let here : is_used_at (c.start + 1) c ≡ true = ap (λ x. not x && eqb (c.start + 1) (c.start + 1)) (ap (λ z. z.free) (sym same) ∙ used) ∙ eq-eqb (c.start + 1) (c.start + 1) refl in
        let test : is_used_at (b.start + 1) c ≡ true = ap (λ z. is_used_at (z.start + 1) c) same ∙ here in
        ap (λ x. cond x (Some c) (used_at (b.start + 1) cs)) test ∙ ap Some (sym same)
    on false is e more =
        let w : IsWithin (block_end c) end b = found-within (λ z. has_data z a) (block_end c) cs end b f.3 e in
        let test : eqb (c.start + 1) (b.start + 1) ≡ false = ne_eqb (c.start + 1) (b.start + 1) (λ k. absurd (omega (arith, k, w.low, f.1))) in
        ap (λ x. cond (not c.free && x) (Some c) (used_at (b.start + 1) cs)) test ∙ skip (not c.free) ∙ more e
      where
        skip : (x : Bool) → cond (x && false) (Some c) (used_at (b.start + 1) cs) ≡ used_at (b.start + 1) cs
        skip true = refl
        skip false = refl

-- words are still data where their block is still used
pub AreData-kept : (bs cs : List Block) (end p n : ℕ) → Follow 200 bs end → Follow 200 cs end → (d : AreData bs p n) → (used_at (d.block.start + 1) bs ≡ Some d.block → used_at (d.block.start + 1) cs ≡ Some d.block) → AreData cs p n
AreData-kept bs cs end p n f g d keeps =
    let within = has_data-true d.block p (find-passes (λ b. has_data b p) bs d.block d.holds) in
    record {
      block = d.block;
      holds = found-holding (is_used_at (d.block.start + 1)) 200 cs end d.block p g (keeps (holding-used_at 200 bs end p d.block f d.holds d.used)) within.0 within.1;
      used = d.used;
      whole = d.whole;
    }
