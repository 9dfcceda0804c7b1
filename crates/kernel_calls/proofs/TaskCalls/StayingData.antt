-- Where only the blocks change, the words that are no size words stay.
use Rattle.std.proofs.Common.{◌≡◌, ℕ, ◌<◌, List, [], ◌∷◌, ◌++◌, cond, get_or, Bool, true, false, Option, Some, inl, inr, refl, sym, ap, ◌∙◌, subst, arith}
use Rattle.std.specs.Prelude.{find}
use Rattle.std.proofs.lemmas.Bool.{cases_lt}
use Rattle.word_store.proofs.Counts.{hit-other}
use Rattle.kernel_lists.specs.OwnedWords.Owned.{Holds, Pairs, owners}
use Rattle.kernel_lists.proofs.OwnedWords.OwnedWords.{Holds-left, Holds-right, owners-append, word_in-holds}
use Rattle.kernel_lists.specs.declared.getvec_chain.pieces.Block.{Block}
use Rattle.kernel_lists.specs.GetvecChain.Block.{block_end}
use Rattle.kernel_lists.specs.GetvecChain.BlockWords.{blocks_words}
use Rattle.kernel_lists.specs.GetvecChain.Tiling.{Follow}
use Rattle.kernel_lists.specs.HunkLoader.ModuleExchanges.{modules_words}
use Rattle.kernel_model.specs.KernelRecord.ChangedStore.{IsChanged}
use Rattle.kernel_model.specs.KernelRecord.Changes.{with_blocks}
use Rattle.kernel_model.specs.KernelRecord.HoldsLists.{HoldsLists}
use Rattle.kernel_model.specs.KernelRecord.Lists.{Lists, address_of_task}
use Rattle.kernel_model.specs.KernelRecord.Owned.{device_words, owned, tasks_words}
use Rattle.kernel_model.specs.KernelRecord.Residents.{resident_words}
use Rattle.kernel_model.specs.KernelRecord.Root.{root_words}
use Rattle.kernel_model.proofs.KernelRecord.FollowedBlocks.{IsWithin, found-within, starts-low}

-- two stores that hold the same owned words
holds-agree : (s t : List ℕ) (es : Pairs) (a : ℕ) → Holds s es → Holds t es → 0 < owners a es → get_or t a 0 ≡ get_or s a 0
holds-agree s t es a h k some = same (get_or t a 0) (get_or s a 0) (sym (word_in-holds t a es k some) ∙ word_in-holds s a es h some)
  where
    same : (x y : ℕ) → ◌≡◌ {A = Option ℕ} (Some x) (Some y) → x ≡ y
    same x y e = cc

module _ (l : Lists) (bs : List Block) where
  abbrev root : Pairs
  root = root_words l (address_of_task l l.running)

  abbrev behind : Pairs
  behind = tasks_words l ++ (modules_words l.modules ++ (device_words l ++ resident_words l))

  owned-cut : owned (with_blocks bs l) ≡ root ++ (blocks_words bs ++ behind)
  unfolding owned
  owned-cut = refl

pub data-stays : (s t : List ℕ) (l : Lists) (bs : List Block) (a : ℕ) → HoldsLists s l → IsChanged s t (with_blocks bs l) [] → owners a (blocks_words bs) ≡ 0 → get_or t a 0 ≡ get_or s a 0
data-stays s t l bs a h x none =
    elim (cases_lt 0 (owners a (root l bs))) [
      | inl some ↦ holds-agree s t (root l bs) a (Holds-left s (root l bs) (blocks_words l.blocks ++ behind l bs) before) (Holds-left t (root l bs) (blocks_words bs ++ behind l bs) after) some
      | inr no_root ↦
          elim (cases_lt 0 (owners a (behind l bs))) [
            | inl some ↦
                holds-agree s t (behind l bs) a (Holds-right s (blocks_words l.blocks) (behind l bs) (Holds-right s (root l bs) (blocks_words l.blocks ++ behind l bs) before))
                (Holds-right t (blocks_words bs) (behind l bs) (Holds-right t (root l bs) (blocks_words bs ++ behind l bs) after)) some
            | inr last ↦
                x.written.others a
                (ap (owners a) (owned-cut l bs)
                ∙ omega (arith, none, no_root, last, owners-append a (root l bs) (blocks_words bs ++ behind l bs), owners-append a (blocks_words bs) (behind l bs)))
          ]
    ]
  where
    before : Holds s (root l bs ++ (blocks_words l.blocks ++ behind l bs))
    before = subst (Holds s) (owned-cut l l.blocks) h.holds

    after : Holds t (root l bs ++ (blocks_words bs ++ behind l bs))
    after = subst (Holds t) (owned-cut l bs) x.written.holds

pub data-no_start : (test : Block → Bool) (at : ℕ) (bs : List Block) (end : ℕ) (b : Block) (a : ℕ) → Follow at bs end → find test bs ≡ Some b → b.start < a → a < block_end b → owners a (blocks_words bs) ≡ 0
data-no_start test at [] end b a f e above below = cc
data-no_start test at (c ∷ cs) end b a f e above below = on (test c) e (λ later. data-no_start test (block_end c) cs end b a f.3 later above below)
  where
    on : (x : Bool) → cond x (Some c) (find test cs) ≡ Some b → (find test cs ≡ Some b → owners a (blocks_words cs) ≡ 0) → owners a (blocks_words (c ∷ cs)) ≡ 0
    on true e more =
        let same : c ≡ b = cc in
        omega (
          arith,
          hit-other a c.start (λ k. absurd (omega (arith, k, above, ap (λ z. z.start) same))),
          starts-low (block_end c) cs end a f.3 (omega (arith, below, ap block_end same)),
        )
    on false e more =
        let w : IsWithin (block_end c) end b = found-within test (block_end c) cs end b f.3 e in
        omega (arith, hit-other a c.start (λ k. absurd (omega (arith, k, above, w.low, f.1))), more e)
