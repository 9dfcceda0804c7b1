-- The words that blocks own: held by a store, and exchanged by a take and a give.
use Rattle.std.proofs.Common.{◌≡◌, ℕ, zero, suc, ◌+◌, ◌-◌, ◌<◌, ◌≤◌, List, [], ◌∷◌, ◌++◌, length, get_or, cond, refl, sym, ap, ◌∙◌, subst, arith, Some, inl, inr}
use Rattle.std.proofs.lemmas.Bool.{cases_eq}
use Rattle.std.proofs.lemmas.Grind.{flat_map-append}
use Rattle.word_store.proofs.Counts.{hit-le, hit-other}
use Rattle.kernel_lists.specs.OwnedWords.Exchange.{Exchange}
use Rattle.kernel_lists.specs.OwnedWords.Owned.{Holds, Pairs, owners, written}
use Rattle.kernel_lists.proofs.OwnedWords.Exchanges.{exchange-all, exchange-left, exchange-right}
use Rattle.kernel_lists.specs.declared.getvec_chain.pieces.Block.{Block}
use Rattle.kernel_lists.specs.declared.getvec_chain.pieces.Run.{Run}
use Rattle.kernel_lists.specs.GetvecChain.Block.{block_end, free_block, size_word, used_block}
use Rattle.kernel_lists.specs.GetvecChain.BlockWords.{GiveExchange, TakeExchange, block_words, blocks_words, taken_words}
use Rattle.kernel_lists.specs.GetvecChain.Give.{given, given_store}
use Rattle.kernel_lists.specs.GetvecChain.Run.{need}
use Rattle.kernel_lists.specs.GetvecChain.Take.{IsTaken, left_over, split_run, taken, taken_store, with_size_words}
use Rattle.kernel_lists.specs.GetvecChain.Tiling.{Follow, IsTiled, Tiles, blocks_in, used_at}
use Rattle.kernel_lists.proofs.GetvecChain.AfterGive.{AfterGive, after_give, given_store-is}
use Rattle.kernel_lists.proofs.GetvecChain.AfterTake.{after_take}
use Rattle.kernel_lists.proofs.GetvecChain.Runs.{FoundRun, first_run-found, need-even}
use Rattle.kernel_lists.proofs.GetvecChain.Splits.{GiveSplit, TakeSplit, give_split, take_split}
use Rattle.kernel_lists.proofs.GetvecChain.Tilings.{IsTiled-by, blocks_in-is}
use Rattle.kernel_lists.proofs.GetvecChain.UsedBlocks.{used_at-is}

-- ---- blocks whose size words are held

held-Tiles : (s : List ℕ) (at : ℕ) (bs : List Block) (end : ℕ) → Follow at bs end → end + 2 ≡ length s → get_or s end 0 ≡ 0 → Holds s (blocks_words bs) → Tiles s at bs
held-Tiles s at [] end f size none h = (omega (arith, f), ap (λ z. get_or s z 0) f ∙ none)
held-Tiles s at (b ∷ bs) end f size none h = (f.0, record { word = h.0; some = f.1; even = f.2 }, held-Tiles s (block_end b) bs end f.3 size none h.1)

pub held-IsTiled : (s : List ℕ) (bs : List Block) (end : ℕ) → Follow 200 bs end → end + 2 ≡ length s → get_or s end 0 ≡ 0 → Holds s (blocks_words bs) → IsTiled s
held-IsTiled s bs end f size none h = IsTiled-by s bs (held-Tiles s 200 bs end f size none h)

pub held-blocks_in : (s : List ℕ) (bs : List Block) (end : ℕ) → Follow 200 bs end → end + 2 ≡ length s → get_or s end 0 ≡ 0 → Holds s (blocks_words bs) → blocks_in s ≡ bs
held-blocks_in s bs end f size none h = blocks_in-is s bs (held-Tiles s 200 bs end f size none h)

-- ---- a take

-- an exchange of some blocks in a list of blocks
exchange-blocks : (before old new after : List Block) (gone come : Pairs) → Exchange (blocks_words old) (blocks_words new) gone come
    → Exchange (blocks_words (before ++ (old ++ after))) (blocks_words (before ++ (new ++ after))) gone come
exchange-blocks before old new after gone come x =
    let joined : (xs : List Block) → blocks_words (before ++ (xs ++ after)) ≡ blocks_words before ++ (blocks_words xs ++ blocks_words after) =
    λ xs. flat_map-append block_words before (xs ++ after) ∙ ap (λ z. blocks_words before ++ z) (flat_map-append block_words xs after)
    in
    subst (λ L. Exchange L (blocks_words (before ++ (new ++ after))) gone come) (sym (joined old))
    (subst (λ M. Exchange (blocks_words before ++ (blocks_words old ++ blocks_words after)) M gone come) (sym (joined new))
    (exchange-right (blocks_words before) _ _ _ _ (exchange-left _ _ (blocks_words after) _ _ x)))

-- the size words of a run that is split, in the order in which they are written
split-exchange : (free : List Block) (run : Run) (n : ℕ) → Exchange (blocks_words free) (blocks_words (split_run run.start run.end n)) (blocks_words free) (taken_words run n)
split-exchange free run n = by (run.end - (run.start + n))
  where
    by : (m : ℕ) → Exchange (blocks_words free) (blocks_words (used_block run.start n ∷ left_over (run.start + n) m)) (blocks_words free) (blocks_words (left_over (run.start + n) m) ++ (run.start, n) ∷ [])
    by zero = exchange-all (blocks_words free) ((run.start, n) ∷ [])
    by (suc m) =
        record {
          rest = [];
          first = record { count = λ a. omega arith; opens = λ s h. (tt, h); closes = λ s h k. k };
          then' = record { count = λ a. omega arith; opens = λ s h. (tt, (h.1.0, (h.0, tt))); closes = λ s h k. (k.1.0, (k.0, tt)) };
        }

taken_store-written : (s : List ℕ) (run : Run) (n : ℕ) → taken_store s run n ≡ written (taken_words run n) s
taken_store-written s run n = by (run.end - (run.start + n))
  where
    by : (m : ℕ) → with_size_words s (used_block run.start n ∷ left_over (run.start + n) m) ≡ written (blocks_words (left_over (run.start + n) m) ++ (run.start, n) ∷ []) s
    by zero = refl
    by (suc m) = refl

-- where they lie
owners-taken : (run : Run) (n a : ℕ) → 0 < n → run.start + n ≤ run.end → (owners a (taken_words run n) ≤ 1) × (0 < owners a (taken_words run n) → (run.start ≤ a) × (a < run.end))
owners-taken run n a some fits = by (run.end - (run.start + n)) refl
  where
    by : (m : ℕ) → run.end - (run.start + n) ≡ m → (owners a (blocks_words (left_over (run.start + n) m) ++ (run.start, n) ∷ []) ≤ 1)
        × (0 < owners a (blocks_words (left_over (run.start + n) m) ++ (run.start, n) ∷ []) → (run.start ≤ a) × (a < run.end))
    by zero e = (
      omega (arith, hit-le a run.start),
      λ h. elim (cases_eq a run.start) [ inl same ↦ (omega arith, omega arith) | inr ne ↦ absurd (omega (arith, h, hit-other a run.start ne)) ],
    )
    by (suc m) e =
        elim (cases_eq a run.start) [
          | inl same ↦ (omega (arith, hit-le a run.start, hit-other a (run.start + n) (λ k. absurd (omega (arith, same, k, some)))), λ h. (omega arith, omega arith))
          | inr ne ↦ (
            omega (arith, hit-other a run.start ne, hit-le a (run.start + n)),
            λ h. elim (cases_eq a (run.start + n)) [
              | inl same ↦ (omega arith, omega (arith, e))
              | inr nor ↦ absurd (omega (arith, h, hit-other a run.start ne, hit-other a (run.start + n) nor))
            ],
          )
        ]

pub take-exchange : (s t : List ℕ) (u v : ℕ) → IsTiled s → IsTaken s t u v → TakeExchange s t u
take-exchange s t u v tiled h =
    let n : ℕ = need u in
    let p : TakeSplit n (blocks_in s) (taken n (blocks_in s)) h.run = take_split s n 200 (blocks_in s) h.run tiled h.first in
    let f : FoundRun s n 200 h.run = first_run-found s n 200 (blocks_in s) h.run tiled h.first in
    let w = λ (a : ℕ). owners-taken h.run n a (omega (arith, (need-even u).0)) f.enough in
    let new : blocks_in t ≡ p.before ++ (split_run h.run.start h.run.end n ++ p.after) = (after_take s t u v tiled h).blocks ∙ p.new_is in
    record {
      run = h.run;
      before = p.before;
      free = p.free;
      after = p.after;
      is = p.old_is;
      are_free = p.are_free;
      fills = p.fills;
      exchange =
          subst (λ L. Exchange (blocks_words L) (blocks_words (blocks_in t)) (blocks_words p.free) (taken_words h.run n)) (sym p.old_is)
          (subst (λ M. Exchange (blocks_words (p.before ++ (p.free ++ p.after))) (blocks_words M) (blocks_words p.free) (taken_words h.run n)) (sym new)
          (exchange-blocks p.before p.free (split_run h.run.start h.run.end n) p.after (blocks_words p.free) (taken_words h.run n) (split-exchange p.free h.run n)));
      words = h.words ∙ taken_store-written s h.run n;
      once = λ a. (w a).0;
      within = λ a some. (w a).1 some;
    }

-- ---- a give

pub give-exchange : (s : List ℕ) (v : ℕ) (b : Block) → IsTiled s → used_at v (blocks_in s) ≡ Some b → GiveExchange s (given_store s v) b
give-exchange s v b tiled used =
    let g : AfterGive s (given_store s v) v b = after_give s (given_store s v) v b tiled used refl in
    let p : GiveSplit (blocks_in s) (given v (blocks_in s)) b = give_split s 200 (blocks_in s) v b tiled used in
    let new : blocks_in (given_store s v) ≡ p.before ++ (free_block b.start b.size ∷ p.after) = g.blocks ∙ p.new_is in
    let size : size_word b ≡ b.size = ap (λ f. cond f (b.size + 1) b.size) (used_at-is s 200 (blocks_in s) v b tiled used).used in
    let one : Exchange (blocks_words (b ∷ [])) (blocks_words (free_block b.start b.size ∷ [])) ((b.start, b.size) ∷ []) ((b.start, b.size + 1) ∷ []) =
    subst (λ w. Exchange ((b.start, w) ∷ []) ((b.start, b.size + 1) ∷ []) ((b.start, b.size) ∷ []) ((b.start, b.size + 1) ∷ [])) (sym size)
    (exchange-all ((b.start, b.size) ∷ []) ((b.start, b.size + 1) ∷ []))
    in
    record {
      before = p.before;
      after = p.after;
      is = p.old_is;
      becomes = new;
      exchange =
          subst (λ L. Exchange (blocks_words L) (blocks_words (blocks_in (given_store s v))) ((b.start, b.size) ∷ []) ((b.start, b.size + 1) ∷ [])) (sym p.old_is)
          (subst (λ M. Exchange (blocks_words (p.before ++ (b ∷ p.after))) (blocks_words M) ((b.start, b.size) ∷ []) ((b.start, b.size + 1) ∷ [])) (sym new)
          (exchange-blocks p.before (b ∷ []) (free_block b.start b.size ∷ []) p.after ((b.start, b.size) ∷ []) ((b.start, b.size + 1) ∷ []) one));
      words = sym (given_store-is s v b tiled used);
    }
