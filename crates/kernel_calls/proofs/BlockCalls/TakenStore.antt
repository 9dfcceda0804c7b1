-- A store of the kernel's in which a block is taken, and one in which a block is given back.
use Rattle.std.proofs.Common.{◌≡◌, ℕ, ◌+◌, List, [], ◌∷◌, Some, refl, sym, ap, ◌∙◌, subst, arith}
use Rattle.kernel_lists.specs.OwnedWords.Exchange.{Exchange}
use Rattle.kernel_lists.specs.OwnedWords.Owned.{Pairs, owners}
use Rattle.kernel_lists.proofs.OwnedWords.Exchanges.{exchange-left, exchange-right}
use Rattle.kernel_lists.specs.declared.getvec_chain.pieces.Block.{Block}
use Rattle.kernel_lists.specs.declared.getvec_chain.pieces.Run.{Run}
use Rattle.kernel_lists.specs.GetvecChain.BlockWords.{GiveExchange, TakeExchange, blocks_words, taken_words}
use Rattle.kernel_lists.specs.GetvecChain.Give.{given, given_store}
use Rattle.kernel_lists.specs.GetvecChain.Run.{first_run, need}
use Rattle.kernel_lists.specs.GetvecChain.Take.{IsTaken, taken}
use Rattle.kernel_lists.specs.GetvecChain.Tiling.{blocks_in, used_at}
use Rattle.kernel_lists.proofs.GetvecChain.AfterGive.{after_give}
use Rattle.kernel_lists.proofs.GetvecChain.AfterTake.{after_take}
use Rattle.kernel_lists.proofs.GetvecChain.BlockExchanges.{give-exchange, take-exchange}
use Rattle.kernel_model.specs.KernelRecord.ChangedStore.{IsChanged}
use Rattle.kernel_model.specs.KernelRecord.Changes.{AreUnowned, IsIdleBlock, with_blocks}
use Rattle.kernel_model.specs.KernelRecord.HoldsLists.{HoldsLists}
use Rattle.kernel_model.specs.KernelRecord.Lists.{Lists, address_of_task}
use Rattle.kernel_model.specs.KernelRecord.Owned.{owned}
use Rattle.kernel_model.specs.KernelRecord.ReadsLists.{ReadsLists}
use Rattle.kernel_model.specs.KernelRecord.Root.{root_words}
use Rattle.kernel_model.specs.KernelRecord.ValidBlocks.{HasBlock}
use Rattle.kernel_model.proofs.KernelRecord.ChangedLists.{exchange-owned, owners-exchanged}
use Rattle.kernel_model.proofs.KernelRecord.GivenBlocks.{given-valid}
use Rattle.kernel_model.proofs.KernelRecord.TakenBlocks.{take-valid, taken-block, taken-unowned}
use Rattle.kernel_calls.proofs.CallAnswers.FoundTask.{reads}
use Rattle.kernel_calls.specs.BlockCalls.FreeStore.{with_taken}
use Rattle.kernel_calls.specs.BlockCalls.Freevec.{with_given}

-- an exchange of size words is one of owned words
pub blocks-exchange : (l : Lists) (bs : List Block) (old new : Pairs) → Exchange (blocks_words l.blocks) (blocks_words bs) old new → Exchange (owned l) (owned (with_blocks bs l)) old new
unfolding owned
blocks-exchange l bs old new x = exchange-right (root_words l (address_of_task l l.running)) _ _ old new (exchange-left (blocks_words l.blocks) (blocks_words bs) _ old new x)

-- ---- a take

-- the run, the lists that the store holds afterwards, and the block, of which nobody owns a data word
pub record HasTakenBlock (s t : List ℕ) (l : Lists) (u v : ℕ) : Type 0 where
  pub run : Run
  pub first : first_run (need u) l.blocks ≡ Some run
  pub front : v ≡ run.start + 1
  pub changed : IsChanged s t (with_taken u l) []
  pub block : HasBlock (taken (need u) l.blocks) v u
  pub unowned : AreUnowned (with_taken u l) v (v + u + 1)

pub taken-changed : (s t : List ℕ) (l : Lists) (u v : ℕ) → HoldsLists s l → IsTaken s t u v → HasTakenBlock s t l u v
taken-changed s t l u v h is_taken =
    let r : ReadsLists s l = reads s l h in
    let first : first_run (need u) l.blocks ≡ Some is_taken.run = ap (first_run (need u)) (sym r.blocks) ∙ is_taken.first in
    let x : TakeExchange s t u = take-exchange s t u v r.tiled is_taken in
    let become : blocks_in t ≡ taken (need u) l.blocks = (after_take s t u v r.tiled is_taken).blocks ∙ ap (taken (need u)) r.blocks in
    let words : Exchange (blocks_words l.blocks) (blocks_words (taken (need u) l.blocks)) (blocks_words x.free) (taken_words x.run (need u)) =
    subst (λ bs. Exchange (blocks_words bs) (blocks_words (taken (need u) l.blocks)) (blocks_words x.free) (taken_words x.run (need u))) r.blocks
    (subst (λ bs. Exchange (blocks_words (blocks_in s)) (blocks_words bs) (blocks_words x.free) (taken_words x.run (need u))) become x.exchange)
    in
    record {
      run = is_taken.run;
      first = first;
      front = is_taken.front;
      changed =
          exchange-owned s t l (with_taken u l) (blocks_words x.free) (taken_words x.run (need u)) h (take-valid l u h.valid) refl
          (blocks-exchange l (taken (need u) l.blocks) (blocks_words x.free) (taken_words x.run (need u)) words) x.words;
      block = subst (λ a. HasBlock (taken (need u) l.blocks) a u) (sym is_taken.front) (taken-block l u is_taken.run h.valid first);
      unowned = λ a low high.
          taken-unowned l u is_taken.run h.valid first a (omega (arith, low, is_taken.front)) (omega (arith, high, is_taken.front));
    }

-- ---- a give

module _ (s : List ℕ) (l : Lists) (v : ℕ) (h : HoldsLists s l) (idle : IsIdleBlock l v) where
  r : ReadsLists s l
  r = reads s l h

  used : used_at v (blocks_in s) ≡ Some idle.block
  used = ap (used_at v) r.blocks ∙ idle.used

  x : GiveExchange s (given_store s v) idle.block
  x = give-exchange s v idle.block r.tiled used

  abbrev old : Pairs
  old = (idle.block.start, idle.block.size) ∷ []

  abbrev new : Pairs
  new = (idle.block.start, idle.block.size + 1) ∷ []

  given-exchange : Exchange (owned l) (owned (with_given v l)) old new
  given-exchange =
      let become : blocks_in (given_store s v) ≡ given v l.blocks = (after_give s (given_store s v) v idle.block r.tiled used refl).blocks ∙ ap (given v) r.blocks in
      blocks-exchange l (given v l.blocks) old new
      (subst (λ bs. Exchange (blocks_words bs) (blocks_words (given v l.blocks)) old new) r.blocks
      (subst (λ bs. Exchange (blocks_words (blocks_in s)) (blocks_words bs) old new) become x.exchange))

  pub given-changed : IsChanged s (given_store s v) (with_given v l) []
  given-changed = exchange-owned s (given_store s v) l (with_given v l) old new h (given-valid l v h.valid idle) refl given-exchange x.words

  -- the same words are owned
  pub given-owners : (a : ℕ) → owners a (owned (with_given v l)) ≡ owners a (owned l)
  given-owners a = sym (owners-exchanged (owned l) (owned (with_given v l)) old new a given-exchange refl)
