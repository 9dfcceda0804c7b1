-- What a create and a delete exchange of the words that coroutines and blocks own.
use Rattle.std.proofs.Common.{◌≡◌, ℕ, ◌+◌, List, [], ◌∷◌, ◌++◌, get_or, map, set, Bool, true, false, Some, None, Ok, refl, sym, ap, ◌∙◌}
use Rattle.kernel_lists.specs.LinkedList.Places.{has}
use Rattle.word_store.proofs.Elements.{all-back}
use Rattle.kernel_lists.proofs.LinkedList.AllMembers.{all-has}
use Rattle.kernel_lists.specs.declared.getvec_chain.pieces.Block.{Block}
use Rattle.kernel_lists.specs.GetvecChain.Tiling.{used_at}
use Rattle.kernel_lists.proofs.GetvecChain.AfterTake.{AfterTake, after_take}
use Rattle.kernel_lists.proofs.GetvecChain.BlockExchanges.{give-exchange, take-exchange}
use Rattle.kernel_lists.proofs.GetvecChain.Writes.{SameBlocks}
use Rattle.kernel_lists.specs.OwnedWords.LinkedWords.{first_of}
use Rattle.kernel_lists.specs.OwnedWords.Owned.{Pairs, row_from, written}
use Rattle.kernel_lists.proofs.OwnedWords.Exchanges.{exchange-insert, exchange-remove, exchange-right}
use Rattle.kernel_lists.proofs.OwnedWords.HeldLists.{held-without_node}
use Rattle.kernel_lists.proofs.OwnedWords.RowWords.{with_words-written}
use Rattle.kernel_lists.specs.TaskBlock.Lists.{coroutine_link}
use Rattle.kernel_lists.specs.Coroutines.CoroutineExchanges.{CreateExchange, DeleteExchange, HoldsCoroutines, TaskCoroutines, created_words, new_coroutine, with_list}
use Rattle.kernel_lists.specs.Coroutines.CoroutineWords.{coroutine_size}
use Rattle.kernel_lists.specs.Coroutines.Creation.{IsCreated, deleted, highest, new_words}
use Rattle.kernel_lists.specs.Coroutines.HeldCoroutines.{Coroutine, HasCoroutineBlock, address_of, coroutine_words}
use Rattle.kernel_lists.specs.Coroutines.Refusals.{idle_answer}
use Rattle.kernel_lists.proofs.Coroutines.CoroutineLists.{Built}
use Rattle.kernel_lists.proofs.Coroutines.Deletion.{unlinked, unlinked-blocks}
use Rattle.kernel_lists.proofs.Coroutines.HeldCoroutineLists.{are_coroutines, held-coroutines, parent_of-none}
use Rattle.kernel_lists.proofs.Coroutines.IdleAnswer.{idle}
use Rattle.kernel_lists.proofs.Coroutines.KnownCoroutines.{known-block}

-- the words of the task before the head of its list
abbrev switching : ℕ → TaskCoroutines → Pairs
switching t k = (t + 18, first_of (λ c. c) k.active 0) ∷ (t + 19, k.root_p) ∷ (t + 20, k.root_pc) ∷ []

pub create-exchange : (s v : List ℕ) (t : ℕ) (k : TaskCoroutines) (c entry u : ℕ) → HoldsCoroutines s t k → IsCreated s v t c entry u → CreateExchange s v t k c entry u
create-exchange s v t k c entry u h made =
    let x : Coroutine = new_coroutine c entry u in
    let next : ℕ = first_of address_of k.list 0 in
    let words : written (created_words t k c entry u) made.taken ≡ set (written (row_from c 0 (new_words c (get_or s (t + 17) 0) entry u)) made.taken) (t + 17) c =
    ap (λ z. set (written (row_from c 0 ((c + 7) ∷ z ∷ next ∷ entry ∷ highest u ∷ c ∷ entry ∷ 0 ∷ 0 ∷ entry ∷ [])) made.taken) (t + 17) c) (parent_of-none t k.active c is_new)
    ∙ ap (λ z. set (written (row_from c 0 (new_words c z entry u)) made.taken) (t + 17) c) (sym h.coroutines.held.holds.0)
    in
    record {
      taken = made.taken;
      block = take-exchange s made.taken (highest u) c h.coroutines.tiled made.block;
      exchange =
          exchange-right (switching t k) _ _ _ _
          (exchange-insert address_of (λ y. y.address + 2) (coroutine_words t k.active) (are_coroutines s t k.active).links (t + 17) [] x k.list 0);
      writes =
          made.words ∙ ap (λ z. set z (t + 17) c) (with_words-written made.taken c (new_words c (get_or s (t + 17) 0) entry u)) ∙ sym words;
    }
  where
    built-lists : Built s t (map address_of k.list) k.active
    built-lists = held-coroutines s t k.active k.list h.coroutines

    after : AfterTake s made.taken (highest u) c
    after = after_take s made.taken (highest u) c h.coroutines.tiled made.block

    some-none : {b : Block} → Some b ≡ None → ⊥
    some-none e = cc

    is_new : has c k.active ≡ false
    is_new = on (has c k.active) refl
      where
        on : (b : Bool) → has c k.active ≡ b → b ≡ false
        on false e = refl
        on true e =
            absurd (some-none (sym (known-block s t c built-lists.valid (ap (has c) built-lists.list ∙ all-has (λ a. has a (map address_of k.list) ≡ true) c k.active h.coroutines.members e)).block ∙ after.was_none))

pub delete-exchange : (s : List ℕ) (t : ℕ) (k : TaskCoroutines) (front : List Coroutine) (x : Coroutine) (back : List Coroutine) → HoldsCoroutines s t (with_list (front ++ x ∷ back) k)
    → idle_answer s t x.address ≡ Ok tt → DeleteExchange s (deleted s t x.address) t k front x back
delete-exchange s t k front x back h answer =
    let built-lists : Built s t (map address_of (front ++ x ∷ back)) k.active = held-coroutines s t k.active (front ++ x ∷ back) h.coroutines in
    let block : HasCoroutineBlock s x = (all-back (HasCoroutineBlock s) front (x ∷ back) h.coroutines.blocks).0 in
    let same : SameBlocks s (unlinked s t x.address) = unlinked-blocks s t x.address built-lists.valid (idle s t x.address tt (sym answer)).known in
    record {
      unlinked = unlinked s t x.address;
      exchange =
          exchange-right (switching t k) _ _ _ _
          (exchange-remove address_of (λ y. y.address + 2) (coroutine_words t k.active) (are_coroutines s t k.active).links (t + 17) front x back 0);
      writes = held-without_node address_of (coroutine_words t k.active) coroutine_link coroutine_size (are_coroutines s t k.active) s (t + 17) front x back h.coroutines.held;
      same_blocks = same.blocks;
      start = block.start;
      here = block.here;
      block = give-exchange (unlinked s t x.address) x.address _ same.tiled (ap (used_at x.address) same.blocks ∙ block.block);
    }
