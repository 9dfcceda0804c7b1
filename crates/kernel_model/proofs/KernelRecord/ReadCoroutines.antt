-- The coroutines of a task of valid lists are in a store that holds its words.
use Rattle.std.proofs.Common.{◌≡◌, ◌⊎◌, inl, inr, ℕ, ◌+◌, ◌<◌, ◌≤◌, List, [], ◌++◌, map, false, ap, ◌∙◌, arith}
use Rattle.std.specs.List.{range_with_len}
use Rattle.std.proofs.lemmas.Bool.{false_from_ne_true}
use Rattle.word_store.specs.Count.{times}
use Rattle.kernel_lists.specs.LinkedList.Places.{has}
use Rattle.word_store.proofs.Counts.{times-within}
use Rattle.kernel_lists.proofs.LinkedList.Members.{one-member}
use Rattle.kernel_lists.specs.OwnedWords.Owned.{AreApart, AreInside, Holds, Pairs, owners}
use Rattle.kernel_lists.proofs.OwnedWords.HeldLists.{held-count}
use Rattle.kernel_lists.proofs.OwnedWords.OwnedWords.{Holds-left, Holds-right}
use Rattle.kernel_lists.specs.GetvecChain.Block.{used_block}
use Rattle.kernel_lists.specs.GetvecChain.Run.{need}
use Rattle.kernel_lists.specs.GetvecChain.Tiling.{IsTiled, blocks_in, used_at}
use Rattle.kernel_lists.specs.PacketQueue.QueueWords.{queue_words}
use Rattle.kernel_lists.specs.TaskBlock.Lists.{coroutine_link}
use Rattle.kernel_lists.specs.Coroutines.CoroutineExchanges.{HoldsCoroutines, words_of_coroutines}
use Rattle.kernel_lists.specs.Coroutines.CoroutineWords.{coroutine_size}
use Rattle.kernel_lists.specs.Coroutines.HeldCoroutines.{Coroutine, HasCoroutineBlock, address_of, coroutine_words}
use Rattle.kernel_lists.proofs.Coroutines.HeldCoroutineLists.{are_coroutines}
use Rattle.kernel_model.specs.KernelRecord.Lists.{Lists}
use Rattle.kernel_model.specs.KernelRecord.Task.{Task, fault_words, name_words, queue_head, state_words, task_words}
use Rattle.kernel_model.specs.KernelRecord.ValidTasks.{AreValidCoroutines, IsCoroutine}
use Rattle.kernel_model.proofs.KernelRecord.EachMember.{all-each}
use Rattle.kernel_model.proofs.KernelRecord.TaskKind.{frames_of, owners-whole, owners-task}
use Rattle.kernel_model.proofs.KernelRecord.TaskPlaces.{TaskPlace}

-- the words of a task's queue and of its coroutines
pub record HoldsTask (s : List ℕ) (version : ℕ) (t : Task) : Type 0 where
  pub names : Holds s (name_words t)
  pub state : Holds s (state_words version t)
  pub fault : Holds s (fault_words version t)
  pub queue : Holds s (queue_words (queue_head t.address) t.queue)
  pub coroutines : Holds s (words_of_coroutines t.address t.coroutines)

pub holds-task : (s : List ℕ) (version : ℕ) (t : Task) (n : ℕ) → Holds s (task_words version t n) → HoldsTask s version t
holds-task s version t n h =
    let queue : Pairs = queue_words (queue_head t.address) t.queue in
    let frames : Pairs = words_of_coroutines t.address t.coroutines in
    let others : Pairs = fault_words version t ++ (queue ++ frames) in
    let in_state = Holds-right s (name_words t) (state_words version t ++ others) h.1 in
    let in_others = Holds-right s (state_words version t) others in_state in
    let last = Holds-right s (fault_words version t) (queue ++ frames) in_others in
    record {
      names = Holds-left s (name_words t) (state_words version t ++ others) h.1;
      state = Holds-left s (state_words version t) others in_state;
      fault = Holds-left s (fault_words version t) (queue ++ frames) in_others;
      queue = Holds-left s queue frames last;
      coroutines = Holds-right s queue frames last;
    }

-- no coroutine is where its task's words begin
elsewhere : (t : Task) → ((a : ℕ) → times a (range_with_len t.address 23) + owners a (frames_of t) ≤ 1) → has t.address (map address_of t.coroutines.list) ≡ false
elsewhere t apart =
    let cs : List ℕ = map address_of t.coroutines.list in
    false_from_ne_true (has t.address cs) (λ some.
    absurd (omega (
      arith,
      apart t.address,
      times-within t.address t.address 23 (omega arith) (omega arith),
      times-within t.address t.address 10 (omega arith) (omega arith),
      one-member coroutine_size t.address t.address cs some,
      held-count address_of (coroutine_words t.address t.coroutines.active) coroutine_link coroutine_size (are_coroutines [] t.address t.coroutines.active) t.address t.coroutines.list 0,
    )))

coroutine-block : (s : List ℕ) (l : Lists) → blocks_in s ≡ l.blocks → (c : Coroutine) → IsCoroutine l c → HasCoroutineBlock s c
coroutine-block s l same c is = record { start = is.block.start; here = is.block.here; block = ap (used_at c.address) same ∙ is.block.block; high = is.high }

pub read-coroutines : (s : List ℕ) (l : Lists) (t : Task) (n : ℕ) → IsTiled s → blocks_in s ≡ l.blocks → Holds s (task_words l.version t n) → AreApart (task_words l.version t n)
    → AreInside s (task_words l.version t n) → TaskPlace l t → AreValidCoroutines l t → HoldsCoroutines s t.address t.coroutines
read-coroutines s l t n tiled same h apart inside p valid-coroutines =
    let words = (holds-task s l.version t n h).coroutines in
    let own : (a : ℕ) → times a (range_with_len t.address 23) + owners a (frames_of t) ≤ 1 = λ a. omega (arith, apart a, owners-whole a l.version t n) in
    record {
      coroutines =
          record {
            tiled = tiled;
            task =
                record {
                  first = p.first;
                  block = used_block p.block.start (need p.last);
                  used = ap (used_at p.first) same ∙ p.block.block;
                  low = p.low;
                  high = omega (arith, p.high, p.block.here);
                };
            elsewhere = on p.elsewhere (elsewhere t own);
            held =
                record {
                  holds = words.1.1.1;
                  apart = λ a. omega (arith, apart a, owners-task a l.version t n);
                  inside = λ a some. inside a (omega (arith, some, owners-task a l.version t n));
                  some = all-each (IsCoroutine l) (λ c. 0 < c.address) (λ c is. omega (arith, is.block.here)) t.coroutines.list valid-coroutines.each;
                };
            apart = own;
            current = words.0;
            blocks = all-each (IsCoroutine l) (HasCoroutineBlock s) (coroutine-block s l same) t.coroutines.list valid-coroutines.each;
            members = valid-coroutines.members;
            distinct = valid-coroutines.distinct;
          };
      root_p = words.1.0;
      root_pc = words.1.1.0;
    }
  where
    on : (p.first ≡ t.address) ⊎ (t.coroutines.list ≡ []) → has t.address (map address_of t.coroutines.list) ≡ false → has p.first (map address_of t.coroutines.list) ≡ false
    on (inl e) none = ap (λ z. has z (map address_of t.coroutines.list)) e ∙ none
    on (inr e) none = ap (λ cs. has p.first (map address_of cs)) e
