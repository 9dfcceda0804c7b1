-- Queues whose words were claimed are there, and each packet lies in one used block.
use Rattle.std.proofs.Common.{◌≡◌, ℕ, zero, suc, ◌+◌, ◌-◌, ◌<◌, ◌≤◌, true, List, [], ◌∷◌, cond, length, refl, sym, ap, subst, arith}
use Rattle.std.specs.List.{AllByRecursion, flat_map, range_with_len}
use Rattle.word_store.specs.Count.{times, words_of}
use Rattle.word_store.proofs.Counts.{IsApart-cons, times-append, times-within, times-words_more}
use Rattle.kernel_lists.specs.LinkedList.Chain.{IsChain}
use Rattle.kernel_lists.specs.LinkedList.Linked.{IsNode}
use Rattle.kernel_lists.specs.GetvecChain.Tiling.{Follow, blocks_in}
use Rattle.kernel_lists.proofs.GetvecChain.Tilings.{IsTiled-inside}
use Rattle.kernel_lists.specs.PacketQueue.Queue.{link_of, packet_size, queue_at}
use Rattle.kernel_lists.specs.TaskBlock.TaskChain.{tasks_in}
use Rattle.kernel_model.specs.KernelRecord.KernelRanges.{has_residents, task_size_in}
use Rattle.kernel_model.specs.KernelRecord.Owned.{clock_head, keyboard_head, output_head}
use Rattle.kernel_model.specs.KernelRecord.Task.{queue_head}
use Rattle.kernel_model.specs.KernelRecord.ValidBlocks.{AreData}
use Rattle.kernel_model.proofs.KernelRecord.BlockStarts.{Tiles-Follow}
use Rattle.store_claims.specs.ListClaims.BlockData.{is_used_data}
use Rattle.store_claims.specs.ListClaims.ListEnds.{TaskListsEnd}
use Rattle.store_claims.specs.ListClaims.ListWords.{all_words, chain_words, console_rest, console_words, coroutine_words_at, device_rest, keyboard_rest, module_rest, module_words_in, output_rest, packet_rest, queue_words_at, resident_words_in, task_list_words, task_rest}
use Rattle.store_claims.proofs.ListClaims.ListAnswers.{task-size}
use Rattle.store_claims.proofs.AdoptionLaw.BlockData.{LiesInData, lies-in-data, one-block}
use Rattle.store_claims.proofs.AdoptionLaw.ClaimableStore.{counted}
use Rattle.kernel_check.specs.ListPasses.ClaimedStore.{IsClaimed}
use Rattle.kernel_check.specs.Private.ClaimedQueue.{IsClaimedQueue}
use Rattle.kernel_check.proofs.ListPasses.CoroutineWalks.{the-blocks}

module _ (s : List ℕ) (c : IsClaimed s) where
  -- ---- the words of all lists

  all-once : (a : ℕ) → times a (all_words s) ≤ 1
  all-once a = omega (arith, counted s a c.claims.ends.lengths, c.claims.once a)

  all-used : (a : ℕ) → 0 < times a (all_words s) → is_used_data a (blocks_in s) ≡ true
  all-used a some = c.claims.used a (omega (arith, some, counted s a c.claims.ends.lengths))

  follow : Follow 200 (blocks_in s) (length s - 2)
  follow = Tiles-Follow s 200 (blocks_in s) (length s - 2) c.tiled (omega (arith, IsTiled-inside s c.tiled))

  data-at : (a : ℕ) → 0 < times a (all_words s) → LiesInData 200 (length s - 2) (blocks_in s) a
  data-at a some = lies-in-data 200 (blocks_in s) (length s - 2) a follow (all-used a some)

  -- the words of some lists, of which none meets another
  lists-few : (a : ℕ) → times a (chain_words s) + times a (flat_map (task_list_words s) (tasks_in s))
      + times a (queue_words_at s clock_head) + times a (queue_words_at s keyboard_head) + times a (queue_words_at s output_head) + times a (resident_words_in s)
      ≤ times a (all_words s)
  lists-few a = omega (
    arith,
    times-append a (chain_words s) (module_rest s),
    times-append a (module_words_in s) (task_rest s),
    times-append a (flat_map (task_list_words s) (tasks_in s)) (device_rest s),
    times-append a (queue_words_at s clock_head) (keyboard_rest s),
    times-append a (queue_words_at s keyboard_head) (output_rest s),
    times-append a (queue_words_at s output_head) (resident_words_in s),
  )

  -- ---- one queue

  lodged-in : (ps : List ℕ) → ((a : ℕ) → times a (words_of packet_size ps) ≤ times a (all_words s)) → AllByRecursion (λ p. AreData (blocks_in s) p 5) ps
  lodged-in [] few = tt
  lodged-in (p ∷ ps) few = (
    one-block 200 (blocks_in s) (length s - 2) p 5 follow (omega arith)
        (λ a low high. all-used a (omega (arith, few a, times-words_more packet_size a p ps, times-within a p 5 low high))),
    lodged-in ps (λ a. omega (arith, few a, times-words_more packet_size a p ps)),
  )

  nodes-in : (ps : List ℕ) → ((a : ℕ) → times a (words_of packet_size ps) ≤ times a (all_words s)) → AllByRecursion (IsNode s link_of packet_size) ps
  nodes-in [] few = tt
  nodes-in (p ∷ ps) few =
      let low : LiesInData 200 (length s - 2) (blocks_in s) p = data-at p (omega (arith, few p, times-words_more packet_size p p ps, times-within p p 5 (omega arith) (omega arith))) in
      let high : LiesInData 200 (length s - 2) (blocks_in s) (p + 4) =
      data-at (p + 4) (omega (arith, few (p + 4), times-words_more packet_size (p + 4) p ps, times-within (p + 4) p 5 (omega arith) (omega arith)))
      in
      (record { some = omega (arith, low.low); after = omega arith; before = omega arith; inside = omega (arith, high.high) }, nodes-in ps (λ a. omega (arith, few a, times-words_more packet_size a p ps)))

  claimed-queue : (head : ℕ) → ((a : ℕ) → times a (queue_words_at s head) ≤ times a (all_words s)) → IsChain s link_of head (queue_at s head) → head < length s → times head (queue_words_at s head) ≡ 0
      → IsClaimedQueue s head
  claimed-queue head few chain inside none = record {
    queue = record {
      chain = chain;
      nodes = nodes-in (queue_at s head) few;
      head_inside = inside;
      apart = IsApart-cons head (queue_words_at s head) none (λ a. omega (arith, few a, all-once a));
    };
    lodged = subst (λ bs. AllByRecursion (λ p. AreData bs p 5) (queue_at s head)) (sym (the-blocks s)) (lodged-in (queue_at s head) few);
  }

  -- a head that is no data of a block
  root-queue : (head : ℕ) → ((a : ℕ) → times a (queue_words_at s head) ≤ times a (all_words s)) → IsChain s link_of head (queue_at s head) → head ≤ 200 → IsClaimedQueue s head
  root-queue head few chain low = claimed-queue head few chain (omega (arith, low, IsTiled-inside s c.tiled)) none
    where
      none : times head (queue_words_at s head) ≡ 0
      none = on (times head (queue_words_at s head)) refl
        where
          on : (k : ℕ) → times head (queue_words_at s head) ≡ k → times head (queue_words_at s head) ≡ 0
          on zero e = e
          on (suc k) e = absurd (omega (arith, low, (data-at head (omega (arith, few head, e))).low))

  -- ---- the queues of devices

  pub clock-queue : IsClaimedQueue s 105
  clock-queue = root-queue 105 (λ a. omega (arith, lists-few a)) c.claims.ends.clock (omega arith)

  pub keyboard-queue : IsClaimedQueue s 106
  keyboard-queue = root-queue 106 (λ a. omega (arith, lists-few a)) c.claims.ends.keyboard (omega arith)

  pub output-queue : IsClaimedQueue s 107
  output-queue = root-queue 107 (λ a. omega (arith, lists-few a)) c.claims.ends.output (omega arith)

  -- ---- the reads that wait for a line

  console-few : has_residents s ≡ true → (a : ℕ) → times a (range_with_len 270 1) + times a (queue_words_at s 270) ≤ times a (all_words s)
  console-few there a = omega (
    arith,
    lists-few a,
    ap (λ b. times a (cond b (console_words s) [])) there,
    times-append a (range_with_len 270 1) (console_rest s),
    times-append a (queue_words_at s 270) (packet_rest s),
  )

  pub pending-queue : has_residents s ≡ true → IsClaimedQueue s 270
  pending-queue there =
      let one : times 270 (range_with_len 270 1) ≡ 1 = times-within 270 270 1 (omega arith) (omega arith) in
      claimed-queue 270 (λ a. omega (arith, console-few there a)) (c.claims.ends.pending there) (omega (arith, (data-at 270 (omega (arith, console-few there 270, one))).high))
      (omega (arith, one, console-few there 270, all-once 270))

  -- ---- the work queues

  task-queues : (ts : List ℕ) → ((a : ℕ) → times a (words_of (task_size_in s) ts) ≤ times a (chain_words s))
      → ((a : ℕ) → times a (flat_map (task_list_words s) ts) ≤ times a (flat_map (task_list_words s) (tasks_in s)))
      → AllByRecursion (TaskListsEnd s) ts → AllByRecursion (λ t. IsClaimedQueue s (queue_head t)) ts
  task-queues [] heads lists ends = tt
  task-queues (t ∷ ts) heads lists ends =
      let own : (a : ℕ) → times a (queue_words_at s (queue_head t)) ≤ times a (flat_map (task_list_words s) (tasks_in s)) =
      λ a. omega (arith, lists a, times-append a (task_list_words s t) (flat_map (task_list_words s) ts), times-append a (queue_words_at s (queue_head t)) (coroutine_words_at s t))
      in
      let head : 1 ≤ times (t + 3) (chain_words s) =
      omega (arith, heads (t + 3), times-words_more (task_size_in s) (t + 3) t ts, times-within (t + 3) t (task_size_in s t) (omega arith) (omega (arith, task-size s t)))
      in (
        claimed-queue (queue_head t) (λ a. omega (arith, own a, lists-few a)) ends.0.queue (omega (arith, (data-at (t + 3) (omega (arith, head, lists-few (t + 3)))).high))
            (omega (arith, head, own (t + 3), lists-few (t + 3), all-once (t + 3))),
        task-queues ts (λ a. omega (arith, heads a, times-words_more (task_size_in s) a t ts))
            (λ a. omega (arith, lists a, times-append a (task_list_words s t) (flat_map (task_list_words s) ts))) ends.1,
      )

  pub work-queues : AllByRecursion (λ t. IsClaimedQueue s (queue_head t)) (tasks_in s)
  work-queues = task-queues (tasks_in s) (λ a. omega arith) (λ a. omega arith) c.claims.ends.tasks

  -- ---- task blocks

  some-in : (ts : List ℕ) → ((a : ℕ) → times a (words_of (task_size_in s) ts) ≤ times a (chain_words s)) → AllByRecursion (λ t. 0 < t) ts
  some-in [] few = tt
  some-in (t ∷ ts) few =
      let here : 1 ≤ times t (chain_words s) = omega (arith, few t, times-words_more (task_size_in s) t t ts, times-within t t (task_size_in s t) (omega arith) (omega (arith, task-size s t))) in
      (omega (arith, (data-at t (omega (arith, here, lists-few t))).low), some-in ts (λ a. omega (arith, few a, times-words_more (task_size_in s) a t ts)))

  -- no task block is at 0
  pub some-tasks : AllByRecursion (λ t. 0 < t) (tasks_in s)
  some-tasks = some-in (tasks_in s) (λ a. omega arith)
