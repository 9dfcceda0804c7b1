-- A store that stands for a kernel: a word is among the ranges exactly where it is owned.
use Rattle.std.proofs.Common.{◌≡◌, ◌↔◌, ℕ, ◌+◌, ◌-◌, ◌*◌, ◌<◌, ◌≤◌, ◌&&◌, Bool, true, false, not, Option, Some, None, List, [], ◌∷◌, ◌++◌, map, cond, is_some, refl, sym, ap, ◌∙◌, arith}
use Rattle.std.proofs.lemmas.Bool.{false≢true}
use Rattle.std.specs.List.{flat_map, range_with_len}
use Rattle.word_store.specs.Count.{hit, times}
use Rattle.kernel_lists.specs.OwnedWords.Owned.{Pairs, owners}
use Rattle.kernel_lists.proofs.OwnedWords.OwnedWords.{owners-append}
use Rattle.kernel_lists.proofs.OwnedWords.RowWords.{owners-row}
use Rattle.kernel_lists.specs.GetvecChain.Tiling.{blocks_in}
use Rattle.kernel_lists.proofs.HunkLoader.HeldModuleLists.{held-modules}
use Rattle.kernel_lists.specs.PacketQueue.Queue.{no_queue}
use Rattle.kernel_lists.specs.PacketQueue.QueueWords.{HeldQueue, QueuedPacket, queue_words}
use Rattle.kernel_lists.proofs.PacketQueue.HeldQueues.{held-queue}
use Rattle.kernel_lists.specs.TaskBlock.Lists.{modules_in}
use Rattle.kernel_lists.specs.TaskBlock.TaskChain.{tasks_in}
use Rattle.kernel_model.specs.KernelRecord.Lists.{Lists, has_task, is_queued}
use Rattle.kernel_model.specs.KernelRecord.Owned.{clock_head, keyboard_head, output_head, owned}
use Rattle.kernel_model.specs.KernelRecord.Residents.{fault_packet_words, key_arguments, key_words, keyboard, resident_words}
use Rattle.kernel_model.proofs.KernelRecord.CutRanges.{times-cut}
use Rattle.kernel_model.proofs.KernelRecord.RootCounts.{owners-nodes}
use Rattle.kernel_model.specs.KernelRecord.HoldsLists.{HoldsLists}
use Rattle.kernel_model.specs.KernelRecord.KernelRanges.{block_range, console_ranges, device_packets, fault_ranges, is_kernel_word, kernel_ranges, list_ranges, module_ranges, packet_ranges, packets_at, pending_packets, root_ranges, task_ranges, work_packets, words}
use Rattle.kernel_model.proofs.KernelRecord.RangeCounts.{found-hits, hits, hits-append, hits-found}
use Rattle.kernel_model.proofs.KernelRecord.QueuedWords.{packets_words, queued-owned}
use Rattle.kernel_model.proofs.KernelRecord.WalkedLists.{counts-read, reads, reporter-read, residents-read, tasks-read}
use Rattle.kernel_model.proofs.KernelRecord.ListRanges.{hits-blocks, hits-modules, hits-packets, hits-tasks, work_at}

module _ (s : List ℕ) (l : Lists) (i : HoldsLists s l) (a : ℕ) where
  queue-hits : (head : ℕ) (ps : List QueuedPacket) → HeldQueue s head ps → hits a (packets_at s head) ≡ owners a (packets_words ps)
  queue-hits head ps h = ap (λ z. hits a (map (λ p. words p 5) z)) (held-queue s head ps h).list ∙ hits-packets a ps 0

  -- ---- the words of residents: those of a packet that is queued are counted there too

  -- a number of ranges that is no less than one of owned words, and no more than that with what is owned besides
  record IsNear (own ranges : ℕ) : Type 0 where
    low : own ≤ ranges
    high : ranges ≤ own + owners a (owned l)

  no_console : l.residents ≡ false → l.pending ≡ []
  no_console = i.valid.queues.no_console

  key-near : (key : Option ℕ) → l.key ≡ key → l.residents ≡ true → IsNear (owners a (key_words key)) (times a (range_with_len 271 5))
  key-near None e there = record { low = omega arith; high = omega (arith, queued-owned a 271 l no_console (queued (is_queued 271 l) refl)) }
    where
      queued : (q : Bool) → is_queued 271 l ≡ q → is_queued 271 l ≡ true
      queued true is = is
      queued false is = absurd (false≢true (sym (ap is_some e) ∙ (i.valid.queues.key ∙ (λ j. there j && not (is j)))))
  key-near (Some res1) e there =
      let row = owners-row a 271 0 (no_queue ∷ keyboard ∷ 0 ∷ res1 ∷ 0 ∷ []) in
      record { low = omega (arith, row); high = omega (arith, row) }

  fault-near : (r q : Bool) → has_task 2 l.tasks ≡ r → is_queued 310 l ≡ q → IsNear (owners a (fault_packet_words (r && not q))) (hits a (cond r (words 310 5 ∷ []) []))
  fault-near false q e f = record { low = omega arith; high = omega arith }
  fault-near true true e f = record { low = omega arith; high = omega (arith, queued-owned a 310 l no_console f) }
  fault-near true false e f =
      let row = owners-row a 310 0 (no_queue ∷ 0 ∷ 0 ∷ 0 ∷ 0 ∷ []) in
      record { low = omega (arith, row); high = omega (arith, row) }

  fault_hits : ℕ
  fault_hits = hits a (fault_ranges s)

  faults : IsNear (owners a (fault_packet_words l.fault_packet_free)) (hits a (fault_ranges s))
  faults =
      let near = fault-near (has_task 2 l.tasks) (is_queued 310 l) refl refl in
      let own = ap (λ z. owners a (fault_packet_words z)) i.valid.queues.fault in
      let there = ap (λ z. hits a (cond z (words 310 5 ∷ []) [])) (reporter-read s l i) in
      record { low = omega (arith, near.low, own, there); high = omega (arith, near.high, own, there) }

  -- twice as much may come besides, since two packets may be queued
  record ResidentsNear (own ranges : ℕ) : Type 0 where
    low : own ≤ ranges
    high : ranges ≤ own + 2 * owners a (owned l)

  residents-near : (b : Bool) → l.residents ≡ b → ResidentsNear (owners a (resident_words l)) (hits a (console_ranges s) + (hits a (fault_ranges s) + hits a (pending_packets s)))
  residents-near true e =
      let rest : Pairs = key_words l.key ++ (key_arguments ++ fault_packet_words l.fault_packet_free) in
      let own = ap (λ z. owners a (cond z (queue_words 270 l.pending ++ rest) [])) e in
      let there = residents-read s l i ∙ e in
      let console = ap (λ z. hits a (cond z (words 270 9 ∷ []) [])) there in
      let pending = ap (λ z. hits a (cond z (packets_at s 270) [])) there in
      let key = key-near l.key refl e in
      let parts = owners-append a (queue_words 270 l.pending) rest in
      let others = owners-append a (key_words l.key) (key_arguments ++ fault_packet_words l.fault_packet_free) in
      let last = owners-append a key_arguments (fault_packet_words l.fault_packet_free) in
      let arguments = owners-row a 271 5 (0 ∷ 0 ∷ 0 ∷ []) in
      let packets = queue-hits 270 l.pending ((reads s l i).pending e) in
      let cut = times-cut a 270 1 8 271 9 refl refl in
      let behind = times-cut a 271 5 3 276 8 refl refl in
      record {
        low = omega (arith, own, console, pending, key.low, faults.low, parts, others, last, arguments, packets, cut, behind);
        high = omega (arith, own, console, pending, key.high, faults.high, parts, others, last, arguments, packets, cut, behind);
      }
  residents-near false e =
      let rest : Pairs = key_words l.key ++ (key_arguments ++ fault_packet_words l.fault_packet_free) in
      let own = ap (λ z. owners a (cond z (queue_words 270 l.pending ++ rest) [])) e in
      let there = residents-read s l i ∙ e in
      let console = ap (λ z. hits a (cond z (words 270 9 ∷ []) [])) there in
      let pending = ap (λ z. hits a (cond z (packets_at s 270) [])) there in
      let fault = ap (λ z. hits a (cond z (words 310 5 ∷ []) [])) (reporter-read s l i ∙ none (has_task 2 l.tasks) refl) in
      record { low = omega (arith, own, console, pending, fault); high = omega (arith, own, console, pending, fault) }
    where
      none : (r : Bool) → has_task 2 l.tasks ≡ r → has_task 2 l.tasks ≡ false
      none false f = f
      none true f = absurd (false≢true (sym e ∙ i.valid.tasks.reporter f))

  -- ---- all of them

  lists-hits : hits a (list_ranges s)
      ≡ hits a (root_ranges s) + (hits a (map block_range (blocks_in s)) + (hits a (flat_map (task_ranges s) (tasks_in s))
      + (hits a (flat_map (module_ranges s) (modules_in s)) + (hits a (console_ranges s) + hits a (fault_ranges s)))))
  unfolding list_ranges
  lists-hits =
      let last = console_ranges s ++ fault_ranges s in
      let modules = flat_map (module_ranges s) (modules_in s) ++ last in
      let tasks = flat_map (task_ranges s) (tasks_in s) ++ modules in
      omega (
        arith,
        hits-append a (root_ranges s) (map block_range (blocks_in s) ++ tasks),
        hits-append a (map block_range (blocks_in s)) tasks,
        hits-append a (flat_map (task_ranges s) (tasks_in s)) modules,
        hits-append a (flat_map (module_ranges s) (modules_in s)) last,
        hits-append a (console_ranges s) (fault_ranges s),
      )

  packets-hits : hits a (packet_ranges s)
      ≡ hits a (work_packets s) + (hits a (packets_at s clock_head) + (hits a (packets_at s keyboard_head) + (hits a (packets_at s output_head) + hits a (pending_packets s))))
  unfolding packet_ranges
  packets-hits =
      omega (
        arith,
        hits-append a (work_packets s) (device_packets s),
        hits-append a (packets_at s clock_head) (packets_at s keyboard_head ++ (packets_at s output_head ++ pending_packets s)),
        hits-append a (packets_at s keyboard_head) (packets_at s output_head ++ pending_packets s),
        hits-append a (packets_at s output_head) (pending_packets s),
      )

  all-near : ResidentsNear (owners a (owned l)) (hits a (kernel_ranges s))
  all-near =
      let r = reads s l i in
      let near = residents-near l.residents refl in
      let modules = held-modules s l.modules r.modules in
      let chain = r.tasks.chain in
      let tasks = ap (λ z. hits a (flat_map (task_ranges s) z) + hits a (flat_map (work_at s) z)) chain in
      let mods = ap (λ z. hits a (flat_map (module_ranges s) z)) modules.list in
      let blocks = ap (λ z. hits a (map block_range z)) r.blocks in
      let end = ap (λ z. hit a (z - 2)) i.size in
      let all = owners-nodes a l in
      let both = hits-append a (list_ranges s) (packet_ranges s) in
      let own_tasks = hits-tasks a s l.version l.tasks 0 (tasks-read s l i) in
      let own_modules = hits-modules a s l.modules 0 (counts-read s l i) in
      let own_blocks = hits-blocks a l.blocks in
      let clock = queue-hits clock_head l.clock r.clock in
      let keyboard = queue-hits keyboard_head l.keyboard r.keyboard in
      let output = queue-hits output_head l.output r.output in
      record {
        low = omega (arith, near.low, lists-hits, packets-hits, tasks, mods, blocks, end, all, both, own_tasks, own_modules, own_blocks, clock, keyboard, output);
        high = omega (arith, near.high, lists-hits, packets-hits, tasks, mods, blocks, end, all, both, own_tasks, own_modules, own_blocks, clock, keyboard, output);
      }

  pub ranges-owned : (is_kernel_word s a ≡ true) ↔ (0 < owners a (owned l))
  ranges-owned = (
    λ found. omega (arith, found-hits a (kernel_ranges s) found, all-near.high),
    λ some. hits-found a (kernel_ranges s) (omega (arith, some, all-near.low)),
  )
