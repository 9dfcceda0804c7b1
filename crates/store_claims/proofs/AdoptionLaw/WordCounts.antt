-- How often an address is among the words of the lists, and how often it is owned.
use Rattle.std.proofs.Common.{◌≡◌, ℕ, ◌+◌, ◌-◌, ◌&&◌, Bool, true, false, Some, None, List, [], ◌∷◌, cond, eqb, get_or, length, map, refl, sym, ap, ◌∙◌, arith}
use Rattle.std.specs.List.{AllByRecursion, flat_map, range_with_len}
use Rattle.word_store.specs.Count.{times, words_of}
use Rattle.word_store.proofs.Counts.{times-append, times-words_more}
use Rattle.kernel_lists.specs.OwnedWords.LinkedWords.{first_of, linked_words}
use Rattle.kernel_lists.specs.OwnedWords.Owned.{owners}
use Rattle.kernel_lists.proofs.OwnedWords.OwnedWords.{owners-append}
use Rattle.kernel_lists.proofs.OwnedWords.RowWords.{owners-row}
use Rattle.kernel_lists.specs.HunkLoader.HeldModules.{module_address, module_words}
use Rattle.kernel_lists.specs.HunkLoader.ModuleHunks.{hunk_count, lengths_in}
use Rattle.kernel_lists.specs.PacketQueue.Queue.{no_queue, packet_size, queue_at}
use Rattle.kernel_lists.specs.PacketQueue.QueueWords.{address_of, packet_words}
use Rattle.kernel_lists.specs.TaskBlock.Lists.{coroutines_in}
use Rattle.kernel_lists.specs.TaskBlock.TaskChain.{id_in}
use Rattle.kernel_lists.specs.Coroutines.HeldCoroutines.{address_of as coroutine_address}
use Rattle.kernel_lists.specs.Coroutines.CoroutineWords.{coroutine_size}
use Rattle.kernel_model.specs.KernelRecord.BlockUse.{coroutine_addresses}
use Rattle.kernel_model.specs.KernelRecord.KernelRanges.{IsModuleIn, task_size_in}
use Rattle.kernel_model.specs.KernelRecord.Recovered.{coroutine_in, module_in, packet_in, packets_at, task_in}
use Rattle.kernel_model.specs.KernelRecord.Residents.{fault_packet_words, key_words}
use Rattle.kernel_model.specs.KernelRecord.Task.{is_guest_id, queue_head, task_address, task_words}
use Rattle.kernel_model.specs.KernelRecord.Versions.{head_words_of}
use Rattle.kernel_model.proofs.KernelRecord.CutRanges.{times-cut}
use Rattle.kernel_model.proofs.KernelRecord.OwnerCounts.{packets_count}
use Rattle.kernel_model.proofs.KernelRecord.QueueCounts.{owners-packet}
use Rattle.kernel_model.proofs.KernelRecord.RootCounts.{head-low}
use Rattle.kernel_model.proofs.KernelRecord.TaskCounts.{further_count, owners-task_by}
use Rattle.store_claims.proofs.AdoptionLaw.HeldChains.{IsRow, range-row}
use Rattle.store_claims.specs.ListClaims.ListWords.{coroutine_words_at, free_packet, module_size_in, queue_words_at, task_list_words}

-- ---- packets

pub count-packets : (a : ℕ) (s : List ℕ) (ps : List ℕ) (end : ℕ) → times a (words_of packet_size ps) ≡ owners a (linked_words address_of packet_words (map (packet_in s) ps) end)
count-packets a s [] end = refl
count-packets a s (p ∷ ps) end =
    let next : ℕ = first_of address_of (map (packet_in s) ps) end in
    omega (
      arith,
      count-packets a s ps end,
      times-words_more packet_size a p ps,
      owners-packet a (packet_in s p) next,
      owners-append a (packet_words (packet_in s p) next) (linked_words address_of packet_words (map (packet_in s) ps) end),
    )

pub count-queue : (a : ℕ) (s : List ℕ) (head : ℕ) → times a (queue_words_at s head) ≡ packets_count a (packets_at s head)
count-queue a s head = count-packets a s (queue_at s head) 0

-- ---- tasks

pub map-coroutines : (s : List ℕ) (cs : List ℕ) → map coroutine_address (map (coroutine_in s) cs) ≡ cs
map-coroutines s [] = refl
map-coroutines s (c ∷ cs) = ap (λ z. c ∷ z) (map-coroutines s cs)

-- the words of a task block
size-cut : (a : ℕ) (s : List ℕ) (t : ℕ) → times a (range_with_len t (task_size_in s t)) ≡ times a (range_with_len t 23) + times a (range_with_len (t + 23) (further_count (get_or s 111 0) (id_in s t)))
size-cut a s t = times-cut a t 23 (further_count (get_or s 111 0) (id_in s t)) (t + 23) (task_size_in s t) refl (sizes (is_guest_id (id_in s t)))
  where
    sizes : (g : Bool) → 23 + cond g (head_words_of (get_or s 111 0) - 23) 0 ≡ cond g (head_words_of (get_or s 111 0)) 23
    sizes true = omega (arith, head-low (get_or s 111 0))
    sizes false = refl

pub count-tasks : (a : ℕ) (s : List ℕ) (ts : List ℕ) (end : ℕ) → times a (words_of (task_size_in s) ts) + times a (flat_map (task_list_words s) ts)
    ≡ owners a (linked_words task_address (task_words (get_or s 111 0)) (map (task_in s) ts) end)
count-tasks a s [] end = refl
count-tasks a s (t ∷ ts) end =
    let version : ℕ = get_or s 111 0 in
    let next : ℕ = first_of task_address (map (task_in s) ts) end in
    let here : coroutine_addresses (task_in s t) ≡ coroutines_in s t = map-coroutines s (coroutines_in s t) in
    let frames : times a (words_of coroutine_size (coroutine_addresses (task_in s t))) ≡ times a (coroutine_words_at s t) = ap (λ cs. times a (words_of coroutine_size cs)) here in
    omega (
      arith,
      count-tasks a s ts end,
      times-words_more (task_size_in s) a t ts,
      size-cut a s t,
      times-append a (task_list_words s t) (flat_map (task_list_words s) ts),
      times-append a (queue_words_at s (queue_head t)) (coroutine_words_at s t),
      count-queue a s (queue_head t),
      frames,
      owners-task_by a version (task_in s t) next,
      owners-append a (task_words version (task_in s t) next) (linked_words task_address (task_words version) (map (task_in s) ts) end),
    )

-- ---- modules

pub count-modules : (a : ℕ) (s : List ℕ) (ms : List ℕ) (end : ℕ) → AllByRecursion (IsModuleIn s) ms
    → times a (words_of (module_size_in s) ms) ≡ owners a (linked_words module_address module_words (map (module_in s) ms) end)
count-modules a s [] end all = refl
count-modules a s (m ∷ ms) end all =
    let next : ℕ = first_of module_address (map (module_in s) ms) end in
    let h : ℕ = hunk_count s m in
    let ls : List ℕ = lengths_in s m in
    let row : IsRow s m 2 h ls = range-row s m 2 h all.0 in
    omega (
      arith,
      count-modules a s ms end all.1,
      times-words_more (module_size_in s) a m ms,
      owners-row a m 1 (length ls ∷ ls),
      times-cut a m 1 (1 + h) (m + 1) (2 + h) refl (omega arith),
      (let same : length (length ls ∷ ls) ≡ 1 + h = omega (arith, row.size) in ap (λ z. times a (range_with_len (m + 1) z)) same),
      owners-append a (module_words (module_in s m) next) (linked_words module_address module_words (map (module_in s) ms) end),
    )

-- ---- residents

pub count-key : (a : ℕ) (s : List ℕ) (there : Bool) → there ≡ true
    → times a (free_packet true s 271) ≡ owners a (key_words (cond (there && eqb (get_or s 271 0) no_queue) (Some (get_or s 274 0)) None))
count-key a s there is = on (eqb (get_or s 271 0) no_queue) ∙ ap (λ b. owners a (key_words (cond (b && eqb (get_or s 271 0) no_queue) (Some (get_or s 274 0)) None))) (sym is)
  where
    on : (free : Bool) → times a (cond free (range_with_len 271 5) []) ≡ owners a (key_words (cond free (Some (get_or s 274 0)) None))
    on true = refl
    on false = refl

pub count-fault : (a : ℕ) (s : List ℕ) (reporter there : Bool) → there ≡ true
    → times a (free_packet reporter s 310) ≡ owners a (fault_packet_words (reporter && (there && eqb (get_or s 310 0) no_queue)))
count-fault a s reporter there is = on reporter (eqb (get_or s 310 0) no_queue) ∙ ap (λ b. owners a (fault_packet_words (reporter && (b && eqb (get_or s 310 0) no_queue)))) (sym is)
  where
    on : (r free : Bool) → times a (cond (r && free) (range_with_len 310 5) []) ≡ owners a (fault_packet_words (r && free))
    on true true = refl
    on true false = refl
    on false free = refl
