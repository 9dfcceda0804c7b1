-- The ranges of each list have the addresses that its things own.
use Rattle.std.proofs.Common.{◌≡◌, ℕ, ◌+◌, List, [], ◌∷◌, length, map, refl, ap, arith}
use Rattle.std.specs.List.{AllByRecursion, flat_map, range_with_len}
use Rattle.word_store.specs.Count.{times}
use Rattle.kernel_lists.specs.OwnedWords.LinkedWords.{first_of, linked_words}
use Rattle.kernel_lists.specs.OwnedWords.Owned.{owners}
use Rattle.kernel_lists.proofs.OwnedWords.OwnedWords.{owners-append}
use Rattle.kernel_lists.proofs.OwnedWords.RowWords.{owners-row}
use Rattle.kernel_lists.specs.declared.getvec_chain.pieces.Block.{Block}
use Rattle.kernel_lists.specs.GetvecChain.BlockWords.{blocks_words}
use Rattle.kernel_lists.specs.HunkLoader.HeldModules.{LoadedModule, module_address, module_words}
use Rattle.kernel_lists.specs.HunkLoader.ModuleHunks.{hunk_count}
use Rattle.kernel_lists.specs.PacketQueue.Queue.{queue_at}
use Rattle.kernel_lists.specs.PacketQueue.QueueWords.{QueuedPacket, address_of as packet_address, packet_words}
use Rattle.kernel_lists.specs.TaskBlock.Lists.{coroutines_in}
use Rattle.kernel_lists.specs.Coroutines.HeldCoroutines.{Coroutine, address_of as coroutine_address, coroutine_words}
use Rattle.kernel_model.specs.KernelRecord.Task.{Task, further_modules, queue_head, task_address, task_words}
use Rattle.kernel_model.proofs.KernelRecord.CutRanges.{times-cut}
use Rattle.kernel_model.proofs.KernelRecord.QueueCounts.{owners-packet}
use Rattle.kernel_model.proofs.KernelRecord.TaskCounts.{owners-coroutine}
use Rattle.kernel_model.proofs.KernelRecord.TaskKind.{owners-whole}
use Rattle.kernel_model.specs.KernelRecord.KernelRanges.{Words, block_range, module_ranges, packets_at, task_ranges, task_size_in, words}
use Rattle.kernel_model.proofs.KernelRecord.RangeCounts.{hits, hits-append}

pub hits-blocks : (a : ℕ) (bs : List Block) → hits a (map block_range bs) ≡ owners a (blocks_words bs)
hits-blocks a [] = refl
hits-blocks a (b ∷ bs) = omega (arith, hits-blocks a bs)

pub hits-packets : (a : ℕ) (ps : List QueuedPacket) (end : ℕ)
    → hits a (map (λ p. words p 5) (map packet_address ps)) ≡ owners a (linked_words packet_address packet_words ps end)
hits-packets a [] end = refl
hits-packets a (p ∷ ps) end =
    omega (
      arith,
      hits-packets a ps end,
      owners-packet a p (first_of packet_address ps end),
      owners-append a (packet_words p (first_of packet_address ps end)) (linked_words packet_address packet_words ps end),
    )

pub hits-coroutines : (a t : ℕ) (act : List ℕ) (cs : List Coroutine) (end : ℕ)
    → hits a (map (λ c. words c 10) (map coroutine_address cs)) ≡ owners a (linked_words coroutine_address (coroutine_words t act) cs end)
hits-coroutines a t act [] end = refl
hits-coroutines a t act (c ∷ cs) end =
    let n : ℕ = first_of coroutine_address cs end in
    omega (
      arith,
      hits-coroutines a t act cs end,
      owners-coroutine a t act c n,
      owners-append a (coroutine_words t act c n) (linked_words coroutine_address (coroutine_words t act) cs end),
    )

-- the store has the number of its hunks in each module
abbrev pub HasCount : List ℕ → LoadedModule → Type 0
HasCount s m = hunk_count s m.address ≡ length m.lengths

pub hits-modules : (a : ℕ) (s : List ℕ) (ms : List LoadedModule) (end : ℕ) → AllByRecursion (HasCount s) ms
    → hits a (flat_map (module_ranges s) (map module_address ms)) ≡ owners a (linked_words module_address module_words ms end)
hits-modules a s [] end all = refl
hits-modules a s (m ∷ ms) end all =
    let h : ℕ = length m.lengths in
    omega (
      arith,
      hits-modules a s ms end all.1,
      hits-append a (module_ranges s m.address) (flat_map (module_ranges s) (map module_address ms)),
      ap (λ z. times a (range_with_len (m.address + 2) z)) all.0,
      owners-row a m.address 1 (h ∷ m.lengths),
      times-cut a (m.address + 1) 1 h (m.address + 2) (1 + h) (omega arith) refl,
      ap (λ z. times a (range_with_len (m.address + 1) z)) (let same : length (h ∷ m.lengths) ≡ 1 + h = omega arith in same),
      owners-append a (module_words m (first_of module_address ms end)) (linked_words module_address module_words ms end),
    )

-- the store has a task's size, its queue and its coroutines
pub record TaskReads (s : List ℕ) (version : ℕ) (t : Task) : Type 0 where
  pub size : task_size_in s t.address ≡ 23 + length (further_modules version t)
  pub queue : queue_at s (queue_head t.address) ≡ map packet_address t.queue
  pub list : coroutines_in s t.address ≡ map coroutine_address t.coroutines.list

abbrev pub work_at : List ℕ → ℕ → List Words
work_at s t = packets_at s (queue_head t)

pub hits-tasks : (a : ℕ) (s : List ℕ) (version : ℕ) (ts : List Task) (end : ℕ) → AllByRecursion (TaskReads s version) ts
    → hits a (flat_map (task_ranges s) (map task_address ts)) + hits a (flat_map (work_at s) (map task_address ts))
    ≡ owners a (linked_words task_address (task_words version) ts end)
hits-tasks a s version [] end all = refl
hits-tasks a s version (t ∷ ts) end all =
    let n : ℕ = first_of task_address ts end in
    let k : ℕ = length (further_modules version t) in
    omega (
      arith,
      hits-tasks a s version ts end all.1,
      hits-append a (task_ranges s t.address) (flat_map (task_ranges s) (map task_address ts)),
      hits-append a (work_at s t.address) (flat_map (work_at s) (map task_address ts)),
      ap (λ z. times a (range_with_len t.address z)) all.0.size,
      ap (λ z. hits a (map (λ p. words p 5) z)) all.0.queue,
      ap (λ z. hits a (map (λ c. words c 10) z)) all.0.list,
      hits-packets a t.queue 0,
      hits-coroutines a t.address t.coroutines.active t.coroutines.list 0,
      times-cut a t.address 23 k (t.address + 23) (23 + k) refl refl,
      owners-whole a version t n,
      owners-append a (task_words version t n) (linked_words task_address (task_words version) ts end),
    )
