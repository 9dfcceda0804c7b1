-- The words that are not 0 when a kernel begins, each with its address. The pair that is written last comes first.
use Rattle.std.specs.Prelude.{ℕ, ◌+◌, ◌-◌, Bool, if◌then◌else◌, [], ◌∷◌, ◌++◌}
use Rattle.kernel_lists.specs.OwnedWords.Owned.{Pairs}
use Rattle.kernel_lists.specs.PacketQueue.Queue.{no_queue}
use Rattle.kernel_model.specs.KernelRecord.Versions.{highest_id_of}
use Rattle.kernel_boot.specs.ResidentKernel.{resident_block_size}

-- the words of the root that each kernel has, for a store of so many words, the version and the period
abbrev pub root_pairs : ℕ → ℕ → ℕ → Pairs
root_pairs n version period = (120, highest_id_of version) ∷ (111, version) ∷ (110, period) ∷ (109, n) ∷ (103, 200) ∷ (100, 120) ∷ []

-- the residents' block, of that size, and the free block after it
abbrev pub block_pairs : ℕ → ℕ → Pairs
block_pairs n block = (200 + block, n - 202 - block + 1) ∷ (200, block) ∷ (112, 201) ∷ []

-- a task waits, with its number, its address, its priority, and the next task
abbrev pub waiting_pairs : ℕ → ℕ → ℕ → ℕ → Pairs
waiting_pairs id t priority next = (120 + id, t) ∷ (t + 4, 4) ∷ (t + 2, priority) ∷ (t + 1, id) ∷ (t + 0, next) ∷ []

-- the task that reports faults, where there is one, waits as the others do
abbrev pub reporter_pairs : Bool → Pairs
reporter_pairs reporter = if reporter then waiting_pairs 2 287 3000 201 else []

-- the chain of the residents
abbrev pub chain_pairs : Bool → Pairs
chain_pairs reporter =
    waiting_pairs 1 201 1000 0 ++ (reporter_pairs reporter ++ (waiting_pairs 4 247 5000 (if reporter then 287 else 201) ++ (waiting_pairs 3 224 6000 247 ++ (101, 224) ∷ [])))

-- the key packet is at the keyboard
abbrev pub key_pairs : Pairs
key_pairs = (272, 3) ∷ (106, 271) ∷ []

-- the shell's packet is on its own queue
abbrev pub shell_pairs : Pairs
shell_pairs = (280, 1) ∷ (201 + 4, 5) ∷ (201 + 3, 279) ∷ []

-- the fault packet, if there is one, is on no queue
abbrev pub fault_pairs : Bool → Pairs
fault_pairs reporter = if reporter then (310, no_queue) ∷ [] else []

-- all words that are not 0 when a kernel with residents begins, in a store of n words
abbrev pub resident_pairs : ℕ → ℕ → ℕ → Bool → Pairs
resident_pairs n version period reporter =
    fault_pairs reporter ++ (shell_pairs ++ (key_pairs ++ (chain_pairs reporter ++ (block_pairs n (resident_block_size reporter) ++ root_pairs n version period))))
