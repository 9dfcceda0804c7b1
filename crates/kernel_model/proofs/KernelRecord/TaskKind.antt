-- A task is a node of the chain: its words, counted.
use Rattle.std.proofs.Common.{◌≡◌, ℕ, suc, ◌+◌, List, [], ◌∷◌, ◌++◌, length, arith}
use Rattle.std.specs.List.{range_with_len}
use Rattle.word_store.specs.Count.{hit, times}
use Rattle.kernel_lists.specs.OwnedWords.LinkedWords.{first_of, linked_words}
use Rattle.kernel_lists.specs.OwnedWords.Owned.{Pairs, owners}
use Rattle.kernel_lists.proofs.OwnedWords.Exchanges.{links-first}
use Rattle.kernel_lists.proofs.OwnedWords.OwnedWords.{owners-append}
use Rattle.kernel_lists.proofs.OwnedWords.RowWords.{owners-row}
use Rattle.kernel_lists.specs.PacketQueue.QueueWords.{address_of as packet_address, packet_words, queue_words}
use Rattle.kernel_lists.specs.TaskBlock.HeldTasks.{AreTasks}
use Rattle.kernel_lists.specs.Coroutines.CoroutineExchanges.{words_of_coroutines}
use Rattle.kernel_lists.specs.Coroutines.HeldCoroutines.{address_of as coroutine_address, coroutine_words}
use Rattle.kernel_model.specs.KernelRecord.Task.{Task, fault_words, further_modules, globals_of, name_words, other_words, queue_head, stack_of, state_word, state_words, task_address, task_id, task_words}
use Rattle.kernel_model.proofs.KernelRecord.CutRanges.{times-cut, times-head}

-- the words of its packets, and those of its coroutines
abbrev pub packets_of : Task → Pairs
packets_of t = linked_words packet_address packet_words t.queue 0

abbrev pub frames_of : Task → Pairs
frames_of t = linked_words coroutine_address (coroutine_words t.address t.coroutines.active) t.coroutines.list 0

-- its words 4 to 16
abbrev state_list : ℕ → Task → List ℕ
state_list version t =
    state_word t ∷ t.flags ∷ stack_of version t ∷ t.highest ∷ globals_of version t ∷ t.maker ∷ first_of (λ m. m) t.modules 0
    ∷ t.saved.a ∷ t.saved.b ∷ t.saved.c ∷ t.saved.p ∷ t.saved.g ∷ t.saved.pc ∷ []

pub owners-task : (a version : ℕ) (t : Task) (n : ℕ) → owners a (task_words version t n)
    ≡ hit a t.address + (owners a (name_words t) + (owners a (state_words version t) + (owners a (fault_words version t)
    + (owners a (queue_words (queue_head t.address) t.queue) + owners a (words_of_coroutines t.address t.coroutines)))))
owners-task a version t n =
    let queue : Pairs = queue_words (queue_head t.address) t.queue in
    let frames : Pairs = words_of_coroutines t.address t.coroutines in
    omega (
      arith,
      owners-append a (name_words t) (state_words version t ++ (fault_words version t ++ (queue ++ frames))),
      owners-append a (state_words version t) (fault_words version t ++ (queue ++ frames)),
      owners-append a (fault_words version t) (queue ++ frames),
      owners-append a queue frames,
    )

-- The words 0 to 22, the further modules, the packets and the coroutines.
pub owners-whole : (a version : ℕ) (t : Task) (n : ℕ) → owners a (task_words version t n)
    ≡ times a (range_with_len t.address 23) + (times a (range_with_len (t.address + 23) (length (further_modules version t))) + (owners a (packets_of t) + owners a (frames_of t)))
owners-whole a version t n =
    let further : List ℕ = further_modules version t in
    omega (
      arith,
      owners-task a version t n,
      owners-row a t.address 1 (t.id ∷ t.priority ∷ []),
      owners-row a t.address 4 (state_list version t),
      owners-row a t.address 21 (t.fault ∷ t.fault_address ∷ further),
      times-cut a (t.address + 21) 2 (length further) (t.address + 23) (suc (suc (length further))) (omega arith) (omega arith),
      times-head a t.address,
    )

pub are_tasks : (version : ℕ) → AreTasks task_address task_id (task_words version)
are_tasks version =
    record {
      nodes =
          record {
            links = links-first task_address (other_words version);
            low = λ t. omega arith;
            high = λ t. omega arith;
            count = λ a t n. omega (arith, owners-whole a version t n);
          };
      number = λ s t n h. h.1.0;
    }
