-- A task: what the kernel knows of it, and the words that it owns.
use Rattle.std.specs.Prelude.{ℕ, zero, suc, ◌+◌, ◌-◌, ◌/◌, ◌%◌, ◌==◌, Bool, if◌then◌else◌, List, [], ◌∷◌, ◌++◌, drop, nat_le}
use Rattle.word_store.specs.declared.registers.Regs.{Regs}
use Rattle.kernel_lists.specs.OwnedWords.LinkedWords.{first_of}
use Rattle.kernel_lists.specs.OwnedWords.Owned.{Pairs, row_from}
use Rattle.kernel_lists.specs.TaskBlock.TaskWords.{word_index}
use Rattle.kernel_lists.specs.declared.task_block.fields.TcbField.TheVariants.{Extra1, Id, Queue, State}
use Rattle.kernel_lists.specs.PacketQueue.QueueWords.{QueuedPacket, queue_words}
use Rattle.kernel_lists.specs.Coroutines.CoroutineExchanges.{TaskCoroutines, words_of_coroutines}
use Rattle.kernel_model.specs.KernelRecord.Versions.{head_words_of}

-- A task, resident or guest: what the words of its task block say, and what its lists hold.
pub record Task : Type 0 where
  -- its number: 1 to 4 for residents, from 5 on for guests
  pub id : ℕ
  -- the word address of its task block
  pub address : ℕ
  -- its priority, from 1 to 10,000; the higher one runs first
  pub priority : ℕ
  -- its flags, one a bit
  pub flags : ℕ
  -- the number of the task that made it, 0 where none did
  pub maker : ℕ
  -- the word addresses of its modules, in the order in which their globals were set; a resident has none
  pub modules : List ℕ
  -- the highest index of its stack, which has one word more; 0 for a resident, which has no stack
  pub highest : ℕ
  -- its state without the bits for packets and for held: 0 it runs, 4 it waits, 8 it was interrupted, 12 it is dead
  pub field : ℕ
  -- whether it is held, and so not ready
  pub held : Bool
  -- the code of the fault that it met, 256 more once that was reported, 0 where it met none
  pub fault : ℕ
  -- the address that belongs to that fault, of a byte or of a word, as the code says; 0 where it met none
  pub fault_address : ℕ
  -- its registers while it does not run; while it runs, those that were saved last
  pub saved : Regs
  -- its work queue: the packets that were sent to it and not taken, the oldest first
  pub queue : List QueuedPacket
  -- its coroutines, the newest first, and those that are active
  pub coroutines : TaskCoroutines

-- where the task block begins
abbrev pub task_address : Task → ℕ
task_address t = t.address

-- the number of a task
abbrev pub task_id : Task → ℕ
task_id t = t.id

-- the priority of a task
abbrev pub task_priority : Task → ℕ
task_priority t = t.priority

-- the numbers from 5 on are those of guests, and the lower ones those of residents
abbrev pub is_guest_id : ℕ → Bool
is_guest_id id = nat_le 5 id

-- the head of the work queue of the task at an address
abbrev pub queue_head : ℕ → ℕ
queue_head t = t + word_index Queue

-- where the globals of a task begin: after its task block, in the block that a guest's 1,001 globals and its stack share with it;
-- a resident has none, and 0
abbrev pub globals_of : ℕ → Task → ℕ
globals_of version t = if is_guest_id t.id then t.address + head_words_of version else 0

-- where its stack begins: after its globals; a resident has none, and 0
abbrev pub stack_of : ℕ → Task → ℕ
stack_of version t = if is_guest_id t.id then t.address + head_words_of version + 1001 else 0

-- 1 where packets wait, else 0
abbrev pub queue_bit : List QueuedPacket → ℕ
queue_bit [] = 0
queue_bit (p ∷ ps) = 1

-- the state: the field, 1 more where packets wait, and 2 more where the task is held
abbrev pub state_word : Task → ℕ
state_word t = t.field + queue_bit t.queue + (if t.held then 2 else 0)

-- whether a state is that of a held task
abbrev pub is_held_state : ℕ → Bool
is_held_state w = w / 2 % 2 == 1

-- the field of a state, without the two bits that say more of the task
abbrev pub field_of_state : ℕ → ℕ
field_of_state w = w - w % 4

-- a row of so many words: those of the list, and then zeros
abbrev pub filled : ℕ → List ℕ → List ℕ
filled zero xs = []
filled (suc n) [] = 0 ∷ filled n []
filled (suc n) (x ∷ xs) = x ∷ filled n xs

-- a guest's modules after the first, in the words after word 22
abbrev pub further_modules : ℕ → Task → List ℕ
further_modules version t = if is_guest_id t.id then filled (head_words_of version - 23) (drop 1 t.modules) else []

-- the words 1 and 2 of a task: its number and its priority
abbrev pub name_words : Task → Pairs
name_words t = row_from t.address (word_index Id) (t.id ∷ t.priority ∷ [])

-- the words 4 to 16 of a task, from the state to the saved registers
abbrev pub state_words : ℕ → Task → Pairs
state_words version t =
    row_from t.address (word_index State)
    (state_word t ∷ t.flags ∷ stack_of version t ∷ t.highest ∷ globals_of version t ∷ t.maker ∷ first_of (λ m. m) t.modules 0
    ∷ t.saved.a ∷ t.saved.b ∷ t.saved.c ∷ t.saved.p ∷ t.saved.g ∷ t.saved.pc ∷ [])

-- the words of a task from 21 on: the fault, its address, and the further modules
abbrev pub fault_words : ℕ → Task → Pairs
fault_words version t = row_from t.address (word_index Extra1) (t.fault ∷ t.fault_address ∷ further_modules version t)

-- All its words but the link: those three rows, its work queue with the head, word 3, and its coroutines with the words 17 to 20
abbrev pub other_words : ℕ → Task → Pairs
other_words version t =
    name_words t ++ (state_words version t ++ (fault_words version t ++ (queue_words (queue_head t.address) t.queue ++ words_of_coroutines t.address t.coroutines)))

-- all its words, with this link
abbrev pub task_words : ℕ → Task → ℕ → Pairs
task_words version t link = (t.address, link) ∷ other_words version t
