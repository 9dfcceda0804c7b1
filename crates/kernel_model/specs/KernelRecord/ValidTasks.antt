-- The rules of tasks and of their coroutines.
use Rattle.std.specs.Prelude.{◌≡◌, ◌≢◌, ℕ, ◌+◌, ◌<◌, ◌≤◌, ◌⊎◌, true, false, Option, Some, None, List, [], ◌∷◌, length, map, ◌==◌, if◌then◌else◌}
use Rattle.std.specs.List.{AllByRecursion}
use Rattle.word_store.specs.Count.{IsApart}
use Rattle.kernel_lists.specs.LinkedList.Places.{has}
use Rattle.word_store.specs.declared.registers.Regs.{Regs}
use Rattle.kernel_lists.specs.HunkLoader.HeldModules.{module_address}
use Rattle.kernel_lists.specs.Coroutines.HeldCoroutines.{Coroutine}
use Rattle.kernel_model.specs.KernelRecord.BlockUse.{coroutine_addresses}
use Rattle.kernel_model.specs.KernelRecord.Lists.{Lists, has_task}
use Rattle.kernel_model.specs.KernelRecord.Task.{Task, is_guest_id, task_id}
use Rattle.kernel_model.specs.KernelRecord.ValidBlocks.{HasBlock}
use Rattle.kernel_model.specs.KernelRecord.Versions.{head_words_of, highest_id_of, most_modules_of}

-- the field of the state of a task that runs
abbrev pub runs : ℕ
runs = 0

-- the field of one that waits for a packet
abbrev pub waits : ℕ
waits = 4

-- the field of one that ran until the kernel let another one go on
abbrev pub interrupted : ℕ
interrupted = 8

-- the field of one that begins at its entry when its next packet comes
abbrev pub dead : ℕ
dead = 12

-- each state has one of these four fields
abbrev pub IsField : ℕ → Type 0
IsField f = (f ≡ runs) ⊎ (f ≡ waits) ⊎ (f ≡ interrupted) ⊎ (f ≡ dead)

-- a fault that is recorded: 1 to 8, but for a write into a kernel word, which stops the machine
pub record IsRecordedFault (f : ℕ) : Type 0 where
  -- codes begin with 1
  pub low : 1 ≤ f
  -- and end with 8
  pub high : f ≤ 8
  -- a write into a kernel word is never recorded
  pub other : f ≢ 6

-- the fault word of a task: none, a fault, or 256 more where it was reported
abbrev pub IsFaultWord : ℕ → ℕ → Type 0
IsFaultWord code address =
    ((code ≡ 0) × (address ≡ 0)) ⊎ IsRecordedFault code ⊎ ((f : ℕ) × IsRecordedFault f × (code ≡ f + 256))

-- Invariants 9 to 11: a guest has a block for its task block, its globals and its stack, and from one to the most modules of the
-- list.
pub record IsGuest (l : Lists) (t : Task) : Type 0 where
  -- its number is one of those that the version has
  pub high : t.id ≤ highest_id_of l.version
  -- its block has room for the task block, 1,001 globals, and the stack up to its highest index
  pub block : HasBlock l.blocks t.address (head_words_of l.version + 1001 + t.highest)
  -- it has a module
  pub some_module : 1 ≤ length t.modules
  -- it has no more than the version allows
  pub most : length t.modules ≤ most_modules_of l.version
  -- each of them is in the store
  pub modules : AllByRecursion (λ m. has m (map module_address l.modules) ≡ true) t.modules
  -- its fault word and its fault's address
  pub fault : IsFaultWord t.fault t.fault_address
  -- without a task that reports faults it met none
  pub unreported : has_task 2 l.tasks ≡ false → t.fault ≡ 0

-- the address and the priority of each resident: the shell, the reporter of faults, the console and the file handler
abbrev pub resident_place : ℕ → Option (ℕ × ℕ)
resident_place id =
    if id == 1 then Some (201, 1000) else
    if id == 2 then Some (287, 3000) else
    if id == 3 then Some (224, 6000) else
    if id == 4 then Some (247, 5000) else
    None

-- the registers of which nothing is saved
abbrev pub no_regs : Regs
no_regs = record { a = 0; b = 0; c = 0; p = 0; g = 0; pc = 0 }

-- Invariant 12: a resident has its place, and no modules, stack, faults, saved registers and coroutines; it is never dead and
-- never held.
pub record IsResident (t : Task) : Type 0 where
  -- its address and its priority are those of its number
  pub place : resident_place t.id ≡ Some (t.address, t.priority)
  -- it has no module
  pub modules : t.modules ≡ []
  -- it has no stack
  pub stack : t.highest ≡ 0
  -- it met no fault
  pub fault : t.fault ≡ 0
  -- so there is no address of one
  pub fault_address : t.fault_address ≡ 0
  -- no registers are saved
  pub saved : t.saved ≡ no_regs
  -- it has no coroutine
  pub coroutines : t.coroutines.list ≡ []
  -- so none is active
  pub active : t.coroutines.active ≡ []
  -- it does not die
  pub alive : t.field ≢ dead
  -- it is not held
  pub free : t.held ≡ false

-- Invariant 8, and 9 to 11 of a guest or 12 of a resident.
pub record IsTask (l : Lists) (t : Task) : Type 0 where
  -- priorities begin with 1
  pub low : 1 ≤ t.priority
  -- and end with 10,000
  pub high : t.priority ≤ 10000
  -- the number of a task, or 0
  pub maker : t.maker ≤ highest_id_of l.version
  -- it runs, waits, was interrupted or is dead
  pub field : IsField t.field
  -- its saved C is a byte
  pub byte : t.saved.c < 256
  -- what holds of guests
  pub guest : is_guest_id t.id ≡ true → IsGuest l t
  -- what holds of residents
  pub resident : is_guest_id t.id ≡ false → IsResident t

-- Invariant 6: priorities fall along the chain, so no two are the same.
abbrev pub PrioritiesFall : List Task → Type 0
PrioritiesFall [] = Unit {0}
PrioritiesFall (t ∷ ts) = AllByRecursion (λ u. u.priority < t.priority) ts × PrioritiesFall ts

-- Invariants 5 to 12: numbers are distinct and priorities fall, and the residents are there, or none of them is; the reporter of
-- faults may be absent.
pub record AreValidTasks (l : Lists) : Type 0 where
  -- invariants 8 to 12
  pub each : AllByRecursion (IsTask l) l.tasks
  -- invariant 5
  pub distinct : IsApart (map task_id l.tasks)
  -- invariant 6
  pub order : PrioritiesFall l.tasks
  -- invariant 7, of the shell
  pub shell : has_task 1 l.tasks ≡ l.residents
  -- invariant 7, of the console
  pub console : has_task 3 l.tasks ≡ l.residents
  -- invariant 7, of the file handler
  pub files : has_task 4 l.tasks ≡ l.residents
  -- invariant 7, of the reporter of faults
  pub reporter : has_task 2 l.tasks ≡ true → l.residents ≡ true

-- Invariant 13: a coroutine has a block for the words up to its highest index, which is 16 or more.
pub record IsCoroutine (l : Lists) (c : Coroutine) : Type 0 where
  -- its block, of whose data its words are the first
  pub block : HasBlock l.blocks c.address c.highest
  -- the highest index is that of its last word
  pub high : 16 ≤ c.highest

-- Invariants 13 and 14: each coroutine has its block, and the active ones are distinct coroutines of the task.
pub record AreValidCoroutines (l : Lists) (t : Task) : Type 0 where
  -- invariant 13
  pub each : AllByRecursion (IsCoroutine l) t.coroutines.list
  -- each active one is in the task's list
  pub members : AllByRecursion (λ c. has c (coroutine_addresses t) ≡ true) t.coroutines.active
  -- and none is there twice
  pub distinct : IsApart t.coroutines.active
