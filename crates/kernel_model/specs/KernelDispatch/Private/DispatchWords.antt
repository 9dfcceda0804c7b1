-- The words that a dispatch writes, and the registers that it gives, as the store has them.
use Rattle.std.specs.Prelude.{ℕ, ◌+◌, ◌-◌, ◌%◌, ◌==◌, ◌&&◌, ◌||◌, Bool, if◌then◌else◌, List, [], ◌∷◌, nat_le, nat_lt, slice_index, slice_set, Option, Some, None, false, not}
use Rattle.word_store.specs.declared.registers.Regs.{Regs}
use Rattle.kernel_lists.specs.OwnedWords.Owned.{Pairs, written}
use Rattle.kernel_lists.specs.PacketQueue.Queue.{unlinked}
use Rattle.kernel_lists.specs.declared.packet_queue.events.KernelEvent.{KernelEvent}
use Rattle.kernel_lists.specs.declared.packet_queue.events.KernelEvent.TheVariants.{Runs}
use Rattle.kernel_lists.specs.TaskBlock.RootWords.{root_address}
use Rattle.kernel_lists.specs.TaskBlock.TaskWords.{word_index}
use Rattle.kernel_lists.specs.declared.task_block.fields.TcbField.TheVariants.{Globals, Id, Queue, SavedA, SavedB, SavedC, SavedG, SavedP, SavedPc, Stack, State}
use Rattle.kernel_lists.specs.declared.task_block.roots.RootField.TheVariants.{Running}
use Rattle.kernel_model.specs.KernelRecord.Task.{is_guest_id, is_held_state}
use Rattle.kernel_model.specs.KernelRecord.ValidTasks.{no_regs}

-- word 4 of the task block at t: its field, 2 more while it is held, and 1 more while packets wait
abbrev pub state_of : List ℕ → ℕ → ℕ
state_of s t = slice_index s (t + word_index State)

-- the state of a task that ran is that of an interrupted one, and every other state stays
abbrev pub suspended_state : ℕ → ℕ
suspended_state w = if nat_lt w 4 then w + 8 else w

-- the words of the task block at t that a suspension writes: its state, and the six registers
abbrev pub saved_words : ℕ → ℕ → Regs → Pairs
saved_words t state r =
    (t + word_index State, state) ∷ (t + word_index SavedPc, r.pc) ∷ (t + word_index SavedG, r.g) ∷ (t + word_index SavedP, r.p)
    ∷ (t + word_index SavedC, r.c) ∷ (t + word_index SavedB, r.b) ∷ (t + word_index SavedA, r.a) ∷ []

-- the store in which the task at t is suspended with these registers
abbrev pub with_saved : List ℕ → ℕ → Regs → List ℕ
with_saved s t r = written (saved_words t (suspended_state (state_of s t)) r) s

-- the address of the task that runs, 0 where none does
abbrev pub running_in : List ℕ → ℕ
running_in s = slice_index s (root_address Running)

-- the store in which the running task, where there is one, is suspended with these registers
abbrev pub with_running_saved : List ℕ → Regs → List ℕ
with_running_saved s r = if running_in s == 0 then s else with_saved s (running_in s) r

-- the store in which the task that ran is suspended, and nobody runs
abbrev pub with_nobody_running : List ℕ → Regs → List ℕ
with_nobody_running s r = slice_set (with_running_saved s r) (root_address Running) 0

-- the event that nobody runs any more, where somebody ran
abbrev pub idle_events : List ℕ → List KernelEvent
idle_events s = if running_in s == 0 then [] else Runs 0 ∷ []

-- the state once a packet was taken: it is even where none waits any more
abbrev pub taken_state : ℕ → ℕ → ℕ
taken_state w next = if next == 0 then w - w % 2 else w

-- the store in which the packet at p went out of the work queue of the task at t
abbrev pub with_taken : List ℕ → ℕ → ℕ → List ℕ
with_taken s t p =
    slice_set (unlinked s (t + word_index Queue) p) (t + word_index State)
    (taken_state (state_of s t) (slice_index (unlinked s (t + word_index Queue) p) (t + word_index Queue)))

-- the store in which the task at t runs
abbrev pub with_started : List ℕ → ℕ → List ℕ
with_started s t = slice_set (slice_set s (t + word_index State) (state_of s t % 4)) (root_address Running) t

-- ---- the registers of the task at t, which goes on

-- a dead one begins at its entry, with its packet in A
abbrev pub entry_in : List ℕ → ℕ → ℕ → Regs
entry_in s t packet = record {
  a = packet;
  b = 0;
  c = 0;
  p = slice_index s (t + word_index Stack);
  g = slice_index s (t + word_index Globals);
  pc = slice_index s (slice_index s (t + word_index Globals) + 1);
}

-- the registers that were saved, or the live ones where it is the task that ran
abbrev pub saved_in : List ℕ → Regs → ℕ → Regs
saved_in s r t = if running_in s == t then r else record {
  a = slice_index s (t + word_index SavedA);
  b = slice_index s (t + word_index SavedB);
  c = slice_index s (t + word_index SavedC);
  p = slice_index s (t + word_index SavedP);
  g = slice_index s (t + word_index SavedG);
  pc = slice_index s (t + word_index SavedPc);
}

-- The registers of a guest: a dead one begins at its entry, an interrupted one goes on with those that were saved, and one that
-- waited has its packet in A besides, and 0 in B.
abbrev pub guest_regs_in : List ℕ → Regs → ℕ → ℕ → Regs
guest_regs_in s r t packet =
    if nat_le 12 (state_of s t) then entry_in s t packet else
    if nat_le 8 (state_of s t) then saved_in s r t else
    record (saved_in s r t) { a = packet; b = 0 }

-- the registers of any task: those of a guest, or all 0 for a resident
abbrev pub next_regs_in : List ℕ → Regs → ℕ → ℕ → Regs
next_regs_in s r t packet = if is_guest_id (slice_index s (t + word_index Id)) then guest_regs_in s r t packet else no_regs

-- ---- which task goes on

-- a guest of which the field is 4 or 12 takes a packet
abbrev pub takes_packet_by : ℕ → ℕ → Bool
takes_packet_by id state = is_guest_id id && nat_le 4 (state % 8)

-- whether a state is that of a ready task: it is not held, and its field is 0 or 8, so below 4 modulo 8, or packets wait, so it is odd
abbrev pub is_ready_state : ℕ → Bool
is_ready_state w = not (is_held_state w) && (nat_lt (w % 8) 4 || (w % 2 == 1))

-- the task at t is ready
abbrev pub is_ready_in : List ℕ → ℕ → Bool
is_ready_in s t = is_ready_state (state_of s t)

-- whether the first ready task is the one that ran, and still runs
abbrev pub goes_on_in : List ℕ → Option ℕ → Bool
goes_on_in s None = false
goes_on_in s (Some t) = (running_in s == t) && nat_lt (state_of s t) 4
