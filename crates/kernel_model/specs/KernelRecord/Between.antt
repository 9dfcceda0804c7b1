-- What holds besides between steps: which task runs, the registers, and what residents keep, for each of them a rule of its own.
use Rattle.std.specs.Prelude.{◌≡◌, ℕ, ◌<◌, ◌≤◌, ◌==◌, ◌&&◌, ◌||◌, Bool, true, false, not, find, is_some, is_none, Option, List, [], ◌∷◌, length, nat_le, nat_lt}
use Rattle.std.specs.List.{AllByRecursion, list_any}
use Rattle.std.specs.Option.{option_map_or}
use Rattle.word_store.specs.declared.registers.Regs.{Regs}
use Rattle.kernel_lists.specs.PacketQueue.QueueWords.{QueuedPacket}
use Rattle.ram_disc.specs.Disc.{Disc, IsDisc, Stream, shell_stream, stream_at}
use Rattle.kernel_model.specs.KernelRecord.Changes.{work_of}
use Rattle.kernel_model.specs.KernelRecord.Kernel.{Console, Kernel, Mode, Shell, no_command, no_line}
use Rattle.kernel_model.specs.KernelRecord.Kernel.Mode.{Prompt, Reading, Typing, Waiting}
use Rattle.kernel_model.specs.KernelRecord.Lists.{Lists, has_task}
use Rattle.kernel_model.specs.KernelRecord.Pipes.{AreValidPipes}
use Rattle.kernel_model.specs.KernelRecord.Residents.{fault_packet}
use Rattle.kernel_model.specs.KernelRecord.Running.{RunsAlive, RunsAlone}
use Rattle.kernel_model.specs.KernelRecord.Task.{Task, is_guest_id}
use Rattle.kernel_model.specs.KernelRecord.ValidTasks.{interrupted, no_regs, runs}
use Rattle.kernel_model.specs.KernelRecord.Versions.{highest_id_of}

-- ---- the running task

-- whether no packet is on a queue
abbrev pub is_empty_queue : List QueuedPacket → Bool
is_empty_queue [] = true
is_empty_queue (p ∷ ps) = false

-- a task is ready where it is not held, and runs, was interrupted, or has packets
abbrev pub is_ready : Task → Bool
is_ready t = not t.held && ((t.field == runs) || (t.field == interrupted) || not (is_empty_queue t.queue))

-- the number of the first ready task of the chain, or 0
abbrev pub first_ready : List Task → ℕ
first_ready ts = option_map_or (λ t. t.id) (find is_ready ts) 0

-- The first ready task runs, and nobody where none is ready; and its field alone says so.
pub record FirstRuns (l : Lists) : Type 0 where
  -- the number of the first ready task, or 0
  pub running : l.running ≡ first_ready l.tasks
  -- no other task has the field of one that runs
  pub alone : RunsAlone l
  -- and that task has it
  pub alive : RunsAlive l

-- C is a byte, and where no guest runs all registers are 0
pub record AreValidRegisters (l : Lists) (r : Regs) : Type 0 where
  -- C is a byte, whoever runs
  pub byte : r.c < 256
  -- all of them are 0 where a resident runs, or nobody
  pub idle : is_guest_id l.running ≡ false → r ≡ no_regs

-- ---- the reporter of faults

-- the task has a fault that was not reported yet
abbrev pub is_unreported : Task → Bool
is_unreported t = nat_le 1 t.fault && nat_lt t.fault 256

-- a guest with the number has one
abbrev pub has_unreported : ℕ → List Task → Bool
has_unreported id ts = list_any (λ t. (t.id == id) && is_guest_id id && is_unreported t) ts

-- the fault packet, where the packet is that one, is from such a guest
abbrev pub Tells : List Task → QueuedPacket → Type 0
Tells ts p = (p.address == fault_packet) ≡ true → has_unreported p.sender ts ≡ true

-- Where a task reports faults, the fault packet is on its queue exactly where some fault was not reported yet, sent by a guest
-- with such a fault.
pub record AreValidFaults (l : Lists) : Type 0 where
  -- the packet is free exactly where each fault was reported
  pub waits : has_task 2 l.tasks ≡ true → l.fault_packet_free ≡ not (list_any is_unreported l.tasks)
  -- it is from a guest whose fault was not reported yet
  pub sender : AllByRecursion (Tells l.tasks) (work_of 2 l.tasks)

-- ---- the console

-- The console's line is finished exactly where its key packet is on no queue, and then no read waits for a line.
pub record IsValidConsole (l : Lists) (c : Console) : Type 0 where
  -- the line is finished exactly while the key packet is on no queue
  pub finished : l.residents ≡ true → c.finished ≡ is_some l.key
  -- no read waits while a line is finished
  pub delivered : c.finished ≡ true → l.pending ≡ []
  -- the bytes of the line
  pub line : length c.line ≤ 120
  -- without residents nothing was typed
  pub absent : l.residents ≡ false → c ≡ no_line

-- ---- the shell

-- whether the shell types a file
abbrev pub is_typing : Mode → Bool
is_typing Prompt = false
is_typing Reading = false
is_typing (Waiting id) = false
is_typing Typing = true

-- where the shell waits for a task, its number is that of a guest: from 5 up to the highest
abbrev pub IsAwaited : ℕ → Mode → Type 0
IsAwaited highest Prompt = Unit {0}
IsAwaited highest Reading = Unit {0}
IsAwaited highest (Waiting id) = (5 ≤ id) × (id ≤ highest)
IsAwaited highest Typing = Unit {0}

-- The shell's stream is open exactly while it types a file, and a task for which it waits has the number of a guest.
pub record IsValidShell (l : Lists) (s : Shell) (d : Disc) : Type 0 where
  -- stream 17 is open exactly while the shell types a file
  pub typing : is_some (stream_at d shell_stream) ≡ is_typing s.mode
  -- a task for which the shell waits has the number of a guest
  pub awaited : IsAwaited (highest_id_of l.version) s.mode
  -- the bytes of its line
  pub line : length s.line ≤ 120
  -- without residents it has done nothing
  pub absent : l.residents ≡ false → s ≡ no_command

-- ---- the disc

-- no stream is open
abbrev pub AreShut : List (Option Stream) → Type 0
AreShut ss = AllByRecursion (λ s. is_none s ≡ true) ss

-- The disc is a disc, of which no stream is open without residents.
pub record IsValidDisc (l : Lists) (d : Disc) : Type 0 where
  -- it is a valid one
  pub valid : IsDisc d
  -- without residents no stream of it is open
  pub absent : l.residents ≡ false → AreShut d.streams

-- ---- all of them

-- What residents keep, and what is typed ahead for them.
pub record AreValidResidents (k : Kernel) : Type 0 where
  -- the fault packet
  pub faults : AreValidFaults k.lists
  -- the console's line
  pub console : IsValidConsole k.lists k.console
  -- what the shell does, and its line
  pub shell : IsValidShell k.lists k.shell k.disc
  -- the files, and the open streams
  pub disc : IsValidDisc k.lists k.disc
  -- the pipes
  pub pipes : AreValidPipes k.lists k.pipes
  -- at most 128 bytes are typed ahead
  pub ahead : length k.type_ahead ≤ 128
