-- What the lines of the debugger show.
use Rattle.std.specs.Prelude.{ℕ, ◌+◌, ◌-◌, ◌*◌, ◌^◌, min, if◌then◌else◌, is_some, List, [], ◌∷◌, ◌++◌, Option, Some, None, codes, decimal, length, take, drop}
use Rattle.std.specs.Fmt.{signed_decimal}
use Rattle.std.specs.List.{flat_map}
use Rattle.byte_streams.specs.Pieces.{joined, hex_digits_of}
use Rattle.word_store.specs.Arithmetic.{signed}
use Rattle.word_store.specs.Bytes.{byte_at}
use Rattle.word_store.specs.declared.registers.Regs.{Regs}
use Rattle.assembly.specs.ModuleListing.HunkListing.{lines_from}
use Rattle.kernel_lists.specs.declared.getvec_chain.pieces.Block.{Block}
use Rattle.kernel_model.specs.KernelRecord.BlockUse.{use_of}
use Rattle.kernel_model.specs.KernelRecord.Lists.{Lists}
use Rattle.kernel_model.specs.declared.kernel_record.uses.Use.{Use}
use Rattle.kernel_model.specs.declared.kernel_record.uses.Use.TheVariants.{Free, OfCoroutine, OfModule, OfResidents, OfTask, User}
use Rattle.kernel_lists.specs.PacketQueue.QueueWords.{QueuedPacket}
use Rattle.shell.specs.ShellListings.TaskLines.{task_lines}
use Rattle.tripos_machine.specs.State.{State, regs_of, running_of, steps_of, stop_of}
use Rattle.tripos_machine.specs.State.State.{Bare, Full}
use Rattle.debugger.specs.Views.{device_queue, task_queue}

-- ---- where a machine is

-- the steps since a moment, PC, and the task that runs
abbrev pub at_line : ℕ → ℕ → ℕ → List ℕ
at_line steps pc task = joined (codes "\nat " ∷ decimal steps ∷ codes " PC " ∷ decimal pc ∷ codes " task " ∷ decimal task ∷ codes "\n" ∷ [])

-- where a machine is, which had taken `first` steps when the debugger began, or that it has stopped
abbrev pub place_text : ℕ → State → List ℕ
place_text first s =
    if is_some (stop_of s) then codes "\nstopped\n" else at_line (steps_of s - first) (regs_of s).pc (running_of s)

-- ---- registers and words

-- the line of the registers, and of the number of the task that runs
abbrev pub registers_line : Regs → ℕ → List ℕ
registers_line r task =
    joined (codes "REGS A=" ∷ decimal r.a ∷ codes " B=" ∷ decimal r.b ∷ codes " C=" ∷ decimal r.c ∷ codes " P=" ∷ decimal r.p
    ∷ codes " G=" ∷ decimal r.g ∷ codes " PC=" ∷ decimal r.pc ∷ codes " T=" ∷ decimal task ∷ codes "\n" ∷ [])

-- an address, and the word there in eight hex digits
abbrev pub word_line : ℕ → ℕ → List ℕ
word_line a w = joined (decimal a ∷ codes " " ∷ hex_digits_of w ∷ codes "\n" ∷ [])

-- the lines of these words, the first of which is at address a
abbrev pub word_lines : ℕ → List ℕ → List ℕ
word_lines a [] = []
word_lines a (w ∷ ws) = word_line a w ++ word_lines (a + 1) ws

-- the lines of `count` words of a store, from an address on
abbrev pub words_text : ℕ → ℕ → List ℕ → List ℕ
words_text from count words = word_lines from (take count (drop from words))

-- ---- lists of the kernel; a machine without a kernel has none

-- a line for each task, in falling priority
abbrev pub tasks_text : State → List ℕ
tasks_text (Bare m) = []
tasks_text (Full k) = task_lines k.lists.tasks

-- a packet's address, its sender and its type
abbrev pub packet_line : QueuedPacket → List ℕ
packet_line p =
    joined (decimal p.address ∷ codes " " ∷ signed_decimal (signed p.sender) ∷ codes " " ∷ decimal p.kind ∷ codes "\n" ∷ [])

-- a line for each packet, the oldest first
abbrev pub packet_lines : List QueuedPacket → List ℕ
packet_lines ps = flat_map packet_line ps

-- the lines of a queue, or that there is none
abbrev pub queue_text : Option (List QueuedPacket) → List ℕ
queue_text None = codes "? none\n"
queue_text (Some ps) = packet_lines ps

-- the packets on the queue of a task
abbrev pub task_queue_text : ℕ → State → List ℕ
task_queue_text id (Bare m) = queue_text None
task_queue_text id (Full k) = queue_text (task_queue id k.lists.tasks)

-- the packets at device -n
abbrev pub device_queue_text : ℕ → State → List ℕ
device_queue_text n (Bare m) = queue_text None
device_queue_text n (Full k) = queue_text (device_queue n k.lists)

-- the word that says what a block is used for
abbrev pub use_name : Use → List ℕ
use_name Free = codes "free"
use_name User = codes "user"
use_name OfTask = codes "task"
use_name OfModule = codes "module"
use_name OfCoroutine = codes "coroutine"
use_name OfResidents = codes "resident"

-- a block's first address, its words, and what it is used for
abbrev pub block_line : Block → Use → List ℕ
block_line b used = joined (decimal b.start ∷ codes " " ∷ decimal b.size ∷ codes " " ∷ use_name used ∷ codes "\n" ∷ [])

-- a line for each block, in the order of their addresses
abbrev pub block_lines : Lists → List Block → List ℕ
block_lines l bs = flat_map (λ b. block_line b (use_of l b)) bs

-- the lines of all blocks of the store
abbrev pub blocks_text : State → List ℕ
blocks_text (Bare m) = []
blocks_text (Full k) = block_lines k.lists k.lists.blocks

-- ---- instructions

-- the bytes that byte addresses reach
abbrev pub code_end : List ℕ → ℕ
code_end words = min (4 * length words) (2 ^ 32)

-- at most so many lines of the listing of a store, from a byte address on
abbrev pub instructions_text : ℕ → ℕ → List ℕ → List ℕ
instructions_text from count words = lines_from (byte_at words) (code_end words) count from
