-- The state of a machine in words.
use Rattle.std.specs.Prelude.{ℕ, ◌==◌, ◌&&◌, Bool, true, false, not, if◌then◌else◌, Option, Some, None, List, [], ◌∷◌, codes, decimal}
use Rattle.byte_streams.specs.Pieces.{joined}
use Rattle.debugger.specs.Texts.{blocks_text, instructions_text, registers_line}
use Rattle.tripos_machine.specs.State.{State, regs_of, running_of, stop_of, words_of}
use Rattle.tripos_machine.specs.State.State.{Bare, Full}
use Rattle.debugger.specs.Views.{is_guest_next}
use Rattle.kernel_model.specs.KernelRecord.Lists.{Lists}
use Rattle.kernel_model.specs.declared.kernel_record.stops.Stop.{Stop}
use Rattle.kernel_model.specs.declared.kernel_record.stops.Stop.TheVariants.{Fault, Finish, Quit, Steps}
use Rattle.state_text.specs.Deadlock.{deadlock_text}
use Rattle.state_text.specs.ModuleTexts.{modules_text}
use Rattle.state_text.specs.PacketTexts.{queues_text}
use Rattle.state_text.specs.ProgramNames.{name_in}
use Rattle.state_text.specs.Runner.{runner_text}
use Rattle.state_text.specs.TaskTexts.{tasks_text}
use Rattle.state_text.specs.declared.programs.Program.{Program}

-- why a machine has stopped
abbrev pub stopped_line : Stop → List ℕ
stopped_line Steps = codes "the steps are used up\n"
stopped_line (Quit code) = joined (codes "quit " ∷ decimal code ∷ codes "\n" ∷ [])
stopped_line Finish = codes "the shell has finished\n"
stopped_line (Fault code address task) =
    joined (codes "fault " ∷ decimal code ∷ codes " at " ∷ decimal address ∷ codes " in task " ∷ decimal task ∷ codes "\n" ∷ [])

-- whether it has stopped, and why
abbrev pub stop_line : Option Stop → List ℕ
stop_line None = codes "it can go on\n"
stop_line (Some stop) = stopped_line stop

-- the steps taken so far
abbrev pub bare_counts : ℕ → List ℕ
bare_counts steps = joined (codes "after " ∷ decimal steps ∷ codes " steps: " ∷ [])

-- the steps and the ticks so far
abbrev pub kernel_counts : ℕ → ℕ → List ℕ
kernel_counts steps tick = joined (codes "after " ∷ decimal steps ∷ codes " steps, at tick " ∷ decimal tick ∷ codes ": " ∷ [])

-- what was counted so far; a machine without a kernel has no ticks
abbrev pub count_words : State → List ℕ
count_words (Bare m) = bare_counts m.steps
count_words (Full k) = kernel_counts k.steps k.lists.tick

-- the instruction at PC, if a guest is next; at address 0 there is none
abbrev pub instruction_line : State → List ℕ
instruction_line s = if is_guest_next s && not ((regs_of s).pc == 0) then instructions_text (regs_of s).pc 1 (words_of s) else []

-- PC is behind the call that stopped the machine; at a fault it is where the fault was met
abbrev pub is_end : Stop → Bool
is_end Steps = false
is_end (Quit code) = true
is_end Finish = true
is_end (Fault code address task) = false

-- whether PC is after the call that stopped the machine; one that goes on is before its next instruction
abbrev pub is_past : Option Stop → Bool
is_past None = false
is_past (Some stop) = is_end stop

-- the instruction that a guest is to execute next, or at which it met a fault
abbrev pub next_line : State → List ℕ
next_line s = if is_past (stop_of s) then [] else instruction_line s

-- the lists of a kernel, of which the names of modules and the lines of the blocks are given
unfoldable pub kernel_text : (ℕ → Option (List ℕ)) → Lists → List ℕ → List ℕ
kernel_text name_at l blocks = joined (tasks_text name_at l ∷ queues_text l ∷ codes "blocks\n" ∷ blocks ∷ modules_text name_at l ∷ [])

-- a module has the name of the first of the programs whose words are there; a machine without a kernel has no lists
abbrev pub lists_text : List Program → State → List ℕ
lists_text programs (Bare m) = []
lists_text programs (Full k) = kernel_text (name_in programs (words_of (Full k))) k.lists (blocks_text (Full k))

-- the whole: where it is, who runs, which tasks wait for ever, the registers, the next instruction, and the lists, with the names of these programs
unfoldable pub state_text : List Program → State → List ℕ
state_text programs s =
    joined (count_words s ∷ stop_line (stop_of s) ∷ runner_text s ∷ deadlock_text s ∷ registers_line (regs_of s) (running_of s) ∷ next_line s
    ∷ lists_text programs s ∷ [])
