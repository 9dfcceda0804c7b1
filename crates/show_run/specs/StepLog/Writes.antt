-- The words that a step writes, in words.
use Rattle.std.specs.Prelude.{ℕ, ◌+◌, ◌==◌, ◌&&◌, ◌||◌, Bool, true, false, if◌then◌else◌, is_some, Option, List, [], ◌∷◌, ◌++◌, codes, decimal, nat_lt, slice_index}
use Rattle.std.specs.Fmt.{signed_decimal}
use Rattle.std.specs.List.{flat_map}
use Rattle.byte_streams.specs.Pieces.{joined}
use Rattle.word_store.specs.Arithmetic.{signed}
use Rattle.instruction_set.specs.Instruction.{written}
use Rattle.kernel_lists.specs.declared.packet_queue.events.KernelEvent.{KernelEvent}
use Rattle.tripos_machine.specs.GuestWrites.{guest_writes, is_kernels}
use Rattle.tripos_machine.specs.State.{State, words_of}
use Rattle.show_run.specs.declared.step_log.moments.Moment.{Moment}
use Rattle.show_run.specs.StepLog.Calls.{Call}
use Rattle.show_run.specs.StepLog.Moments.{line}

-- the line of the word at an address, as it was and as it is; both are signed numbers
abbrev pub write_line : Moment → ℕ → ℕ → ℕ → List ℕ
write_line m a old new =
    line m (joined (codes "write " ∷ decimal a ∷ codes " " ∷ signed_decimal (signed old) ∷ codes " -> " ∷ signed_decimal (signed new) ∷ []))

-- ---- what the guest's instruction writes

-- the line of an address and a word that are written, also where the same word is there already
abbrev pub written_line : Moment → List ℕ → ℕ × ℕ → List ℕ
written_line m words w = write_line m w.0 (slice_index words w.0) w.1

-- a line for each word that the instruction writes over these
abbrev pub written_lines : Moment → List ℕ → List (ℕ × ℕ) → List ℕ
written_lines m words ws = flat_map (written_line m words) ws

-- ---- what else changes

-- the words after the instruction of the next step, before all else that happens in the step
abbrev pub words_after_instruction : State → List ℕ
words_after_instruction s = written (words_of s) (guest_writes s)

-- the line of a word that is another than before, where it is not one of the kernel's
abbrev pub changed_line : Moment → (ℕ → Bool) → List ℕ → ℕ → ℕ → List ℕ
changed_line m kernels old a new = if slice_index old a == new then [] else if kernels a then [] else write_line m a (slice_index old a) new

-- those of the words from address a on
abbrev pub changed_lines : Moment → (ℕ → Bool) → List ℕ → ℕ → List ℕ → List ℕ
changed_lines m kernels old a [] = []
changed_lines m kernels old a (w ∷ ws) = changed_line m kernels old a w ++ changed_lines m kernels old (a + 1) ws

-- whether the number is that of a resident, which takes its turn without an instruction
abbrev pub is_resident : ℕ → Bool
is_resident id = nat_lt 0 id && nat_lt id 5

-- whether there is an event
abbrev pub has_event : List KernelEvent → Bool
has_event [] = false
has_event (e ∷ es) = true

-- whether a step with this call and these events, in which the task with this number runs, may change plain words beside its instruction
abbrev pub may_change : Option Call → ℕ → List KernelEvent → Bool
may_change call id events = is_some call || (is_resident id || has_event events)

-- the words that the step from s to t changes beside its instruction: by a call, in a resident's turn, or as a device acts
abbrev pub other_lines : Moment → Option Call → List KernelEvent → State → State → List ℕ
other_lines m call events s t =
    if may_change call m.task events then changed_lines m (is_kernels t) (words_after_instruction s) 0 (words_of t) else []
