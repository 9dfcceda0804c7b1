-- The steps that write one word.
use Rattle.std.specs.Prelude.{ℕ, zero, suc, ◌==◌, if◌then◌else◌, is_some, Option, Some, None, List, [], ◌++◌, slice_index}
use Rattle.std.specs.List.{find}
use Rattle.std.specs.Option.{option_map}
use Rattle.tripos_machine.specs.GuestWrites.{guest_writes}
use Rattle.tripos_machine.specs.State.{State, stop_of, words_of}
use Rattle.tripos_machine.specs.Step.{step}
use Rattle.show_run.specs.declared.step_log.boots.TheConstants.{BOOT}
use Rattle.show_run.specs.declared.step_log.moments.Moment.{Moment}
use Rattle.show_run.specs.StepLog.Calls.{Call, call_lines}
use Rattle.show_run.specs.StepLog.StepLines.{call_of, guest_lines, moment_of}
use Rattle.show_run.specs.StepLog.Writes.{write_line}

-- the word that the guest's next instruction writes at the address, if it writes one there
abbrev pub written_word : ℕ → List (ℕ × ℕ) → Option ℕ
written_word a ws = option_map (λ w. w.1) (find (λ w. w.0 == a) ws)

-- the line of the instruction, and that of the word, where it writes one
abbrev pub lines_of_write : Moment → ℕ → State → Option ℕ → List ℕ
lines_of_write m a s None = []
lines_of_write m a s (Some new) = guest_lines m s ++ write_line m a (slice_index (words_of s) a) new

-- the word that is at an address then: the one that is written there, or the one before
abbrev pub word_then : Option ℕ → ℕ → ℕ
word_then None old = old
word_then (Some new) old = new

-- the step's call, and the word at the address, where it is another after the step than after its instruction
abbrev pub change_part : Moment → Option Call → ℕ → ℕ → ℕ → List ℕ
change_part m call a old new = if old == new then [] else call_lines m call ++ write_line m a old new

-- How a step from s to t writes the word at the address, a line each: the instruction and its write, also where the same word is there
-- already; and then any other change, by the call that is made, by a resident or by a device.
unfoldable pub step_writes : ℕ → State → State → List ℕ
step_writes a s t =
    let m = moment_of s in
    let w = written_word a (guest_writes s) in
    lines_of_write m a s w ++ change_part m (call_of s) a (word_then w (slice_index (words_of s) a)) (slice_index (words_of t) a)

-- those of the next n steps; a machine that has stopped takes none
unfoldable pub writes_text : ℕ → ℕ → State → List ℕ
writes_text zero a s = []
writes_text (suc n) a s = if is_some (stop_of s) then [] else step_writes a s (step s).state ++ writes_text n a (step s).state

-- what the boot writes at the address, where the first step is 0: before it each word is 0
abbrev pub boot_write : ℕ → ℕ → State → List ℕ
boot_write first a s = if first == 0 then (let w = slice_index (words_of s) a in if w == 0 then [] else write_line BOOT a 0 w) else []
