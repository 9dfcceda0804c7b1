-- The parts of the text of a saved machine, in the order in which they are printed.
use Rattle.std.specs.Prelude.{ℕ, Bool, false, List, [], ◌∷◌, ◌++◌, codes, decimal, map}
use Rattle.std.specs.List.{flat_map}
use Rattle.module_text.specs.TextReader.Lines.{text_of_lines}
use Rattle.ram_disc.specs.Disc.{Disc, File}
use Rattle.word_store.specs.declared.registers.Regs.{Regs}
use Rattle.kernel_model.specs.KernelRecord.Kernel.{Console, Kernel, Shell}
use Rattle.saved_text.specs.SavedLines.Canonical.{printed_console, printed_regs, printed_ring, printed_shell, statement_text}
use Rattle.saved_text.specs.SavedLines.Statements.{Statement, Bytes, Go}
use Rattle.saved_text.specs.Canonical.{machine_text}
use Rattle.saved_text.specs.ImageForm.{awaited, byte_lines, file_statements, flag, key_statement, mode_number, pipe_statement, stream_statement, word_statements}
use Rattle.saved_machine.specs.ImagePrint.SavedImage.{numbered_pipes, numbered_streams, saved_file, saved_mode}

-- a line for each statement
abbrev pub statements_text : List Statement → List ℕ
statements_text ss = text_of_lines (map statement_text ss)

-- the first five lines: version, size of the store, machine, steps taken, registers
abbrev pub head_lines : ℕ → ℕ → Bool → ℕ → ℕ → Regs → List (List ℕ)
head_lines version words bare period step regs =
    (codes "TRIPOS-IMAGE " ++ decimal version) ∷ (codes "STORE " ++ decimal words) ∷ machine_text bare period
    ∷ (codes "STEP " ++ decimal step) ∷ printed_regs regs ∷ []

-- the console's line
abbrev pub console_line : Console → List ℕ
console_line console = printed_console (flag console.finished) console.line

-- the shell's line
abbrev pub shell_line : Shell → List ℕ
shell_line shell = printed_shell (mode_number (saved_mode shell.mode)) (awaited (saved_mode shell.mode)) shell.line

-- the lines of the type-ahead, the console and the shell
abbrev pub resident_lines : List ℕ → Console → Shell → List (List ℕ)
resident_lines ahead console shell = printed_ring ahead ∷ console_line console ∷ shell_line shell ∷ []

-- the files, each with the lines of its bytes
abbrev pub files_text : List File → List ℕ
files_text files = statements_text (flat_map file_statements (map saved_file files))

-- the lines of a file's bytes
abbrev pub bytes_text : List ℕ → List ℕ
bytes_text bytes = statements_text (map (λ line. Bytes line) (byte_lines bytes))

-- the files, and the open streams
abbrev pub disc_text : Disc → List ℕ
disc_text d = files_text d.files ++ statements_text (map stream_statement (numbered_streams d.streams))

-- the words from an address on, and the last line
abbrev pub end_text : ℕ → List ℕ → List ℕ
end_text go words = statements_text (word_statements 0 words) ++ statements_text (Go go ∷ [])

-- the text of a machine with a kernel, up to its files
abbrev pub front_text : Kernel → List ℕ
front_text k =
    text_of_lines (head_lines k.lists.version k.lists.size false k.lists.period k.steps k.regs) ++ text_of_lines (resident_lines k.type_ahead k.console k.shell)

-- the lines of an image's files, streams, pipes and keys
abbrev pub entries_text : Kernel → List ℕ
entries_text k =
    disc_text k.disc ++ (statements_text (map pipe_statement (numbered_pipes k.pipes)) ++ statements_text (map key_statement k.keys))
