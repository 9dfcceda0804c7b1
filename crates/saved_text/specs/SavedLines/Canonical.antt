-- The lines of a saved machine as they are printed: no number has a leading zero.
use Rattle.std.specs.Prelude.{ℕ, ◌<◌, ◌≤◌, ◌^◌, IsTrue, List, [], ◌∷◌, ◌++◌, length, codes, decimal}
use Rattle.hex.specs.Hex.{IsBytes, encode_lower}
use Rattle.byte_streams.specs.Pieces.{hex_digits_of}
use Rattle.word_store.specs.declared.registers.Regs.{Regs}
use Rattle.session_text.specs.Statements.{is_field}
use Rattle.saved_text.specs.SavedLines.Heads.{regs_text}
use Rattle.saved_text.specs.SavedLines.Statements.{Statement, File, Bytes, Stream, Pipe, Key, Word, Go, pipe_text, stream_text}

-- the registers
abbrev pub printed_regs : Regs → List ℕ
printed_regs r = regs_text (decimal r.a) (decimal r.b) (decimal r.c) (decimal r.p) (decimal r.g) (decimal r.pc)

-- the type-ahead
abbrev pub printed_ring : List ℕ → List ℕ
printed_ring bytes = codes "RING :" ++ encode_lower bytes

-- the console's line
abbrev pub printed_console : ℕ → List ℕ → List ℕ
printed_console d bytes = codes "CONSOLE " ++ (decimal d ++ (32 ∷ (codes ":" ++ encode_lower bytes)))

-- the shell's mode and line
abbrev pub printed_shell : ℕ → ℕ → List ℕ → List ℕ
printed_shell m x bytes = codes "SHELL " ++ (decimal m ++ (32 ∷ (decimal x ++ (32 ∷ (codes ":" ++ encode_lower bytes)))))

-- a statement
abbrev pub statement_text : Statement → List ℕ
statement_text (File name) = codes "FILE " ++ name
statement_text (Bytes bytes) = codes ":" ++ encode_lower bytes
statement_text (Stream k m position name) = stream_text (decimal k) (decimal m) (decimal position) name
statement_text (Pipe k r w e name bytes) = pipe_text (decimal k) (decimal r) (decimal w) (decimal e) name (encode_lower bytes)
statement_text (Key step byte) = codes "KEY " ++ (decimal step ++ (32 ∷ encode_lower (byte ∷ [])))
statement_text (Word address word) = codes "W " ++ (decimal address ++ (32 ∷ hex_digits_of word))
statement_text (Go steps) = codes "GO " ++ decimal steps

-- its numbers have ten digits at most, its name is a field, and its bytes and words are bytes and words
abbrev pub IsPrintable : Statement → Type 0
IsPrintable (File name) = IsTrue (is_field name)
IsPrintable (Bytes bytes) = (1 ≤ length bytes) × (length bytes ≤ 32) × IsBytes bytes
IsPrintable (Stream k m position name) = (k < 10 ^ 10) × (m < 10 ^ 10) × (position < 10 ^ 10) × IsTrue (is_field name)
IsPrintable (Pipe k r w e name bytes) =
    (k < 10 ^ 10) × (r < 10 ^ 10) × (w < 10 ^ 10) × (e < 10 ^ 10) × IsTrue (is_field name) × IsBytes bytes
IsPrintable (Key step byte) = (step < 10 ^ 10) × (byte < 256)
IsPrintable (Word address word) = (address < 10 ^ 10) × (word < 2 ^ 32)
IsPrintable (Go steps) = steps < 10 ^ 10
