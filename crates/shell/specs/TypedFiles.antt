-- A file is typed, piece after piece, by the shell's own stream.
use Rattle.std.specs.Prelude.{ℕ, ◌==◌, Bool, true, if◌then◌else◌, Option, Some, None, Result, Ok, Err, List, length}
use Rattle.kernel_model.specs.KernelRecord.Kernel.Mode.{Typing}
use Rattle.ram_disc.specs.Disc.{Disc, Stream, bytes_of, shell_stream, stream_at}
use Rattle.ram_disc.specs.DiscCalls.{Outcome, after_close, after_open_read, after_read_on, bytes_read}
use Rattle.shell.specs.ShellPrograms.ShellPacket.{post_events, posted}
use Rattle.kernel_model.specs.declared.kernel_record.numbers.TheConstants.{SHELL}
use Rattle.shell.specs.Prompts.{prompted, refused}
use Rattle.shell.specs.TurnParts.{ShellTurn, and_then, in_mode, shown, with_disc}

-- a piece has so many bytes, where so many are left
abbrev pub piece_size : ℕ
piece_size = 512

-- the bytes of the next piece
abbrev pub next_piece : Disc → List ℕ
next_piece d = bytes_read d shell_stream piece_size

-- the disc once the next piece was read
abbrev pub after_piece : Disc → Disc
after_piece d = (after_read_on d shell_stream piece_size).disc

-- a stream is at the end of its file
abbrev pub is_at_end : Disc → Option Stream → Bool
is_at_end d None = true
is_at_end d (Some s) = s.position == length (bytes_of d s.name)

-- no byte of the file is left
abbrev pub is_typed : Disc → Bool
is_typed d = is_at_end d (stream_at d shell_stream)

-- the disc with the shell's stream closed
abbrev pub with_stream_closed : Disc → Disc
with_stream_closed d = (after_close d shell_stream).disc

-- the next piece is written
abbrev pub with_piece : ShellTurn → ShellTurn
with_piece x = with_disc (after_piece x.disc) (shown (next_piece x.disc) x)

-- the shell sends its packet to itself, so that it types on at its next turn
abbrev pub goes_on : ShellTurn → ShellTurn
goes_on x = in_mode Typing (and_then (posted SHELL x.store) (post_events SHELL) x)

-- where the file has ended its stream is closed, and the shell prompts; else it types on
abbrev pub after_typing : ShellTurn → ShellTurn
after_typing x = if is_typed x.disc then prompted (with_disc (with_stream_closed x.disc) x) else goes_on x

-- the next piece is typed, and the shell prompts where it was the last one
abbrev pub typed : ShellTurn → ShellTurn
typed x = after_typing (with_piece x)

-- ---- the command

-- the disc with the file open on the shell's stream
abbrev pub opened : Outcome ℕ → ShellTurn → ShellTurn
opened o x = with_disc o.disc x

-- where the file was opened its first piece is typed; else the code is told
abbrev pub typed_if : Result ℕ ℕ → ShellTurn → ShellTurn
typed_if (Ok stream) x = typed x
typed_if (Err code) x = refused code x

-- A file is opened (41, 47), and its first piece typed at once.
abbrev pub with_file_typed : List ℕ → ShellTurn → ShellTurn
with_file_typed name x = typed_if (after_open_read x.disc name true).answer (opened (after_open_read x.disc name true) x)
