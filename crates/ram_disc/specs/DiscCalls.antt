-- What each call on a disc answers, and the disc after it.
use Rattle.std.specs.Prelude.{ℕ, ◌+◌, ◌-◌, ◌==◌, ◌&&◌, ◌||◌, nat_le, nat_lt, Bool, true, false, not, if◌then◌else◌, Option, Some, None, Result, Ok, Err, List, [], ◌∷◌, ◌++◌, drop, filter, length, position, slice_get, slice_set, take, unwrap_or}
use Rattle.std.specs.Option.{is_none, is_some, option_map}
use Rattle.std.specs.Str.{bytes_eq}
use Rattle.ram_disc.specs.Disc.{Disc, File, Stream, bytes_of, file_named, has_file, is_before, is_used, is_written, most_files, most_sectors, most_streams, sectors_taken, shell_stream, stream_at}
use Rattle.ram_disc.specs.declared.codes.TheConstants.{DIRECTORY_FULL, DISC_FULL, IN_USE, NAME_TAKEN, NO_FILE, NO_STREAM, NOT_OPEN}

-- what a call answers, and the disc after it
pub record Outcome (A : Type 0) : Type 0 where
  -- what the call answers, or the code of its refusal
  pub answer : Result A ℕ
  -- the disc after it
  pub disc : Disc

-- The tests in their order, each with the code where it fails; then nothing changes. Where all hold, this is the answer and
-- the disc.
abbrev pub unless_refused : {A : Type 0} → Disc → List (Bool × ℕ) → A → Disc → Outcome A
unless_refused d [] answer next = record { answer = Ok answer; disc = next }
unless_refused d (test ∷ tests) answer next =
    if test.0 then unless_refused d tests answer next else record { answer = Err test.1; disc = d }

-- the file with a name and its bytes
abbrev pub file : List ℕ → List ℕ → File
file name bytes = record { name = name; bytes = bytes }

-- the files with this one, in place of any of its name: those before it, it, and those after it
abbrev pub with_file : File → List File → List File
with_file f files = filter (λ g. is_before g.name f.name) files ++ f ∷ filter (λ g. is_before f.name g.name) files

-- the files but for the one of this name
abbrev pub without_file : List ℕ → List File → List File
without_file name files = filter (λ g. not (bytes_eq g.name name)) files

-- the disc, with these bytes as the file of that name
abbrev pub with_bytes : Disc → List ℕ → List ℕ → Disc
with_bytes d name bytes = record d { files = with_file (file name bytes) d.files }

-- the disc, with stream k as given
abbrev pub with_stream : Disc → ℕ → Option Stream → Disc
with_stream d k s = record d { streams = slice_set d.streams (k - 1) s }

-- a stream that reads a file, from a place in it, in bytes
abbrev pub reader : List ℕ → ℕ → Stream
reader name place = record { name = name; position = place; writes = false }

-- a stream that writes a file, at a place in it, in bytes
abbrev pub writer : List ℕ → ℕ → Stream
writer name place = record { name = name; position = place; writes = true }

-- the streams of the file handler
abbrev pub handler_streams : Disc → List (Option Stream)
handler_streams d = take (shell_stream - 1) d.streams

-- whether a stream is free
abbrev pub has_free_stream : Disc → Bool
has_free_stream d = is_some (position is_none (handler_streams d))

-- the lowest of those that are free
abbrev pub free_stream : Disc → ℕ
free_stream d = unwrap_or (position is_none (handler_streams d)) 0 + 1

-- the stream that an opening to read takes
abbrev pub stream_to_read : Disc → Bool → ℕ
stream_to_read d shell = if shell then shell_stream else free_stream d

-- A file is opened to read from its first byte. Refused where there is no such file, where a stream writes it, and where no
-- stream is free; the shell has a stream of its own.
abbrev pub after_open_read : Disc → List ℕ → Bool → Outcome ℕ
after_open_read d name shell =
    unless_refused d ((has_file d name, NO_FILE) ∷ (not (is_written d name), IN_USE) ∷ (shell || has_free_stream d, NO_STREAM) ∷ [])
    (stream_to_read d shell) (with_stream d (stream_to_read d shell) (Some (reader name 0)))

-- there is such a file already, or room for one
abbrev pub has_place : Disc → List ℕ → Bool
has_place d name = has_file d name || nat_lt (length d.files) most_files

-- A file is opened to write, and begins empty. Refused where a stream is open on it, where no stream is free, and where a new
-- file has no room in the directory.
abbrev pub after_open_write : Disc → List ℕ → Outcome ℕ
after_open_write d name =
    unless_refused d ((not (is_used d name), IN_USE) ∷ (has_free_stream d, NO_STREAM) ∷ (has_place d name, DIRECTORY_FULL) ∷ [])
    (free_stream d) (with_stream (with_bytes d name []) (free_stream d) (Some (writer name 0)))

-- the stream is open, and reads
abbrev pub is_reader : Option Stream → Bool
is_reader None = false
is_reader (Some s) = not s.writes

-- the stream is open, and writes
abbrev pub is_writer : Option Stream → Bool
is_writer None = false
is_writer (Some s) = s.writes

-- the bytes that are left before an open stream's file ends
abbrev pub bytes_left : Disc → Option Stream → List ℕ
bytes_left d None = []
bytes_left d (Some s) = drop s.position (bytes_of d s.name)

-- the stream, so many bytes further on
abbrev pub moved_on : ℕ → Option Stream → Option Stream
moved_on n s = option_map (λ (t : Stream). record t { position = t.position + n }) s

-- the bytes that a reading of so many gives
abbrev pub bytes_read : Disc → ℕ → ℕ → List ℕ
bytes_read d k count = if is_reader (stream_at d k) then take count (bytes_left d (stream_at d k)) else []

-- A stream reads its next bytes, at most so many, and moves on past them. Refused where it is not open to read.
abbrev pub after_read_on : Disc → ℕ → ℕ → Outcome ℕ
after_read_on d k count =
    unless_refused d ((is_reader (stream_at d k), NOT_OPEN) ∷ [])
    (length (bytes_read d k count)) (with_stream d k (moved_on (length (bytes_read d k count)) (stream_at d k)))

-- the disc, with these bytes after those of the file that an open stream is on
abbrev pub with_more : Disc → Option Stream → List ℕ → Disc
with_more d None bytes = d
with_more d (Some s) bytes = with_bytes d s.name (bytes_of d s.name ++ bytes)

-- the files take no more sectors than there are
abbrev pub has_room : Disc → Bool
has_room d = nat_le (sectors_taken d.files) most_sectors

-- A stream writes these bytes at the end of its file. Refused where it is not open to write, and where the disc would be too
-- full.
abbrev pub after_append : Disc → ℕ → List ℕ → Outcome Unit
after_append d k bytes =
    unless_refused d ((is_writer (stream_at d k), NOT_OPEN) ∷ (has_room (with_more d (stream_at d k) bytes), DISC_FULL) ∷ [])
    tt (with_stream (with_more d (stream_at d k) bytes) k (moved_on (length bytes) (stream_at d k)))

-- A stream is closed. Refused where it is not open.
abbrev pub after_close : Disc → ℕ → Outcome Unit
after_close d k = unless_refused d ((is_some (stream_at d k), NOT_OPEN) ∷ []) tt (with_stream d k None)

-- A file goes. Refused where there is none of this name, and while a stream is open on it.
abbrev pub after_delete : Disc → List ℕ → Outcome Unit
after_delete d name =
    unless_refused d ((has_file d name, NO_FILE) ∷ (not (is_used d name), IN_USE) ∷ [])
    tt (record d { files = without_file name d.files })

-- the files, with the one name in place of the other
abbrev pub renamed : Disc → List ℕ → List ℕ → List File
renamed d old new = with_file (file new (bytes_of d old)) (without_file old d.files)

-- A file gets another name. Refused where there is none of the old name, where there is one of the new name, and while a stream
-- is open on it.
abbrev pub after_rename : Disc → List ℕ → List ℕ → Outcome Unit
after_rename d old new =
    unless_refused d ((has_file d old, NO_FILE) ∷ (not (has_file d new), NAME_TAKEN) ∷ (not (is_used d old), IN_USE) ∷ [])
    tt (record d { files = renamed d old new })

-- the size of the file of this name
abbrev pub size_of : Disc → List ℕ → Option ℕ
size_of d name = option_map (λ f. length f.bytes) (file_named d name)

-- the name and the size of the k-th file, from 1
abbrev pub nth_of : Disc → ℕ → Option (List ℕ × ℕ)
nth_of d k = if k == 0 then None else option_map (λ f. (f.name, length f.bytes)) (slice_get d.files (k - 1))

-- the name, the position and the kind of stream k
abbrev pub stream_of : Disc → ℕ → Option (List ℕ × ℕ × Bool)
stream_of d k = option_map (λ (s : Stream). (s.name, s.position, s.writes)) (stream_at d k)

-- a stream may write this file from that place on: it is the file's end, and no stream is on the file
abbrev pub can_write_from : Disc → List ℕ → ℕ → Bool
can_write_from d name place = (place == length (bytes_of d name)) && not (is_used d name)

-- Stream k may be set on this place of the file. The shell's stream reads, so it may not be set to write.
abbrev pub can_restore : Disc → ℕ → List ℕ → ℕ → Bool → Bool
can_restore d k name place writes =
    nat_le 1 k && nat_le k most_streams && is_none (stream_at d k) && has_file d name
    && nat_le place (length (bytes_of d name)) && not (is_written d name)
    && (not writes || (not (k == shell_stream) && can_write_from d name place))

-- the disc, with stream k on this place of the file
abbrev pub with_place : Disc → ℕ → List ℕ → ℕ → Bool → Disc
with_place d k name place writes = with_stream d k (Some (record { name = name; position = place; writes = writes }))

-- a stream is put back to a place of a file, as a saved machine or an undone step has it, where it can be there
abbrev pub after_restore : Disc → ℕ → List ℕ → ℕ → Bool → Disc
after_restore d k name place writes = if can_restore d k name place writes then with_place d k name place writes else d
