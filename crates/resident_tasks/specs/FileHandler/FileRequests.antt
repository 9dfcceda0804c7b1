-- What the file handler makes of each request: its tests in their order with their codes, the disc afterwards, and the answer.
use Rattle.std.specs.Prelude.{ℕ, ◌==◌, ◌&&◌, Bool, false, if◌then◌else◌, Option, Some, None, Result, Ok, Err, List, [], ◌∷◌, ◌++◌, length, replicate, take}
use Rattle.std.specs.Option.{is_some}
use Rattle.kernel_model.specs.KernelRecord.Lists.{Lists}
use Rattle.ram_disc.specs.Disc.{Disc, Stream, shell_stream, stream_at}
use Rattle.ram_disc.specs.DiscCalls.{Outcome, after_append, after_close, after_delete, after_open_read, after_open_write, after_read_on, after_rename, bytes_read, is_reader, is_writer, nth_of}
use Rattle.resident_tasks.specs.ResidentRequests.Buffers.{bytes_in, is_readable, is_writable}
use Rattle.resident_tasks.specs.ResidentRequests.Names.{is_name_at, string_in}
use Rattle.resident_tasks.specs.declared.resident_requests.requests.Request.{Request}
use Rattle.ram_disc.specs.declared.codes.TheConstants.{BAD_BUFFER, BAD_NAME, NO_FILE, NOT_OPEN}
use Rattle.resident_tasks.specs.declared.resident_requests.requests.TheConstants.{UNKNOWN_TYPE}
use Rattle.resident_tasks.specs.FileHandler.FileCalls.{file_call}
use Rattle.resident_tasks.specs.declared.file_handler.calls.FileCall.{FileCall}
use Rattle.resident_tasks.specs.declared.file_handler.calls.FileCall.TheVariants.{Append, Close, Delete, Examine, OpenToRead, OpenToWrite, ReadOn, Rename}

-- the disc after a request, its answer, and the bytes for its buffer, which begins at its second argument
pub record Handled : Type 0 where
  -- the disc after the request
  pub disc : Disc
  -- its first result, or the code of the refusal
  pub answer : Result ℕ ℕ
  -- the bytes for its buffer, from the buffer's first
  pub bytes : List ℕ

-- a request leaves this disc, and gets this answer, and these bytes in its buffer
abbrev pub handled : Disc → Result ℕ ℕ → List ℕ → Handled
handled d answer bytes = record { disc = d; answer = answer; bytes = bytes }

-- a request that is refused with a code changes nothing
abbrev pub refused : Disc → ℕ → Handled
refused d code = handled d (Err code) []

-- The tests in their order, each with the code where it fails. Where all hold, this is what is made of the request; its own
-- tests come after these.
abbrev pub unless_refused : Disc → List (Bool × ℕ) → Handled → Handled
unless_refused d [] m = m
unless_refused d (test ∷ tests) m = if test.0 then unless_refused d tests m else refused d test.1

-- what a call on the disc makes of it
abbrev pub by_call : Outcome ℕ → Handled
by_call o = handled o.disc o.answer []

-- the answer of a request whose call on the disc gives nothing back: n where it is accepted
abbrev pub answer_with : ℕ → Result (Unit {0}) ℕ → Result ℕ ℕ
answer_with n (Ok u) = Ok n
answer_with n (Err code) = Err code

-- what a call on the disc leaves that gives nothing back: its answer is n where it is accepted
abbrev pub by_silent_call : ℕ → Outcome (Unit {0}) → Handled
by_silent_call n o = handled o.disc (answer_with n o.answer) []

-- ---- files

-- the name at the first argument
abbrev pub first_name : List ℕ → Request → List ℕ
first_name s r = string_in s r.first

-- the name at the second argument
abbrev pub second_name : List ℕ → Request → List ℕ
second_name s r = string_in s r.second

-- A file is opened to read: a bad name is code 40; then no such file 41, a stream writes it 47, no stream is free 45.
abbrev pub open_to_read : Disc → List ℕ → Request → Handled
open_to_read d s r =
    unless_refused d ((is_name_at s r.first, BAD_NAME) ∷ []) (by_call (after_open_read d (first_name s r) false))

-- To write, and the file is emptied: a bad name is code 40; then any stream has it 47, no stream is free 45, there are 64 files 44.
abbrev pub open_to_write : Disc → List ℕ → Request → Handled
open_to_write d s r =
    unless_refused d ((is_name_at s r.first, BAD_NAME) ∷ []) (by_call (after_open_write d (first_name s r)))

-- A file is deleted: a bad name is code 40; then no such file 41, any stream has it 47.
abbrev pub delete : Disc → List ℕ → Request → Handled
delete d s r =
    unless_refused d ((is_name_at s r.first, BAD_NAME) ∷ []) (by_silent_call 0 (after_delete d (first_name s r)))

-- It gets another name: a bad name of the two is code 40; then no such file 41, one has the new name 42, any stream has it 47.
abbrev pub rename : Disc → List ℕ → Request → Handled
rename d s r =
    unless_refused d ((is_name_at s r.first && is_name_at s r.second, BAD_NAME) ∷ [])
    (by_silent_call 0 (after_rename d (first_name s r) (second_name s r)))

-- the 16 bytes of the buffer for a name: it as a string, and zeros after it
abbrev pub name_buffer : List ℕ → List ℕ
name_buffer name = take 16 (length name ∷ name ++ replicate 16 0)

-- The k-th file in byte order, from 1, is examined: no such file is code 41, a bad buffer 48. The answer is its size.
abbrev pub examined : Disc → List ℕ → Lists → Request → Option (List ℕ × ℕ) → Handled
examined d s l r None = refused d NO_FILE
examined d s l r (Some file) =
    unless_refused d ((is_writable s l r.packet r.second 16, BAD_BUFFER) ∷ []) (handled d (Ok file.1) (name_buffer file.0))

-- the name and the length of one file, by its place in byte order
abbrev pub examine : Disc → List ℕ → Lists → Request → Handled
examine d s l r = examined d s l r (nth_of d r.first)

-- ---- streams

-- the stream of this number, where it is open and not the shell's
abbrev pub handler_stream : Disc → ℕ → Option Stream
handler_stream d k = if k == shell_stream then None else stream_at d k

-- A stream is read: it is none that reads, code 46, or the buffer is bad 48. The answer is the number of the bytes, which are as many
-- as the third argument says, or those that are left.
abbrev pub read_on : Disc → List ℕ → Lists → Request → Handled
read_on d s l r =
    unless_refused d ((is_reader (handler_stream d r.first), NOT_OPEN) ∷ (is_writable s l r.packet r.second r.third, BAD_BUFFER) ∷ [])
    (record (by_call (after_read_on d r.first r.third)) { bytes = bytes_read d r.first r.third })

-- Bytes are written to a stream: it is none that writes, code 46, or the buffer is bad 48; then the disc is full 43. The answer is the
-- number of the bytes.
abbrev pub append : Disc → List ℕ → Request → Handled
append d s r =
    unless_refused d ((is_writer (handler_stream d r.first), NOT_OPEN) ∷ (is_readable s r.second r.third, BAD_BUFFER) ∷ [])
    (by_silent_call r.third (after_append d r.first (bytes_in s r.second 0 r.third)))

-- A stream is closed: it is not open, code 46.
abbrev pub close : Disc → Request → Handled
close d r =
    unless_refused d ((is_some (handler_stream d r.first), NOT_OPEN) ∷ []) (by_silent_call 0 (after_close d r.first))

-- ---- all requests

-- what the file handler makes of a request, by what its type asks
abbrev pub call_handled : Disc → List ℕ → Lists → Request → Option FileCall → Handled
call_handled d s l r (Some OpenToRead) = open_to_read d s r
call_handled d s l r (Some OpenToWrite) = open_to_write d s r
call_handled d s l r (Some ReadOn) = read_on d s l r
call_handled d s l r (Some Append) = append d s r
call_handled d s l r (Some Close) = close d r
call_handled d s l r (Some Delete) = delete d s r
call_handled d s l r (Some Rename) = rename d s r
call_handled d s l r (Some Examine) = examine d s l r
call_handled d s l r None = refused d UNKNOWN_TYPE

-- the words and the lists are those that taking the request leaves
unfoldable pub file_request : Disc → List ℕ → Lists → Request → Handled
file_request d s l r = call_handled d s l r (file_call r.kind)
