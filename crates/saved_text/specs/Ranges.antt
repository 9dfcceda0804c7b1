-- The ranges of the numbers and names of a saved machine.
use Rattle.std.specs.Prelude.{ℕ, ◌^◌, ◌==◌, ◌&&◌, if◌then◌else◌, Bool, List, Option, Some, None, nat_le, nat_lt}
use Rattle.ram_disc.specs.Name.{is_name}
use Rattle.saved_text.specs.declared.images.Mode.{Mode}
use Rattle.saved_text.specs.declared.images.Mode.TheVariants.{Prompt, Reading, Waiting, Typing}
use Rattle.saved_text.specs.declared.images.SavedPipe.{SavedPipe}
use Rattle.saved_text.specs.declared.images.SavedStream.{SavedStream}

-- 0 or 1
abbrev pub is_flag : ℕ → Bool
is_flag n = nat_le n 1

-- the number of a stream is from 1 to 17, whether it writes is 0 or 1, and its position is a word
abbrev pub are_stream_numbers : ℕ → ℕ → ℕ → Bool
are_stream_numbers k m position = nat_le 1 k && nat_le k 17 && is_flag m && nat_lt position (2 ^ 32)

-- the stream with these numbers and this name, where they are in their ranges
abbrev pub stream_of : ℕ → ℕ → ℕ → List ℕ → Option SavedStream
stream_of k m position name =
    if are_stream_numbers k m position && is_name name
    then Some (record { k = k; writes = m == 1; position = position; name = name })
    else None

-- the number of a pipe is from 1 to 8, and each of its three facts is 0 or 1
abbrev pub are_pipe_numbers : ℕ → ℕ → ℕ → ℕ → Bool
are_pipe_numbers k r w e = nat_le 1 k && nat_le k 8 && is_flag r && is_flag w && is_flag e

-- the pipe with these numbers, this name and these bytes, where the numbers and the name are in their ranges
abbrev pub pipe_of : ℕ → ℕ → ℕ → ℕ → List ℕ → List ℕ → Option SavedPipe
pipe_of k r w e name held =
    if are_pipe_numbers k r w e && is_name name
    then Some (record { k = k; reading = r == 1; writing = w == 1; written = e == 1; name = name; held = held })
    else None

-- the mode of this number, with the number of the task that is waited for, which else is 0
abbrev pub mode_of : ℕ → ℕ → Option Mode
mode_of m x =
    if m == 2 then (if nat_lt x (2 ^ 32) then Some (Waiting x) else None) else
    if x == 0 then (
    if m == 0 then Some Prompt else
    if m == 1 then Some Reading else
    if m == 3 then Some Typing else
    None
    ) else None
