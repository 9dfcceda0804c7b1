-- The ends of pipes, and the handles that name them: pipe k, from 1, is read with the handle 2k - 1 and written with 2k.
use Rattle.std.specs.Prelude.{ℕ, ◌+◌, ◌*◌, ◌-◌, ◌/◌, ◌%◌, ◌==◌, ◌&&◌, ◌||◌, Bool, true, false, not, if◌then◌else◌, Option, Some, None, List, [], position}
use Rattle.std.specs.Option.{is_none, option_or}
use Rattle.std.specs.Str.{bytes_eq}
use Rattle.kernel_model.specs.KernelRecord.Kernel.{Pipe}
use Rattle.kernel_model.specs.KernelRecord.Pipes.{pipe_at}

-- ---- ends

-- the writing end of a pipe is open, or the reading one
abbrev pub is_open : Bool → Option Pipe → Bool
is_open writes None = false
is_open true (Some p) = p.writing
is_open false (Some p) = p.reading

-- the pipe with that end open besides; it is a new one where there was none
abbrev pub opened : List ℕ → Bool → Option Pipe → Pipe
opened name false None = record { name = name; held = []; reading = true; writing = false; written = false }
opened name true None = record { name = name; held = []; reading = false; writing = true; written = true }
opened name false (Some p) = record p { reading = true }
opened name true (Some p) = record p { writing = true; written = true }

-- the pipe once one of its ends is closed, the writing one where that is true
abbrev pub closed : Bool → Pipe → Pipe
closed false p = record p { reading = false }
closed true p = record p { writing = false }

-- a pipe stays as long as one of its ends is open
abbrev pub kept : Pipe → Option Pipe
kept p = if p.reading || p.writing then Some p else None

-- what is left of the pipe once that end is closed
abbrev pub without_end : Bool → Option Pipe → Option Pipe
without_end writes None = None
without_end writes (Some p) = kept (closed writes p)

-- ---- handles

-- the handle of an end of the pipe at a place, from 0
abbrev pub handle_at : ℕ → Bool → ℕ
handle_at i false = 2 * i + 1
handle_at i true = 2 * i + 2

-- the place of the pipe that a handle names, from 0
abbrev pub place_of : ℕ → ℕ
place_of handle = (handle - 1) / 2

-- whether a handle names the end that writes
abbrev pub names_writer : ℕ → Bool
names_writer handle = handle % 2 == 0

-- it names the writing end, or the reading one
abbrev pub names_end : ℕ → Bool → Bool
names_end handle true = names_writer handle
names_end handle false = not (names_writer handle)

-- the pipe that a handle names
abbrev pub pipe_of : List (Option Pipe) → ℕ → Option Pipe
pipe_of ps handle = if handle == 0 then None else pipe_at ps (place_of handle)

-- it names that end, which is open
abbrev pub is_end : List (Option Pipe) → ℕ → Bool → Bool
is_end ps handle writes = names_end handle writes && is_open writes (pipe_of ps handle)

-- ---- names

-- whether there is a pipe at a place, and it has the name
abbrev pub is_named : List ℕ → Option Pipe → Bool
is_named name None = false
is_named name (Some p) = bytes_eq p.name name

-- the place of the pipe of this name, or else the lowest one that is free
abbrev pub place_for : List (Option Pipe) → List ℕ → Option ℕ
place_for ps name = option_or (position (is_named name) ps) (position is_none ps)
