-- The requests for pipes: what each answers, and the pipes after it.
use Rattle.std.specs.Prelude.{◌≡◌, ℕ, ◌-◌, ◌==◌, ◌&&◌, ◌||◌, Bool, true, false, not, if◌then◌else◌, Option, Some, None, Result, Ok, Err, List, [], ◌∷◌, ◌++◌, drop, length, nat_le, nat_lt, slice_set, take, unwrap_or}
use Rattle.std.specs.List.{list_any}
use Rattle.std.specs.Option.{is_none, is_some, option_map}
use Rattle.kernel_model.specs.KernelRecord.Kernel.{Pipe}
use Rattle.kernel_model.specs.KernelRecord.Pipes.{most_held, most_pipes, pipe_at}
use Rattle.ram_disc.specs.declared.codes.TheConstants.{BAD_BUFFER, IN_USE, NOT_OPEN}
use Rattle.resident_tasks.specs.PipeHandler.Ends.{handle_at, is_end, is_named, is_open, names_writer, opened, pipe_of, place_for, place_of, without_end}

-- what a request answers, the bytes that it gives, and the pipes after it
pub record Outcome : Type 0 where
  -- its first result, or the code of the refusal
  pub answer : Result ℕ ℕ
  -- the bytes that it gives, the first ones first
  pub bytes : List ℕ
  -- the pipes after it, by their places
  pub pipes : List (Option Pipe)

-- a request is accepted with this answer, gives these bytes, and leaves these pipes
abbrev pub accepted : ℕ → List ℕ → List (Option Pipe) → Outcome
accepted answer bytes ps = record { answer = Ok answer; bytes = bytes; pipes = ps }

-- a request that is refused changes nothing
abbrev pub refused : ℕ → List (Option Pipe) → Outcome
refused code ps = record { answer = Err code; bytes = []; pipes = ps }

-- The tests in their order, each with the code where it fails. Where all hold, it is this outcome.
abbrev pub unless_refused : List (Option Pipe) → List (Bool × ℕ) → Outcome → Outcome
unless_refused ps [] outcome = outcome
unless_refused ps (test ∷ tests) outcome = if test.0 then unless_refused ps tests outcome else refused test.1 ps

-- ---- opening

-- the pipe at a place, where there is such a place
abbrev pub pipe_in_place : List (Option Pipe) → Option ℕ → Option Pipe
pipe_in_place ps None = None
pipe_in_place ps (Some i) = pipe_at ps i

-- the pipe with one more end open, at its place
abbrev pub with_end : List (Option Pipe) → List ℕ → Bool → ℕ → Outcome
with_end ps name writes i = accepted (handle_at i writes) [] (slice_set ps i (Some (opened name writes (pipe_at ps i))))

-- an end is 0, the one that reads, or 1, the one that writes
abbrev pub after_open : List (Option Pipe) → List ℕ → ℕ → Outcome
after_open ps name end =
    unless_refused ps
    ((nat_le end 1, 71) ∷ (not (is_open (end == 1) (pipe_in_place ps (place_for ps name))), IN_USE) ∷ (is_some (place_for ps name), 72) ∷ [])
    (with_end ps name (end == 1) (unwrap_or (place_for ps name) 0))

-- ---- reading

-- the bytes that a pipe holds; none where it is not there
abbrev pub held_by : Option Pipe → List ℕ
held_by None = []
held_by (Some p) = p.held

-- the pipe, where it is there, with these bytes in it
abbrev pub holding : List ℕ → Option Pipe → Option Pipe
holding bytes pipe = option_map (λ (p : Pipe). record p { held = bytes }) pipe

-- it holds bytes, or has come to its end: it was written, and is written no more
abbrev pub has_more : Option Pipe → Bool
has_more None = false
has_more (Some p) = nat_lt 0 (length p.held) || (p.written && not p.writing)

-- as many bytes as there are, but no more than so many; the buffer may be written or not
abbrev pub after_read : List (Option Pipe) → ℕ → Bool → ℕ → Outcome
after_read ps handle buffer count =
    let pipe = pipe_of ps handle in
    unless_refused ps ((is_end ps handle false, NOT_OPEN) ∷ (buffer, BAD_BUFFER) ∷ (has_more pipe, 70) ∷ [])
    (accepted (length (take count (held_by pipe))) (take count (held_by pipe)) (slice_set ps (place_of handle) (holding (drop count (held_by pipe)) pipe)))

-- ---- writing

-- the bytes that a pipe has room for
abbrev pub fitting : Option Pipe → List ℕ → List ℕ
fitting pipe bytes = take (most_held - length (held_by pipe)) bytes

-- as many bytes as there is room for; the buffer may be read or not
abbrev pub after_write : List (Option Pipe) → ℕ → Bool → List ℕ → Outcome
after_write ps handle buffer bytes =
    let pipe = pipe_of ps handle in
    unless_refused ps ((is_end ps handle true, NOT_OPEN) ∷ (buffer, BAD_BUFFER) ∷ (nat_lt (length (held_by pipe)) most_held, 73) ∷ [])
    (accepted (length (fitting pipe bytes)) [] (slice_set ps (place_of handle) (holding (held_by pipe ++ fitting pipe bytes) pipe)))

-- ---- closing

-- An end is closed. Refused where it is not open; the pipe goes with its last end.
abbrev pub after_close : List (Option Pipe) → ℕ → Outcome
after_close ps handle =
    unless_refused ps ((is_end ps handle (names_writer handle), NOT_OPEN) ∷ [])
    (accepted 0 [] (slice_set ps (place_of handle) (without_end (names_writer handle) (pipe_of ps handle))))

-- ---- looking, and setting up

-- pipe k, from 1
abbrev pub pipe_numbered : List (Option Pipe) → ℕ → Option Pipe
pipe_numbered ps k = if k == 0 then None else pipe_at ps (k - 1)

-- Whether the reading end is open, the writing end is, and it ever was: an end is open, and a writing end that is open ever was.
abbrev pub are_ends : Bool × Bool × Bool → Bool
are_ends ends = (ends.0 || ends.1) && (not ends.1 || ends.2)

-- whether pipe k may be made, which is not there: no pipe has its name, and it holds no more than it may
abbrev pub can_restore : List (Option Pipe) → ℕ → Bool × Bool × Bool → List ℕ → List ℕ → Bool
can_restore ps k ends name bytes =
    nat_le 1 k && nat_le k most_pipes && is_none (pipe_numbered ps k) && not (list_any (is_named name) ps) && are_ends ends
    && nat_le (length bytes) most_held

-- a pipe with its name and bytes, and three facts: whether it is open for reading, for writing, and whether it was so for writing
-- at any time
abbrev pub pipe_with : Bool × Bool × Bool → List ℕ → List ℕ → Pipe
pipe_with ends name bytes = record { name = name; held = bytes; reading = ends.0; writing = ends.1; written = ends.2 }

-- pipe k as a saved machine or an undone step has it, where it may be made
abbrev pub after_restore : List (Option Pipe) → ℕ → Bool × Bool × Bool → List ℕ → List ℕ → List (Option Pipe)
after_restore ps k ends name bytes =
    if can_restore ps k ends name bytes then slice_set ps (k - 1) (Some (pipe_with ends name bytes)) else ps
