-- What passes through pipes, from request to request.
use Rattle.std.specs.Prelude.{◌≡◌, ℕ, ◌==◌, Bool, if◌then◌else◌, Option, Some, None, Result, Ok, Err, List, [], ◌∷◌, ◌++◌, take}
use Rattle.ram_disc.specs.Name.{IsName}
use Rattle.kernel_model.specs.KernelRecord.Kernel.{Pipe}
use Rattle.kernel_model.specs.KernelRecord.Pipes.{pipe_at}
use Rattle.resident_tasks.specs.PipeHandler.Ends.{place_of}
use Rattle.resident_tasks.specs.PipeHandler.PipeCalls.{Outcome, after_close, after_open, after_read, after_write}

-- A request: an end of the pipe of a name is opened; so many bytes are read, into a buffer that may be written or not; bytes are
-- written, from a buffer that may be read or not; an end is closed.
pub data PipeRequest : Type 0 where
  Open : List ℕ → ℕ → PipeRequest
  Read : ℕ → Bool → ℕ → PipeRequest
  Write : ℕ → Bool → List ℕ → PipeRequest
  Close : ℕ → PipeRequest

-- the name that it has is lawful
abbrev pub IsLawful : PipeRequest → Type 0
IsLawful (Open name end) = IsName name
IsLawful _ = Unit {0}

-- what each request answers, and the pipes after it
abbrev pub after : List (Option Pipe) → PipeRequest → Outcome
after ps (Open name end) = after_open ps name end
after ps (Read handle buffer count) = after_read ps handle buffer count
after ps (Write handle buffer bytes) = after_write ps handle buffer bytes
after ps (Close handle) = after_close ps handle

-- as many of the bytes as the answer counts
abbrev pub counted : Result ℕ ℕ → List ℕ → List ℕ
counted (Ok count) bytes = take count bytes
counted (Err code) bytes = []

-- the bytes that a request put into the pipe at a place
abbrev pub written_to : ℕ → PipeRequest → Outcome → List ℕ
written_to i (Write handle buffer bytes) o = if place_of handle == i then counted o.answer bytes else []
written_to i _ o = []

-- the bytes that a request took from the pipe at a place
abbrev pub read_from : ℕ → PipeRequest → Outcome → List ℕ
read_from i (Read handle buffer count) o = if place_of handle == i then o.bytes else []
read_from i _ o = []

-- all bytes that were written to the pipe at a place since it is there, and all that were read from it
pub record History : Type 0 where
  -- the bytes that were written, the first ones first
  pub written : List ℕ
  -- the bytes that were read, the first ones first
  pub read : List ℕ

-- nothing was written or read yet
abbrev pub no_history : History
no_history = record { written = []; read = [] }

-- what was written to the pipe is what was read from it, and then what it holds
abbrev pub IsHistoryOf : History → Option Pipe → Type 0
IsHistoryOf h None = Unit {0}
IsHistoryOf h (Some p) = h.written ≡ h.read ++ p.held

-- where the pipe is not there, its history begins anew
abbrev pub history_of : Option Pipe → History → History
history_of None h = no_history
history_of (Some p) h = h

-- the history with further bytes that were written, and further ones that were read
abbrev pub with_more : History → List ℕ → List ℕ → History
with_more h written read = record { written = h.written ++ written; read = h.read ++ read }

-- the history of the pipe at a place once these requests are made, one after the other
abbrev pub history_after : ℕ → List (Option Pipe) → History → List PipeRequest → History
history_after i ps h [] = history_of (pipe_at ps i) h
history_after i ps h (r ∷ rs) =
    let o = after ps r in
    history_after i o.pipes (with_more (history_of (pipe_at ps i) h) (written_to i r o) (read_from i r o)) rs

-- the pipes once these requests are made
abbrev pub pipes_after : List (Option Pipe) → List PipeRequest → List (Option Pipe)
pipes_after ps [] = ps
pipes_after ps (r ∷ rs) = pipes_after (after ps r).pipes rs
