-- A turn of the file handler in which its request is for a pipe.
use Rattle.std.specs.Prelude.{ℕ, if◌then◌else◌, Option, Some, None, Result, Ok, Err, List, []}
use Rattle.kernel_model.specs.KernelRecord.Kernel.{Pipe}
use Rattle.kernel_model.specs.KernelRecord.Lists.{Lists}
use Rattle.resident_tasks.specs.ResidentRequests.Buffers.{bytes_in, is_readable, is_writable}
use Rattle.resident_tasks.specs.ResidentRequests.Names.{name_at}
use Rattle.resident_tasks.specs.ResidentRequests.Requests.{first_request, taken, words_taken, work}
use Rattle.resident_tasks.specs.ResidentRequests.Turns.{ResidentTurn, Served, request_turn, service}
use Rattle.resident_tasks.specs.declared.resident_requests.requests.Request.{Request}
use Rattle.resident_tasks.specs.declared.resident_requests.requests.TheConstants.{UNKNOWN_TYPE}
use Rattle.resident_tasks.specs.PipeHandler.RequestTypes.{pipe_call}
use Rattle.resident_tasks.specs.declared.pipe_handler.calls.PipeCall.{PipeCall}
use Rattle.resident_tasks.specs.declared.pipe_handler.calls.PipeCall.TheVariants.{CloseEnd, OpenEnd, ReadBytes, WriteBytes}
use Rattle.resident_tasks.specs.PipeHandler.PipeCalls.{Outcome, after_close, after_open, after_read, after_write, refused}

-- a bad name comes before all else
abbrev pub after_open_named : List (Option Pipe) → Result (List ℕ) ℕ → ℕ → Outcome
after_open_named ps (Err code) end = refused code ps
after_open_named ps (Ok name) end = after_open ps name end

-- the bytes of a buffer that may be read
abbrev pub bytes_of_buffer : List ℕ → ℕ → ℕ → List ℕ
bytes_of_buffer s a n = if is_readable s a n then bytes_in s a 0 n else []

-- What is made of what a request asks, of which this is the packet. A request that asks nothing of pipes is refused.
abbrev pub call_outcome : List (Option Pipe) → List ℕ → Lists → ℕ → Option PipeCall → Outcome
call_outcome ps s l packet (Some (OpenEnd name end)) = after_open_named ps (name_at s name) end
call_outcome ps s l packet (Some (ReadBytes handle buffer count)) = after_read ps handle (is_writable s l packet buffer count) count
call_outcome ps s l packet (Some (WriteBytes handle buffer count)) =
    after_write ps handle (is_readable s buffer count) (bytes_of_buffer s buffer count)
call_outcome ps s l packet (Some (CloseEnd handle)) = after_close ps handle
call_outcome ps s l packet None = refused UNKNOWN_TYPE ps

-- what is made of a request, as its type asks
abbrev pub pipe_request : List (Option Pipe) → List ℕ → Lists → Request → Outcome
pipe_request ps s l r = call_outcome ps s l r.packet (pipe_call r)

-- its answer, and the bytes that it gives, which go into its buffer
abbrev pub pipe_service : List (Option Pipe) → List ℕ → Lists → Request → Served
pipe_service ps s l r = service (pipe_request ps s l r).answer r.second (pipe_request ps s l r).bytes

-- the file handler takes its first request, which is for a pipe, and answers it
abbrev pub pipe_turn : List (Option Pipe) → List ℕ → Lists → ResidentTurn
pipe_turn ps s l = request_turn (pipe_service ps) s l

-- the pipes after the turn
abbrev pub pipes_by : List (Option Pipe) → List ℕ → Lists → Option Request → List (Option Pipe)
pipes_by ps s l None = ps
pipes_by ps s l (Some r) = (pipe_request ps s l r).pipes

-- the pipes once the file handler has had its turn
abbrev pub pipes_after_turn : List (Option Pipe) → List ℕ → Lists → List (Option Pipe)
pipes_after_turn ps s l = pipes_by ps (words_taken s l) (taken l).lists (first_request (words_taken s l) (work l))
