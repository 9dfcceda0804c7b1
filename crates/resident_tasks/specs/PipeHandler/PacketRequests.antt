-- The requests for pipes that packets make.
use Rattle.std.specs.Prelude.{ℕ, Option, Some, None, Result, Ok, Err, List, [], ◌∷◌}
use Rattle.kernel_model.specs.KernelRecord.Kernel.{Pipe}
use Rattle.kernel_model.specs.KernelRecord.Lists.{Lists}
use Rattle.resident_tasks.specs.ResidentRequests.Buffers.{is_readable, is_writable}
use Rattle.resident_tasks.specs.ResidentRequests.Names.{name_at}
use Rattle.resident_tasks.specs.ResidentRequests.Requests.{first_request, taken, words_taken, work}
use Rattle.resident_tasks.specs.declared.resident_requests.requests.Request.{Request}
use Rattle.resident_tasks.specs.declared.resident_requests.requests.TheConstants.{UNKNOWN_TYPE}
use Rattle.resident_tasks.specs.PipeHandler.RequestTypes.{pipe_call}
use Rattle.resident_tasks.specs.declared.pipe_handler.calls.PipeCall.{PipeCall}
use Rattle.resident_tasks.specs.declared.pipe_handler.calls.PipeCall.TheVariants.{CloseEnd, OpenEnd, ReadBytes, WriteBytes}
use Rattle.resident_tasks.specs.PipeHandler.Histories.{PipeRequest, after}
use Rattle.resident_tasks.specs.PipeHandler.Histories.PipeRequest.{Close, Open, Read, Write}
use Rattle.resident_tasks.specs.PipeHandler.PipeCalls.{Outcome, refused}
use Rattle.resident_tasks.specs.PipeHandler.PipeTurns.{bytes_of_buffer}

-- the request to open the end of the pipe with a name, unless the name is bad
abbrev pub opening : Result (List ℕ) ℕ → ℕ → Result PipeRequest ℕ
opening (Ok name) end = Ok (Open name end)
opening (Err code) end = Err code

-- the request of what is asked by this packet; or none, since its name is bad (40) or it asks nothing of pipes (31)
abbrev pub asked_by : List ℕ → Lists → ℕ → Option PipeCall → Result PipeRequest ℕ
asked_by s l packet (Some (OpenEnd name end)) = opening (name_at s name) end
asked_by s l packet (Some (ReadBytes handle buffer count)) = Ok (Read handle (is_writable s l packet buffer count) count)
asked_by s l packet (Some (WriteBytes handle buffer count)) = Ok (Write handle (is_readable s buffer count) (bytes_of_buffer s buffer count))
asked_by s l packet (Some (CloseEnd handle)) = Ok (Close handle)
asked_by s l packet None = Err UNKNOWN_TYPE

-- the request that a packet makes
abbrev pub asked : List ℕ → Lists → Request → Result PipeRequest ℕ
asked s l r = asked_by s l r.packet (pipe_call r)

-- what the packet comes to
abbrev pub outcome_of : List (Option Pipe) → Result PipeRequest ℕ → Outcome
outcome_of ps (Ok q) = after ps q
outcome_of ps (Err code) = refused code ps

-- the requests that are made in a turn: one, or none
abbrev pub requests_of : Result PipeRequest ℕ → List PipeRequest
requests_of (Ok q) = q ∷ []
requests_of (Err code) = []

-- the request of a packet that was taken, or none
abbrev pub requests_by : List ℕ → Lists → Option Request → List PipeRequest
requests_by s l None = []
requests_by s l (Some r) = requests_of (asked s l r)

-- the request for a pipe that is made in a turn of the file handler, or none
abbrev pub requests_in_turn : List ℕ → Lists → List PipeRequest
requests_in_turn s l = requests_by (words_taken s l) (taken l).lists (first_request (words_taken s l) (work l))
