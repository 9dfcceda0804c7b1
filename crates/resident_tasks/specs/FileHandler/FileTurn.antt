-- The turn of the file handler, and the disc after it.
use Rattle.std.specs.Prelude.{◌≡◌, ℕ, Option, Some, None, List}
use Rattle.kernel_model.specs.KernelRecord.Lists.{Lists}
use Rattle.ram_disc.specs.Disc.{Disc}
use Rattle.resident_tasks.specs.ResidentRequests.Requests.{RunsResident, first_request, taken, words_taken, work}
use Rattle.resident_tasks.specs.ResidentRequests.Turns.{ResidentTurn, Served, request_turn, service}
use Rattle.resident_tasks.specs.declared.resident_requests.requests.Request.{Request}
use Rattle.kernel_model.specs.declared.kernel_record.numbers.TheConstants.{FILE_HANDLER}
use Rattle.resident_tasks.specs.FileHandler.FileRequests.{Handled, file_request}

-- the file handler runs
pub record RunsFileHandler (l : Lists) : Type 0 where
  -- a resident runs
  pub runs : RunsResident l
  -- it is the file handler
  pub is : l.running ≡ FILE_HANDLER

-- what it makes of a request goes back to the sender
abbrev pub served : Request → Handled → Served
served r m = service m.answer r.second m.bytes

-- what the sender of a request gets
abbrev pub file_service : Disc → List ℕ → Lists → Request → Served
file_service d s l r = served r (file_request d s l r)

-- the file handler takes its first request, and answers it
abbrev pub file_turn : Disc → List ℕ → Lists → ResidentTurn
file_turn d s l = request_turn (file_service d) s l

-- without a request the disc stays
abbrev pub disc_after : Option Request → Disc → List ℕ → Lists → Disc
disc_after None d s l = d
disc_after (Some r) d s l = (file_request d s l r).disc

-- the disc once the file handler has had its turn
abbrev pub disc_after_turn : Disc → List ℕ → Lists → Disc
disc_after_turn d s l =
    disc_after (first_request (words_taken s l) (work l)) d (words_taken s l) (taken l).lists
