-- What the types of requests ask of the file handler.
use Rattle.std.specs.Prelude.{ℕ, ◌==◌, if◌then◌else◌, Option, Some, None}
use Rattle.resident_tasks.specs.declared.file_handler.calls.FileCall.{FileCall}
use Rattle.resident_tasks.specs.declared.file_handler.calls.FileCall.TheVariants.{Append, Close, Delete, Examine, OpenToRead, OpenToWrite, ReadOn, Rename}

-- what a request of each type asks of the file handler; other types ask nothing
abbrev pub file_call : ℕ → Option FileCall
file_call kind =
    if kind == 10 then Some OpenToRead else
    if kind == 11 then Some OpenToWrite else
    if kind == 12 then Some ReadOn else
    if kind == 13 then Some Append else
    if kind == 14 then Some Close else
    if kind == 15 then Some Delete else
    if kind == 16 then Some Rename else
    if kind == 17 then Some Examine else
    None
