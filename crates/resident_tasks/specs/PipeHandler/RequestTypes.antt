-- What the types of requests ask of the pipes, with their arguments.
use Rattle.std.specs.Prelude.{◌==◌, if◌then◌else◌, Option, Some, None}
use Rattle.resident_tasks.specs.declared.resident_requests.requests.Request.{Request}
use Rattle.resident_tasks.specs.declared.pipe_handler.calls.PipeCall.{PipeCall}
use Rattle.resident_tasks.specs.declared.pipe_handler.calls.PipeCall.TheVariants.{CloseEnd, OpenEnd, ReadBytes, WriteBytes}

-- The arguments are a name and an end; a handle, a buffer and a count; and a handle.
abbrev pub pipe_call : Request → Option PipeCall
pipe_call r =
    if r.kind == 20 then Some (OpenEnd r.first r.second) else
    if r.kind == 21 then Some (ReadBytes r.first r.second r.third) else
    if r.kind == 22 then Some (WriteBytes r.first r.second r.third) else
    if r.kind == 23 then Some (CloseEnd r.first) else
    None
