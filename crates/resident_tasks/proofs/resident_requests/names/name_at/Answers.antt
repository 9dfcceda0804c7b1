use Rattle.std.proofs.Common.{◌∙◌, sym}
use Rattle.resident_tasks.proofs.ResidentRequests.NamesRead.{long-name, name-read}
use Rattle.resident_tasks.proofs.resident_requests.names.name_at.Goals as goal

pub returns-then-length-gt-MOST_NAME_BYTES : goal.returns-then-length-gt-MOST_NAME_BYTES
returns-then-length-gt-MOST_NAME_BYTES c = long-name c.args.store.now c.args.a c.byte_in-length.result c.byte_in-length.ensures c.if-length-gt-MOST_NAME_BYTES.true

pub returns : goal.returns
returns c =
    c.ok_or.ensures.value
    ∙ name-read c.args.store.now c.args.a c.byte_in-length.result c.byte_in-length.ensures (sym c.lies_inside.ensures ∙ c.if-not-lies_inside.false) c.as_slice.result.now
    (c.as_slice.ensures.value ∙ c.name_bytes-bytes.ensures) c.read.result c.read.ensures
