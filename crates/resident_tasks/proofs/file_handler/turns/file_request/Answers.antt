use Rattle.std.proofs.Common.{Err, ◌∙◌}
use Rattle.resident_tasks.specs.FileHandler.FileRequests.{handled}
use Rattle.resident_tasks.specs.declared.file_handler.calls.FileCall.TheVariants.{Append, Close, Delete, Examine, OpenToRead, OpenToWrite, ReadOn, Rename}
use Rattle.resident_tasks.proofs.FileHandler.HandledCalls.{of-asked, of-unasked}
use Rattle.resident_tasks.proofs.file_handler.turns.file_request.Goals as goal

pub returns-in-Some-OpenToRead : goal.returns-in-Some-OpenToRead
returns-in-Some-OpenToRead g c = λ l k.
    of-asked c.args.disc.now c.args.store.now l c.args.request (handled c.open_to_read.new.disc c.open_to_read.result c.args.bytes.now.items) c.in-Some-OpenToRead.field-0 OpenToRead c.in-Some-OpenToRead.field-0-is c.in-Some-OpenToRead.ensures
    ((λ k. handled c.open_to_read.new.disc c.open_to_read.result (c.requires.empty k)) ∙ c.open_to_read.ensures)

pub returns-in-Some-OpenToWrite : goal.returns-in-Some-OpenToWrite
returns-in-Some-OpenToWrite g c = λ l k.
    of-asked c.args.disc.now c.args.store.now l c.args.request (handled c.open_to_write.new.disc c.open_to_write.result c.args.bytes.now.items) c.in-Some-OpenToWrite.field-0 OpenToWrite c.in-Some-OpenToWrite.field-0-is c.in-Some-OpenToWrite.ensures
    ((λ k. handled c.open_to_write.new.disc c.open_to_write.result (c.requires.empty k)) ∙ c.open_to_write.ensures)

pub returns-in-Some-ReadOn : goal.returns-in-Some-ReadOn
returns-in-Some-ReadOn g c = λ l k.
    of-asked c.args.disc.now c.args.store.now l c.args.request (handled c.read_on.new.disc c.read_on.result c.read_on.new.bytes.items) c.in-Some-ReadOn.field-0 ReadOn c.in-Some-ReadOn.field-0-is c.in-Some-ReadOn.ensures
    (c.read_on.ensures l k)

pub returns-in-Some-Append : goal.returns-in-Some-Append
returns-in-Some-Append g c = λ l k.
    of-asked c.args.disc.now c.args.store.now l c.args.request (handled c.append.new.disc c.append.result c.append.new.bytes.items) c.in-Some-Append.field-0 Append c.in-Some-Append.field-0-is c.in-Some-Append.ensures
    c.append.ensures

pub returns-in-Some-Close : goal.returns-in-Some-Close
returns-in-Some-Close g c = λ l k.
    of-asked c.args.disc.now c.args.store.now l c.args.request (handled c.close.new.disc c.close.result c.args.bytes.now.items) c.in-Some-Close.field-0 Close c.in-Some-Close.field-0-is c.in-Some-Close.ensures
    ((λ k. handled c.close.new.disc c.close.result (c.requires.empty k)) ∙ c.close.ensures)

pub returns-in-Some-Delete : goal.returns-in-Some-Delete
returns-in-Some-Delete g c = λ l k.
    of-asked c.args.disc.now c.args.store.now l c.args.request (handled c.delete.new.disc c.delete.result c.args.bytes.now.items) c.in-Some-Delete.field-0 Delete c.in-Some-Delete.field-0-is c.in-Some-Delete.ensures
    ((λ k. handled c.delete.new.disc c.delete.result (c.requires.empty k)) ∙ c.delete.ensures)

pub returns-in-Some-Rename : goal.returns-in-Some-Rename
returns-in-Some-Rename g c = λ l k.
    of-asked c.args.disc.now c.args.store.now l c.args.request (handled c.rename.new.disc c.rename.result c.args.bytes.now.items) c.in-Some-Rename.field-0 Rename c.in-Some-Rename.field-0-is c.in-Some-Rename.ensures
    ((λ k. handled c.rename.new.disc c.rename.result (c.requires.empty k)) ∙ c.rename.ensures)

pub returns-in-Some-Examine : goal.returns-in-Some-Examine
returns-in-Some-Examine g c = λ l k.
    of-asked c.args.disc.now c.args.store.now l c.args.request (handled c.args.disc.now c.examine.result c.examine.new.bytes.items) c.in-Some-Examine.field-0 Examine c.in-Some-Examine.field-0-is c.in-Some-Examine.ensures
    (c.examine.ensures l k)

pub returns-in-None : goal.returns-in-None
returns-in-None g c = λ l k.
    of-unasked c.args.disc.now c.args.store.now l c.args.request (handled c.args.disc.now (Err 31) c.args.bytes.now.items) c.in-None.ensures
    (λ k. handled c.args.disc.now (Err 31) (c.requires.empty k))
