use Rattle.std.proofs.Common.{◌∙◌, false, true, sym}
use Rattle.resident_tasks.proofs.PipeHandler.SlotCalls.{restore-taken, restore-tests, restore-there}
use Rattle.resident_tasks.proofs.pipe_handler.places.can_restore.Goals as goal

pub returns-then-not-is_free : goal.returns-then-not-is_free
returns-then-not-is_free c = restore-there c.args.slots.now c.args.k c.args.ends c.args.name.now c.args.bytes.now (sym c.if-not-is_free.true ∙ c.is_free.ensures)

pub returns-then-is_taken : goal.returns-then-is_taken
returns-then-is_taken c =
    restore-taken c.args.slots.now c.args.k c.args.ends c.args.name.now c.args.bytes.now (sym c.if-not-is_free.false ∙ c.is_free.ensures) (sym c.if-is_taken.true ∙ c.is_taken.ensures)

pub returns-then-not-are_ends : goal.returns-then-not-are_ends
returns-then-not-are_ends c =
    restore-tests c.args.slots.now c.args.k c.args.ends c.args.name.now c.args.bytes.now false (sym c.if-not-is_free.false ∙ c.is_free.ensures) (sym c.if-is_taken.false ∙ c.is_taken.ensures)
    (sym c.if-not-are_ends.true ∙ c.are_ends.ensures)

pub returns : goal.returns
returns c =
    restore-tests c.args.slots.now c.args.k c.args.ends c.args.name.now c.args.bytes.now true (sym c.if-not-is_free.false ∙ c.is_free.ensures) (sym c.if-is_taken.false ∙ c.is_taken.ensures)
    (sym c.if-not-are_ends.false ∙ c.are_ends.ensures)
