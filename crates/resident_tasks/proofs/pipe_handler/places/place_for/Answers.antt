use Rattle.std.proofs.Common.{◌∙◌, sym}
use Rattle.resident_tasks.proofs.PipeHandler.SlotPipes.{place-free, place-named}
use Rattle.resident_tasks.proofs.pipe_handler.places.place_for.Goals as goal

pub returns-in-Some : goal.returns-in-Some
returns-in-Some c = sym (place-named c.args.slots.now c.args.name.now c.in-Some.place (sym c.place_named.ensures ∙ c.in-Some.is))

pub returns-in-None : goal.returns-in-None
returns-in-None c = c.free_place.ensures ∙ sym (place-free c.args.slots.now c.args.name.now (sym c.place_named.ensures ∙ c.in-None.is))
