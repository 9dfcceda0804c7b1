use Rattle.std.proofs.Common.{sym, subst}
use Rattle.instruction_set.specs.Instruction.{instruction}
use Rattle.instruction_set.specs.Places.{DifferAt, addresses}
use Rattle.instruction_set.proofs.PlacesWritten.{executed-differ}
use Rattle.instruction_set.proofs.places.written_places.Goals as goal

pub returns-in-Ok : goal.returns-in-Ok
returns-in-Ok c marks =
    subst (λ p. DifferAt (addresses p) c.args.store.now (instruction marks c.args.store.now c.args.regs).words) (sym c.places_by.ensures)
    (executed-differ marks c.args.store.now c.args.regs c.in-Ok.instr (sym c.in-Ok.ensures.value))
