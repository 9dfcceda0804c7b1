use Rattle.std.proofs.Common.{◌∙◌, ap, sym}
use Rattle.std.specs.Prelude.{is_none, not}
use Rattle.std.proofs.Math.Bool.{not-not}
use Rattle.machine_ring.proofs.TypedRoom.{room-is}
use Rattle.machine_ring.proofs.right.has_room.Goals as goal

pub returns-in-Some : goal.returns-in-Some
returns-in-Some c = sym (not-not c.is_none.result) ∙ ap not (sym c.is_none.ensures) ∙ ap is_none c.at.ensures ∙ room-is _ _ c.in-Some.ensures.represents
