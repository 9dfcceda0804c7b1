use Rattle.std.proofs.Common.{◌≡◌, Option, Some, None, Ok}
use Rattle.std.specs.Option.{ok_or}
use Rattle.kernel_lists.specs.declared.getvec_chain.pieces.Run.{Run}
use Rattle.kernel_lists.specs.declared.getvec_chain.calls.NoRoom.{NoRoom}
use Rattle.kernel_lists.proofs.getvec_chain.calls.take.Goals as goal

-- the run that the `?` lets through is the first one
found : (o p : Option Run) (run : Run) (e : NoRoom) → Ok run ≡ ok_or o e → o ≡ p → p ≡ Some run
found None p run e is same = cc
found (Some a) p run e is same = cc

pub take_from-requires : goal.take_from-requires
take_from-requires c = record { tiled = c.requires; first = found _ _ _ _ c.in_ok-run.ensures.value c.first_run.ensures }
