use Rattle.std.proofs.Common.{◌≡◌}
use Rattle.std.specs.Prelude.{IfOk}
use Rattle.debugger.proofs.KernelParts.{held-lists}
use Rattle.show_run.proofs.LoadedHunks.MachineHunks.{hunks-of}
use Rattle.show_run.proofs.places.hunks.machine_hunks.Goals as goal

pub hunks_in-requires : goal.hunks_in-requires
hunks_in-requires c = held-lists _ c.args.machine.now.state c.in-Some.ensures.represents

pub returns-in-Some : goal.returns-in-Some
returns-in-Some c =
    hunks-of _ c.args.machine.now.state c.args.hunks.now (λ found. IfOk c.hunks_in.result (λ v. v.items ≡ found)) c.in-Some.ensures.represents c.hunks_in.ensures
