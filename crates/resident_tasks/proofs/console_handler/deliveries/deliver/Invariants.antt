use Rattle.std.proofs.Common.{◌≡◌, ℕ, List, length}
use Rattle.kernel_lists.specs.PacketQueue.Queue.{queue_at}
use Rattle.kernel_model.specs.KernelRecord.Residents.{pending_head}
use Rattle.kernel_calls.specs.CallAnswers.Outside.{outside}
use Rattle.resident_tasks.specs.ConsoleHandler.TurnParts.{ConsoleStart, ConsoleTurn, IsDone}
use Rattle.resident_tasks.proofs.ConsoleHandler.WholeDelivery.{HasDelivered}
use Rattle.resident_tasks.proofs.console_handler.deliveries.deliver.Given as goal

abbrev pub invariant-reads : goal.invariant-reads
invariant-reads g l =
    record {
      done : (b : ConsoleStart) (shown : List ℕ) (p : ConsoleTurn)
          → IsDone b l.fn.store (g.Q.KindKeeper.tells l.fn.kinds) (g.Q.KindKeeper.room l.fn.kinds) (outside shown (g.L.EventLog.noted l.fn.log) (g.L.EventLog.has_failed l.fn.log)) l.fn.state l.fn.shell_line.items p
          → HasDelivered b l.store (g.Q.KindKeeper.tells l.kinds) (g.Q.KindKeeper.room l.kinds) (outside shown (g.L.EventLog.noted l.log) (g.L.EventLog.has_failed l.log)) l.state l.shell_line.items p;
      room : g.Q.KindKeeper.room l.kinds ≡ g.Q.KindKeeper.room l.fn.kinds;
    }

abbrev pub decreases-reads : goal.decreases-reads
decreases-reads g l = length (queue_at l.store pending_head)
