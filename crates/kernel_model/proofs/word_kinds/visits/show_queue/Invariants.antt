use Rattle.std.proofs.Common.{◌≡◌, ◌++◌, map}
use Rattle.kernel_lists.specs.PacketQueue.Queue.{queue_at}
use Rattle.kernel_model.specs.KernelRecord.KernelRanges.{words}
use Rattle.kernel_model.proofs.word_kinds.visits.show_queue.Given as goal

abbrev pub invariant-loop-p : goal.invariant-loop-p
invariant-loop-p g l =
    g.V.Visitor.shown l.fn.visitor l.visitor (map (λ p. words p 5) l.yielded) × (queue_at l.store l.head ≡ l.yielded ++ l.p-iterator)
