use Rattle.std.proofs.Common.{◌≡◌, ◌+◌, eqb, get_or}
use Rattle.std.specs.List.{list_any}
use Rattle.kernel_calls.specs.TaskCalls.Private.PacketsOut.{is_sender_at}
use Rattle.kernel_calls.proofs.task_calls.packets_out.is_sender_at.Given as goal

abbrev pub invariant-loop-p : goal.invariant-loop-p
invariant-loop-p l = is_sender_at l.store l.head l.id ≡ list_any (λ p. eqb (get_or l.store (p + 1) 0) l.id) l.p-iterator
