use Rattle.std.proofs.Common.{◌≡◌, ◌<◌, ℕ, get_or}
use Rattle.std.specs.List.{All}
use Rattle.resident_tasks.specs.PipeHandler.Slots.{IsRing}
use Rattle.resident_tasks.specs.declared.pipe_handler.slots.Slot.{Slot}
use Rattle.resident_tasks.proofs.pipe_handler.slots.copy_slots.Given as goal

abbrev pub invariant-loop-i : goal.invariant-loop-i
invariant-loop-i l = record {
  rings : All (λ s. IsRing s.held) l.slots;
  done : (k : ℕ) (d : Slot) → k < l.i → get_or l.slots k d ≡ get_or l.others k d;
}
