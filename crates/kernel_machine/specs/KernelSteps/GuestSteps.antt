-- The turn of a guest, also in a machine with a task that reports faults.
use Rattle.std.specs.Prelude.{ℕ, ◌==◌, ◌&&◌, Bool, not, if◌then◌else◌, Option, Some, None, List, ◌++◌}
use Rattle.word_store.specs.declared.registers.Regs.{Regs}
use Rattle.instruction_set.specs.declared.Fault.{Fault}
use Rattle.kernel_lists.specs.OwnedWords.Owned.{written}
use Rattle.kernel_model.specs.KernelRecord.Image.{image}
use Rattle.kernel_model.specs.KernelRecord.Kernel.{Kernel}
use Rattle.kernel_model.specs.declared.kernel_record.stops.Stop.{Stop}
use Rattle.kernel_model.specs.declared.kernel_record.stops.Stop.TheVariants.{Fault as StopByFault, Quit}
use Rattle.kernel_model.specs.KernelRecord.Lists.{Lists, has_task}
use Rattle.guest_turns.specs.GuestTurn.{GuestTurn, turn_without_reporter}
use Rattle.guest_turns.specs.declared.turns.TurnEnd.{TurnEnd}
use Rattle.guest_turns.specs.declared.turns.TurnEnd.TheVariants.{Faults, Goes, Quits}
use Rattle.resident_tasks.specs.FaultReporter.Recorded.{recorded, recorded_events}
use Rattle.kernel_machine.specs.KernelSteps.Stepped.{Stepped, with_store}

-- ---- faults

-- Where a task reports faults, a fault is recorded and stops nothing, but for a write into a kernel word.
abbrev pub is_recorded : Lists → Fault → Bool
is_recorded l f = has_task 2 l.tasks && not (f.code == 6)

-- the turn goes on with the fault recorded
abbrev pub with_recorded : Fault → GuestTurn → GuestTurn
with_recorded f m = record m { lists = recorded f m.lists; events = m.events ++ recorded_events f m.lists; ends = Goes }

-- A fault is recorded where there is a task that reports it; else the turn is as it was.
abbrev pub reported_by : TurnEnd → GuestTurn → GuestTurn
reported_by Goes m = m
reported_by (Quits result) m = m
reported_by (Faults f) m = if is_recorded m.lists f then with_recorded f m else m

-- what the running guest does in a step, and the fault that is recorded of it
abbrev pub turn_of_guest : List ℕ → Lists → Regs → GuestTurn
turn_of_guest s l r = reported_by (turn_without_reporter s l r).ends (turn_without_reporter s l r)

-- ---- the kernel after it

-- a fault is one of the running task
abbrev pub stop_by : ℕ → TurnEnd → Option Stop
stop_by running Goes = None
stop_by running (Quits result) = Some (Quit result)
stop_by running (Faults f) = Some (StopByFault f.code f.address running)

-- the machine once a turn has left this: the turn's plain words are written, and the machine stops where the turn says so
abbrev pub after_turn : Kernel → GuestTurn → Stepped
after_turn k m = record {
  kernel = record (with_store (written m.plain m.words) m.lists k) { regs = m.regs; stop = stop_by k.lists.running m.ends };
  bytes = m.bytes;
  events = m.events;
}

-- a step's turn, where a guest runs
abbrev pub guest_step : Kernel → Stepped
guest_step k = after_turn k (turn_of_guest (image k) k.lists k.regs)
