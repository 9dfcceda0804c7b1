-- A step of a machine with a kernel, and a run.
use Rattle.std.specs.Prelude.{ℕ, zero, suc, pos, ◌+◌, ◌%◌, ◌==◌, Bool, if◌then◌else◌, is_some, List, [], ◌∷◌, ◌++◌, nat_le}
use Rattle.word_store.specs.Arithmetic.{signed}
use Rattle.kernel_lists.specs.declared.packet_queue.events.KernelEvent.{KernelEvent}
use Rattle.kernel_lists.specs.declared.packet_queue.events.KernelEvent.TheVariants.{Accepted, Runs}
use Rattle.kernel_model.specs.KernelRecord.Image.{image, settled}
use Rattle.kernel_model.specs.KernelRecord.Kernel.{Kernel}
use Rattle.kernel_model.specs.KernelRecord.Residents.{key_packet, keyboard}
use Rattle.kernel_model.specs.KernelRecord.Task.{is_guest_id}
use Rattle.kernel_model.specs.KernelDispatch.Dispatch.{DispatchChange, dispatched}
use Rattle.kernel_calls.specs.PacketCalls.Returned.{DeviceChange}
use Rattle.kernel_devices.specs.Tick.{ticked}
use Rattle.kernel_devices.specs.Keys.{left_typed, met}
use Rattle.kernel_devices.specs.Printed.{finished, printed}
use Rattle.kernel_devices.specs.Typed.{with_typed}
use Rattle.kernel_machine.specs.KernelSteps.GuestSteps.{guest_step}
use Rattle.kernel_machine.specs.KernelSteps.ResidentSteps.{resident_step}
use Rattle.kernel_machine.specs.KernelSteps.Stepped.{Stepped, and_then, behind, quietly, where_due, with_store}

-- ---- the running task's turn

-- nothing where nobody runs
unfoldable pub turn : Kernel → Stepped
turn k = if is_guest_id k.lists.running then guest_step k else resident_step k.lists.running k

-- ---- the devices

-- what a device leaves: it writes no plain word, but for the link of a packet that comes or goes
abbrev pub served : Kernel → DeviceChange → Stepped
served k m = record { kernel = settled [] k m.lists; bytes = []; events = m.events }

-- the clock ticks in the steps that are a multiple of its period
unfoldable pub tick : Kernel → Stepped
tick k = where_due (k.steps % k.lists.period == 0) (λ j. served j (ticked j.lists)) k

-- where the first key to come is due by this step, it has been typed
abbrev pub typed_by : List (ℕ × ℕ) → Kernel → Kernel
typed_by [] k = k
typed_by (key ∷ keys) k = if nat_le key.0 k.steps then record k { keys = keys; type_ahead = with_typed key.1 k.type_ahead } else k

-- the first key of the session to come is typed, where it is due
abbrev pub with_key_typed : Kernel → Kernel
with_key_typed k = typed_by k.keys k

-- the first byte that is typed ahead meets the first packet that waits for one
abbrev pub meet : Kernel → Stepped
meet k = served (record k { type_ahead = left_typed k.type_ahead k.lists.keyboard }) (met k.type_ahead k.lists)

-- the keyboard's part of a step: a key that is due is typed, and a byte meets a packet
unfoldable pub key : Kernel → Stepped
key k = meet (with_key_typed k)

-- a byte is printed
unfoldable pub output : Kernel → Stepped
output k = record (served k (finished k.lists)) { bytes = printed (image k) k.lists.output }

-- ---- dispatch

-- the machine once a dispatch has left this: the task that runs, its registers and the dispatch's events
abbrev pub switched : Kernel → DispatchChange → Stepped
switched k m = record { kernel = record (settled m.plain k m.lists) { regs = m.regs }; bytes = []; events = m.events }

-- the last part of a step: the first ready task goes on
unfoldable pub dispatch : Kernel → Stepped
dispatch k = switched k (dispatched (image k) k.lists k.regs)

-- ---- the step

-- the clock's part of a step, the keyboard's and the output's, in this order
abbrev pub devices : Kernel → Stepped
devices k = and_then (and_then (tick k) key) output

-- where the turn did not stop the machine, the devices and dispatch follow
abbrev pub unless_stopped : (Kernel → Stepped) → Kernel → Stepped
unless_stopped rest k = if is_some k.stop then quietly k else rest k

-- what follows the turn in a step: the devices, and then dispatch
abbrev pub after_the_turn : Kernel → Stepped
after_the_turn k = and_then (devices k) dispatch

-- the machine with one more step counted
abbrev pub with_step : Kernel → Kernel
with_step k = record k { steps = k.steps + 1 }

-- a machine that has stopped stays as it is
unfoldable pub step : Kernel → Stepped
step k = unless_stopped (λ j. and_then (turn (with_step j)) (unless_stopped after_the_turn)) k

-- n steps
unfoldable pub run : ℕ → Kernel → Stepped
run zero k = quietly k
run (suc n) k = and_then (step k) (run n)

-- ---- before the first step

-- where there are residents, the console has sent its key packet, and the shell's packet has come to it
abbrev pub first_events : Bool → List KernelEvent
first_events residents =
    if residents then Accepted (signed keyboard) key_packet (pos 3) ∷ Accepted (pos 1) 279 (pos 1) ∷ [] else []

-- and then the first ready task runs, where there is one
abbrev pub run_events : ℕ → List KernelEvent
run_events running = if running == 0 then [] else Runs running ∷ []

-- the events of a boot
abbrev pub boot_events : Kernel → List KernelEvent
boot_events k = first_events k.lists.residents ++ run_events k.lists.running
