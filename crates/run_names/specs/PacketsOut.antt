-- The packets that have not come back.
use Rattle.std.specs.Prelude.{ℕ, ◌==◌, ◌&&◌, Bool, false, not, if◌then◌else◌, Option, Some, None}
use Rattle.std.specs.BTreeMap.{get}
use Rattle.std.specs.Ordering.{nat_cmp}
use Rattle.kernel_model.specs.declared.kernel_record.numbers.TheConstants.{CONSOLE, FAULT_PACKET, REPORTER}
use Rattle.run_names.specs.declared.packets_out.PacketsOut.{PacketsOut}
use Rattle.run_names.specs.declared.packets_out.Sent.{Sent}
use Rattle.run_names.specs.declared.parties.Party.{Party}
use Rattle.run_names.specs.declared.parties.Party.TheVariants.{Clock, ConsoleReads, Keyboard, Output, Task}

-- the way of a packet, where it is out
abbrev pub out_of : PacketsOut → ℕ → Option Sent
out_of out packet = get nat_cmp out.ways packet

-- who has what comes into the queue of somebody: the console has its reads
abbrev pub holder : Party → Party
holder (Task id) = Task id
holder Clock = Clock
holder Keyboard = Keyboard
holder Output = Output
holder ConsoleReads = Task CONSOLE

-- whether it is the packet with which faults are reported, on its way
abbrev pub is_report : Party → ℕ → Bool
is_report (Task id) packet = id == REPORTER && packet == FAULT_PACKET
is_report _ packet = false

-- the way of a packet p after one is sent from one to another
abbrev pub way_after_send : PacketsOut → Party → ℕ → Party → ℕ → Option Sent
way_after_send out to packet from p =
    if p == packet && not (is_report to packet) then Some (record { to = holder to; from = from }) else out_of out p

-- the way of a packet p after one that is out no more
abbrev pub way_without : PacketsOut → ℕ → ℕ → Option Sent
way_without out packet p = if p == packet then None else out_of out p
