-- The rules that stay where the shell's packet is sent.
use Rattle.std.proofs.Common.{◌≡◌, ℕ, ◌≤◌, List, cond, None, sym, ap, subst, arith}
use Rattle.std.proofs.lemmas.Bool.{ne_eqb}
use Rattle.kernel_lists.specs.PacketQueue.QueueWords.{QueuedPacket}
use Rattle.kernel_model.specs.KernelRecord.Changes.{queue_of, with_key, with_queue}
use Rattle.kernel_model.specs.KernelRecord.Residents.{keyboard}
use Rattle.kernel_model.specs.KernelRecord.ValidQueues.Place.{Keyboard, Work}
use Rattle.kernel_model.specs.KernelRecord.ValidTasks.{runs}
use Rattle.kernel_calls.specs.PacketCalls.PacketMoves.{arrived, sent_packet, with_arrived}
use Rattle.kernel_model.specs.KernelRecord.StoreWithLists.{StoreWithLists}
use Rattle.resident_tasks.specs.ResidentRequests.Requests.{RunsResident}
use Rattle.resident_tasks.proofs.ResidentRequests.RunningResident.{runs-work}
use Rattle.kernel_model.specs.declared.kernel_record.numbers.TheConstants.{SHELL_PACKET}
use Rattle.shell.specs.ShellPrograms.KeptLists.{ResidentAlone}
use Rattle.shell.specs.ShellPrograms.ShellPacket.{posted}
use Rattle.shell.proofs.ShellPrograms.KeptTasks.{all-changed}

-- the queue that the task has then
abbrev pub queue-with : ℕ → StoreWithLists → List QueuedPacket
queue-with to k = arrived (Work to) (sent_packet k.words k.lists (Work to) SHELL_PACKET 1) (queue_of (Work to) k.lists)

pub posted-is : (to : ℕ) (k : StoreWithLists) → to ≤ 63 → (posted to k).lists ≡ with_queue (Work to) (queue-with to k) k.lists
posted-is to k low = ap (λ b. cond b (with_key None (with_arrived Keyboard (sent_packet k.words k.lists Keyboard SHELL_PACKET 1) k.lists)) (with_arrived (Work to) (sent_packet k.words k.lists (Work to) SHELL_PACKET 1) k.lists)) (ne_eqb to keyboard (λ e. absurd (omega (arith, low, e))))

pub posted-runs : (to : ℕ) (k : StoreWithLists) → to ≤ 63 → RunsResident k.lists → RunsResident (posted to k).lists
posted-runs to k low r = subst RunsResident (sym (posted-is to k low)) (runs-work k.lists to (queue-with to k) r)

pub posted-alone : (to : ℕ) (k : StoreWithLists) → to ≤ 63 → ResidentAlone k.lists → ResidentAlone (posted to k).lists
posted-alone to k low r =
    subst ResidentAlone (sym (posted-is to k low))
    (record {
      resident = r.resident;
      field = all-changed to (λ t. record t { queue = queue-with to k }) (λ t. t.field ≡ runs → t.id ≡ k.lists.running) (λ t e h. h) k.lists.tasks r.field;
    })
