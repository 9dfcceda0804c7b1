-- The rules of queued packets: where each may be, and from whom.
use Rattle.std.specs.Prelude.{◌≡◌, ℕ, ◌≤◌, ◌⊎◌, ◌==◌, ◌&&◌, Bool, true, false, not, List, [], ◌∷◌, is_some}
use Rattle.std.specs.List.{AllByRecursion}
use Rattle.kernel_lists.specs.PacketQueue.QueueWords.{QueuedPacket}
use Rattle.kernel_model.specs.KernelRecord.Lists.{Lists, has_task, is_queued}
use Rattle.kernel_model.specs.KernelRecord.Residents.{fault_packet, key_packet, keyboard}
use Rattle.kernel_model.specs.KernelRecord.Task.{is_guest_id}
use Rattle.kernel_model.specs.KernelRecord.ValidBlocks.{AreData}

-- the places where packets are queued: a task's work queue, a device, and the console's reads that wait for a line
pub data Place : Type 0 where
  Work : ℕ → Place
  Clock : Place
  Keyboard : Place
  Output : Place
  Pending : Place

-- whether it is the address of the key packet; without residents there is none
abbrev pub is_key_at : Lists → ℕ → Bool
is_key_at l a = l.residents && (a == key_packet)

-- whether it is the address of the fault packet; without a task that reports faults there is none
abbrev pub is_fault_at : Lists → ℕ → Bool
is_fault_at l a = has_task 2 l.tasks && (a == fault_packet)

-- whether a packet is the key packet
abbrev pub is_key_packet : Lists → QueuedPacket → Bool
is_key_packet l p = is_key_at l p.address

-- whether a packet is the fault packet
abbrev pub is_fault_packet : Lists → QueuedPacket → Bool
is_fault_packet l p = is_fault_at l p.address

-- a guest with the number is there
abbrev pub HasGuest : Lists → ℕ → Type 0
HasGuest l id = (is_guest_id id ≡ true) × (has_task id l.tasks ≡ true)

-- Invariant 16: who may have sent what is queued there. A device has packets of guests that are there, and a resident those of
-- tasks that are there; what was sent to a guest may be from one that has gone.
abbrev pub HasSender : Lists → Place → ℕ → Type 0
HasSender l (Work id) sender = is_guest_id id ≡ false → has_task sender l.tasks ≡ true
HasSender l Pending sender = has_task sender l.tasks ≡ true
HasSender l _ sender = HasGuest l sender

-- the key packet is at the keyboard, sent by the console, or comes back from there to the console's work queue
abbrev pub IsKeyPlace : Place → ℕ → Type 0
IsKeyPlace (Work id) sender = (id ≡ 3) × (sender ≡ keyboard)
IsKeyPlace Keyboard sender = sender ≡ 3
IsKeyPlace _ sender = ⊥

-- Invariant 17: it is there, with type and second result 0.
pub record IsKeyPacket (at : Place) (p : QueuedPacket) : Type 0 where
  -- where it is, and from whom
  pub place : IsKeyPlace at p.sender
  -- its type
  pub kind : p.kind ≡ 0
  -- its second result
  pub last : p.last ≡ 0

-- Invariant 18: the fault packet is on the work queue of the task that reports faults. Who sends it is a matter of invariant 16, and
-- between steps of AreValidFaults.
pub record IsFaultPacket (at : Place) (p : QueuedPacket) : Type 0 where
  -- where it is
  pub place : at ≡ Work 2
  -- its type
  pub kind : p.kind ≡ 40
  -- its first result
  pub res1 : p.res1 ≡ 0
  -- its second result
  pub last : p.last ≡ 0

-- Invariants 15 to 18: a packet may be there.
pub record IsValidPacket (l : Lists) (at : Place) (p : QueuedPacket) : Type 0 where
  -- invariant 15
  pub lodged : AreData l.blocks p.address 5
  -- invariant 17
  pub key : is_key_packet l p ≡ true → IsKeyPacket at p
  -- invariant 18
  pub fault : is_fault_packet l p ≡ true → IsFaultPacket at p
  -- invariant 16
  pub sender : is_key_packet l p ≡ false → HasSender l at p.sender

-- Invariant 19: due ticks never fall along the clock's queue.
abbrev pub NeverFall : List QueuedPacket → Type 0
NeverFall [] = Unit {0}
NeverFall (p ∷ ps) = AllByRecursion (λ q. p.last ≤ q.last) ps × NeverFall ps

-- Invariants 15 to 23.
pub record AreValidQueues (l : Lists) : Type 0 where
  -- invariants 15 to 18 of the work queues
  pub tasks : AllByRecursion (λ t. AllByRecursion (IsValidPacket l (Work t.id)) t.queue) l.tasks
  -- and of the clock's queue
  pub clock : AllByRecursion (IsValidPacket l Clock) l.clock
  -- of the keyboard's
  pub keyboard : AllByRecursion (IsValidPacket l Keyboard) l.keyboard
  -- of the output's
  pub output : AllByRecursion (IsValidPacket l Output) l.output
  -- and of the reads that wait for a line
  pub pending : AllByRecursion (IsValidPacket l Pending) l.pending
  -- invariant 19
  pub due : NeverFall l.clock
  -- invariant 20
  pub no_console : l.residents ≡ false → l.pending ≡ []
  -- invariant 21
  pub key : is_some l.key ≡ (l.residents && not (is_queued key_packet l))
  -- invariant 22
  pub fault : l.fault_packet_free ≡ (has_task 2 l.tasks && not (is_queued fault_packet l))
  -- invariant 23
  pub running : (l.running ≡ 0) ⊎ (has_task l.running l.tasks ≡ true)
