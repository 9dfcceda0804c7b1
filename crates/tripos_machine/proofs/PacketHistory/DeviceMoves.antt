-- A device moves packets from its queue to those of their senders.
use Rattle.std.proofs.Common.{◌≡◌, ℕ, pos, ◌+◌, ◌<◌, ◌≤◌, Bool, true, false, cond, leb, not, List, [], ◌∷◌, ◌++◌, refl, sym, ap, ◌∙◌, subst, arith}
use Rattle.std.specs.List.{AllByRecursion}
use Rattle.std.proofs.lemmas.Bool.{leb-true, leb-false}
use Rattle.word_store.specs.Arithmetic.{signed}
use Rattle.kernel_lists.specs.PacketQueue.QueueWords.{QueuedPacket}
use Rattle.kernel_lists.specs.declared.packet_queue.events.KernelEvent.{KernelEvent}
use Rattle.kernel_lists.specs.declared.packet_queue.events.KernelEvent.TheVariants.{Accepted, Taken}
use Rattle.kernel_model.specs.KernelRecord.Changes.{queue_of, with_queue}
use Rattle.kernel_model.specs.KernelRecord.Lists.{Lists, has_task}
use Rattle.kernel_model.specs.KernelRecord.ValidLists.{AreValid}
use Rattle.kernel_model.specs.KernelRecord.ValidQueues.{NeverFall}
use Rattle.kernel_model.specs.KernelRecord.ValidQueues.Place.{Clock, Work}
use Rattle.kernel_calls.specs.PacketCalls.Returned.{number_of as device_number, first_returned, place_of, return_events, returned_by, with_work_for}
use Rattle.kernel_calls.specs.declared.packet_calls.returns.Device.{Device}
use Rattle.kernel_calls.specs.declared.packet_calls.returns.Device.TheVariants as devices
use Rattle.kernel_calls.proofs.PacketCalls.DeviceQueues.{device-place}
use Rattle.kernel_calls.proofs.PacketCalls.ReturnedLists.{returned-valid, sender-there}
use Rattle.kernel_devices.specs.Tick.{due_packets, due_returned, events_of_return, later_packets, ticked, with_returned, with_tick}
use Rattle.kernel_devices.specs.Keys.{met}
use Rattle.kernel_devices.specs.Printed.{finished}
use Rattle.tripos_machine.specs.PacketHistory.Queues.{Moves, ledger_of}
use Rattle.tripos_machine.proofs.PacketHistory.Ledgers.{IsNamed, number_of}
use Rattle.tripos_machine.proofs.PacketHistory.Moves.{low-named, move-accepted, move-none, move-taken, moves-then, nowhere-then}
use Rattle.tripos_machine.proofs.PacketHistory.ValidLedgers.{IsNumber, task-number, valid-once}
use Rattle.kernel_model.proofs.KernelDispatch.TakenWork.{signed-low}
use Rattle.kernel_devices.proofs.TickLists.{tick-valid}

-- the device's number
device-named : (d : Device) → IsNamed (place_of d)
device-named devices.Clock = tt
device-named devices.Keyboard = tt
device-named devices.Output = tt

device-signed : (d : Device) → signed (device_number d) ≡ number_of (place_of d)
device-signed devices.Clock = refl
device-signed devices.Keyboard = refl
device-signed devices.Output = refl

-- another queue leaves the tasks
task-stays : (l : Lists) (d : Device) (ps : List QueuedPacket) (id : ℕ) → has_task id (with_queue (place_of d) ps l).tasks ≡ has_task id l.tasks
task-stays l devices.Clock ps id = refl
task-stays l devices.Keyboard ps id = refl
task-stays l devices.Output ps id = refl

module _ (due : KernelEvent → ℕ) (l : Lists) (d : Device) (res1 : ℕ) (p : QueuedPacket) (ps : List QueuedPacket) (v : AreValid l) (is : queue_of (place_of d) l ≡ p ∷ ps) where
  abbrev m : Lists
  m = with_queue (place_of d) ps l

  abbrev back : QueuedPacket
  back = returned_by d res1 p

  there : has_task p.sender l.tasks ≡ true
  there = sender-there l p ps v d is

  low : IsNumber p.sender
  low = task-number l v p.sender there

  taken : Moves due l (Taken (number_of (place_of d)) p.address (signed p.sender) ∷ []) m
  taken = move-taken due l (place_of d) p ps (device-place l d) (device-named d) is

  accepted : Moves due m (Accepted (pos p.sender) p.address (signed (device_number d)) ∷ []) (with_work_for p.sender back m)
  accepted =
      move-accepted due m (Work p.sender) back (task-stays l d ps p.sender ∙ there) (low-named p.sender low.high)
      (nowhere-then due l (place_of d) p ps (valid-once l v) (device-place l d) (device-named d) is) tt

  pub first-moves : Moves due l (return_events d p) (first_returned d res1 (p ∷ ps) l).lists
  first-moves =
      subst (λ es. Moves due l es (with_work_for p.sender back m))
      (λ i. Taken (sym (device-signed d) i) p.address (signed p.sender) ∷ Accepted (sym (signed-low p.sender low.high) i) p.address (signed (device_number d)) ∷ [])
      (moves-then due l m (with_work_for p.sender back m) (Taken (number_of (place_of d)) p.address (signed p.sender) ∷ []) (Accepted (pos p.sender) p.address (signed (device_number d)) ∷ []) taken accepted)

-- ---- a device

module _ (due : KernelEvent → ℕ) (l : Lists) (v : AreValid l) where
  pub returned-moves : (d : Device) (res1 : ℕ) → Moves due l (first_returned d res1 (queue_of (place_of d) l) l).events (first_returned d res1 (queue_of (place_of d) l) l).lists
  returned-moves d res1 = on (queue_of (place_of d) l) refl
    where
      on : (ps : List QueuedPacket) → queue_of (place_of d) l ≡ ps → Moves due l (first_returned d res1 ps l).events (first_returned d res1 ps l).lists
      on [] is = move-none due l l refl
      on (p ∷ ps) is = first-moves due l d res1 p ps v is

  pub met-moves : (bytes : List ℕ) → Moves due l (met bytes l).events (met bytes l).lists
  met-moves [] = move-none due l l refl
  met-moves (byte ∷ bytes) = returned-moves devices.Keyboard byte

  pub finished-moves : Moves due l (finished l).events (finished l).lists
  finished-moves = returned-moves devices.Output 0

-- ---- a tick

-- none is due where all are due after some later tick
none-due : (late now : ℕ) (qs : List QueuedPacket) → now < late → AllByRecursion (λ q. late ≤ q.last) qs → (due_packets now qs ≡ []) × (later_packets now qs ≡ qs)
none-due late now [] after all = (refl, refl)
none-due late now (q ∷ qs) after all = (on-due (leb q.last now) refl (none-due late now qs after all.1), on-later (leb q.last now) refl (none-due late now qs after all.1))
  where
    high : leb q.last now ≡ true → ⊥
    high e = absurd (omega (arith, all.0, leb-true q.last now e, after))

    on-due : (b : Bool) → leb q.last now ≡ b → (due_packets now qs ≡ []) × (later_packets now qs ≡ qs) → cond b (q ∷ due_packets now qs) (due_packets now qs) ≡ []
    on-due true e rest = absurd (high e)
    on-due false e rest = rest.0

    on-later : (b : Bool) → leb q.last now ≡ b → (due_packets now qs ≡ []) × (later_packets now qs ≡ qs) → cond (not b) (q ∷ later_packets now qs) (later_packets now qs) ≡ q ∷ qs
    on-later true e rest = absurd (high e)
    on-later false e rest = ap (λ z. q ∷ z) rest.1

-- those that are due are the first ones
pub due-first : (now : ℕ) (ps : List QueuedPacket) → NeverFall ps → due_packets now ps ++ later_packets now ps ≡ ps
due-first now [] falls = refl
due-first now (p ∷ ps) falls = on (leb p.last now) refl (due-first now ps falls.1)
  where
    on : (b : Bool) → leb p.last now ≡ b → due_packets now ps ++ later_packets now ps ≡ ps
        → cond b (p ∷ due_packets now ps) (due_packets now ps) ++ cond (not b) (p ∷ later_packets now ps) (later_packets now ps) ≡ p ∷ ps
    on true is more = ap (λ z. p ∷ z) more
    on false is more = (let r = none-due p.last now ps (leb-false p.last now is) falls.0 in λ i. r.0 i ++ (p ∷ r.1 i))

-- packets are returned one after the other, where they are the first at the clock
each-returned : (due : KernelEvent → ℕ) (qs rs : List QueuedPacket) (l : Lists) → AreValid l → l.clock ≡ qs ++ rs → Moves due l (events_of_return qs) (with_returned qs (with_queue Clock rs l))
each-returned due [] rs l v is = move-none due l (with_queue Clock rs l) (λ i. ledger_of (record l { clock = sym is i }))
each-returned due (q ∷ qs) rs l v is =
    let m : Lists = with_work_for q.sender (returned_by devices.Clock 0 q) (with_queue Clock (qs ++ rs) l) in
    moves-then due l m (with_returned (q ∷ qs) (with_queue Clock rs l)) (return_events devices.Clock q) (events_of_return qs)
    (first-moves due l devices.Clock 0 q (qs ++ rs) v is) (each-returned due qs rs m (returned-valid l q (qs ++ rs) v devices.Clock 0 is) refl)

pub due-moves : (due : KernelEvent → ℕ) (now : ℕ) (l : Lists) → AreValid l → Moves due l (due_returned now l).events (due_returned now l).lists
due-moves due now l v = each-returned due (due_packets now l.clock) (later_packets now l.clock) l v (sym (due-first now l.clock v.queues.due))

pub ticked-moves : (due : KernelEvent → ℕ) (l : Lists) → AreValid l → Moves due l (ticked l).events (ticked l).lists
ticked-moves due l v = due-moves due (l.tick + 1) (with_tick (l.tick + 1) l) (tick-valid l (l.tick + 1) v)
