-- What the devices and dispatch keep of the rules of residents.
use Rattle.std.proofs.Common.{◌≡◌, ℕ, ◌+◌, ◌++◌, Bool, true, false, not, cond, drop, eqb, leb, List, [], ◌∷◌, refl, sym, ◌∙◌, subst}
use Rattle.std.specs.Prelude.{filter}
use Rattle.std.specs.List.{AllByRecursion}
use Rattle.word_store.specs.declared.registers.Regs.{Regs}
use Rattle.kernel_lists.specs.PacketQueue.QueueWords.{QueuedPacket}
use Rattle.kernel_model.specs.KernelRecord.Changes.{queue_of, with_queue, with_task}
use Rattle.kernel_model.specs.KernelRecord.Lists.{Lists, has_task}
use Rattle.kernel_model.specs.KernelRecord.Residents.{fault_packet}
use Rattle.kernel_model.specs.KernelRecord.Task.{Task}
use Rattle.kernel_model.specs.KernelRecord.ValidLists.{AreValid}
use Rattle.kernel_model.specs.KernelRecord.ValidQueues.Place.{Clock, Keyboard, Output, Work}
use Rattle.kernel_model.specs.KernelDispatch.Dispatch.{dispatched, packets_left, resumed, suspended, takes_packet, with_nobody, with_resumed, with_suspended}
use Rattle.kernel_calls.specs.PacketCalls.Returned.{first_returned, place_of, returned_by, with_work_for}
use Rattle.kernel_calls.specs.declared.packet_calls.returns.Device.{Device}
use Rattle.kernel_calls.specs.declared.packet_calls.returns.Device.TheVariants as devices
use Rattle.kernel_devices.specs.Tick.{due_packets, later_packets, ticked, with_returned, with_tick}
use Rattle.kernel_devices.specs.Keys.{met}
use Rattle.kernel_devices.specs.Printed.{finished}
use Rattle.resident_tasks.proofs.FaultReporter.FaultsKept.{there-same, work-keeps}
use Rattle.kernel_machine.proofs.KernelSteps.CallRules.{KeepsRules, beside-keeps, keeps-none, one-keeps, queue-keeps}
use Rattle.kernel_machine.proofs.KernelSteps.ConsoleRules.{NoneIsFault, none-fault}
use Rattle.kernel_machine.proofs.KernelSteps.DispatchKept.{three-ways}
use Rattle.kernel_machine.proofs.KernelSteps.FaultRule.{AreFewer, arrived-rule, fewer-rule}
use Rattle.kernel_machine.proofs.KernelSteps.HandledRules.{keeps-then}

-- ---- a device returns packets

filter-fewer : (f : QueuedPacket → Bool) (ps : List QueuedPacket) → AreFewer (filter f ps) ps
filter-fewer f [] P all = tt
filter-fewer f (p ∷ ps) P all = on (f p) (filter-fewer f ps P all.1)
  where
    on : (b : Bool) → AllByRecursion P (filter f ps) → AllByRecursion P (cond b (p ∷ filter f ps) (filter f ps))
    on true more = (all.0, more)
    on false more = more

-- a packet comes to its sender, and is not the fault packet
sender-keeps : (l : Lists) (id : ℕ) (p : QueuedPacket) → (has_task 2 l.tasks ≡ true → eqb p.address fault_packet ≡ false) → KeepsRules l (with_work_for id p l)
sender-keeps l id p other = queue-keeps l (Work id) (queue_of (Work id) l ++ p ∷ []) (arrived-rule l (Work id) p other) (λ e. cc)

returned-all : (ps : List QueuedPacket) (l : Lists) → NoneIsFault l ps → KeepsRules l (with_returned ps l)
returned-all [] l none = keeps-none l
returned-all (p ∷ ps) l none =
    let q : QueuedPacket = returned_by devices.Clock 0 p in
    let m : Lists = with_work_for p.sender q l in
    keeps-then l m (with_returned ps m) (sender-keeps l p.sender q (λ there. (none there).0))
    (returned-all ps m (λ there. (none (sym (there-same _ (work-keeps p.sender (queue_of (Work p.sender) l ++ q ∷ [])) 2 l.tasks) ∙ there)).1))

pub tick-keeps : (l : Lists) → NoneIsFault l l.clock → KeepsRules l (ticked l).lists
tick-keeps l none =
    let now : ℕ = l.tick + 1 in
    let a : Lists = with_tick now l in
    let b : Lists = with_queue Clock (later_packets now l.clock) a in
    keeps-then l a (ticked l).lists (beside-keeps l a refl refl refl refl)
    (keeps-then a b (ticked l).lists (beside-keeps a b refl refl refl refl)
    (returned-all (due_packets now l.clock) b (λ there. filter-fewer (λ q. leb q.last now) l.clock (λ p. eqb p.address fault_packet ≡ false) (none there))))

first-keeps : (d : Device) (res1 : ℕ) (ps : List QueuedPacket) (l : Lists) → NoneIsFault l ps → KeepsRules l (first_returned d res1 ps l).lists
first-keeps d res1 [] l none = keeps-none l
first-keeps d res1 (p ∷ ps) l none =
    let m : Lists = with_queue (place_of d) ps l in
    let q : QueuedPacket = returned_by d res1 p in
    keeps-then l m (with_work_for p.sender q m) (left d) (sender-keeps m p.sender q (λ there. (none (same d there)).0))
  where
    left : (d : Device) → KeepsRules l (with_queue (place_of d) ps l)
    left devices.Clock = beside-keeps l (with_queue Clock ps l) refl refl refl refl
    left devices.Keyboard = beside-keeps l (with_queue Keyboard ps l) refl refl refl refl
    left devices.Output = beside-keeps l (with_queue Output ps l) refl refl refl refl

    same : (d : Device) → has_task 2 (with_queue (place_of d) ps l).tasks ≡ true → has_task 2 l.tasks ≡ true
    same devices.Clock there = there
    same devices.Keyboard there = there
    same devices.Output there = there

pub met-keeps : (bytes : List ℕ) (l : Lists) → NoneIsFault l l.keyboard → KeepsRules l (met bytes l).lists
met-keeps [] l none = keeps-none l
met-keeps (byte ∷ bytes) l none = first-keeps devices.Keyboard byte l.keyboard l none

pub finished-output-keeps : (l : Lists) → NoneIsFault l l.output → KeepsRules l (finished l).lists
finished-output-keeps l none = first-keeps devices.Output 0 l.output l none

-- ---- what devices have

-- none of their packets is the fault packet
pub record NoDeviceHas (l : Lists) : Type 0 where
  pub clock : NoneIsFault l l.clock
  pub keyboard : NoneIsFault l l.keyboard
  pub output : NoneIsFault l l.output

pub no-device-has : (l : Lists) → AreValid l → NoDeviceHas l
no-device-has l v = record {
  clock = none-fault l Clock v tt (λ e. cc);
  keyboard = none-fault l Keyboard v tt (λ e. cc);
  output = none-fault l Output v tt (λ e. cc);
}

work-devices : (l : Lists) (id : ℕ) (p : QueuedPacket) → NoDeviceHas l → NoDeviceHas (with_work_for id p l)
work-devices l id p has =
    let before : has_task 2 (with_work_for id p l).tasks ≡ true → has_task 2 l.tasks ≡ true = λ there. sym (there-same _ (work-keeps id (queue_of (Work id) l ++ p ∷ [])) 2 l.tasks) ∙ there in
    record { clock = λ there. has.clock (before there); keyboard = λ there. has.keyboard (before there); output = λ there. has.output (before there) }

returned-devices : (ps : List QueuedPacket) (l : Lists) → NoDeviceHas l → NoDeviceHas (with_returned ps l)
returned-devices [] l has = has
returned-devices (p ∷ ps) l has = returned-devices ps (with_work_for p.sender (returned_by devices.Clock 0 p) l) (work-devices l p.sender (returned_by devices.Clock 0 p) has)

pub ticked-devices : (l : Lists) → NoDeviceHas l → NoDeviceHas (ticked l).lists
ticked-devices l has =
    let now : ℕ = l.tick + 1 in
    returned-devices (due_packets now l.clock) (with_queue Clock (later_packets now l.clock) (with_tick now l))
    (record {
      clock = λ there. filter-fewer (λ q. not (leb q.last now)) l.clock (λ p. eqb p.address fault_packet ≡ false) (has.clock there);
      keyboard = has.keyboard;
      output = has.output;
    })

pub met-devices : (bytes : List ℕ) (l : Lists) → NoDeviceHas l → NoDeviceHas (met bytes l).lists
met-devices [] l has = has
met-devices (byte ∷ bytes) l has = on l.keyboard refl
  where
    on : (ps : List QueuedPacket) → l.keyboard ≡ ps → NoDeviceHas (first_returned devices.Keyboard byte ps l).lists
    on [] is = has
    on (p ∷ ps) is =
        work-devices (with_queue Keyboard ps l) p.sender (returned_by devices.Keyboard byte p)
        (record { clock = has.clock; keyboard = λ there. (subst (AllByRecursion (λ q. eqb q.address fault_packet ≡ false)) is (has.keyboard there)).1; output = has.output })

-- ---- dispatch

left-fewer : (t : Task) → AreFewer (packets_left t) t.queue
left-fewer t P all = on (takes_packet t) t.queue all
  where
    on : (b : Bool) (ps : List QueuedPacket) → AllByRecursion P ps → AllByRecursion P (cond b (drop 1 ps) ps)
    on true [] all = tt
    on true (p ∷ ps) all = all.1
    on false ps all = all

module _ (words : List ℕ) (l : Lists) (r : Regs) where
  suspended-keeps : KeepsRules l (with_suspended r l)
  suspended-keeps = one-keeps l l.running (suspended r) (record { id = λ t. refl; fault = λ t. refl; queue = λ t. refl })

  pub dispatch-keeps : KeepsRules l (dispatched words l r).lists
  dispatch-keeps =
      let m : Lists = with_suspended r l in
      three-ways words l r (λ d. KeepsRules l d.lists) (λ t g. keeps-none l)
      (λ none. keeps-then l m (with_nobody m).lists suspended-keeps (beside-keeps m (with_nobody m).lists refl refl refl refl))
      (λ t is.
      let n : Lists = with_task t.id resumed m in
      let taken : KeepsRules m n = record { faults = fewer-rule m t.id resumed (λ u. refl) (λ u. refl) left-fewer; key = refl; pending = λ e. e } in
      keeps-then l m (with_resumed words t m).lists suspended-keeps (keeps-then m n (with_resumed words t m).lists taken (beside-keeps n (with_resumed words t m).lists refl refl refl refl)))
