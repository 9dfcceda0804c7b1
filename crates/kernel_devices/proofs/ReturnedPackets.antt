-- What the clock leaves where it returns one packet after the other.
use Rattle.std.proofs.Common.{◌≡◌, ℕ, ◌<◌, ◌≤◌, Bool, true, false, not, Option, List, [], ◌∷◌, ◌++◌, map, cond, leb, length, refl, sym, ap, ◌∙◌, subst, arith}
use Rattle.std.specs.List.{AllByRecursion}
use Rattle.std.proofs.lemmas.Bool.Decides.{nat_tests}
use Rattle.std.proofs.lemmas.List.{append-nil, append_assoc}
use Rattle.kernel_lists.specs.OwnedWords.Owned.{owners}
use Rattle.kernel_lists.specs.PacketQueue.Queue.{queue_at}
use Rattle.kernel_lists.specs.PacketQueue.QueueWords.{QueuedPacket, address_of}
use Rattle.kernel_lists.specs.declared.packet_queue.events.KernelEvent.{KernelEvent}
use Rattle.kernel_lists.proofs.PacketQueue.HeldQueues.{held-queue}
use Rattle.kernel_model.specs.KernelRecord.ChangedStore.{IsChanged}
use Rattle.kernel_model.specs.KernelRecord.Changes.{with_queue}
use Rattle.kernel_model.specs.KernelRecord.HoldsLists.{HoldsLists}
use Rattle.kernel_model.specs.KernelRecord.Lists.{Lists}
use Rattle.kernel_model.specs.KernelRecord.NotedEvents.{NotesAll}
use Rattle.kernel_model.specs.KernelRecord.Owned.{clock_head, owned}
use Rattle.kernel_model.specs.KernelRecord.ValidQueues.{NeverFall}
use Rattle.kernel_model.specs.KernelRecord.ValidQueues.Place.{Clock}
use Rattle.kernel_model.proofs.KernelRecord.ChangedLists.{changed-none, changed-then}
use Rattle.kernel_model.proofs.KernelRecord.EachMember.{all-each}
use Rattle.kernel_model.proofs.KernelRecord.NotedInTurn.{notes-none, notes-then}
use Rattle.kernel_calls.specs.PacketCalls.Returned.{DeviceChange, IsServed, first_returned, return_events, returned_by, with_work_for}
use Rattle.kernel_calls.specs.declared.packet_calls.returns.Device.TheVariants as devices
use Rattle.kernel_devices.specs.Tick.{due_packets, due_returned, events_of_return, is_first_due, later_packets, with_returned}
use Rattle.kernel_calls.proofs.PacketCalls.DeviceQueues.{device-held}

-- ---- the first packet

-- there is one, and it is due
pub record IsDue (now : ℕ) (l : Lists) : Type 0 where
  pub packet : QueuedPacket
  pub others : List QueuedPacket
  pub is : l.clock ≡ packet ∷ others
  pub due : leb packet.last now ≡ true

pub is-due : (now : ℕ) (l : Lists) → is_first_due now l.clock ≡ true → IsDue now l
is-due now l e = on l.clock refl e
  where
    on : (ps : List QueuedPacket) → l.clock ≡ ps → is_first_due now ps ≡ true → IsDue now l
    on [] is e = cc
    on (q ∷ qs) is e = record { packet = q; others = qs; is = is; due = e }

-- where it is not due, no packet is
none-due : (now : ℕ) (ps : List QueuedPacket) → AllByRecursion (λ q. leb q.last now ≡ false) ps → (due_packets now ps ≡ []) × (later_packets now ps ≡ ps)
none-due now [] all = (refl, refl)
none-due now (q ∷ qs) all =
    let more = none-due now qs all.1 in (
      (λ i. cond (all.0 i) (q ∷ due_packets now qs) (due_packets now qs)) ∙ more.0,
      (λ i. cond (not (all.0 i)) (q ∷ later_packets now qs) (later_packets now qs)) ∙ ap (λ z. q ∷ z) more.1,
    )

later-too : (now a b : ℕ) → leb a now ≡ false → a ≤ b → leb b now ≡ false
later-too now a b e le = grind (arith, nat_tests)

pub all-later : (now : ℕ) (ps : List QueuedPacket) → NeverFall ps → is_first_due now ps ≡ false → (due_packets now ps ≡ []) × (later_packets now ps ≡ ps)
all-later now [] falls e = (refl, refl)
all-later now (q ∷ qs) falls e = none-due now (q ∷ qs) (e, all-each (λ r. q.last ≤ r.last) (λ r. leb r.last now ≡ false) (λ r le. later-too now q.last r.last e le) qs falls.0)

-- ---- one more packet

-- From the store s on, in which the lists were l, some packets that were due have been returned: what is left to return gives the
-- whole.
pub record HasReturned (s t : List ℕ) (now : ℕ) (l : Lists) (before after : Option (List KernelEvent)) (b d : Bool) : Type 0 where
  pub lists : Lists
  pub changed : IsChanged s t lists []
  pub left : (due_returned now lists).lists ≡ (due_returned now l).lists
  pub own : (a : ℕ) → owners a (owned lists) ≡ owners a (owned l)
  pub events : List KernelEvent
  pub notes : NotesAll before after b d events
  pub so_far : events ++ (due_returned now lists).events ≡ (due_returned now l).events

pub returned-none : (s : List ℕ) (now : ℕ) (l : Lists) (events : Option (List KernelEvent)) (b : Bool) → HoldsLists s l → HasReturned s s now l events events b b
returned-none s now l events b h =
    record { lists = l; changed = changed-none s l h; left = refl; own = λ a. refl; events = []; notes = notes-none events b; so_far = refl }

module _ (now : ℕ) (m : Lists) (x : IsDue now m) where
  abbrev q : QueuedPacket
  q = x.packet

  abbrev qs : List QueuedPacket
  qs = x.others

  abbrev next : Lists
  next = with_work_for q.sender (returned_by devices.Clock 0 q) (with_queue Clock qs m)

  due-is : due_packets now m.clock ≡ q ∷ due_packets now qs
  due-is = ap (due_packets now) x.is ∙ (λ i. cond (x.due i) (q ∷ due_packets now qs) (due_packets now qs))

  later-is : later_packets now m.clock ≡ later_packets now qs
  later-is = ap (later_packets now) x.is ∙ (λ i. cond (not (x.due i)) (q ∷ later_packets now qs) (later_packets now qs))

  all-left : (due_returned now next).lists ≡ (due_returned now m).lists
  all-left = sym (λ i. with_returned (due-is i) (with_queue Clock (later-is i) m))

  all-events : (due_returned now m).events ≡ return_events devices.Clock q ++ (due_returned now next).events
  all-events = ap events_of_return due-is

  served-is : first_returned devices.Clock 0 m.clock m ≡ record { lists = next; events = return_events devices.Clock q }
  served-is = ap (λ ps. first_returned devices.Clock 0 ps m) x.is

  module _ (s t u : List ℕ) (l : Lists) (before after last : Option (List KernelEvent)) (b d e : Bool) (so : HasReturned s t now l before after b d) (same : so.lists ≡ m)
      (step : IsServed t u m (first_returned devices.Clock 0 m.clock m)) (noted : NotesAll after last d e (first_returned devices.Clock 0 m.clock m).events) where
    pub returned-more : HasReturned s u now l before last b e
    returned-more =
        let held : IsChanged s t m [] = subst (λ z. IsChanged s t z []) same so.changed in
        let own : (a : ℕ) → owners a (owned m) ≡ owners a (owned l) = subst (λ z. (a : ℕ) → owners a (owned z) ≡ owners a (owned l)) same so.own in
        let served : IsServed t u m (record { lists = next; events = return_events devices.Clock q }) = subst (IsServed t u m) served-is step in
        let notes : NotesAll after last d e (return_events devices.Clock q) = subst (λ (z : DeviceChange). NotesAll after last d e z.events) served-is noted in
        record {
          lists = next;
          changed = changed-then s t u m next [] held served.lists (λ a none. sym (served.same a) ∙ none);
          left = all-left ∙ ap (λ z. (due_returned now z).lists) (sym same) ∙ so.left;
          own = λ a. served.same a ∙ own a;
          events = so.events ++ return_events devices.Clock q;
          notes = notes-then before after last b d e so.events (return_events devices.Clock q) so.notes notes;
          so_far =
              append_assoc so.events (return_events devices.Clock q) (due_returned now next).events
              ∙ ap (λ z. so.events ++ z) (sym all-events)
              ∙ ap (λ z. so.events ++ (due_returned now z).events) (sym same)
              ∙ so.so_far;
        }

  -- the queue is shorter
  pub shorter : (t u : List ℕ) → HoldsLists t m → IsServed t u m (first_returned devices.Clock 0 m.clock m) → length (queue_at u clock_head) < length (queue_at t clock_head)
  shorter t u held step =
      let served : IsServed t u m (record { lists = next; events = return_events devices.Clock q }) = subst (IsServed t u m) served-is step in
      let before : queue_at t clock_head ≡ q.address ∷ map address_of qs = (held-queue t clock_head m.clock (device-held t m devices.Clock held)).list ∙ ap (map address_of) x.is in
      let now_is : queue_at u clock_head ≡ map address_of qs = (held-queue u clock_head qs (device-held u next devices.Clock served.lists.lists)).list in
      omega (arith, ap length before, ap length now_is)

-- ---- none is left

module _ (s t : List ℕ) (now : ℕ) (l : Lists) (before after : Option (List KernelEvent)) (b d : Bool) (so : HasReturned s t now l before after b d) (none : is_first_due now so.lists.clock ≡ false) where
  later : (due_packets now so.lists.clock ≡ []) × (later_packets now so.lists.clock ≡ so.lists.clock)
  later = all-later now so.lists.clock so.changed.lists.valid.queues.due none

  nothing-left : (due_returned now so.lists).lists ≡ so.lists
  nothing-left = λ i. with_returned (later.0 i) (with_queue Clock (later.1 i) so.lists)

  all-lists : so.lists ≡ (due_returned now l).lists
  all-lists = sym nothing-left ∙ so.left

  pub all-returned : IsServed s t l (due_returned now l)
  all-returned = record { lists = subst (λ m. IsChanged s t m []) all-lists so.changed; same = subst (λ m. (a : ℕ) → owners a (owned m) ≡ owners a (owned l)) all-lists so.own }

  pub all-noted : NotesAll before after b d (due_returned now l).events
  all-noted = subst (NotesAll before after b d) (sym (append-nil so.events) ∙ ap (λ z. so.events ++ events_of_return z) (sym later.0) ∙ so.so_far) so.notes
