-- A queue in place of another, and the lists stay valid.
use Rattle.std.proofs.Common.{◌≡◌, ℕ, ◌≤◌, List, [], ◌∷◌, ◌++◌, map, cond, eqb, not, ◌&&◌, ◌||◌, Bool, Option, true, false, refl, sym, ap, ◌∙◌, subst}
use Rattle.std.specs.Prelude.{is_some}
use Rattle.std.specs.List.{AllByRecursion}
use Rattle.std.proofs.lemmas.Bool.{false≢true, or_left, or_right}
use Rattle.word_store.specs.Count.{IsApart}
use Rattle.kernel_lists.specs.PacketQueue.QueueWords.{QueuedPacket}
use Rattle.kernel_model.specs.KernelRecord.Changes.{HasPlace, KeepsOrder, queue_of, with_key, with_queue, with_tasks, work_of}
use Rattle.kernel_model.specs.KernelRecord.Lists.{Lists, has_task, is_queued}
use Rattle.kernel_model.specs.KernelRecord.Owned.{OwnsApart}
use Rattle.kernel_model.specs.KernelRecord.Residents.{fault_packet, key_packet}
use Rattle.kernel_model.specs.KernelRecord.Task.{Task, task_id}
use Rattle.kernel_model.specs.KernelRecord.ValidLists.{AreValid}
use Rattle.kernel_model.specs.KernelRecord.ValidQueues.{IsValidPacket, NeverFall, Place}
use Rattle.kernel_model.specs.KernelRecord.ValidQueues.Place.{Clock, Keyboard, Output, Pending, Work}
use Rattle.kernel_model.specs.KernelRecord.ValidTasks.{AreValidCoroutines, IsTask}
use Rattle.kernel_model.proofs.KernelRecord.AllThings.{all-beside, all-here}
use Rattle.kernel_model.proofs.KernelRecord.ChainChanges.{with_chain}
use Rattle.kernel_model.proofs.KernelRecord.OneTask.{queued-one_task, task-changed}
use Rattle.kernel_model.proofs.KernelRecord.OwnerCounts.{with_queues}
use Rattle.kernel_model.proofs.KernelRecord.QueuedPackets.{fault-kept, is_on_queue, is_queued-parts, is_queued-same, key-kept, work_packets, work_packets-here}
use Rattle.kernel_model.proofs.KernelRecord.RulesKept.{AreValidCoroutines-same, AreValidTasks-same, IsTask-kept, IsTask-queue, IsValidPacket-more}
use Rattle.kernel_model.proofs.KernelRecord.WorkQueues.{WorkSplit, work-split}
use Rattle.kernel_model.proofs.KernelRecord.EachMember.{all-each}

-- ---- the order of due ticks

falls-beside : (front : List QueuedPacket) (p : QueuedPacket) (back : List QueuedPacket) → NeverFall (front ++ p ∷ back) → NeverFall (front ++ back)
falls-beside [] p back h = h.1
falls-beside (q ∷ qs) p back h = (all-beside (λ r. q.last ≤ r.last) qs p back h.0, falls-beside qs p back h.1)

-- the order stays where a packet goes out
pub KeepsOrder-beside : (at : Place) (front : List QueuedPacket) (p : QueuedPacket) (back : List QueuedPacket) → KeepsOrder at (front ++ p ∷ back) → KeepsOrder at (front ++ back)
KeepsOrder-beside (Work id) front p back h = tt
KeepsOrder-beside Clock front p back h = falls-beside front p back h
KeepsOrder-beside Keyboard front p back h = tt
KeepsOrder-beside Output front p back h = tt
KeepsOrder-beside Pending front p back h = tt

-- ---- what is at a place

pub valid-at-place : (l : Lists) (at : Place) → AreValid l → HasPlace l at → AllByRecursion (IsValidPacket l at) (queue_of at l)
valid-at-place l (Work id) v has =
    let r : WorkSplit id [] l.tasks = work-split id [] l.tasks v.tasks.distinct has in
    let there : AllByRecursion (IsValidPacket l (Work r.task.id)) r.task.queue =
    all-here (λ z. AllByRecursion (IsValidPacket l (Work z.id)) z.queue) r.front r.task r.back (subst (AllByRecursion (λ z. AllByRecursion (IsValidPacket l (Work z.id)) z.queue)) r.whole v.queues.tasks)
    in
    subst (AllByRecursion (IsValidPacket l (Work id))) (sym r.queue) (subst (λ i. AllByRecursion (IsValidPacket l (Work i)) r.task.queue) r.number there)
valid-at-place l Clock v has = v.queues.clock
valid-at-place l Keyboard v has = v.queues.keyboard
valid-at-place l Output v has = v.queues.output
valid-at-place l Pending v has = v.queues.pending

-- where a packet is there is a place
work-there : (id : ℕ) (ts : List Task) (front : List QueuedPacket) (p : QueuedPacket) (back : List QueuedPacket) → work_of id ts ≡ front ++ p ∷ back → has_task id ts ≡ true
work-there id [] front p back e = absurd (some front e)
  where
    some : (front : List QueuedPacket) → ◌≡◌ {A = List QueuedPacket} [] (front ++ p ∷ back) → ⊥
    some [] e = cc
    some (q ∷ qs) e = cc
work-there id (t ∷ ts) front p back e = on (eqb t.id id) e (work-there id ts front p back)
  where
    on : (b : Bool) → cond b t.queue (work_of id ts) ≡ front ++ p ∷ back → (work_of id ts ≡ front ++ p ∷ back → has_task id ts ≡ true) → (b || has_task id ts) ≡ true
    on true e more = refl
    on false e more = more e

pub place-there : (l : Lists) (at : Place) (front : List QueuedPacket) (p : QueuedPacket) (back : List QueuedPacket) → AreValid l → queue_of at l ≡ front ++ p ∷ back → HasPlace l at
place-there l (Work id) front p back v is = work-there id l.tasks front p back is
place-there l Clock front p back v is = tt
place-there l Keyboard front p back v is = tt
place-there l Output front p back v is = tt
place-there l Pending front p back v is = on l.residents refl
  where
    some : (front : List QueuedPacket) → ◌≡◌ {A = List QueuedPacket} [] (front ++ p ∷ back) → ⊥
    some [] e = cc
    some (q ∷ qs) e = cc

    on : (b : Bool) → l.residents ≡ b → b ≡ true
    on true e = refl
    on false e = absurd (some front (sym (v.queues.no_console e) ∙ is))

pub place-order : (l : Lists) (at : Place) → AreValid l → KeepsOrder at (queue_of at l)
place-order l (Work id) v = tt
place-order l Clock v = v.queues.due
place-order l Keyboard v = tt
place-order l Output v = tt
place-order l Pending v = tt

-- ---- the queues of devices and residents

-- What such queues have to meet: their packets may be there, due ticks never fall, and without residents no read waits.
pub record FitQueues (l : Lists) (c k o p : List QueuedPacket) : Type 0 where
  pub clock : AllByRecursion (IsValidPacket l Clock) c
  pub keyboard : AllByRecursion (IsValidPacket l Keyboard) k
  pub output : AllByRecursion (IsValidPacket l Output) o
  pub pending : AllByRecursion (IsValidPacket l Pending) p
  pub due : NeverFall c
  pub no_console : l.residents ≡ false → p ≡ []

pub queues-valid : (l : Lists) (c k o p : List QueuedPacket) (x : Option ℕ) (f : Bool) → AreValid l → FitQueues l c k o p
    → is_some x ≡ (l.residents && not (is_queued key_packet (with_queues c k o p x f l)))
    → f ≡ (has_task 2 l.tasks && not (is_queued fault_packet (with_queues c k o p x f l)))
    → OwnsApart (with_queues c k o p x f l) → AreValid (with_queues c k o p x f l)
queues-valid l c k o p x f v fit key fault owns =
    record {
      blocks = v.blocks;
      numbers = record { version = v.numbers.version; size = v.numbers.size; period = v.numbers.period; residents = v.numbers.residents };
      modules = v.modules;
      tasks =
          AreValidTasks-same l m refl refl
          (all-each (IsTask l) (IsTask m) (λ t h. IsTask-kept l m t refl refl (λ all. all) (λ _ u h. h) h) l.tasks v.tasks.each)
          v.tasks;
      coroutines = all-each (AreValidCoroutines l) (AreValidCoroutines m) (λ t h. AreValidCoroutines-same l m t refl h) l.tasks v.coroutines;
      queues =
          record {
            tasks = all-each (λ t. AllByRecursion (IsValidPacket l (Work t.id)) t.queue) (λ t. AllByRecursion (IsValidPacket m (Work t.id)) t.queue) (λ t all. moved (Work t.id) t.queue all) l.tasks v.queues.tasks;
            clock = moved Clock c fit.clock;
            keyboard = moved Keyboard k fit.keyboard;
            output = moved Output o fit.output;
            pending = moved Pending p fit.pending;
            due = fit.due;
            no_console = fit.no_console;
            key = key;
            fault = fault;
            running = v.queues.running;
          };
      owns = owns;
    }
  where
    m : Lists
    m = with_queues c k o p x f l

    moved : (at : Place) (ps : List QueuedPacket) → AllByRecursion (IsValidPacket l at) ps → AllByRecursion (IsValidPacket m at) ps
    moved at ps all = all-each (IsValidPacket l at) (IsValidPacket m at) (λ p h. IsValidPacket-more l m at p refl refl (λ d. d) (λ i some. some) h) ps all

-- ---- which packets are queued

pub is_queued-place : (a : ℕ) (l : Lists) (at : Place) (ps : List QueuedPacket) → IsApart (map task_id l.tasks) → HasPlace l at → is_on_queue a ps ≡ is_on_queue a (queue_of at l)
    → is_queued a (with_queue at ps l) ≡ is_queued a l
is_queued-place a l (Work id) ps apart has e =
    let r : WorkSplit id ps l.tasks = work-split id ps l.tasks apart has in
    subst (λ z. is_queued a (with_tasks z l) ≡ is_queued a l) (sym r.becomes)
    (queued-one_task l r.front r.task (record r.task { queue = ps }) r.back r.whole a (e ∙ ap (is_on_queue a) r.queue))
is_queued-place a l Clock ps apart has e = is_queued-same a l (with_queue Clock ps l) refl e refl refl refl
is_queued-place a l Keyboard ps apart has e = is_queued-same a l (with_queue Keyboard ps l) refl refl e refl refl
is_queued-place a l Output ps apart has e = is_queued-same a l (with_queue Output ps l) refl refl refl e refl
is_queued-place a l Pending ps apart has e = is_queued-same a l (with_queue Pending ps l) refl refl refl refl e

behind : (x y z : Bool) → z ≡ true → (x || (y || z)) ≡ true
behind x y z some = or_right x (y || z) (or_right y z some)

-- a packet of the queue at a place is queued
pub is_queued-here : (a : ℕ) (l : Lists) (at : Place) (ps : List QueuedPacket) → IsApart (map task_id l.tasks) → HasPlace l at → is_on_queue a ps ≡ true → is_queued a (with_queue at ps l) ≡ true
is_queued-here a l (Work id) ps apart has some =
    let r : WorkSplit id ps l.tasks = work-split id ps l.tasks apart has in
    let u : Task = record r.task { queue = ps } in
    subst (λ z. is_queued a (with_tasks z l) ≡ true) (sym r.becomes)
    (is_queued-parts a (with_tasks (r.front ++ u ∷ r.back) l) ∙ or_left _ _ (work_packets-here a r.front u r.back some))
is_queued-here a l Clock ps apart has some =
    is_queued-parts a (with_queue Clock ps l)
    ∙ or_right (is_on_queue a (work_packets l.tasks)) (is_on_queue a ps || (is_on_queue a l.keyboard || (is_on_queue a l.output || is_on_queue a l.pending))) (or_left (is_on_queue a ps) _ some)
is_queued-here a l Keyboard ps apart has some =
    is_queued-parts a (with_queue Keyboard ps l) ∙ behind (is_on_queue a (work_packets l.tasks)) (is_on_queue a l.clock) (is_on_queue a ps || (is_on_queue a l.output || is_on_queue a l.pending)) (or_left (is_on_queue a ps) _ some)
is_queued-here a l Output ps apart has some =
    is_queued-parts a (with_queue Output ps l)
    ∙ behind (is_on_queue a (work_packets l.tasks)) (is_on_queue a l.clock) (is_on_queue a l.keyboard || (is_on_queue a ps || is_on_queue a l.pending))
    (or_right (is_on_queue a l.keyboard) (is_on_queue a ps || is_on_queue a l.pending) (or_left (is_on_queue a ps) (is_on_queue a l.pending) some))
is_queued-here a l Pending ps apart has some =
    is_queued-parts a (with_queue Pending ps l)
    ∙ behind (is_on_queue a (work_packets l.tasks)) (is_on_queue a l.clock) (is_on_queue a l.keyboard || (is_on_queue a l.output || is_on_queue a ps)) (behind (is_on_queue a l.keyboard) (is_on_queue a l.output) (is_on_queue a ps) some)

-- ---- a queue at any place

-- the lists with another state of the residents' two packets
abbrev pub with_packets : Option ℕ → Bool → Lists → Lists
with_packets x f l = record l { key = x; fault_packet_free = f }

pub place-valid : (l : Lists) (at : Place) (ps : List QueuedPacket) (x : Option ℕ) (f : Bool) → AreValid l → HasPlace l at → AllByRecursion (IsValidPacket l at) ps → KeepsOrder at ps
    → is_some x ≡ (l.residents && not (is_queued key_packet (with_queue at ps l))) → f ≡ (has_task 2 l.tasks && not (is_queued fault_packet (with_queue at ps l)))
    → OwnsApart (with_packets x f (with_queue at ps l)) → AreValid (with_packets x f (with_queue at ps l))
place-valid l (Work id) ps x f v has all order key fault owns =
    let r : WorkSplit id ps l.tasks = work-split id ps l.tasks v.tasks.distinct has in
    let u : Task = record r.task { queue = ps } in
    let task : IsTask l u = IsTask-queue l r.task ps (all-here (IsTask l) r.front r.task r.back (subst (AllByRecursion (IsTask l)) r.whole v.tasks.each)) in
    let old : AreValidCoroutines l r.task = all-here (AreValidCoroutines l) r.front r.task r.back (subst (AllByRecursion (AreValidCoroutines l)) r.whole v.coroutines) in
    let coroutines : AreValidCoroutines l u = record { each = old.each; members = old.members; distinct = old.distinct } in
    subst (λ z. AreValid (with_chain z x f l)) (sym r.becomes)
    (task-changed l r.front r.task u r.back r.whole x f v refl refl task coroutines (subst (λ i. AllByRecursion (IsValidPacket l (Work i)) ps) (sym r.number) all)
    (subst (λ z. is_some x ≡ (l.residents && not (is_queued key_packet (with_tasks z l)))) r.becomes key)
    (subst (λ z. f ≡ (has_task 2 l.tasks && not (is_queued fault_packet (with_tasks z l)))) r.becomes fault)
    (subst (λ z. OwnsApart (with_chain z x f l)) r.becomes owns))
place-valid l Clock ps x f v has all order key fault owns =
    queues-valid l ps l.keyboard l.output l.pending x f v
    (record { clock = all; keyboard = v.queues.keyboard; output = v.queues.output; pending = v.queues.pending; due = order; no_console = v.queues.no_console }) key fault owns
place-valid l Keyboard ps x f v has all order key fault owns =
    queues-valid l l.clock ps l.output l.pending x f v
    (record { clock = v.queues.clock; keyboard = all; output = v.queues.output; pending = v.queues.pending; due = v.queues.due; no_console = v.queues.no_console }) key fault owns
place-valid l Output ps x f v has all order key fault owns =
    queues-valid l l.clock l.keyboard ps l.pending x f v
    (record { clock = v.queues.clock; keyboard = v.queues.keyboard; output = all; pending = v.queues.pending; due = v.queues.due; no_console = v.queues.no_console }) key fault owns
place-valid l Pending ps x f v has all order key fault owns =
    queues-valid l l.clock l.keyboard l.output ps x f v
    (record {
      clock = v.queues.clock;
      keyboard = v.queues.keyboard;
      output = v.queues.output;
      pending = all;
      due = v.queues.due;
      no_console = λ none. absurd (false≢true (sym none ∙ has));
    }) key fault owns

-- what stays
pub with_queue-packets : (l : Lists) (at : Place) (ps : List QueuedPacket) → with_packets l.key l.fault_packet_free (with_queue at ps l) ≡ with_queue at ps l
with_queue-packets l (Work id) ps = refl
with_queue-packets l Clock ps = refl
with_queue-packets l Keyboard ps = refl
with_queue-packets l Output ps = refl
with_queue-packets l Pending ps = refl

pub with_queue-key : (l : Lists) (at : Place) (ps : List QueuedPacket) (x : Option ℕ) → with_packets x l.fault_packet_free (with_queue at ps l) ≡ with_key x (with_queue at ps l)
with_queue-key l (Work id) ps x = refl
with_queue-key l Clock ps x = refl
with_queue-key l Keyboard ps x = refl
with_queue-key l Output ps x = refl
with_queue-key l Pending ps x = refl

pub with_queue-residents : (at : Place) (ps : List QueuedPacket) (l : Lists) → (with_queue at ps l).residents ≡ l.residents
with_queue-residents (Work id) ps l = refl
with_queue-residents Clock ps l = refl
with_queue-residents Keyboard ps l = refl
with_queue-residents Output ps l = refl
with_queue-residents Pending ps l = refl

pub with_queue-size : (at : Place) (ps : List QueuedPacket) (l : Lists) → (with_queue at ps l).size ≡ l.size
with_queue-size (Work id) ps l = refl
with_queue-size Clock ps l = refl
with_queue-size Keyboard ps l = refl
with_queue-size Output ps l = refl
with_queue-size Pending ps l = refl

-- where the residents' two packets are on it as before
pub queue-valid : (l : Lists) (at : Place) (ps : List QueuedPacket) → AreValid l → HasPlace l at → AllByRecursion (IsValidPacket l at) ps → KeepsOrder at ps
    → (l.residents ≡ true → is_on_queue key_packet ps ≡ is_on_queue key_packet (queue_of at l)) → (has_task 2 l.tasks ≡ true → is_on_queue fault_packet ps ≡ is_on_queue fault_packet (queue_of at l))
    → OwnsApart (with_queue at ps l) → AreValid (with_queue at ps l)
queue-valid l at ps v has all order key fault owns =
    subst AreValid (with_queue-packets l at ps)
    (place-valid l at ps l.key l.fault_packet_free v has all order
    (key-kept l (with_queue at ps l) v.queues.key (λ is. is_queued-place key_packet l at ps v.tasks.distinct has (key is)))
    (fault-kept l (with_queue at ps l) v.queues.fault (λ is. is_queued-place fault_packet l at ps v.tasks.distinct has (fault is)))
    (subst OwnsApart (sym (with_queue-packets l at ps)) owns))
