-- In valid lists no packet is queued twice.
use Rattle.std.proofs.Common.{◌≡◌, ℕ, ℤ, zero, suc, pos, negsuc, ◌+◌, ◌≤◌, ◌||◌, Bool, true, false, cond, eqb, List, [], ◌∷◌, map, refl, sym, ap, ◌∙◌, subst, arith, eqb-true, eq-eqb}
use Rattle.std.specs.List.{AllByRecursion}
use Rattle.std.proofs.lemmas.Bool.{false≢true}
use Rattle.word_store.specs.Count.{IsApart, hit}
use Rattle.kernel_lists.specs.OwnedWords.LinkedWords.{first_of, linked_words}
use Rattle.kernel_lists.specs.OwnedWords.Owned.{owners}
use Rattle.kernel_lists.proofs.OwnedWords.OwnedWords.{owners-append}
use Rattle.kernel_lists.specs.PacketQueue.QueueWords.{QueuedPacket, address_of, packet_words}
use Rattle.kernel_model.specs.KernelRecord.Changes.{HasPlace, change_of, queue_of, with_queue, with_work, work_of}
use Rattle.kernel_model.specs.KernelRecord.Lists.{Lists, has_task}
use Rattle.kernel_model.specs.KernelRecord.Owned.{owned}
use Rattle.kernel_model.specs.KernelRecord.Task.{Task, task_id}
use Rattle.kernel_model.specs.KernelRecord.ValidLists.{AreValid}
use Rattle.kernel_model.specs.KernelRecord.ValidQueues.{NeverFall as PacketsNeverFall, Place}
use Rattle.kernel_model.specs.KernelRecord.ValidQueues.Place.{Clock, Keyboard, Output, Pending, Work}
use Rattle.kernel_model.proofs.KernelRecord.AllThings.{all-here}
use Rattle.kernel_model.proofs.KernelRecord.ChainSplits.{HasNumbered, numbered}
use Rattle.kernel_model.proofs.KernelRecord.OwnerCounts.{packets_count}
use Rattle.kernel_model.proofs.KernelRecord.QueueCounts.{owned-queue}
use Rattle.kernel_model.proofs.KernelRecord.QueuePlaces.{place-there}
use Rattle.kernel_model.proofs.KernelRecord.RootCounts.{highest-high}
use Rattle.kernel_model.proofs.KernelRecord.TaskPlaces.{TaskPlace, task-places}
use Rattle.kernel_calls.specs.PacketCalls.Dqpkt.{pending_number}
use Rattle.kernel_calls.proofs.PacketCalls.HeldPlaces.{IsQueuedBetween, between-parts}
use Rattle.tripos_machine.specs.EventHistory.Ledger.{AreOnce, Entry, NeverFall, clock, count_of, is_on_queue, same_queue}
use Rattle.tripos_machine.proofs.EventHistory.Packets.{none-counted, some-counted}
use Rattle.tripos_machine.proofs.EventHistory.Queues.{same-true}
use Rattle.tripos_machine.specs.PacketHistory.Queues.{clock_entry, entry_of, ledger_of}
use Rattle.tripos_machine.proofs.PacketHistory.Ledgers.{IsNamed, any-at, entries_at, ledger-at, number_of, work-other}
use Rattle.resident_tasks.proofs.ResidentRequests.RunningResident.{has_task-work}

-- ---- the tasks that are there

-- they stay so where one of them is another with its number
pub has_task-changed : (i id : ℕ) (f : Task → Task) → ((t : Task) → (f t).id ≡ t.id) → (ts : List Task) → has_task i (map (change_of id f) ts) ≡ has_task i ts
has_task-changed i id f same [] = refl
has_task-changed i id f same (t ∷ ts) = λ k. eqb (on (eqb t.id id) k) i || has_task-changed i id f same ts k
  where
    on : (b : Bool) → (cond b (f t) t).id ≡ t.id
    on true = same t
    on false = refl

-- ---- numbers of tasks

-- a task that is there has a number from 1 to 63
pub record IsNumber (id : ℕ) : Type 0 where
  pub low : 1 ≤ id
  pub high : id ≤ 63

pub task-number : (l : Lists) → AreValid l → (id : ℕ) → has_task id l.tasks ≡ true → IsNumber id
task-number l v id some =
    let r : HasNumbered id l.tasks = numbered id l.tasks some in
    let p : TaskPlace l r.task = all-here (TaskPlace l) r.between.front r.task r.between.back (subst (AllByRecursion (TaskPlace l)) r.between.is (task-places l v)) in
    record { low = omega (arith, p.low_id, r.number); high = omega (arith, p.high_id, r.number, highest-high l.version) }

-- ---- a packet counts as often as it is owned

module _ (make : QueuedPacket → Entry) (same : (p : QueuedPacket) → (make p).packet ≡ p.address) where
  counted : (a : ℕ) (ps : List QueuedPacket) → count_of a (map make ps) ≤ packets_count a ps
  counted a [] = omega arith
  counted a (p ∷ ps) =
      omega (arith, ap (hit a) (same p), counted a ps, owners-append a (packet_words p (first_of address_of ps 0)) (linked_words address_of packet_words ps 0))

counted-at : (a : ℕ) (at : Place) (ps : List QueuedPacket) → count_of a (entries_at at ps) ≤ packets_count a ps
counted-at a (Work id) ps = counted entry_of (λ p. refl) a ps
counted-at a Clock ps = counted clock_entry (λ p. refl) a ps
counted-at a Keyboard ps = counted entry_of (λ p. refl) a ps
counted-at a Output ps = counted entry_of (λ p. refl) a ps
counted-at a Pending ps = counted entry_of (λ p. refl) a ps

-- ---- places

-- the place of a number
pub record IsPlaceOf (l : Lists) (q : ℤ) : Type 0 where
  pub at : Place
  pub number : number_of at ≡ q
  pub has : HasPlace l at
  pub named : IsNamed at

module _ (l : Lists) (v : AreValid l) where
  -- a place that has a packet is there
  place-of : (at : Place) → IsNamed at → (a : ℕ) → is_on_queue a (entries_at at (queue_of at l)) ≡ true → IsPlaceOf l (number_of at)
  place-of at named a some =
      let r : IsQueuedBetween a (queue_of at l) = between-parts a (queue_of at l) (sym (any-at at a (queue_of at l)) ∙ some) in
      record { at = at; number = refl; has = place-there l at r.front r.packet r.back v r.is; named = named }

  pub has-place : (q : ℤ) (a : ℕ) → is_on_queue a (ledger_of l q) ≡ true → IsPlaceOf l q
  has-place (pos n) a = on (eqb n pending_number) refl
    where
      on : (b : Bool) → eqb n pending_number ≡ b → is_on_queue a (map entry_of (cond b l.pending (work_of n l.tasks))) ≡ true → IsPlaceOf l (pos n)
      on true is some = subst (λ z. IsPlaceOf l (pos z)) (sym (eqb-true n pending_number is)) (place-of Pending tt a some)
      on false is some = place-of (Work n) (λ e. absurd (false≢true (sym is ∙ eq-eqb n pending_number e))) a some
  has-place (negsuc zero) a = place-of Clock tt a
  has-place (negsuc (suc zero)) a = place-of Keyboard tt a
  has-place (negsuc (suc (suc zero))) a = place-of Output tt a
  has-place (negsuc (suc (suc (suc n)))) a = λ some. cc

-- another place keeps its queue
ids-work : (id : ℕ) (ps : List QueuedPacket) (ts : List Task) → map task_id (map (with_work id ps) ts) ≡ map task_id ts
ids-work id ps [] = refl
ids-work id ps (t ∷ ts) = λ i. on (eqb t.id id) i ∷ ids-work id ps ts i
  where
    on : (b : Bool) → (cond b (record t { queue = ps }) t).id ≡ t.id
    on true = refl
    on false = refl

module _ (l : Lists) (ps : List QueuedPacket) where
  pub place-stays : (at to : Place) → HasPlace l to → HasPlace (with_queue at ps l) to
  place-stays (Work id) (Work n) has = has_task-work n id ps l.tasks ∙ has
  place-stays Clock (Work n) has = has
  place-stays Keyboard (Work n) has = has
  place-stays Output (Work n) has = has
  place-stays Pending (Work n) has = has
  place-stays at Clock has = tt
  place-stays at Keyboard has = tt
  place-stays at Output has = tt
  place-stays (Work id) Pending has = has
  place-stays Clock Pending has = has
  place-stays Keyboard Pending has = has
  place-stays Output Pending has = has
  place-stays Pending Pending has = has

  ids-stay : (at : Place) → map task_id (with_queue at ps l).tasks ≡ map task_id l.tasks
  ids-stay (Work id) = ids-work id ps l.tasks
  ids-stay Clock = refl
  ids-stay Keyboard = refl
  ids-stay Output = refl
  ids-stay Pending = refl

  pub queue-stays : (at to : Place) → same_queue (number_of at) (number_of to) ≡ false → queue_of to (with_queue at ps l) ≡ queue_of to l
  queue-stays (Work id) (Work n) other = work-other id n ps l.tasks (λ e. absurd (false≢true (sym other ∙ eq-eqb id n (sym e))))
  queue-stays (Work id) Clock other = refl
  queue-stays (Work id) Keyboard other = refl
  queue-stays (Work id) Output other = refl
  queue-stays (Work id) Pending other = refl
  queue-stays Clock (Work n) other = refl
  queue-stays Clock Clock other = cc
  queue-stays Clock Keyboard other = refl
  queue-stays Clock Output other = refl
  queue-stays Clock Pending other = refl
  queue-stays Keyboard (Work n) other = refl
  queue-stays Keyboard Clock other = refl
  queue-stays Keyboard Keyboard other = cc
  queue-stays Keyboard Output other = refl
  queue-stays Keyboard Pending other = refl
  queue-stays Output (Work n) other = refl
  queue-stays Output Clock other = refl
  queue-stays Output Keyboard other = refl
  queue-stays Output Output other = cc
  queue-stays Output Pending other = refl
  queue-stays Pending (Work n) other = refl
  queue-stays Pending Clock other = refl
  queue-stays Pending Keyboard other = refl
  queue-stays Pending Output other = refl
  queue-stays Pending Pending other = cc

-- ---- no packet twice

module _ (l : Lists) (v : AreValid l) where
  -- what a queue has is owned
  pub count-place : (a : ℕ) (m : Lists) (at : Place) → IsApart (map task_id m.tasks) → HasPlace m at → packets_count a (queue_of at m) ≤ owners a (owned m)
  count-place a m at apart has = omega (arith, owned-queue a m at [] apart has)

  -- and what two have is owned by both
  count-both : (a : ℕ) (at to : Place) → HasPlace l at → HasPlace l to → same_queue (number_of at) (number_of to) ≡ false → packets_count a (queue_of at l) + packets_count a (queue_of to l) ≤ owners a (owned l)
  count-both a at to has also other =
      let m : Lists = with_queue at [] l in
      omega (
        arith,
        owned-queue a l at [] v.tasks.distinct has,
        count-place a m to (subst IsApart (sym (ids-stay l [] at)) v.tasks.distinct) (place-stays l [] at to also),
        ap (packets_count a) (queue-stays l [] at to other),
      )

  pub ledger-count : (q : ℤ) (a : ℕ) (p : IsPlaceOf l q) → count_of a (ledger_of l q) ≤ packets_count a (queue_of p.at l)
  ledger-count q a p = subst (λ es. count_of a es ≤ packets_count a (queue_of p.at l)) (sym (ledger-at l p.at p.named) ∙ ap (ledger_of l) p.number) (counted-at a p.at (queue_of p.at l))

  pub valid-once : AreOnce (ledger_of l)
  valid-once =
      record {
        once = λ q a. at-most q a (is_on_queue a (ledger_of l q)) refl;
        one = λ q r a here there. same q r a here there (same_queue q r) refl;
      }
    where
      at-most : (q : ℤ) (a : ℕ) (b : Bool) → is_on_queue a (ledger_of l q) ≡ b → count_of a (ledger_of l q) ≤ 1
      at-most q a true some =
          let p : IsPlaceOf l q = has-place l v q a some in
          omega (arith, ledger-count q a p, count-place a l p.at v.tasks.distinct p.has, v.owns.apart a)
      at-most q a false none = omega (arith, none-counted a (ledger_of l q) none)

      same : (q r : ℤ) (a : ℕ) → is_on_queue a (ledger_of l q) ≡ true → is_on_queue a (ledger_of l r) ≡ true → (b : Bool) → same_queue q r ≡ b → q ≡ r
      same q r a here there true is = same-true q r is
      same q r a here there false is =
          let p : IsPlaceOf l q = has-place l v q a here in
          let z : IsPlaceOf l r = has-place l v r a there in
          let other : same_queue (number_of p.at) (number_of z.at) ≡ false = (λ i. same_queue (p.number i) (z.number i)) ∙ is in
          absurd
          (omega (
            arith,
            count-both a p.at z.at p.has z.has other,
            ledger-count q a p,
            ledger-count r a z,
            some-counted a (ledger_of l q) here,
            some-counted a (ledger_of l r) there,
            v.owns.apart a,
          ))

  -- due ticks never fall
  pub valid-falls : NeverFall (ledger_of l clock)
  valid-falls = on l.clock v.queues.due
    where
      high : (n : ℕ) (ps : List QueuedPacket) → AllByRecursion (λ q. n ≤ q.last) ps → AllByRecursion (λ e. n ≤ e.due) (map clock_entry ps)
      high n [] all = tt
      high n (p ∷ ps) all = (all.0, high n ps all.1)

      on : (ps : List QueuedPacket) → PacketsNeverFall ps → NeverFall (map clock_entry ps)
      on [] h = tt
      on (p ∷ ps) h = (high p.last ps h.0, on ps h.1)
