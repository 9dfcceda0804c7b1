-- Calls that move packets.
use Rattle.std.proofs.Common.{◌≡◌, ℕ, negsuc, ◌+◌, ◌||◌, Bool, true, false, cond, eqb, Option, Some, None, List, [], ◌∷◌, ◌++◌, get_or, refl, sym, ap, ◌∙◌, subst, arith, eqb-true}
use Rattle.std.specs.Prelude.{find}
use Rattle.std.specs.List.{AllByRecursion, list_any}
use Rattle.word_store.specs.Arithmetic.{signed}
use Rattle.kernel_lists.specs.OwnedWords.Owned.{owners}
use Rattle.kernel_lists.specs.PacketQueue.QueueWords.{QueuedPacket}
use Rattle.kernel_lists.specs.declared.packet_queue.events.KernelEvent.{KernelEvent}
use Rattle.kernel_lists.specs.declared.packet_queue.events.KernelEvent.TheVariants.{Accepted, Taken, Dequeued}
use Rattle.kernel_model.specs.KernelRecord.Changes.{HasPlace, queue_of, with_queue, with_task}
use Rattle.kernel_model.specs.KernelRecord.Lists.{Lists, has_task}
use Rattle.kernel_model.specs.KernelRecord.Owned.{owned}
use Rattle.kernel_model.specs.KernelRecord.Residents.{device}
use Rattle.kernel_model.specs.KernelRecord.ValidLists.{AreValid}
use Rattle.kernel_model.specs.KernelRecord.ValidQueues.{Place}
use Rattle.kernel_model.specs.KernelRecord.ValidQueues.Place.{Clock, Keyboard, Output, Pending, Work}
use Rattle.kernel_model.proofs.KernelRecord.QueuePlaces.{place-there}
use Rattle.kernel_calls.specs.CallAnswers.CallChange.{CallChange, by_refusal, unless_refused}
use Rattle.kernel_calls.specs.CallAnswers.Refusals.{first_refusal}
use Rattle.kernel_calls.specs.PacketCalls.Destinations.{is_destination, place_of}
use Rattle.kernel_calls.specs.PacketCalls.Dqpkt.{Search, dequeued, dqpkt, dqpkt_tests, found_in, pending_number, searches}
use Rattle.kernel_calls.specs.PacketCalls.PacketMoves.{sent_packet, with_arrived, with_departed}
use Rattle.kernel_calls.specs.PacketCalls.Qpkt.{qpkt, qpkt_tests, sent_to}
use Rattle.kernel_calls.specs.PacketCalls.TaskWait.{taskwait, waited, waiting}
use Rattle.kernel_calls.proofs.PacketCalls.HeldPlaces.{IsQueuedBetween, between-parts}
use Rattle.kernel_calls.proofs.PacketCalls.NamedQueues.{named-place}
use Rattle.kernel_calls.proofs.PacketCalls.PacketTests.{plain-unowned}
use Rattle.tripos_machine.specs.EventHistory.Ledger.{IsNowhere, is_on_queue}
use Rattle.tripos_machine.proofs.EventHistory.Packets.{some-counted}
use Rattle.tripos_machine.specs.PacketHistory.Queues.{IsDueIn, Moves, ledger_of}
use Rattle.tripos_machine.proofs.PacketHistory.Ledgers.{IsNamed, ledger-task, number_of}
use Rattle.tripos_machine.proofs.PacketHistory.Moves.{IsDueBy, low-named, move-accepted, move-dequeued, move-none, move-taken}
use Rattle.tripos_machine.proofs.PacketHistory.ValidLedgers.{IsNumber, IsPlaceOf, count-place, has-place, ledger-count, task-number}
use Rattle.kernel_calls.proofs.CallAnswers.Refusals.{passed-tests}
use Rattle.kernel_model.proofs.KernelDispatch.TakenWork.{signed-low}

-- ---- the call by which a task takes its first packet, or waits

pub taskwait-moves : (due : KernelEvent → ℕ) (l : Lists) → AreValid l → has_task l.running l.tasks ≡ true → Moves due l (taskwait l).events (taskwait l).lists
taskwait-moves due l v there = on (queue_of (Work l.running) l) refl
  where
    low : IsNumber l.running
    low = task-number l v l.running there

    on : (ps : List QueuedPacket) → queue_of (Work l.running) l ≡ ps → Moves due l (waited ps l).events (waited ps l).lists
    on [] is = move-none due l (with_task l.running waiting l) (ledger-task l l.running waiting (λ t. (refl, refl)))
    on (p ∷ ps) is =
        subst (λ q. Moves due l (Taken q p.address (signed p.sender) ∷ []) (with_queue (Work l.running) ps l)) (sym (signed-low l.running low.high))
        (move-taken due l (Work l.running) p ps there (low-named l.running low.high) is)

-- ---- the call that sends a packet

-- what nobody owns is on no queue
pub unowned-nowhere : (l : Lists) → AreValid l → (a : ℕ) → owners a (owned l) ≡ 0 → IsNowhere a (ledger_of l)
unowned-nowhere l v a none q = on (is_on_queue a (ledger_of l q)) refl
  where
    on : (b : Bool) → is_on_queue a (ledger_of l q) ≡ b → b ≡ false
    on false e = refl
    on true e =
        let p : IsPlaceOf l q = has-place l v q a e in
        absurd (omega (arith, none, some-counted a (ledger_of l q) e, ledger-count l v q a p, count-place l v a l p.at v.tasks.distinct p.has))

-- where a number names a queue
pub record Names (l : Lists) (n : ℕ) : Type 0 where
  pub number : number_of (place_of n) ≡ signed n
  pub has : HasPlace l (place_of n)
  pub named : IsNamed (place_of n)

pub names : (l : Lists) → AreValid l → (n : ℕ) → is_destination l n ≡ true → Names l n
names l v n e = (let r = on (eqb n (device 1)) refl (eqb n (device 2)) refl (eqb n (device 3)) refl e in record { number = r.0; has = named-place l n e; named = r.1 })
  where
    at : Bool → Bool → Bool → Place
    at a b c = cond a Clock (cond b Keyboard (cond c Output (Work n)))

    on : (a : Bool) → eqb n (device 1) ≡ a → (b : Bool) → eqb n (device 2) ≡ b → (c : Bool) → eqb n (device 3) ≡ c → (a || (b || (c || has_task n l.tasks))) ≡ true
        → (number_of (at (eqb n (device 1)) (eqb n (device 2)) (eqb n (device 3))) ≡ signed n) × IsNamed (at (eqb n (device 1)) (eqb n (device 2)) (eqb n (device 3)))
    on true x b y c z e = rw x (sym (ap signed (eqb-true n (device 1) x)), tt)
    on false x true y c z e = rw (x, y) (sym (ap signed (eqb-true n (device 2) y)), tt)
    on false x false y true z e = rw (x, y, z) (sym (ap signed (eqb-true n (device 3) z)), tt)
    on false x false y false z e =
        let low : IsNumber n = task-number l v n e in
        rw (x, y, z) (sym (signed-low n low.high), low-named n low.high)

sent-due : (due : KernelEvent → ℕ) (s : List ℕ) (l : Lists) (p from : ℕ) (at : Place) → IsDueIn due s l p → IsDueBy at (due (Accepted (number_of at) p (signed from))) (sent_packet s l at p from)
sent-due due s l p from (Work id) is = tt
sent-due due s l p from Clock is = is (negsuc 0) (signed from)
sent-due due s l p from Keyboard is = tt
sent-due due s l p from Output is = tt
sent-due due s l p from Pending is = tt

-- refused it changes nothing
pub refused-moves : (due : KernelEvent → ℕ) (l : Lists) (tests : List (Bool × ℕ)) (m : CallChange) → (AllByRecursion (λ test. test.0 ≡ true) tests → Moves due l m.events m.lists)
    → Moves due l (unless_refused tests l m).events (unless_refused tests l m).lists
refused-moves due l tests m moves = on (first_refusal tests) refl
  where
    on : (o : Option ℕ) → first_refusal tests ≡ o → Moves due l (by_refusal o l m).events (by_refusal o l m).lists
    on None e = moves (passed-tests tests e)
    on (Some code) e = move-none due l l refl

pub qpkt-moves : (due : KernelEvent → ℕ) (s : List ℕ) (l : Lists) (p : ℕ) → AreValid l → IsDueIn due s l p → Moves due l (qpkt s l p).events (qpkt s l p).lists
qpkt-moves due s l p v is = refused-moves due l (qpkt_tests s l p) (sent_to (get_or s (p + 1) 0) s l p) sent
  where
    sent : AllByRecursion (λ test. test.0 ≡ true) (qpkt_tests s l p) → Moves due l (sent_to (get_or s (p + 1) 0) s l p).events (sent_to (get_or s (p + 1) 0) s l p).lists
    sent ok =
        let to : Names l (get_or s (p + 1) 0) = names l v (get_or s (p + 1) 0) ok.1.1.1.0 in
        let none : owners p (owned l) ≡ 0 = plain-unowned l p ok.1.1.0 p (omega arith) (omega arith) in
        let at : Place = place_of (get_or s (p + 1) 0) in
        subst (λ q. Moves due l (Accepted q p (signed l.running) ∷ []) (with_arrived at (sent_packet s l at p l.running) l)) to.number
        (move-accepted due l at (sent_packet s l at p l.running) to.has to.named (unowned-nowhere l v p none) (sent-due due s l p l.running at is))

-- ---- the call that takes a packet back

-- a search finds what is at the place of its number
pub record IsSearch (l : Lists) (w : Search) : Type 0 where
  pub number : number_of w.place ≡ signed w.number
  pub named : IsNamed w.place

found-one : {X : Type 0} (P : X → Type 0) (f : X → Bool) (xs : List X) (x : X) → find f xs ≡ Some x → AllByRecursion P xs → (P x) × (f x ≡ true)
found-one P f [] x e all = cc
found-one {X} P f (y ∷ ys) x e all = on (f y) refl e (found-one P f ys x)
  where
    on : (b : Bool) → f y ≡ b → cond b (Some y) (find f ys) ≡ Some x → (find f ys ≡ Some x → AllByRecursion P ys → (P x) × (f x ≡ true)) → (P x) × (f x ≡ true)
    on true is e more = (let same : y ≡ x = cc in (subst P same all.0, ap f (sym same) ∙ is))
    on false is e more = more e all.1

all-searches : (l : Lists) → AreValid l → has_task l.running l.tasks ≡ true → (id : ℕ) → is_destination l id ≡ true → AllByRecursion (IsSearch l) (searches l id)
all-searches l v there id to = (
  record { number = (names l v id to).number; named = (names l v id to).named },
  on (eqb id 3),
)
  where
    low : IsNumber l.running
    low = task-number l v l.running there

    own : IsSearch l (record { place = Work l.running; number = l.running; answer = l.running })
    own = record { number = sym (signed-low l.running low.high); named = low-named l.running low.high }

    on : (b : Bool) → AllByRecursion (IsSearch l) (cond b (record { place = Pending; number = pending_number; answer = id } ∷ []) [] ++ record { place = Work l.running; number = l.running; answer = l.running } ∷ [])
    on true = (record { number = refl; named = tt }, (own, tt))
    on false = (own, tt)

pub dqpkt-moves : (due : KernelEvent → ℕ) (l : Lists) (id p : ℕ) → AreValid l → has_task l.running l.tasks ≡ true → Moves due l (dqpkt l id p).events (dqpkt l id p).lists
dqpkt-moves due l id p v there = refused-moves due l (dqpkt_tests l id p) (dequeued p (found_in l id p) l) (λ ok. on ok.0 (found_in l id p) refl)
  where
    on : is_destination l id ≡ true → (o : Option Search) → found_in l id p ≡ o → Moves due l (dequeued p o l).events (dequeued p o l).lists
    on to None is = move-none due l l refl
    on to (Some w) is =
        let r = found-one (IsSearch l) (λ w. list_any (λ q. eqb p q.address) (queue_of w.place l)) (searches l id) w is (all-searches l v there id to) in
        let z : IsQueuedBetween p (queue_of w.place l) = between-parts p (queue_of w.place l) r.1 in
        subst (λ q. Moves due l (Dequeued q p ∷ []) (with_departed p w.place l)) r.0.number
        (move-dequeued due l w.place z.packet p (place-there l w.place z.front z.packet z.back v z.is) r.0.named r.1)
