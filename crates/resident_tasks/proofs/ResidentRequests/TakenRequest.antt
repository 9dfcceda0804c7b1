-- What a resident that takes a request leaves.
use Rattle.std.proofs.Common.{◌≡◌, ◌≢◌, ℕ, ◌+◌, ◌<◌, Bool, true, false, Option, Some, None, List, [], ◌∷◌, cond, eqb, get_or, refl, sym, ap, ◌∙◌, subst, arith}
use Rattle.std.specs.List.{AllByRecursion, range_with_len}
use Rattle.std.proofs.lemmas.Bool.{eq-eqb, ne_eqb, or_left}
use Rattle.word_store.specs.Arithmetic.{signed}
use Rattle.word_store.specs.Count.{IsApart}
use Rattle.kernel_lists.specs.LinkedList.Places.{has}
use Rattle.kernel_lists.specs.PacketQueue.Log.{Notes}
use Rattle.kernel_lists.specs.PacketQueue.Queue.{HasQueue, queue_at}
use Rattle.kernel_lists.specs.PacketQueue.QueueWords.{QueuedPacket, first_packet}
use Rattle.kernel_lists.specs.declared.packet_queue.events.KernelEvent.{KernelEvent}
use Rattle.kernel_lists.specs.declared.packet_queue.events.KernelEvent.TheVariants.{Taken}
use Rattle.kernel_model.specs.KernelRecord.ChangedStore.{HasKeeper, IsChanged, Knows}
use Rattle.kernel_model.specs.KernelRecord.Changes.{AreUnowned, with_queue}
use Rattle.kernel_model.specs.KernelRecord.HoldsLists.{HoldsLists}
use Rattle.kernel_model.specs.KernelRecord.Lists.{Lists, address_of_task, has_task}
use Rattle.kernel_model.specs.KernelRecord.NotedEvents.{NotesAll}
use Rattle.kernel_model.specs.KernelRecord.Task.{queue_head}
use Rattle.kernel_model.specs.KernelRecord.ValidBlocks.{AreData}
use Rattle.kernel_model.specs.KernelRecord.ValidLists.{AreValid}
use Rattle.kernel_model.specs.KernelRecord.ValidQueues.{IsValidPacket, is_fault_packet, is_key_packet}
use Rattle.kernel_model.specs.KernelRecord.ValidQueues.Place.{Work}
use Rattle.kernel_model.proofs.KernelRecord.ChangedLists.{changed-none}
use Rattle.kernel_model.proofs.KernelRecord.NotedInTurn.{notes-none, notes-one}
use Rattle.kernel_model.proofs.KernelRecord.PacketMoves.{unqueued-unowned, unqueued-valid}
use Rattle.kernel_model.proofs.KernelRecord.QueuePlaces.{valid-at-place}
use Rattle.kernel_model.specs.WordKinds.Keeper.{AreTogether}
use Rattle.kernel_model.proofs.WordKinds.KnownWords.{knows-released}
use Rattle.kernel_calls.specs.PacketCalls.Destinations.{queue_for}
use Rattle.kernel_calls.specs.PacketCalls.PacketMoves.{is_on_queue}
use Rattle.kernel_calls.specs.PacketCalls.QueueWords.{head_of, unqueued}
use Rattle.kernel_calls.specs.declared.packet_calls.queues.Queue.TheVariants as queues
use Rattle.kernel_calls.proofs.PacketCalls.HeldPlaces.{HasFirst, first-there, has-at, held-at, no-packets, valid-at}
use Rattle.kernel_calls.proofs.PacketCalls.Departure.{departed-changed, held-before, others-kept, owners-departed}
use Rattle.kernel_calls.specs.PacketCalls.TaskWait.{first_of_queue}
use Rattle.resident_tasks.specs.ResidentRequests.Requests.{HasRequest, IsForeign, IsTaken, RunsResident, TakesRequest, first_request, request_at, taken, taken_from, words_taken_from, work}
use Rattle.resident_tasks.proofs.ResidentRequests.RunningResident.{has_task-work, resident-first, resident-number, runs-work}

-- a packet's address, where 0 is none
abbrev pub packet_or_none : ℕ → Option ℕ
packet_or_none p = cond (eqb p 0) None (Some p)

module _ (s : List ℕ) (tells : List ℕ → Type 0) (room : ℕ) (l : Lists) (k : HasKeeper s tells room l) (r : TakesRequest l) (t : ℕ) (at : t ≡ address_of_task l l.running) where
  abbrev there : has_task l.running l.tasks ≡ true
  there = r.runs.there

  first-is : get_or s (t + 3) 0 ≡ get_or s (address_of_task l l.running + 3) 0
  first-is = ap (λ a. get_or s (a + 3) 0) at

  -- ---- no packets

  module _ (none : get_or s (t + 3) 0 ≡ 0) where
    empty : work l ≡ []
    empty = no-packets (work l) (held-at s l (Work l.running) k.lists there).some (sym (resident-first s l k.lists r.runs) ∙ (sym first-is ∙ none))

    pub none-taken : IsTaken s s tells l None
    none-taken =
        record {
          lists = subst (λ ps. IsChanged s s (taken_from ps l).lists (taken_from ps l).plain) (sym empty) (changed-none s l k.lists);
          knows = subst (λ ps. Knows tells (taken_from ps l).lists) (sym empty) k.knows;
          words = subst (λ ps. s ≡ words_taken_from ps s l) (sym empty) refl;
          runs = subst (λ ps. RunsResident (taken_from ps l).lists) (sym empty) r.runs;
          request = subst (λ ps. None ≡ first_request s ps) (sym empty) refl;
          has_request = tt;
        }

    pub none-noted : (events : Option (List KernelEvent)) (f : Bool) → NotesAll events events f f (taken l).events
    none-noted events f = subst (λ ps. NotesAll events events f f (taken_from ps l).events) (sym empty) (notes-none events f)

  -- ---- the first packet

  module _ (p : ℕ) (is_first : p ≡ get_or s (t + 3) 0) (some : p ≢ 0) where
    first : HasFirst p (work l)
    first = first-there p (work l) (is_first ∙ (first-is ∙ resident-first s l k.lists r.runs)) some

    abbrev q : QueuedPacket
    q = first.packet

    abbrev back : List QueuedPacket
    back = first.back

    abbrev m : Lists
    m = with_queue (Work l.running) back l

    foreign : (is_key_packet l q ≡ false) × (is_fault_packet l q ≡ false)
    foreign = subst (IsForeign l) first.is r.foreign

    valid-packet : IsValidPacket l (Work l.running) q
    valid-packet = (subst (AllByRecursion (IsValidPacket l (Work l.running))) first.is (valid-at-place l (Work l.running) k.lists.valid there)).0

    valid : AreValid m
    valid = unqueued-valid l (Work l.running) q [] back k.lists.valid first.is foreign.0 foreign.1

    queue-is : queues.Work t ≡ queue_for l (Work l.running)
    queue-is = ap queues.Work at

    pub take-queue : HasQueue s (queue_head t)
    take-queue = subst (λ z. HasQueue s (head_of z)) (sym queue-is) (valid-at s l (Work l.running) k.lists there)

    pub take-packet : has p (queue_at s (queue_head t)) ≡ true
    take-packet =
        subst (λ z. has p (queue_at s (head_of z)) ≡ true) (sym queue-is)
        (has-at s l (Work l.running) k.lists there p ∙ ap (is_on_queue p) first.is ∙ or_left (eqb p q.address) (is_on_queue p back) (eq-eqb p q.address (sym first.address)))

    module _ (v : List ℕ) (is_left : v ≡ unqueued s (queues.Work t) p) where
      left : v ≡ unqueued s (queue_for l (Work l.running)) q.address
      left = is_left ∙ (λ i. unqueued s (queue-is i) (sym first.address i))

      sender : get_or v (p + 1) 0 ≡ q.sender
      sender =
          (λ i. get_or (left i) (sym first.address i + 1) 0)
          ∙ others-kept s l (Work l.running) q [] back k.lists first.is (q.address + 1) (omega arith) (omega arith)
          ∙ (held-before s l (Work l.running) q [] back k.lists first.is).holds.1.1.0

      sender-there : has_task (get_or v (p + 1) 0) m.tasks ≡ true
      sender-there = ap (λ i. has_task i m.tasks) sender ∙ (has_task-work q.sender l.running back l.tasks ∙ valid-packet.sender foreign.0 r.runs.resident)

      has-request : HasRequest v m (request_at v p)
      has-request =
          record {
            sender = refl;
            kind = refl;
            there = sender-there;
            lodged = subst (λ a. AreData l.blocks a 5) first.address valid-packet.lodged;
            plain = subst (λ a. AreUnowned m a (a + 5)) first.address (unqueued-unowned l (Work l.running) q [] back k.lists.valid first.is);
          }

      pub some-taken : (told : List ℕ → Type 0) → ((known rest : List ℕ) → tells known → IsApart known → AreTogether known rest (range_with_len p 5) → told rest)
          → IsTaken s v told l (Some (request_at v p))
      some-taken told release =
          record {
            lists = subst (λ ps. IsChanged s v (taken_from ps l).lists (taken_from ps l).plain) (sym first.is) (departed-changed s l (Work l.running) q [] back k.lists first.is v valid left);
            knows =
                subst (λ ps. Knows told (taken_from ps l).lists) (sym first.is)
                (knows-released tells told l m q.address 5 k.lists.valid.owns (owners-departed s l (Work l.running) q [] back k.lists first.is) k.knows
                (subst (λ z. (known rest : List ℕ) → tells known → IsApart known → AreTogether known rest (range_with_len z 5) → told rest) (sym first.address) release));
            words = subst (λ ps. v ≡ words_taken_from ps s l) (sym first.is) left;
            runs = subst (λ ps. RunsResident (taken_from ps l).lists) (sym first.is) (runs-work l l.running back r.runs);
            request = subst (λ ps. Some (request_at v p) ≡ first_request v ps) (sym first.is) (ap (λ a. Some (request_at v a)) (sym first.address));
            has_request = subst (λ ps. HasRequest v (taken_from ps l).lists (request_at v p)) (sym first.is) has-request;
          }

      pub some-noted : (before now : Option (List KernelEvent)) (f g : Bool) → Notes before now f g (Taken (signed (get_or s (t + 1) 0)) p (signed (get_or v (p + 1) 0)))
          → NotesAll before now f g (taken l).events
      some-noted before now f g notes =
          subst (λ ps. NotesAll before now f g (taken_from ps l).events) (sym first.is)
          (subst (λ e. NotesAll before now f g (e ∷ []))
          (λ i. Taken (signed ((ap (λ a. get_or s (a + 1) 0) at ∙ resident-number s l k.lists r.runs) i)) (sym first.address i) (signed (sender i)))
          (notes-one before now f g _ notes))

-- the first packet, as the store has it
pub first-of : (s : List ℕ) (l : Lists) (h : HoldsLists s l) (r : RunsResident l) (t p : ℕ) → t ≡ address_of_task l l.running → p ≡ get_or s (t + 3) 0 → packet_or_none p ≡ first_of_queue (work l)
first-of s l h r t p at is_p =
    on (work l) (held-at s l (Work l.running) h r.there).some (is_p ∙ (ap (λ a. get_or s (a + 3) 0) at ∙ resident-first s l h r))
  where
    on : (ps : List QueuedPacket) → AllByRecursion (λ q. 0 < q.address) ps → p ≡ first_packet ps → packet_or_none p ≡ first_of_queue ps
    on [] some e = ap packet_or_none e
    on (q ∷ qs) some e = ap packet_or_none e ∙ ap (λ b. cond b None (Some q.address)) (ne_eqb q.address 0 (λ z. absurd (omega (arith, z, some.0))))

-- the same resident runs once it has taken a request
pub taken-running : (l : Lists) → (taken l).lists.running ≡ l.running
taken-running l = on (work l)
  where
    on : (ps : List QueuedPacket) → (taken_from ps l).lists.running ≡ l.running
    on [] = refl
    on (p ∷ ps) = refl
