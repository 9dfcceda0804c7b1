-- The task that goes on takes its packet, where it takes one.
use Rattle.std.proofs.Common.{◌≡◌, ℕ, pos, ◌+◌, ◌≤◌, ◌^◌, ◌&&◌, ◌||◌, Bool, true, false, Option, Some, None, List, [], ◌∷◌, ◌++◌, cond, drop, eqb, get_or, leb, map, take, refl, sym, ap, ◌∙◌, subst, arith, ◌%◌, ◌-ℤ◌}
use Rattle.std.specs.Prelude.{not, slice_get}
use Rattle.std.specs.List.{AllByRecursion, range_with_len}
use Rattle.std.proofs.lemmas.Bool.{and_parts, lt-ltb}
use Rattle.word_store.specs.Count.{IsApart}
use Rattle.word_store.specs.Arithmetic.{signed}
use Rattle.kernel_lists.specs.OwnedWords.LinkedWords.{first_of}
use Rattle.kernel_lists.specs.OwnedWords.Owned.{written}
use Rattle.kernel_lists.specs.PacketQueue.Log.{Notes}
use Rattle.kernel_lists.specs.PacketQueue.Queue.{HasQueue, queue_at}
use Rattle.kernel_lists.specs.PacketQueue.QueueWords.{HeldQueue, QueuedPacket, address_of}
use Rattle.kernel_lists.specs.declared.packet_queue.events.KernelEvent.{KernelEvent}
use Rattle.kernel_lists.specs.declared.packet_queue.events.KernelEvent.TheVariants.{Taken}
use Rattle.kernel_lists.proofs.PacketQueue.HeldQueues.{held-queue}
use Rattle.kernel_model.specs.KernelRecord.Between.{is_empty_queue, is_ready}
use Rattle.kernel_model.specs.KernelRecord.ChangedStore.{HasKeeper, IsChanged, Knows}
use Rattle.kernel_model.specs.KernelRecord.Changes.{change_of, with_task, with_tasks}
use Rattle.kernel_model.specs.KernelRecord.Lists.{Lists}
use Rattle.kernel_model.specs.KernelRecord.NotedEvents.{NotesAll}
use Rattle.kernel_model.specs.KernelRecord.Task.{Task, is_guest_id, queue_head, state_word, task_id}
use Rattle.kernel_model.specs.KernelRecord.ValidTasks.{IsField, IsTask}
use Rattle.kernel_model.proofs.KernelRecord.AllThings.{all-here}
use Rattle.kernel_model.proofs.KernelRecord.ChainSplits.{IsBetween, change-between, found-between}
use Rattle.kernel_model.proofs.KernelRecord.ChangedLists.{changed-none}
use Rattle.kernel_model.proofs.KernelRecord.NotedInTurn.{notes-none, notes-one}
use Rattle.kernel_model.proofs.KernelRecord.Reading.{read-lists}
use Rattle.kernel_model.specs.WordKinds.Keeper.{AreTogether}
use Rattle.kernel_model.proofs.WordKinds.KnownWords.{knows-released}
use Rattle.kernel_model.specs.KernelDispatch.Dispatch.{packets_left, packets_taken, taken_event, takes_packet, unlinked_words, with_packet_taken}
use Rattle.kernel_model.specs.KernelDispatch.Private.DispatchWords.{state_of, takes_packet_by, with_taken}
use Rattle.kernel_model.specs.KernelDispatch.Turn.{HasTaken, IsNext}
use Rattle.kernel_model.proofs.KernelDispatch.TakenPacket.{changed-taken, others-stay, owners-taken, sender-stays}
use Rattle.kernel_model.proofs.KernelDispatch.TaskStates.{TellsTask, by-field, tells-states, tells-tasks}

-- ---- which packet

abbrev SaysTakes : Task → Bool → List QueuedPacket → ℕ → Type 0
SaysTakes t h ps n = leb 4 (state_word (record t { field = n; held = h; queue = ps }) % 8) ≡ (eqb n 4 || eqb n 12)

takes-state : (t : Task) → IsField t.field → leb 4 (state_word t % 8) ≡ (eqb t.field 4 || eqb t.field 12)
takes-state t f = on t.held t.queue
  where
    on : (h : Bool) (ps : List QueuedPacket) → SaysTakes t h ps t.field
    on true [] = by-field (SaysTakes t true []) refl refl refl refl t.field f
    on true (p ∷ ps) = by-field (SaysTakes t true (p ∷ ps)) refl refl refl refl t.field f
    on false [] = by-field (SaysTakes t false []) refl refl refl refl t.field f
    on false (p ∷ ps) = by-field (SaysTakes t false (p ∷ ps)) refl refl refl refl t.field f

-- a ready task that waits, or is dead, has packets
pub record HasWork (t : Task) : Type 0 where
  pub packet : QueuedPacket
  pub others : List QueuedPacket
  pub queue : t.queue ≡ packet ∷ others

abbrev Works : Bool → List QueuedPacket → ℕ → Type 0
Works h ps n = (not h && (eqb n 0 || eqb n 8 || not (is_empty_queue ps))) ≡ true → (eqb n 4 || eqb n 12) ≡ true → (p : QueuedPacket) × ((qs : List QueuedPacket) × (ps ≡ p ∷ qs))

has-work : (t : Task) → IsField t.field → is_ready t ≡ true → (eqb t.field 4 || eqb t.field 12) ≡ true → HasWork t
has-work t f ready takes = (let w = on t.held t.queue ready takes in record { packet = w.0; others = w.1.0; queue = w.1.1 })
  where
    on : (h : Bool) (ps : List QueuedPacket) → Works h ps t.field
    on h (p ∷ ps) = λ _ _. (p, (ps, refl))
    on true [] = λ e _. cc
    on false [] = by-field (Works false []) (λ _ e. cc) (λ e _. cc) (λ _ e. cc) (λ e _. cc) t.field f

pub signed-low : (n : ℕ) → n ≤ 63 → signed n ≡ pos n
signed-low n low = ap (λ b. cond b (pos n) (pos n -ℤ pos (2 ^ 32))) (lt-ltb n (2 ^ 31) (omega (arith, low)))

-- ---- the next task

module _ (s : List ℕ) (tells : List ℕ → Type 0) (room : ℕ) (l : Lists) (w : Task) (t : ℕ) (k : HasKeeper s tells room l) (n : IsNext l w t) where
  abbrev place : IsBetween l.tasks w
  place = (found-between is_ready l.tasks w n.first).0

  pub is-between : IsBetween l.tasks w
  is-between = place

  pub is-task : IsTask l w
  is-task = all-here (IsTask l) place.front w place.back (subst (AllByRecursion (IsTask l)) place.is k.lists.valid.tasks.each)

  pub is-told : TellsTask s w
  is-told = all-here (TellsTask s) place.front w place.back (subst (AllByRecursion (TellsTask s)) place.is (tells-tasks s l k.lists))

  pub has-state : state_of s w.address ≡ state_word w
  has-state = all-here (λ z. state_of s z.address ≡ state_word z) place.front w place.back (subst (AllByRecursion (λ z. state_of s z.address ≡ state_word z)) place.is (tells-states s l k.lists))

  has-queue : HeldQueue s (queue_head w.address) w.queue
  has-queue =
      all-here (λ z. HeldQueue s (queue_head z.address) z.queue) place.front w place.back
      (subst (AllByRecursion (λ z. HeldQueue s (queue_head z.address) z.queue)) place.is (read-lists s l k.lists.valid k.lists.size k.lists.holds).work)

  pub valid-queue : HasQueue s (queue_head t)
  valid-queue = subst (λ z. HasQueue s (queue_head z)) n.address (held-queue s (queue_head w.address) w.queue has-queue).valid

  -- whether the store says that it takes a packet
  pub takes-told : takes_packet_by (get_or s (t + 1) 0) (state_of s t) ≡ takes_packet w
  takes-told =
      sym (ap (λ z. takes_packet_by (get_or s (z + 1) 0) (state_of s z)) n.address)
      ∙ (λ i. is_guest_id (is-told.id i) && leb 4 (has-state i % 8))
      ∙ ap (λ b. is_guest_id w.id && b) (takes-state w is-task.field)

  distinct : IsApart (map task_id (place.front ++ w ∷ place.back))
  distinct = subst (λ ts. IsApart (map task_id ts)) place.is k.lists.valid.tasks.distinct

  -- the lists in which its queue is another
  after-is : with_task w.id with_packet_taken l ≡ with_tasks (place.front ++ with_packet_taken w ∷ place.back) l
  after-is =
      ap (λ ts. with_tasks (map (change_of w.id with_packet_taken) ts) l) place.is ∙ ap (λ ts. with_tasks ts l) (change-between with_packet_taken place.front w place.back distinct)

  pub between-taken : IsBetween (with_task w.id with_packet_taken l).tasks (with_packet_taken w)
  between-taken = record { front = place.front; back = place.back; is = ap (λ z. z.tasks) after-is }

  -- where it takes none
  pub none-taken : (events : Option (List KernelEvent)) (f : Bool) → takes_packet w ≡ false → HasTaken s s l w 0 tells events events f f
  none-taken events f idle =
      let none : packets_taken w ≡ [] = ap (λ b. cond b (take 1 w.queue) []) idle in
      let left : packets_left w ≡ w.queue = ap (λ b. cond b (drop 1 w.queue) w.queue) idle in
      let same : with_task w.id with_packet_taken l ≡ l =
      after-is ∙ ap (λ z. with_tasks (place.front ++ (record w { queue = z }) ∷ place.back) l) left ∙ ap (λ ts. with_tasks ts l) (sym place.is)
      in
      record {
        lists = subst (λ z. IsChanged s s z (unlinked_words (packets_taken w))) (sym same) (subst (λ z. IsChanged s s l (unlinked_words z)) (sym none) (changed-none s l k.lists));
        others = λ a _ _. ap (λ z. get_or (written (unlinked_words z) s) a 0) (sym none);
        taken = ap (λ z. first_of address_of z 0) (sym none);
        knows = subst (Knows tells) (sym same) k.knows;
        notes = subst (λ z. NotesAll events events f f (map (taken_event w) z)) (sym none) (notes-none events f);
      }

  -- where it takes one, there is one
  work : takes_packet w ≡ true → HasWork w
  work takes = has-work w is-task.field (found-between is_ready l.tasks w n.first).1 (and_parts (is_guest_id w.id) (eqb w.field 4 || eqb w.field 12) takes).1

  first-packet : (x : HasWork w) → slice_get (queue_at s (queue_head t)) 0 ≡ Some x.packet.address
  first-packet x =
      ap (λ z. slice_get (queue_at s (queue_head z)) 0) (sym n.address)
      ∙ ap (λ z. slice_get z 0) ((held-queue s (queue_head w.address) w.queue has-queue).list ∙ ap (map address_of) x.queue)

  pub some-taken : (r : Option ℕ) → takes_packet w ≡ true → r ≡ slice_get (queue_at s (queue_head t)) 0 → r ≡ None → ⊥
  some-taken r takes is none = (let e : Some (work takes).packet.address ≡ None = sym (first-packet (work takes)) ∙ sym is ∙ none in cc)

  pub one-taken : (v : List ℕ) (r : Option ℕ) (p : ℕ) (told : List ℕ → Type 0) (before now : Option (List KernelEvent)) (f g : Bool) → takes_packet w ≡ true
      → r ≡ slice_get (queue_at s (queue_head t)) 0 → r ≡ Some p → v ≡ with_taken s t p
      → ((known after : List ℕ) → tells known → IsApart known → AreTogether known after (range_with_len p 5) → told after)
      → Notes before now f g (Taken (signed (get_or s (t + 1) 0)) p (signed (get_or v (p + 1) 0)))
      → HasTaken s v l w p told before now f g
  one-taken v r p told before now f g takes is some written_is release notes =
      let x : HasWork w = work takes in
      let at : p ≡ x.packet.address = (let e : Some p ≡ Some x.packet.address = sym some ∙ is ∙ first-packet x in cc) in
      let guest : is_guest_id w.id ≡ true = (and_parts (is_guest_id w.id) (eqb w.field 4 || eqb w.field 12) takes).0 in
      let one : packets_taken w ≡ x.packet ∷ [] = ap (λ b. cond b (take 1 w.queue) []) takes ∙ ap (take 1) x.queue in
      let left : packets_left w ≡ x.others = ap (λ b. cond b (drop 1 w.queue) w.queue) takes ∙ ap (drop 1) x.queue in
      let v_is : v ≡ with_taken s w.address x.packet.address = written_is ∙ (λ i. with_taken s (sym n.address i) (at i)) in
      let m : Lists = with_tasks (place.front ++ (record w { queue = x.others }) ∷ place.back) l in
      let same : with_task w.id with_packet_taken l ≡ m = after-is ∙ ap (λ z. with_tasks (place.front ++ (record w { queue = z }) ∷ place.back) l) left in
      record {
        lists =
            subst (λ z. IsChanged s v z (unlinked_words (packets_taken w))) (sym same)
            (subst (λ z. IsChanged s v m (unlinked_words z)) (sym one) (changed-taken s v l place.front w place.back x.packet x.others place.is x.queue guest k.lists v_is));
        others = λ a not_head not_state.
            others-stay s v l place.front w place.back x.packet x.others place.is x.queue guest k.lists a not_head not_state v_is
            ∙ ap (λ z. get_or (written (unlinked_words z) s) a 0) (sym one);
        taken = at ∙ ap (λ z. first_of address_of z 0) (sym one);
        knows =
            subst (Knows told) (sym same)
            (knows-released tells told l m x.packet.address 5 k.lists.valid.owns (owners-taken s v l place.front w place.back x.packet x.others place.is x.queue guest k.lists) k.knows
            (subst (λ z. (known after : List ℕ) → tells known → IsApart known → AreTogether known after (range_with_len z 5) → told after) at release));
        notes =
            subst (λ z. NotesAll before now f g (map (taken_event w) z)) (sym one)
            (subst (λ e. NotesAll before now f g (e ∷ []))
            (λ i. Taken
            ((ap (λ z. signed (get_or s (z + 1) 0)) (sym n.address) ∙ ap signed is-told.id ∙ signed-low w.id is-told.high) i)
            (at i)
            ((ap (λ z. signed (get_or v (z + 1) 0)) at ∙ ap signed (sender-stays s v l place.front w place.back x.packet x.others place.is x.queue guest k.lists v_is)) i))
            (notes-one before now f g _ notes));
      }
