-- What a packet that a resident sends leaves.
use Rattle.std.proofs.Common.{◌≡◌, ◌≢◌, ℕ, ◌+◌, ◌<◌, ◌≤◌, Bool, true, not, Option, Some, None, Ok, List, [], ◌∷◌, ◌++◌, cond, get_or, is_some, set, inl, inr, refl, sym, ap, ◌∙◌, subst, arith, append-nil}
use Rattle.std.specs.List.{AllByRecursion, range_with_len}
use Rattle.std.proofs.lemmas.Bool.{and_parts, eq-eqb, ne_eqb}
use Rattle.word_store.specs.Arithmetic.{signed}
use Rattle.word_store.specs.Count.{times}
use Rattle.word_store.proofs.Elements.{all-append}
use Rattle.kernel_lists.specs.OwnedWords.Exchange.{Exchange}
use Rattle.kernel_lists.specs.OwnedWords.Owned.{Holds, Pairs, owners}
use Rattle.kernel_lists.proofs.OwnedWords.RowWords.{owners-row}
use Rattle.kernel_lists.specs.PacketQueue.Log.{Notes}
use Rattle.kernel_lists.specs.PacketQueue.Queue.{CanQueue, HasQueue, no_queue}
use Rattle.kernel_lists.specs.PacketQueue.QueueWords.{QueuedPacket}
use Rattle.kernel_lists.specs.declared.packet_queue.events.KernelEvent.{KernelEvent}
use Rattle.kernel_lists.specs.declared.packet_queue.events.KernelEvent.TheVariants.{Accepted}
use Rattle.kernel_model.specs.KernelRecord.ChangedStore.{HasKeeper, IsChanged}
use Rattle.kernel_model.specs.KernelRecord.Changes.{with_key, with_queue}
use Rattle.kernel_model.specs.KernelRecord.HoldsLists.{HoldsLists}
use Rattle.kernel_model.specs.KernelRecord.Lists.{Lists, has_task, is_queued}
use Rattle.kernel_model.specs.KernelRecord.NotedEvents.{NotesAll}
use Rattle.kernel_model.specs.KernelRecord.Owned.{owned}
use Rattle.kernel_model.specs.KernelRecord.Residents.{key_packet, key_words, keyboard}
use Rattle.kernel_model.specs.KernelRecord.ValidLists.{AreValid}
use Rattle.kernel_model.specs.KernelRecord.ValidQueues.{IsKeyPacket}
use Rattle.kernel_model.specs.KernelRecord.ValidQueues.Place.{Keyboard, Work}
use Rattle.kernel_model.specs.KernelRecord.ValidTasks.{IsField}
use Rattle.kernel_model.proofs.KernelRecord.AllThings.{all-here}
use Rattle.kernel_model.proofs.KernelRecord.ChainSplits.{HasNumbered, numbered}
use Rattle.kernel_model.proofs.KernelRecord.ChangedLists.{knows-same}
use Rattle.kernel_model.proofs.KernelRecord.NotedInTurn.{notes-one}
use Rattle.kernel_model.proofs.KernelRecord.ReadQueues.{packets-some}
use Rattle.kernel_model.proofs.KernelRecord.ResidentPackets.{key_queued-valid}
use Rattle.kernel_model.specs.WordKinds.Keeper.{AreTogether}
use Rattle.kernel_model.proofs.WordKinds.KnownWords.{knows-claimed}
use Rattle.kernel_calls.specs.CallAnswers.CallChange.{IsMade, minus_one}
use Rattle.kernel_calls.proofs.CallAnswers.FoundTask.{reads}
use Rattle.kernel_calls.proofs.CallAnswers.RootTold.{tick-told}
use Rattle.kernel_calls.specs.PacketCalls.Destinations.{destination_of, queue_for}
use Rattle.kernel_calls.specs.PacketCalls.PacketMoves.{packet_at, sent_packet, with_arrived}
use Rattle.kernel_calls.specs.PacketCalls.QueueWords.{due_in, head_of, sent_words}
use Rattle.kernel_calls.specs.PacketCalls.SendOwn.{CanSendKeys, CanSendOwn, CanSendToTask, send_own, with_sent}
use Rattle.kernel_calls.specs.declared.packet_calls.queues.Queue.{Queue}
use Rattle.kernel_calls.specs.declared.packet_calls.queues.Queue.TheVariants as queues
use Rattle.kernel_calls.proofs.PacketCalls.NamedQueues.{no-device}
use Rattle.kernel_calls.proofs.PacketCalls.PlacedPackets.{end-changed, end-owners, end-packet, end-queue, fields-valid}
use Rattle.kernel_calls.proofs.PacketCalls.PlaceWords.{keys-exchange}
use Rattle.kernel_model.proofs.KernelRecord.DataInside.{AreData-inside}
use Rattle.kernel_calls.proofs.PacketCalls.SentPackets.{Sent, sender-set, sent-packet, word-within}

-- the number of a task is no device's
low-number : (s : List ℕ) (l : Lists) (id : ℕ) → HoldsLists s l → has_task id l.tasks ≡ true → id ≤ 63
low-number s l id h there =
    let n : HasNumbered id l.tasks = numbered id l.tasks there in
    let held = (reads s l h).held_tasks in
    let own : (1 ≤ n.task.id) × (n.task.id ≤ get_or s 120 0) =
    all-here (λ t. (1 ≤ t.id) × (t.id ≤ get_or s 120 0)) n.between.front n.task n.between.back (subst (AllByRecursion (λ t. (1 ≤ t.id) × (t.id ≤ get_or s 120 0))) n.between.is held.numbers)
    in
    omega (arith, own.1, held.highest, n.number)

-- what a resident's packet needs, and what it leaves
record OwnSent (s : List ℕ) (l : Lists) (p from to : ℕ) : Type 0 where
  pub goes_to : Queue
  pub named : destination_of l to ≡ Some goes_to
  pub queue : HasQueue (set s (p + 1) from) (head_of goes_to)
  pub packet : CanQueue (set s (p + 1) from) (head_of goes_to) p
  pub changed : (t : List ℕ) → t ≡ sent_words s goes_to p from → IsChanged s t (with_sent s p from to l) []
  pub kept : to ≡ keyboard → (a : ℕ) → owners a (owned (with_sent s p from to l)) ≡ owners a (owned l)
  pub more : to ≢ keyboard → (a : ℕ) → owners a (owned (with_sent s p from to l)) ≡ owners a (owned l) + times a (range_with_len p 5)
  pub low : to ≢ keyboard → p + 4 < l.size

to-task : (s : List ℕ) (l : Lists) (p from to : ℕ) → HoldsLists s l → CanSendToTask l p from to → OwnSent s l p from to
to-task s l p from to h r =
    let low : to ≤ 63 = low-number s l to h r.there in
    let other : to ≢ keyboard = λ e. absurd (omega (arith, low, e)) in
    let sent : Sent s l (Work to) p from = sent-packet s l p from h r.lodged r.plain (tick-told s l h) (Work to) r.there (λ _. r.sender) in
    let same : with_sent s p from to l ≡ with_arrived (Work to) (sent_packet s l (Work to) p from) l =
    ap (λ b. cond b (with_key None (with_arrived Keyboard (sent_packet s l Keyboard p from) l)) (with_arrived (Work to) (sent_packet s l (Work to) p from) l)) (ne_eqb to keyboard other)
    in
    record {
      goes_to = queue_for l (Work to);
      named =
          no-device l to (λ e. absurd (omega (arith, low, e))) other (λ e. absurd (omega (arith, low, e)))
          ∙ ap (λ b. cond b (Some (queue_for l (Work to))) None) r.there;
      queue = sent.queue;
      packet = sent.packet;
      changed = λ t is. subst (λ m. IsChanged s t m []) (sym same) (sent.changed t is);
      kept = λ e. absurd (other e);
      more = λ _ a. ap (λ m. owners a (owned m)) same ∙ sent.more a;
      low = λ _. AreData-inside l p 5 (p + 4) h.valid.blocks r.lodged (omega arith);
    }

-- ---- the key packet

-- its words, while it is on no queue
key-kind : (s : List ℕ) (x : Option ℕ) → is_some x ≡ true → Holds s (key_words x) → (get_or s 273 0 ≡ 0) × (get_or s 275 0 ≡ 0)
key-kind s None e k = cc
key-kind s (Some r) e k = (k.1.1.0, k.1.1.1.1.0)

key-count : (a : ℕ) (x : Option ℕ) → is_some x ≡ true → owners a (key_words x) ≡ times a (range_with_len key_packet 5)
key-count a None e = cc
key-count a (Some r) e = owners-row a key_packet 0 (no_queue ∷ keyboard ∷ 0 ∷ r ∷ 0 ∷ [])

to-keyboard : (s : List ℕ) (l : Lists) (p from to : ℕ) → HoldsLists s l → CanSendKeys l p from to → OwnSent s l p from to
to-keyboard s l p from to h r =
    let residents : l.residents ≡ true = (and_parts l.residents (not (is_queued key_packet l)) (sym h.valid.queues.key ∙ r.off)).0 in
    let base : Lists = with_key None l in
    let q : QueuedPacket = record (packet_at s p) { sender = from } in
    let ps : List QueuedPacket = l.keyboard in
    let whole : ps ≡ ps ++ [] = sym (append-nil ps) in
    let ws : Pairs = (p + 1, from) ∷ [] in
    let kept : Pairs = (p + 2, get_or s (p + 2) 0) ∷ (p + 3, get_or s (p + 3) 0) ∷ (p + 4, get_or s (p + 4) 0) ∷ [] in
    let e : Exchange (owned l) (owned base) (key_words l.key) [] = keys-exchange l residents in
    let holds : Holds s (owned base) = e.then'.closes s (e.first.opens s h.holds).0 tt in
    let words : (get_or s 273 0 ≡ 0) × (get_or s 275 0 ≡ 0) = key-kind s l.key r.off (e.first.opens s h.holds).1 in
    let keys : IsKeyPacket Keyboard q =
    record { place = r.sender; kind = ap (λ a. get_or s (a + 2) 0) r.packet ∙ words.0; last = ap (λ a. get_or s (a + 4) 0) r.packet ∙ words.1 }
    in
    let v : AreValid (with_queue Keyboard (ps ++ q ∷ []) base) = key_queued-valid l Keyboard q ps [] h.valid whole r.off r.packet keys in
    let some : AllByRecursion (λ z. 0 < z.address) (ps ++ q ∷ []) =
    all-append (λ z. 0 < z.address) ps (q ∷ []) (packets-some l Keyboard ps h.valid.queues.keyboard) (omega (arith, r.packet), tt)
    in
    let fields : AllByRecursion (λ t. IsField t.field) l.tasks = fields-valid l h.valid in
    let same : with_sent s p from to l ≡ with_queue Keyboard (ps ++ q ∷ []) base =
    ap (λ b. cond b (with_key None (with_arrived Keyboard (sent_packet s l Keyboard p from) l)) (with_arrived (Work to) (sent_packet s l (Work to) p from) l)) (eq-eqb to keyboard r.to_keyboard)
    in
    record {
      goes_to = queues.Keyboard;
      named = ap (destination_of l) r.to_keyboard;
      queue = end-queue s base Keyboard q ws kept holds h.size h.valid.tasks.distinct tt v some tt fields (word-within p 1 from (omega arith)) (sender-set s p from) (refl, (refl, (refl, tt)));
      packet = end-packet s base Keyboard q ws kept holds h.size h.valid.tasks.distinct tt v some tt fields (word-within p 1 from (omega arith)) (sender-set s p from) (refl, (refl, (refl, tt)));
      changed = λ t is.
          subst (λ m. IsChanged s t m []) (sym same)
          (end-changed s base Keyboard q ws kept holds h.size h.valid.tasks.distinct tt v some tt fields (word-within p 1 from (omega arith)) (sender-set s p from) (refl, (refl, (refl, tt))) t (due_in s p) is);
      kept = λ _ a.
          ap (λ m. owners a (owned m)) same
          ∙ omega (
            arith,
            end-owners s base Keyboard q ws kept holds h.size h.valid.tasks.distinct tt v some tt fields (word-within p 1 from (omega arith)) (sender-set s p from) (refl, (refl, (refl, tt))) a,
            e.first.count a,
            e.then'.count a,
            key-count a l.key r.off,
            ap (λ z. times a (range_with_len z 5)) r.packet,
          );
      more = λ other. absurd (other r.to_keyboard);
      low = λ other. absurd (other r.to_keyboard);
    }

module _ (s : List ℕ) (tells : List ℕ → Type 0) (room : ℕ) (l : Lists) (p from to : ℕ) (k : HasKeeper s tells room l) (r : CanSendOwn l p from to) where
  sent : OwnSent s l p from to
  sent = elim r [ inl x ↦ to-task s l p from to k.lists x | inr x ↦ to-keyboard s l p from to k.lists x ]

  pub own-room : to ≢ keyboard → p + 5 ≤ room
  own-room other = omega (arith, sent.low other, k.lists.size, k.enough)

  -- the words of the key packet are owned before and after
  pub own-kept : to ≡ keyboard → (a : ℕ) → owners a (owned (with_sent s p from to l)) ≡ owners a (owned l)
  own-kept = sent.kept

  pub own-nowhere : (o : Option Queue) → o ≡ destination_of l to → o ≡ None → ⊥
  own-nowhere o is none = (let e : None ≡ Some sent.goes_to = sym none ∙ is ∙ sent.named in cc)

  module _ (queue : Queue) (named : destination_of l to ≡ Some queue) where
    queue-is : sent.goes_to ≡ queue
    queue-is = (let e : Some sent.goes_to ≡ Some queue = sym sent.named ∙ named in cc)

    pub own-queue : HasQueue (set s (p + 1) from) (head_of queue)
    own-queue = subst (λ z. HasQueue (set s (p + 1) from) (head_of z)) queue-is sent.queue

    pub own-packet : CanQueue (set s (p + 1) from) (head_of queue) p
    own-packet = subst (λ z. CanQueue (set s (p + 1) from) (head_of z) p) queue-is sent.packet

    changed : (v : List ℕ) → v ≡ sent_words s queue p from → IsChanged s v (with_sent s p from to l) []
    changed v is = sent.changed v (is ∙ ap (λ z. sent_words s z p from) (sym queue-is))

    -- the key packet's words were told already
    pub keys-sent : (v : List ℕ) → to ≡ keyboard → v ≡ sent_words s queue p from → IsMade s v tells (Ok minus_one) (send_own s l p from to)
    keys-sent v is_keyboard is =
        record { leaves = record { lists = changed v is; answered = refl }; knows = knows-same tells l (with_sent s p from to l) (sent.kept is_keyboard) k.knows }

    pub task-sent : (v : List ℕ) (told : List ℕ → Type 0) → to ≢ keyboard → v ≡ sent_words s queue p from
        → ((known after : List ℕ) → tells known → AreTogether after known (range_with_len p 5) → told after) → IsMade s v told (Ok minus_one) (send_own s l p from to)
    task-sent v told other is claim =
        record {
          leaves = record { lists = changed v is; answered = refl };
          knows = knows-claimed tells told l (with_sent s p from to l) p 5 (sent.more other) k.knows claim;
        }

    pub own-noted : (before now : Option (List KernelEvent)) (b d : Bool) → Notes before now b d (Accepted (signed to) p (signed from)) → NotesAll before now b d (send_own s l p from to).events
    own-noted before now b d notes = notes-one before now b d _ notes
