-- A packet goes out of a queue, and the store holds the lists without it.
use Rattle.std.proofs.Common.{◌≡◌, ℕ, ◌+◌, ◌<◌, ◌≤◌, List, [], ◌∷◌, ◌++◌, get_or, set, length, inl, inr, sym, ap, ◌∙◌, subst, arith, append-nil}
use Rattle.std.specs.List.{AllByRecursion, range_with_len}
use Rattle.std.proofs.lemmas.Bool.{cases_eq}
use Rattle.word_store.specs.Count.{times}
use Rattle.word_store.proofs.Counts.{hit-le, hit-other, times-within}
use Rattle.kernel_lists.specs.OwnedWords.Exchange.{Exchange}
use Rattle.kernel_lists.specs.OwnedWords.Owned.{Holds, Pairs, owners, written}
use Rattle.kernel_lists.specs.OwnedWords.Written.{IsWritten}
use Rattle.kernel_lists.proofs.OwnedWords.Exchanges.{exchange-all}
use Rattle.kernel_lists.proofs.OwnedWords.WrittenWords.{ordered-hold}
use Rattle.kernel_lists.proofs.OwnedWords.OwnedWords.{Holds-append, Holds-left, Holds-right, length-written, owners-append, written-other}
use Rattle.kernel_lists.specs.PacketQueue.Queue.{no_queue, unlinked}
use Rattle.kernel_lists.specs.PacketQueue.QueueWords.{HeldQueue, QueuedPacket, RemoveExchange, first_packet, link_behind, packet_words, queue_words}
use Rattle.kernel_lists.proofs.PacketQueue.HeldQueues.{remove-exchange}
use Rattle.kernel_model.specs.KernelRecord.ChangedStore.{IsChanged}
use Rattle.kernel_model.specs.KernelRecord.Changes.{HasPlace, queue_of, with_queue}
use Rattle.kernel_model.specs.KernelRecord.HoldsLists.{HoldsLists}
use Rattle.kernel_model.specs.KernelRecord.Lists.{Lists, address_of_task}
use Rattle.kernel_model.specs.KernelRecord.Owned.{OwnsApart, owned}
use Rattle.kernel_model.specs.KernelRecord.ValidLists.{AreValid}
use Rattle.kernel_model.specs.KernelRecord.ValidQueues.{IsValidPacket, Place}
use Rattle.kernel_model.specs.KernelRecord.ValidQueues.Place.{Clock, Keyboard, Output, Pending, Work}
use Rattle.kernel_model.specs.KernelRecord.ValidTasks.{IsField, IsTask}
use Rattle.kernel_model.proofs.KernelRecord.AllThings.{all-beside}
use Rattle.kernel_model.proofs.KernelRecord.EachMember.{all-each}
use Rattle.kernel_model.proofs.KernelRecord.OwnerCounts.{owners-packet_between, owns-fewer, packets_count}
use Rattle.kernel_model.proofs.KernelRecord.PacketMoves.{unqueued-unowned}
use Rattle.kernel_model.proofs.KernelRecord.QueueCounts.{owned-queue, owners-packet}
use Rattle.kernel_model.proofs.KernelRecord.QueuePlaces.{place-there, valid-at-place, with_queue-size}
use Rattle.kernel_model.proofs.KernelRecord.ReadQueues.{packets-some}
use Rattle.kernel_calls.specs.PacketCalls.Destinations.{queue_for}
use Rattle.kernel_calls.specs.PacketCalls.QueueWords.{head_of, unqueued, state_left}
use Rattle.kernel_calls.proofs.PacketCalls.PlaceWords.{place-exchange, state_pairs, work-goes}

-- the head leads to the next packet then
next-after : (s : List ℕ) (head : ℕ) (front : List QueuedPacket) (p : QueuedPacket) (back : List QueuedPacket) → HeldQueue s head (front ++ p ∷ back)
    → get_or (unlinked s head p.address) head 0 ≡ first_packet (front ++ back)
next-after s head front p back held =
    let moved : RemoveExchange s (unlinked s head p.address) head front p back = remove-exchange s head front p back held in
    let link : ℕ = link_behind head front in
    let next : ℕ = first_packet back in
    let all : Pairs = (p.address, no_queue) ∷ (link, next) ∷ [] in
    let x : Exchange (queue_words head (front ++ p ∷ back)) (queue_words head (front ++ back)) ((link, p.address) ∷ packet_words p next) ((link, next) ∷ []) = moved.exchange in
    let w : IsWritten s (written all s) (queue_words head (front ++ back)) ((p.address, no_queue) ∷ []) =
    ordered-hold s (queue_words head (front ++ p ∷ back)) (queue_words head (front ++ back)) ((link, p.address) ∷ packet_words p next) ((link, next) ∷ []) [] ((p.address, no_queue) ∷ []) all
    (record {
      writes =
          record {
            holds = held.holds;
            exchange = x;
            there = tt;
            apart = λ a. omega (arith, x.first.count a, x.then'.count a, held.apart a);
            inside = λ a some. held.inside a (omega (arith, some, x.first.count a, x.then'.count a));
            unowned = λ a some. omega (arith, some, x.first.count a, x.then'.count a, held.apart a);
          };
      order = record { count = λ a. omega arith; opens = λ r k. ((k.0, tt), k.1); closes = λ r j k. (j.0, k) };
      once = λ a. omega (arith, hit-le a p.address);
      plain_inside = λ a some. held.inside a (omega (arith, some, x.first.count a));
    })
    in
    ap (λ z. get_or z head 0) moved.words ∙ w.holds.0

module _ (s : List ℕ) (l : Lists) (at : Place) (p : QueuedPacket) (front back : List QueuedPacket) (h : HoldsLists s l) (is : queue_of at l ≡ front ++ p ∷ back) where
  abbrev m : Lists
  m = with_queue at (front ++ back) l

  abbrev hd : ℕ
  hd = head_of (queue_for l at)

  abbrev st : List QueuedPacket → Pairs
  st ps = state_pairs l at ps

  abbrev link : ℕ
  link = link_behind hd front

  has : HasPlace l at
  has = place-there l at front p back h.valid is

  valid-packets : AllByRecursion (IsValidPacket l at) (front ++ p ∷ back)
  valid-packets = subst (AllByRecursion (IsValidPacket l at)) is (valid-at-place l at h.valid has)

  some : AllByRecursion (λ q. 0 < q.address) (front ++ p ∷ back)
  some = packets-some l at (front ++ p ∷ back) valid-packets

  whole : Exchange (owned l) (owned m) (st (front ++ p ∷ back) ++ queue_words hd (front ++ p ∷ back)) (st (front ++ back) ++ queue_words hd (front ++ back))
  whole =
      subst (λ z. Exchange (owned l) (owned m) (st z ++ queue_words hd z) (st (front ++ back) ++ queue_words hd (front ++ back))) is
      (place-exchange l at (front ++ back) _ _ h.valid.tasks.distinct has (exchange-all (queue_words hd (queue_of at l)) (queue_words hd (front ++ back))))

  count : (a : ℕ) → owners a (st (front ++ p ∷ back)) + owners a (queue_words hd (front ++ p ∷ back)) ≤ owners a (owned l)
  count a = omega (arith, whole.first.count a, owners-append a (st (front ++ p ∷ back)) (queue_words hd (front ++ p ∷ back)))

  inside : (a : ℕ) → 0 < owners a (owned l) → a < length s
  inside a some = omega (arith, h.valid.owns.inside a some, h.size)

  state-holds : Holds s (st (front ++ p ∷ back))
  state-holds = Holds-left s (st (front ++ p ∷ back)) (queue_words hd (front ++ p ∷ back)) (whole.first.opens s h.holds).1

  pub held-before : HeldQueue s hd (front ++ p ∷ back)
  held-before =
      record {
        holds = Holds-right s (st (front ++ p ∷ back)) (queue_words hd (front ++ p ∷ back)) (whole.first.opens s h.holds).1;
        apart = λ a. omega (arith, count a, h.valid.owns.apart a);
        inside = λ a some. inside a (omega (arith, some, count a));
        some = some;
      }

  packet-out : RemoveExchange s (unlinked s hd p.address) hd front p back
  packet-out = remove-exchange s hd front p back held-before

  moved : Exchange (owned l) (owned m) (st (front ++ p ∷ back) ++ ((link, p.address) ∷ packet_words p (first_packet back))) (st (front ++ back) ++ (link, first_packet back) ∷ [])
  moved =
      subst (λ z. Exchange (owned l) (owned m) (st z ++ ((link, p.address) ∷ packet_words p (first_packet back))) (st (front ++ back) ++ (link, first_packet back) ∷ [])) is
      (place-exchange l at (front ++ back) _ _ h.valid.tasks.distinct has
      (subst (λ z. Exchange (queue_words hd z) (queue_words hd (front ++ back)) ((link, p.address) ∷ packet_words p (first_packet back)) ((link, first_packet back) ∷ [])) (sym is) packet-out.exchange))

  -- the five words of the packet are owned no more
  pub owners-departed : (a : ℕ) → owners a (owned l) ≡ owners a (owned m) + times a (range_with_len p.address 5)
  owners-departed a =
      plain (owners a (owned m)) (owners a (owned l)) (packets_count a (queue_of at l)) (packets_count a (front ++ p ∷ back)) (packets_count a (front ++ back)) _ _
      (owned-queue a l at (front ++ back) h.valid.tasks.distinct has) (ap (packets_count a) is) (owners-packet_between a front p back) (owners-packet a p 0)
    where
      plain : (m w q r t n k : ℕ) → m + q ≡ w + t → q ≡ r → r ≡ t + n → n ≡ k → w ≡ m + k
      plain m w q r t n k e f g i = omega arith

  pub packet-inside : (a : ℕ) → p.address ≤ a → a < p.address + 5 → a < length s
  packet-inside a low high = inside a (omega (arith, owners-departed a, times-within a p.address 5 low high))

  fields : AllByRecursion (λ t. IsField t.field) l.tasks
  fields = all-each (IsTask l) (λ t. IsField t.field) (λ t i. i.field) l.tasks h.valid.tasks.each

  abbrev links : Pairs
  links = (p.address, no_queue) ∷ (link, first_packet back) ∷ []

  left-words : unqueued s (queue_for l at) p.address ≡ written (st (front ++ back) ++ links) s
  left-words = on at has held-before state-holds
    where
      on : (x : Place) → HasPlace l x → HeldQueue s (head_of (queue_for l x)) (front ++ p ∷ back) → Holds s (state_pairs l x (front ++ p ∷ back))
          → unqueued s (queue_for l x) p.address ≡ written (state_pairs l x (front ++ back) ++ (p.address, no_queue) ∷ (link_behind (head_of (queue_for l x)) front, first_packet back) ∷ []) s
      on (Work id) has held state =
          let head : ℕ = head_of (queue_for l (Work id)) in
          let words = (remove-exchange s head front p back held).words in
          let next = next-after s head front p back held in
          let bit = (λ i. state_left (state.0 i) (next i)) ∙ work-goes id l.tasks front p back has fields (all-beside (λ q. 0 < q.address) front p back some) in
          λ i. set (words i) (address_of_task l id + 4) (bit i)
      on Clock has held state = (remove-exchange s (head_of (queue_for l Clock)) front p back held).words
      on Keyboard has held state = (remove-exchange s (head_of (queue_for l Keyboard)) front p back held).words
      on Output has held state = (remove-exchange s (head_of (queue_for l Output)) front p back held).words
      on Pending has held state = (remove-exchange s (head_of (queue_for l Pending)) front p back held).words

  -- what is owned then is apart, also where the key packet goes out, which its owner has then
  owns : OwnsApart m
  owns = owns-fewer l m (with_queue-size at (front ++ back) l) (λ a. omega (arith, owners-departed a)) h.valid.owns

  pub departed-size : (t : List ℕ) → t ≡ unqueued s (queue_for l at) p.address → length t ≡ length s
  departed-size t is_t = ap length (is_t ∙ left-words) ∙ length-written (st (front ++ back) ++ links) s

  pub departed-written : (t : List ℕ) → t ≡ unqueued s (queue_for l at) p.address → IsWritten s t (owned m) ((p.address, no_queue) ∷ [])
  departed-written t is_t =
      subst (λ z. IsWritten s z (owned m) ((p.address, no_queue) ∷ [])) (sym (is_t ∙ left-words))
      (ordered-hold s (owned l) (owned m) _ (st (front ++ back) ++ (link, first_packet back) ∷ []) [] ((p.address, no_queue) ∷ []) (st (front ++ back) ++ links)
      (record {
        writes =
            record {
              holds = h.holds;
              exchange =
                  subst (Exchange (owned l) (owned m) (st (front ++ p ∷ back) ++ ((link, p.address) ∷ packet_words p (first_packet back))))
                  (sym (append-nil (st (front ++ back) ++ (link, first_packet back) ∷ []))) moved;
              there = tt;
              apart = owns.apart;
              inside = λ a some. omega (arith, owns.inside a some, with_queue-size at (front ++ back) l, h.size);
              unowned = λ a one. unqueued-unowned l at p front back h.valid is a (at-packet a one).0 (at-packet a one).1;
            };
        order =
            record {
              count = λ a. omega (arith, owners-append a (st (front ++ back)) links, owners-append a (st (front ++ back)) ((link, first_packet back) ∷ []));
              opens = λ r k.
                  (let state = Holds-left r (st (front ++ back)) links k in
                  let words = Holds-right r (st (front ++ back)) links k in
                  ((words.0, tt), Holds-append r (st (front ++ back)) ((link, first_packet back) ∷ []) state words.1));
              closes = λ r j k.
                  Holds-append r (st (front ++ back)) links (Holds-left r (st (front ++ back)) ((link, first_packet back) ∷ []) k)
                  (j.0, Holds-right r (st (front ++ back)) ((link, first_packet back) ∷ []) k);
            };
        once = λ a. omega (arith, hit-le a p.address);
        plain_inside = λ a one. packet-inside a (at-packet a one).0 (at-packet a one).1;
      }))
    where
      at-packet : (a : ℕ) → 0 < owners a ((p.address, no_queue) ∷ []) → (p.address ≤ a) × (a < p.address + 5)
      at-packet a one =
          elim (cases_eq a p.address) [
            | inl e ↦ (omega (arith, e), omega (arith, e))
            | inr ne ↦ absurd (omega (arith, one, hit-other a p.address ne))
          ]

  pub departed-changed : (t : List ℕ) → AreValid m → t ≡ unqueued s (queue_for l at) p.address → IsChanged s t m ((p.address, no_queue) ∷ [])
  departed-changed t v is_t =
      let w : IsWritten s t (owned m) ((p.address, no_queue) ∷ []) = departed-written t is_t in
      let long : length t ≡ length s = departed-size t is_t in
      record { lists = record { valid = v; size = long ∙ h.size ∙ sym (with_queue-size at (front ++ back) l); holds = w.holds }; size = long; written = w }

  -- its words but the link are as they were
  pub others-kept : (a : ℕ) → p.address < a → a < p.address + 5 → get_or (unqueued s (queue_for l at) p.address) a 0 ≡ get_or s a 0
  others-kept a low high =
      ap (λ z. get_or z a 0) left-words
      ∙ written-other a (st (front ++ back) ++ links) s
      (omega (
        arith,
        owners-append a (st (front ++ back)) links,
        owners-append a (st (front ++ back)) ((link, first_packet back) ∷ []),
        owners-append a (st (front ++ p ∷ back)) ((link, p.address) ∷ packet_words p (first_packet back)),
        hit-other a p.address (λ e. absurd (omega (arith, e, low))),
        unqueued-unowned l at p front back h.valid is a (omega (arith, low)) high,
        moved.then'.count a,
      ))
