-- A packet comes into a queue, and the store holds the lists with it.
use Rattle.std.proofs.Common.{◌≡◌, ℕ, ◌+◌, ◌<◌, ◌≤◌, List, [], ◌∷◌, ◌++◌, map, length, inl, inr, refl, sym, ap, ◌∙◌, subst, arith, append-nil}
use Rattle.std.specs.List.{AllByRecursion, range_with_len}
use Rattle.std.proofs.lemmas.Bool.{cases_lt}
use Rattle.std.proofs.lemmas.List.{append_assoc}
use Rattle.word_store.specs.Count.{IsApart, times}
use Rattle.kernel_lists.specs.OwnedWords.Exchange.{Exchange, Splits}
use Rattle.kernel_lists.specs.OwnedWords.Owned.{Holds, Pairs, owners, written}
use Rattle.kernel_lists.proofs.OwnedWords.Exchanges.{exchange-all, exchange-insert, links-first, splits-all, splits-both}
use Rattle.kernel_lists.proofs.OwnedWords.OwnedWords.{Holds-left, Holds-right, Holds-same, length-written, owners-append, written-append, written-other}
use Rattle.kernel_lists.specs.PacketQueue.Queue.{CanQueue}
use Rattle.kernel_lists.specs.PacketQueue.QueueWords.{HeldQueue, QueuedPacket, address_of, first_packet, link_behind, other_words, packet_words, queue_words}
use Rattle.kernel_lists.proofs.PacketQueue.HeldQueues.{appendable}
use Rattle.kernel_model.specs.KernelRecord.ChangedStore.{IsChanged}
use Rattle.kernel_model.specs.KernelRecord.Changes.{HasPlace, queue_of, with_queue}
use Rattle.kernel_model.specs.KernelRecord.Lists.{Lists}
use Rattle.kernel_model.specs.KernelRecord.Owned.{owned}
use Rattle.kernel_model.specs.KernelRecord.Task.{task_id}
use Rattle.kernel_model.specs.KernelRecord.ValidLists.{AreValid}
use Rattle.kernel_model.specs.KernelRecord.ValidQueues.{Place}
use Rattle.word_store.proofs.Elements.{all-append}
use Rattle.kernel_model.proofs.KernelRecord.AllThings.{all-beside, all-here}
use Rattle.kernel_model.proofs.KernelRecord.OwnerCounts.{owners-packet_between, packets_count}
use Rattle.kernel_model.proofs.KernelRecord.QueueCounts.{owned-queue, owners-packet}
use Rattle.kernel_model.proofs.KernelRecord.QueuePlaces.{with_queue-size}
use Rattle.kernel_calls.specs.PacketCalls.Destinations.{queue_for}
use Rattle.kernel_calls.specs.PacketCalls.PacketMoves.{packet_at}
use Rattle.kernel_calls.specs.PacketCalls.QueueWords.{head_of}
use Rattle.kernel_calls.proofs.PacketCalls.KeptWords.{exchange-kept}
use Rattle.kernel_calls.proofs.PacketCalls.PlaceWords.{place-exchange, state_pairs}

-- these words are among those of the packet at p
abbrev pub AreOfPacket : ℕ → Pairs → Type 0
AreOfPacket p ws = (a : ℕ) → 0 < owners a ws → 0 < times a (range_with_len p 5)

-- The store holds the words of the lists `base`, to which p comes between `front` and `back`. They need not be valid: the key
-- packet may be on no queue in them, and not be off all of them either.
module _ (s : List ℕ) (base : Lists) (at : Place) (p : QueuedPacket) (front back : List QueuedPacket)
    (holds : Holds s (owned base)) (long : length s ≡ base.size) (distinct : IsApart (map task_id base.tasks)) (has : HasPlace base at) (is : queue_of at base ≡ front ++ back)
    (v : AreValid (with_queue at (front ++ p ∷ back) base)) (some : AllByRecursion (λ q. 0 < q.address) (front ++ p ∷ back)) where
  abbrev m : Lists
  m = with_queue at (front ++ p ∷ back) base

  abbrev hd : ℕ
  hd = head_of (queue_for base at)

  abbrev st : List QueuedPacket → Pairs
  st ps = state_pairs base at ps

  abbrev link : ℕ
  link = link_behind hd front

  size : length s ≡ m.size
  size = long ∙ sym (with_queue-size at (front ++ p ∷ back) base)

  whole : Exchange (owned base) (owned m) (st (front ++ back) ++ queue_words hd (front ++ back)) (st (front ++ p ∷ back) ++ queue_words hd (front ++ p ∷ back))
  whole =
      subst (λ z. Exchange (owned base) (owned m) (st z ++ queue_words hd z) (st (front ++ p ∷ back) ++ queue_words hd (front ++ p ∷ back))) is
      (place-exchange base at (front ++ p ∷ back) _ _ distinct has (exchange-all (queue_words hd (queue_of at base)) (queue_words hd (front ++ p ∷ back))))

  packet-in : Exchange (queue_words hd (front ++ back)) (queue_words hd (front ++ p ∷ back)) ((link, first_packet back) ∷ []) ((link, p.address) ∷ packet_words p (first_packet back))
  packet-in = exchange-insert address_of address_of packet_words (links-first address_of other_words) hd front p back 0

  moved : Exchange (owned base) (owned m) (st (front ++ back) ++ (link, first_packet back) ∷ []) (st (front ++ p ∷ back) ++ ((link, p.address) ∷ packet_words p (first_packet back)))
  moved =
      subst (λ z. Exchange (owned base) (owned m) (st z ++ (link, first_packet back) ∷ []) (st (front ++ p ∷ back) ++ ((link, p.address) ∷ packet_words p (first_packet back)))) is
      (place-exchange base at (front ++ p ∷ back) _ _ distinct has
      (subst (λ z. Exchange (queue_words hd z) (queue_words hd (front ++ p ∷ back)) ((link, first_packet back) ∷ []) ((link, p.address) ∷ packet_words p (first_packet back))) (sym is) packet-in))

  -- the five words of the packet come to be owned
  pub owners-arrived : (a : ℕ) → owners a (owned m) ≡ owners a (owned base) + times a (range_with_len p.address 5)
  owners-arrived a =
      plain (owners a (owned m)) (owners a (owned base)) (packets_count a (queue_of at base)) (packets_count a (front ++ p ∷ back)) (packets_count a (front ++ back)) _ _
      (owned-queue a base at (front ++ p ∷ back) distinct has) (ap (packets_count a) is) (owners-packet_between a front p back) (owners-packet a p 0)
    where
      plain : (m w q r t n k : ℕ) → m + q ≡ w + r → q ≡ t → r ≡ t + n → n ≡ k → m ≡ w + k
      plain m w q r t n k e f g i = omega arith

  -- so they meet nothing that was owned before
  apart-base : (a : ℕ) → owners a (owned base) + times a (range_with_len p.address 5) ≤ 1
  apart-base a = omega (arith, owners-arrived a, v.owns.apart a)

  queue-count : (a : ℕ) → owners a (st (front ++ back)) + owners a (queue_words hd (front ++ back)) ≤ owners a (owned base)
  queue-count a = omega (arith, whole.first.count a, owners-append a (st (front ++ back)) (queue_words hd (front ++ back)))

  queue-holds : Holds s (queue_words hd (front ++ back))
  queue-holds = Holds-right s (st (front ++ back)) (queue_words hd (front ++ back)) (whole.first.opens s holds).1

  state-holds : Holds s (st (front ++ back))
  state-holds = Holds-left s (st (front ++ back)) (queue_words hd (front ++ back)) (whole.first.opens s holds).1

  unset : (ws : Pairs) → AreOfPacket p.address ws → (a : ℕ) → 0 < owners a (st (front ++ back)) + owners a (queue_words hd (front ++ back)) → owners a ws ≡ 0
  unset ws own a some =
      elim (cases_lt 0 (owners a ws)) [
        | inl more ↦ absurd (omega (arith, some, queue-count a, apart-base a, own a more))
        | inr none ↦ omega (arith, none)
      ]

  inside : (a : ℕ) → 0 < owners a (owned m) → a < length s
  inside a some = omega (arith, v.owns.inside a some, size)

  -- while words of the packet are set, the queue and the state of its task are as they were
  pub held : (ws : Pairs) → AreOfPacket p.address ws → HeldQueue (written ws s) hd (front ++ back)
  held ws own =
      record {
        holds = Holds-same s (written ws s) (queue_words hd (front ++ back)) queue-holds (λ a some. written-other a ws s (unset ws own a (omega (arith, some))));
        apart = λ a. omega (arith, queue-count a, apart-base a);
        inside = λ a some. omega (arith, length-written ws s, inside a (omega (arith, some, queue-count a, owners-arrived a)));
        some = all-beside (λ q. 0 < q.address) front p back some;
      }

  pub state-held : (ws : Pairs) → AreOfPacket p.address ws → Holds (written ws s) (st (front ++ back))
  state-held ws own = Holds-same s (written ws s) (st (front ++ back)) state-holds (λ a some. written-other a ws s (unset ws own a (omega (arith, some))))

  -- the packet may come in
  pub can-queue : (ws : Pairs) → AreOfPacket p.address ws → CanQueue (written ws s) hd p.address
  can-queue ws own = (appendable t hd (front ++ back) q (record { holds = (held ws own).holds; packet = (refl, (refl, (refl, (refl, tt)))); apart = apart; inside = within; some = positive })).packet
    where
      t : List ℕ
      t = written ws s

      q : QueuedPacket
      q = packet_at (written ws s) p.address

      longer : Exchange (queue_words hd ((front ++ back) ++ [])) (queue_words hd ((front ++ back) ++ q ∷ [])) ((link_behind hd (front ++ back), 0) ∷ []) ((link_behind hd (front ++ back), p.address) ∷ packet_words q 0)
      longer = exchange-insert address_of address_of packet_words (links-first address_of other_words) hd (front ++ back) q [] 0

      count : (a : ℕ) → owners a (queue_words hd ((front ++ back) ++ q ∷ [])) ≡ owners a (queue_words hd (front ++ back)) + times a (range_with_len p.address 5)
      count a = omega (arith, longer.first.count a, longer.then'.count a, owners-packet a q 0, ap (λ z. owners a (queue_words hd z)) (append-nil (front ++ back)))

      apart : (a : ℕ) → owners a (queue_words hd ((front ++ back) ++ q ∷ [])) ≤ 1
      apart a = omega (arith, count a, queue-count a, apart-base a)

      within : (a : ℕ) → 0 < owners a (queue_words hd ((front ++ back) ++ q ∷ [])) → a < length t
      within a some = omega (arith, length-written ws s, inside a (omega (arith, some, count a, queue-count a, owners-arrived a)))

      positive : AllByRecursion (λ z. 0 < z.address) ((front ++ back) ++ q ∷ [])
      positive = all-append (λ z. 0 < z.address) (front ++ back) (q ∷ []) (all-beside (λ z. 0 < z.address) front p back some) (all-here (λ z. 0 < z.address) front p back some, tt)

  -- the links and words of the packet are written, and its other words are kept
  pub arrived-changed : (t : List ℕ) (links ws kept : Pairs) → Splits ((link, p.address) ∷ packet_words p (first_packet back)) kept (links ++ ws) → Holds s kept
      → t ≡ written (st (front ++ p ∷ back) ++ links) (written ws s) → IsChanged s t m []
  arrived-changed t links ws kept split kept-held is_t =
      exchange-kept s t base m _ _ kept (st (front ++ p ∷ back) ++ (links ++ ws)) holds v size moved
      (splits-both (st (front ++ p ∷ back)) [] (st (front ++ p ∷ back)) _ kept (links ++ ws) (splits-all (st (front ++ p ∷ back))) split) kept-held
      (is_t ∙ sym (written-append (st (front ++ p ∷ back) ++ links) ws s) ∙ ap (λ z. written z s) (append_assoc (st (front ++ p ∷ back)) links ws))
