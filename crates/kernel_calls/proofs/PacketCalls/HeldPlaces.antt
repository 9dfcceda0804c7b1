-- The queue at a place, as the store has it.
use Rattle.std.proofs.Common.{◌≡◌, ◌≢◌, ℕ, ◌+◌, ◌<◌, ◌||◌, Bool, true, false, List, [], ◌∷◌, ◌++◌, map, cond, eqb, refl, sym, ap, ◌∙◌, arith}
use Rattle.std.specs.List.{AllByRecursion}
use Rattle.std.proofs.lemmas.Bool.{eqb-true}
use Rattle.kernel_lists.specs.LinkedList.Places.{has}
use Rattle.kernel_lists.specs.OwnedWords.Exchange.{Exchange}
use Rattle.kernel_lists.specs.OwnedWords.Owned.{Pairs, owners}
use Rattle.kernel_lists.proofs.OwnedWords.Exchanges.{exchange-all}
use Rattle.kernel_lists.proofs.OwnedWords.OwnedWords.{Holds-right, owners-append}
use Rattle.kernel_lists.specs.PacketQueue.Queue.{HasQueue, queue_at}
use Rattle.kernel_lists.specs.PacketQueue.QueueWords.{HeldQueue, QueuedPacket, address_of, first_packet, queue_words}
use Rattle.kernel_lists.proofs.PacketQueue.HeldQueues.{held-queue}
use Rattle.kernel_model.specs.KernelRecord.Changes.{HasPlace, queue_of, with_queue}
use Rattle.kernel_model.specs.KernelRecord.HoldsLists.{HoldsLists}
use Rattle.kernel_model.specs.KernelRecord.Lists.{Lists}
use Rattle.kernel_model.specs.KernelRecord.Owned.{owned}
use Rattle.kernel_model.specs.KernelRecord.ValidQueues.{Place}
use Rattle.kernel_model.proofs.KernelRecord.QueuePlaces.{valid-at-place}
use Rattle.kernel_model.proofs.KernelRecord.ReadQueues.{packets-some}
use Rattle.kernel_calls.specs.PacketCalls.Destinations.{queue_for}
use Rattle.kernel_calls.specs.PacketCalls.PacketMoves.{departed, is_on_queue}
use Rattle.kernel_calls.specs.PacketCalls.QueueWords.{head_of}
use Rattle.kernel_calls.proofs.PacketCalls.PlaceWords.{place-exchange, state_pairs}

-- a packet among the addresses
has-address : (p : ℕ) (ps : List QueuedPacket) → has p (map address_of ps) ≡ is_on_queue p ps
has-address p [] = refl
has-address p (q ∷ qs) = ap (λ b. eqb p q.address || b) (has-address p qs)

module _ (s : List ℕ) (l : Lists) (at : Place) (h : HoldsLists s l) (has-place : HasPlace l at) where
  abbrev own : Pairs
  own = queue_words (head_of (queue_for l at)) (queue_of at l)

  itself : Exchange (owned l) (owned (with_queue at (queue_of at l) l)) (state_pairs l at (queue_of at l) ++ own) (state_pairs l at (queue_of at l) ++ own)
  itself = place-exchange l at (queue_of at l) own own h.valid.tasks.distinct has-place (exchange-all own own)

  pub held-at : HeldQueue s (head_of (queue_for l at)) (queue_of at l)
  held-at =
      let count : (a : ℕ) → owners a (owned l) ≡ owners a itself.rest + (owners a (state_pairs l at (queue_of at l)) + owners a own) = λ a.
      itself.first.count a ∙ ap (λ n. owners a itself.rest + n) (owners-append a (state_pairs l at (queue_of at l)) own)
      in
      record {
        holds = Holds-right s (state_pairs l at (queue_of at l)) own (itself.first.opens s h.holds).1;
        apart = λ a. omega (arith, count a, h.valid.owns.apart a);
        inside = λ a some. omega (arith, h.size, h.valid.owns.inside a (omega (arith, some, count a)));
        some = packets-some l at (queue_of at l) (valid-at-place l at h.valid has-place);
      }

  pub queue-at : queue_at s (head_of (queue_for l at)) ≡ map address_of (queue_of at l)
  queue-at = (held-queue s (head_of (queue_for l at)) (queue_of at l) held-at).list

  pub valid-at : HasQueue s (head_of (queue_for l at))
  valid-at = (held-queue s (head_of (queue_for l at)) (queue_of at l) held-at).valid

  pub has-at : (p : ℕ) → has p (queue_at s (head_of (queue_for l at))) ≡ is_on_queue p (queue_of at l)
  has-at p = ap (has p) queue-at ∙ has-address p (queue_of at l)

-- a packet that is on a queue is between two parts of it
pub record IsQueuedBetween (p : ℕ) (ps : List QueuedPacket) : Type 0 where
  pub front : List QueuedPacket
  pub packet : QueuedPacket
  pub back : List QueuedPacket
  pub is : ps ≡ front ++ packet ∷ back
  pub address : packet.address ≡ p
  pub others : departed p ps ≡ front ++ back

pub between-parts : (p : ℕ) (ps : List QueuedPacket) → is_on_queue p ps ≡ true → IsQueuedBetween p ps
between-parts p [] e = cc
between-parts p (q ∷ qs) e = on (eqb p q.address) refl e (between-parts p qs)
  where
    on : (b : Bool) → eqb p q.address ≡ b → (b || is_on_queue p qs) ≡ true → (is_on_queue p qs ≡ true → IsQueuedBetween p qs) → IsQueuedBetween p (q ∷ qs)
    on true is e more =
        record { front = []; packet = q; back = qs; is = refl; address = sym (eqb-true p q.address is); others = ap (λ b. cond b qs (q ∷ departed p qs)) is }
    on false is e more =
        let r = more e in
        record {
          front = q ∷ r.front;
          packet = r.packet;
          back = r.back;
          is = ap (λ z. q ∷ z) r.is;
          address = r.address;
          others = ap (λ b. cond b qs (q ∷ departed p qs)) is ∙ ap (λ z. q ∷ z) r.others;
        }

-- ---- the first packet

pub no-packets : (ps : List QueuedPacket) → AllByRecursion (λ p. 0 < p.address) ps → first_packet ps ≡ 0 → ps ≡ []
no-packets [] some e = refl
no-packets (p ∷ ps) some e = absurd (omega (arith, some.0, e))

-- the first packet of a queue, where it has one
pub record HasFirst (p : ℕ) (ps : List QueuedPacket) : Type 0 where
  pub packet : QueuedPacket
  pub back : List QueuedPacket
  pub is : ps ≡ packet ∷ back
  pub address : packet.address ≡ p

pub first-there : (p : ℕ) (ps : List QueuedPacket) → p ≡ first_packet ps → p ≢ 0 → HasFirst p ps
first-there p [] e some = absurd (some e)
first-there p (q ∷ qs) e some = record { packet = q; back = qs; is = refl; address = sym e }
