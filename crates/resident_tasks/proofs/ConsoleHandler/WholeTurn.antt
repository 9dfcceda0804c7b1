-- The first packet of a turn, and which part treats it.
use Rattle.std.proofs.Common.{◌≡◌, ◌≢◌, ℕ, ◌&&◌, true, false, cond, Some, None, List, [], ◌∷◌, refl, sym, ap, ◌∙◌, arith}
use Rattle.std.specs.List.{AllByRecursion}
use Rattle.std.proofs.lemmas.Bool.{eq-eqb, false_from_ne_true, ne_eqb}
use Rattle.kernel_lists.specs.PacketQueue.QueueWords.{QueuedPacket}
use Rattle.kernel_model.specs.KernelRecord.Kernel.{Console}
use Rattle.kernel_model.specs.KernelRecord.Residents.{key_packet}
use Rattle.kernel_model.specs.KernelRecord.ValidQueues.{IsFaultPacket, IsValidPacket, Place, is_fault_packet, is_key_packet}
use Rattle.kernel_model.specs.KernelRecord.ValidQueues.Place.{Clock, Keyboard, Output, Pending, Work}
use Rattle.kernel_model.proofs.KernelRecord.QueuePlaces.{valid-at-place}
use Rattle.kernel_calls.specs.CallAnswers.Outside.{Outside}
use Rattle.kernel_calls.specs.PacketCalls.TaskWait.{first_of_queue}
use Rattle.resident_tasks.specs.ResidentRequests.Requests.{IsForeign, TakesRequest, work}
use Rattle.resident_tasks.specs.ConsoleHandler.ConsoleTurn.{treated, with_first, with_key}
use Rattle.resident_tasks.specs.ConsoleHandler.KeyPacket.{FindsKeys, StartsWithKeys}
use Rattle.resident_tasks.specs.ConsoleHandler.TurnParts.{ConsoleStart, ConsoleTurn, IsDone}
use Rattle.resident_tasks.proofs.ConsoleHandler.DoneParts.{done-residents}

-- there is none
pub none-treated : (id : ℕ) (g : ConsoleTurn) → None ≡ first_of_queue (work g.lists) → treated id (work g.lists) g ≡ g
none-treated id g e = on (work g.lists) e
  where
    on : (ps : List QueuedPacket) → None ≡ first_of_queue ps → treated id ps g ≡ g
    on [] e = refl
    on (p ∷ ps) e = cc

abbrev number_in : Place → ℕ
number_in (Work id) = id
number_in Clock = 0
number_in Keyboard = 0
number_in Output = 0
number_in Pending = 0

module _ (b : ConsoleStart) (t : List ℕ) (tells : List ℕ → Type 0) (room : ℕ) (now : Outside) (c : Console) (k : List ℕ) (g : ConsoleTurn) (x : IsDone b t tells room now c k g)
    (p : ℕ) (e : Some p ≡ first_of_queue (work g.lists)) where
  residents : g.lists.residents ≡ true
  residents = done-residents b t tells room now c k g x

  -- it is the key packet
  module _ (is : p ≡ key_packet) where
    is-key : (q : QueuedPacket) (qs : List QueuedPacket) → Some p ≡ first_of_queue (q ∷ qs) → is_key_packet g.lists q ≡ true
    is-key q qs e = (let same : p ≡ q.address = cc in λ i. residents i && eq-eqb q.address key_packet (sym same ∙ is) i)

    starts : (ps : List QueuedPacket) → Some p ≡ first_of_queue ps → StartsWithKeys g.lists ps
    starts [] e = cc
    starts (q ∷ qs) e = is-key q qs e

    pub finds-keys : FindsKeys g.lists
    finds-keys = record { runs = x.runs; first = starts (work g.lists) e }

    pub key-treated : (id : ℕ) → with_key id g ≡ treated id (work g.lists) g
    key-treated id = on (work g.lists) e
      where
        on : (ps : List QueuedPacket) → Some p ≡ first_of_queue ps → with_key id g ≡ treated id ps g
        on [] e = cc
        on (q ∷ qs) e = sym (ap (λ f. cond f (with_key id g) (with_first g)) (is-key q qs e))

  -- it is a request
  module _ (other : p ≢ key_packet) where
    no-key : (q : QueuedPacket) (qs : List QueuedPacket) → Some p ≡ first_of_queue (q ∷ qs) → is_key_packet g.lists q ≡ false
    no-key q qs e = (let same : p ≡ q.address = cc in λ i. residents i && ne_eqb q.address key_packet (λ z. other (same ∙ z)) i)

    foreign : (ps : List QueuedPacket) → AllByRecursion (IsValidPacket g.lists (Work g.lists.running)) ps → Some p ≡ first_of_queue ps → IsForeign g.lists ps
    foreign [] all e = cc
    foreign (q ∷ qs) all e = (
      no-key q qs e,
      false_from_ne_true (is_fault_packet g.lists q) (λ z. (let i : IsFaultPacket (Work g.lists.running) q = all.0.fault z in absurd (omega (arith, ap number_in i.place, x.is)))),
    )

    pub takes-request : TakesRequest g.lists
    takes-request = record { runs = x.runs; foreign = foreign (work g.lists) (valid-at-place g.lists (Work g.lists.running) x.lists.lists.valid x.runs.there) e }

    pub request-treated : (id : ℕ) → with_first g ≡ treated id (work g.lists) g
    request-treated id = on (work g.lists) e
      where
        on : (ps : List QueuedPacket) → Some p ≡ first_of_queue ps → with_first g ≡ treated id ps g
        on [] e = cc
        on (q ∷ qs) e = sym (ap (λ f. cond f (with_key id g) (with_first g)) (no-key q qs e))
