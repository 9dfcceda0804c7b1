-- What handing a line to one read after the other leaves.
use Rattle.std.proofs.Common.{◌≡◌, ℕ, ◌<◌, ◌&&◌, Bool, true, false, cond, List, [], ◌∷◌, map, length, refl, sym, ap, ◌∙◌, subst, arith}
use Rattle.std.proofs.lemmas.Bool.{and_parts}
use Rattle.kernel_lists.specs.PacketQueue.Queue.{queue_at}
use Rattle.kernel_lists.specs.PacketQueue.QueueWords.{QueuedPacket, address_of}
use Rattle.kernel_model.specs.KernelRecord.Kernel.{Console}
use Rattle.kernel_model.specs.KernelRecord.Residents.{pending_head}
use Rattle.kernel_model.specs.KernelRecord.ValidQueues.Place.{Pending}
use Rattle.kernel_calls.specs.CallAnswers.Outside.{Outside}
use Rattle.kernel_calls.proofs.PacketCalls.HeldPlaces.{queue-at}
use Rattle.resident_tasks.specs.ResidentRequests.Requests.{first_request}
use Rattle.resident_tasks.specs.ConsoleHandler.Deliveries.{delivered, delivery, handed, handed_if_finished, has_reads, is_handed, with_read}
use Rattle.resident_tasks.specs.ConsoleHandler.TurnParts.{ConsoleStart, ConsoleTurn, IsDone}
use Rattle.resident_tasks.specs.ConsoleHandler.Reads.{read_taken_from, words_read_from}
use Rattle.resident_tasks.proofs.ConsoleHandler.DoneParts.{done-residents}

-- so much was handed, and what is left gives the whole
pub record HasDelivered (b : ConsoleStart) (t : List ℕ) (tells : List ℕ → Type 0) (room : ℕ) (now : Outside) (c : Console) (k : List ℕ) (g : ConsoleTurn) : Type 0 where
  pub so : ConsoleTurn
  pub done : IsDone b t tells room now c k so
  pub left : delivery so ≡ delivery g

-- the first read, and the others
record HasReads (ps : List QueuedPacket) : Type 0 where
  pub packet : QueuedPacket
  pub back : List QueuedPacket
  pub is : ps ≡ packet ∷ back

reads-there : (ps : List QueuedPacket) → has_reads ps ≡ true → HasReads ps
reads-there [] e = cc
reads-there (p ∷ ps) e = record { packet = p; back = ps; is = refl }

pub handed-pending : (g : ConsoleTurn) (p : QueuedPacket) (ps : List QueuedPacket) → g.lists.pending ≡ p ∷ ps → (handed g).lists.pending ≡ ps
handed-pending g p ps is =
    subst (λ z. (with_read (first_request (words_read_from z g.words) z) (words_read_from z g.words) (read_taken_from z g.lists).lists g).lists.pending ≡ ps) (sym is) refl

module _ (g : ConsoleTurn) (e : is_handed g ≡ true) where
  finished : g.console.finished ≡ true
  finished = (and_parts g.console.finished (has_reads g.lists.pending) e).0

  first : HasReads g.lists.pending
  first = reads-there g.lists.pending (and_parts g.console.finished (has_reads g.lists.pending) e).1

  next-is : handed_if_finished g ≡ handed g
  next-is = ap (λ f. cond f (handed g) g) finished

  next-pending : (handed_if_finished g).lists.pending ≡ first.back
  next-pending = ap (λ (z : ConsoleTurn). z.lists.pending) next-is ∙ handed-pending g first.packet first.back first.is

  pub next-left : delivery (handed_if_finished g) ≡ delivery g
  next-left =
      ap delivery next-is
      ∙ (ap (λ ps. delivered ps (handed g)) (handed-pending g first.packet first.back first.is)
      ∙ (sym (ap (λ f. cond f (delivered first.back (handed g)) g) finished) ∙ sym (ap (λ ps. delivered ps g) first.is)))

pub none-left : (g : ConsoleTurn) → is_handed g ≡ false → handed_if_finished g ≡ delivery g
none-left g e = on g.console.finished g.lists.pending refl e
  where
    stays : (ps : List QueuedPacket) → g.console.finished ≡ false → delivered ps g ≡ g
    stays [] e = refl
    stays (p ∷ ps) e = ap (λ f. cond f (delivered ps (handed g)) g) e

    on : (f : Bool) (ps : List QueuedPacket) → g.console.finished ≡ f → (f && has_reads ps) ≡ false
        → cond f (with_read (first_request (words_read_from ps g.words) ps) (words_read_from ps g.words) (read_taken_from ps g.lists).lists g) g ≡ delivered ps g
    on true [] is e = refl
    on true (p ∷ ps) is e = cc
    on false ps is e = sym (stays ps is)

-- fewer wait
module _ (b : ConsoleStart) (t : List ℕ) (tells : List ℕ → Type 0) (room : ℕ) (now : Outside) (c : Console) (k : List ℕ) (g : ConsoleTurn) (x : IsDone b t tells room now c k g) where
  pub waiting-is : queue_at t pending_head ≡ map address_of g.lists.pending
  waiting-is = queue-at t g.lists Pending x.lists.lists (done-residents b t tells room now c k g x)

pub fewer-wait : (g : ConsoleTurn) (t u : List ℕ) → is_handed g ≡ true → queue_at t pending_head ≡ map address_of g.lists.pending → queue_at u pending_head ≡ map address_of (handed_if_finished g).lists.pending
    → length (queue_at u pending_head) < length (queue_at t pending_head)
fewer-wait g t u e before after =
    let x = first g e in
    let was : queue_at t pending_head ≡ x.packet.address ∷ map address_of x.back = before ∙ ap (map address_of) x.is in
    let is : queue_at u pending_head ≡ map address_of x.back = after ∙ ap (map address_of) (next-pending g e) in
    omega (arith, ap length was, ap length is)
