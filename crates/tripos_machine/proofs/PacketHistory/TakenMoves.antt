-- Events of a turn that move packets: one part after the other, and a packet that is taken and comes to a queue again.
use Rattle.std.proofs.Common.{◌≡◌, ℕ, ℤ, pos, ◌≤◌, true, false, Result, List, [], ◌∷◌, ◌++◌, append-nil, sym, ap, ◌∙◌, subst}
use Rattle.word_store.specs.Arithmetic.{signed}
use Rattle.kernel_lists.specs.PacketQueue.QueueWords.{QueuedPacket}
use Rattle.kernel_lists.specs.declared.packet_queue.events.KernelEvent.{KernelEvent}
use Rattle.kernel_lists.specs.declared.packet_queue.events.KernelEvent.TheVariants.{Accepted, Taken}
use Rattle.kernel_model.specs.KernelRecord.Changes.{HasPlace, queue_of, with_queue}
use Rattle.kernel_model.specs.KernelRecord.HoldsLists.{HoldsLists}
use Rattle.kernel_model.specs.KernelRecord.Lists.{Lists, has_task}
use Rattle.kernel_model.specs.KernelRecord.ValidQueues.{Place}
use Rattle.kernel_model.specs.KernelRecord.ValidQueues.Place.{Pending, Work}
use Rattle.kernel_model.specs.declared.kernel_record.numbers.TheConstants.{PENDING}
use Rattle.kernel_model.proofs.KernelRecord.QueuePlaces.{place-there, with_queue-residents}
use Rattle.kernel_calls.specs.PacketCalls.Destinations.{queue_for}
use Rattle.kernel_calls.specs.PacketCalls.PacketMoves.{sent_packet, with_arrived}
use Rattle.kernel_calls.specs.PacketCalls.QueueWords.{unqueued}
use Rattle.resident_tasks.specs.ResidentRequests.Answers.{answered_packet, returned}
use Rattle.resident_tasks.specs.ResidentRequests.Requests.{request_at}
use Rattle.resident_tasks.specs.declared.resident_requests.requests.Request.{Request}
use Rattle.resident_tasks.specs.ConsoleHandler.Reads.{put_off}
use Rattle.tripos_machine.specs.EventHistory.Ledger.{IsNowhere, clock, same_queue}
use Rattle.tripos_machine.specs.PacketHistory.Queues.{Moves, ledger_of}
use Rattle.tripos_machine.specs.PacketHistory.SentBy.{AreOfTurn}
use Rattle.tripos_machine.proofs.PacketHistory.FirstTaken.{TakesFirst, TakesReads, first-join}
use Rattle.tripos_machine.proofs.PacketHistory.Ledgers.{IsNamed, number_of}
use Rattle.tripos_machine.proofs.PacketHistory.Moves.{low-named, move-accepted, move-none, move-taken, moves-same, moves-then, nowhere-then}
use Rattle.tripos_machine.proofs.PacketHistory.SentEvents.{low-reads, turn-accepted, turn-none, turn-put_off, turn-taken, turn-then}
use Rattle.tripos_machine.proofs.PacketHistory.ValidLedgers.{task-number, valid-once}
use Rattle.tripos_machine.proofs.PacketHistory.TakenPackets.{sender-kept, sender-there}
use Rattle.kernel_model.proofs.KernelDispatch.TakenWork.{signed-low}

-- They lead from these lists to those, and are events of the turn of this task.
pub record MovesInTurn (due : KernelEvent → ℕ) (from : ℤ) (l : Lists) (es : List KernelEvent) (m : Lists) : Type 0 where
  pub moves : Moves due l es m
  pub turn : AreOfTurn from es
  pub takes : TakesFirst es

module _ (due : KernelEvent → ℕ) (from : ℤ) where
  pub none-moved : (l m : Lists) → ledger_of m ≡ ledger_of l → MovesInTurn due from l [] m
  none-moved l m same = record { moves = move-none due l m same; turn = turn-none from; takes = tt }

  -- the second takes no packet but reads
  pub then-moved : (l m n : Lists) (es fs : List KernelEvent) → MovesInTurn due from l es m → MovesInTurn due from m fs n → TakesReads fs → MovesInTurn due from l (es ++ fs) n
  then-moved l m n es fs x y reads = record { moves = moves-then due l m n es fs x.moves y.moves; turn = turn-then from es fs x.turn y.turn; takes = first-join es fs x.takes reads }

  -- or the first has no events
  pub first-moved : (l m n : Lists) (es fs : List KernelEvent) → es ≡ [] → MovesInTurn due from l es m → MovesInTurn due from m fs n → MovesInTurn due from l (es ++ fs) n
  first-moved l m n es fs none x y =
      record { moves = moves-then due l m n es fs x.moves y.moves; turn = turn-then from es fs x.turn y.turn; takes = subst (λ gs. TakesFirst (gs ++ fs)) (sym none) y.takes }

  -- the lists have other things, and the same queues
  pub same-moved : (l m n : Lists) (es : List KernelEvent) → ledger_of n ≡ ledger_of m → MovesInTurn due from l es m → MovesInTurn due from l es n
  same-moved l m n es same x = record { moves = moves-same due l m n es same x.moves; turn = x.turn; takes = x.takes }

  -- also where no event is added
  pub still-moved : (l m n : Lists) (es : List KernelEvent) → ledger_of n ≡ ledger_of m → MovesInTurn due from l es m → MovesInTurn due from l (es ++ []) n
  still-moved l m n es same x = subst (λ fs. MovesInTurn due from l fs n) (sym (append-nil es)) (same-moved l m n es same x)

-- ---- the first packet of a queue

module _ (due : KernelEvent → ℕ) (from : ℤ) (s : List ℕ) (l : Lists) (h : HoldsLists s l) (at : Place) (p : QueuedPacket) (ps : List QueuedPacket) (is : queue_of at l ≡ p ∷ ps)
    (named : IsNamed at) (z : ℤ) (here : z ≡ number_of at) (no_clock : same_queue z clock ≡ false) where
  abbrev m : Lists
  m = with_queue at ps l

  abbrev words : List ℕ
  words = unqueued s (queue_for l at) p.address

  abbrev request : Request
  request = request_at words p.address

  has : HasPlace l at
  has = place-there l at [] p ps h.valid is

  -- it is taken, and is nowhere then
  pub taken-moves : MovesInTurn due from l (Taken z p.address (signed p.sender) ∷ []) m
  taken-moves =
      record {
        moves = subst (λ y. Moves due l (Taken y p.address (signed p.sender) ∷ []) m) (sym here) (move-taken due l at p ps has named is);
        turn = turn-taken from z p.address (signed p.sender) no_clock;
        takes = tt;
      }

  taken-nowhere : IsNowhere p.address (ledger_of m)
  taken-nowhere = nowhere-then due l at p ps (valid-once l h.valid) has named is

  -- it comes to the queue of its sender, which is there
  module _ (there : has_task p.sender l.tasks ≡ true) where
    low : request.sender ≤ 63
    low = subst (λ n. n ≤ 63) (sym (sender-kept s l h at p ps is)) (task-number l h.valid p.sender there).high

    pub returned-moves : m.running ≡ l.running → from ≡ signed l.running → (answer : Result ℕ ℕ)
        → MovesInTurn due from l (Taken z p.address (signed p.sender) ∷ (returned m request answer).events) (returned m request answer).lists
    returned-moves same is_from answer =
        let q : QueuedPacket = answered_packet m request answer in
        let n : Lists = with_arrived (Work request.sender) q m in
        then-moved due from l m n (Taken z p.address (signed p.sender) ∷ []) (Accepted (signed request.sender) p.address (signed m.running) ∷ []) taken-moves
        (record {
          moves =
              subst (λ y. Moves due m (Accepted y p.address (signed m.running) ∷ []) n) (sym (signed-low request.sender low))
              (move-accepted due m (Work request.sender) q (sender-there s l h at p ps is there) (low-named request.sender low) taken-nowhere tt);
          turn =
              subst (λ y. AreOfTurn from (Accepted (signed request.sender) p.address y ∷ [])) (is_from ∙ ap signed (sym same)) (turn-accepted from (signed request.sender) p.address (low-reads request.sender low));
          takes = tt;
        })
        (tt, tt)

    -- or to the reads that wait, from the console's queue
    pub put_off-moves : z ≡ pos 3 → l.residents ≡ true → MovesInTurn due from l (Taken z p.address (signed p.sender) ∷ (put_off words m request).events) (put_off words m request).lists
    put_off-moves console residents =
        let q : QueuedPacket = sent_packet words m Pending p.address request.sender in
        let n : Lists = with_arrived Pending q m in
        record {
          moves =
              moves-then due l m n (Taken z p.address (signed p.sender) ∷ []) (Accepted (signed PENDING) p.address (signed request.sender) ∷ []) taken-moves.moves
              (move-accepted due m Pending q (with_queue-residents at ps l ∙ residents) tt taken-nowhere tt);
          turn =
              subst (λ y. AreOfTurn from (Taken y p.address (signed p.sender) ∷ Accepted (signed PENDING) p.address (signed request.sender) ∷ [])) (sym console)
              (subst (λ y. AreOfTurn from (Taken (pos 3) p.address (signed p.sender) ∷ Accepted (signed PENDING) p.address (signed y) ∷ [])) (sym (sender-kept s l h at p ps is))
              (turn-put_off from p.address (signed p.sender)));
          takes = (tt, tt);
        }
