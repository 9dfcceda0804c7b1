-- Events of turns, one part after the other.
use Rattle.std.proofs.Common.{◌≡◌, ℕ, ℤ, pos, ◌+◌, ◌≤◌, Bool, true, false, cond, eqb, Option, Some, None, List, [], ◌∷◌, ◌++◌, refl, sym, ap, ◌∙◌, subst, ne_eqb}
use Rattle.std.specs.List.{AllByRecursion}
use Rattle.std.specs.Prelude.{slice_index}
use Rattle.word_store.specs.Arithmetic.{signed}
use Rattle.kernel_lists.specs.PacketQueue.QueueWords.{QueuedPacket}
use Rattle.kernel_lists.specs.declared.packet_queue.events.KernelEvent.{KernelEvent}
use Rattle.kernel_lists.specs.declared.packet_queue.events.KernelEvent.TheVariants.{Accepted, Taken, Dequeued}
use Rattle.kernel_model.specs.KernelRecord.Changes.{queue_of}
use Rattle.kernel_model.specs.KernelRecord.Lists.{Lists, has_task}
use Rattle.kernel_model.specs.KernelRecord.ValidLists.{AreValid}
use Rattle.kernel_model.specs.KernelRecord.ValidQueues.{Place}
use Rattle.kernel_model.specs.KernelRecord.ValidQueues.Place.{Clock, Keyboard, Output, Pending, Work}
use Rattle.kernel_calls.specs.CallAnswers.CallChange.{CallChange, by_refusal, unless_refused}
use Rattle.kernel_calls.specs.CallAnswers.Refusals.{first_refusal}
use Rattle.kernel_calls.specs.PacketCalls.Destinations.{is_destination, place_of}
use Rattle.kernel_calls.specs.PacketCalls.Dqpkt.{Search, dequeued, dqpkt, dqpkt_tests, found_in, pending_number}
use Rattle.kernel_calls.specs.PacketCalls.Qpkt.{qpkt, qpkt_tests, sent_to}
use Rattle.kernel_calls.specs.PacketCalls.TaskWait.{taskwait, waited}
use Rattle.tripos_machine.specs.EventHistory.Acceptances.{taken_by, taken_from}
use Rattle.tripos_machine.specs.EventHistory.Ledger.{clock, same_queue}
use Rattle.tripos_machine.specs.PacketHistory.SentBy.{AreOfTurn, AreSentBy, IsFrom}
use Rattle.tripos_machine.proofs.PacketHistory.CallMoves.{names}
use Rattle.tripos_machine.proofs.PacketHistory.Ledgers.{IsNamed, number_of}
use Rattle.tripos_machine.proofs.PacketHistory.Moves.{low-named}
use Rattle.tripos_machine.proofs.PacketHistory.ValidLedgers.{task-number}
use Rattle.kernel_calls.proofs.CallAnswers.Refusals.{passed-tests}
use Rattle.kernel_model.proofs.KernelDispatch.TakenWork.{signed-low}

taken-join : (es fs : List KernelEvent) → taken_from clock es ≡ [] → taken_from clock fs ≡ [] → taken_from clock (es ++ fs) ≡ []
taken-join [] fs x y = y
taken-join (e ∷ es) fs x y = on (taken_by clock e) x (λ z. taken-join es fs z y)
  where
    on : (zs : List (ℕ × ℤ)) → zs ++ taken_from clock es ≡ [] → (taken_from clock es ≡ [] → taken_from clock (es ++ fs) ≡ []) → zs ++ taken_from clock (es ++ fs) ≡ []
    on [] z more = more z
    on (p ∷ ps) z more = cc

module _ (from : ℤ) where
  sent-join : (before : Option KernelEvent) (es fs : List KernelEvent) → AreSentBy from before es → AreOfTurn from fs → AreSentBy from before (es ++ fs)
  sent-join before [] fs x y = y.sent before
  sent-join before (e ∷ es) fs x y = (x.0, sent-join (Some e) es fs x.1 y)

  pub turn-then : (es fs : List KernelEvent) → AreOfTurn from es → AreOfTurn from fs → AreOfTurn from (es ++ fs)
  turn-then es fs x y = record { sent = λ before. sent-join before es fs (x.sent before) y; takes = taken-join es fs x.takes y.takes }

  pub turn-none : AreOfTurn from []
  turn-none = record { sent = λ before. tt; takes = refl }

  pub turn-accepted : (q : ℤ) (p : ℕ) → same_queue q (pos pending_number) ≡ false → AreOfTurn from (Accepted q p from ∷ [])
  turn-accepted q p other = record { sent = λ before. (subst (λ b. IsFrom b from before p from) (sym other) refl, tt); takes = refl }

  pub turn-taken : (q : ℤ) (p : ℕ) (s : ℤ) → same_queue q clock ≡ false → AreOfTurn from (Taken q p s ∷ [])
  turn-taken q p s other = record { sent = λ before. (tt, tt); takes = ap (λ b. cond b ((p, s) ∷ []) [] ++ []) other }

  pub turn-dequeued : (q : ℤ) (p : ℕ) → AreOfTurn from (Dequeued q p ∷ [])
  turn-dequeued q p = record { sent = λ before. (tt, tt); takes = refl }

  -- a read is put off
  pub turn-put_off : (p : ℕ) (s : ℤ) → AreOfTurn from (Taken (pos 3) p s ∷ Accepted (pos pending_number) p s ∷ [])
  turn-put_off p s = record { sent = λ before. (tt, (refl, tt)); takes = refl }

  -- refused it has no events
  pub turn-refused : (tests : List (Bool × ℕ)) (l : Lists) (m : CallChange) → (AllByRecursion (λ test. test.0 ≡ true) tests → AreOfTurn from m.events) → AreOfTurn from (unless_refused tests l m).events
  turn-refused tests l m h = on (first_refusal tests) refl
    where
      on : (o : Option ℕ) → first_refusal tests ≡ o → AreOfTurn from (by_refusal o l m).events
      on None e = h (passed-tests tests e)
      on (Some code) e = turn-none

-- ---- numbers of tasks

pub low-reads : (n : ℕ) → n ≤ 63 → same_queue (signed n) (pos pending_number) ≡ false
low-reads n low = ap (λ q. same_queue q (pos pending_number)) (signed-low n low) ∙ ne_eqb n pending_number (low-named n low)

pub low-clock : (n : ℕ) → n ≤ 63 → same_queue (signed n) clock ≡ false
low-clock n low = ap (λ q. same_queue q clock) (signed-low n low)

-- ---- calls

module _ (l : Lists) (v : AreValid l) where
  place-reads : (n : ℕ) → is_destination l n ≡ true → same_queue (signed n) (pos pending_number) ≡ false
  place-reads n to = ap (λ q. same_queue q (pos pending_number)) (sym (names l v n to).number) ∙ on (place_of n) (names l v n to).named (place-of n)
    where
      IsNoRead : Place → Type 0
      IsNoRead (Work id) = Unit {0}
      IsNoRead Clock = Unit {0}
      IsNoRead Keyboard = Unit {0}
      IsNoRead Output = Unit {0}
      IsNoRead Pending = ⊥

      place-of : (n : ℕ) → IsNoRead (place_of n)
      place-of n = by (eqb n _) (eqb n _) (eqb n _)
        where
          by : (a b c : Bool) → IsNoRead (cond a Clock (cond b Keyboard (cond c Output (Work n))))
          by true b c = tt
          by false true c = tt
          by false false true = tt
          by false false false = tt

      on : (at : Place) → IsNamed at → IsNoRead at → same_queue (number_of at) (pos pending_number) ≡ false
      on (Work id) named none = ne_eqb id pending_number named
      on Clock named none = refl
      on Keyboard named none = refl
      on Output named none = refl
      on Pending named none = absurd none

  pub qpkt-turn : (s : List ℕ) (p : ℕ) → AreOfTurn (signed l.running) (qpkt s l p).events
  qpkt-turn s p =
      turn-refused (signed l.running) (qpkt_tests s l p) l (sent_to (slice_index s (p + 1)) s l p)
      (λ ok. turn-accepted (signed l.running) (signed (slice_index s (p + 1))) p (place-reads (slice_index s (p + 1)) ok.1.1.1.0))

  pub taskwait-turn : has_task l.running l.tasks ≡ true → AreOfTurn (signed l.running) (taskwait l).events
  taskwait-turn there = on (queue_of (Work l.running) l)
    where
      on : (ps : List QueuedPacket) → AreOfTurn (signed l.running) (waited ps l).events
      on [] = turn-none (signed l.running)
      on (p ∷ ps) = turn-taken (signed l.running) (signed l.running) p.address (signed p.sender) (low-clock l.running (task-number l v l.running there).high)

  pub dqpkt-turn : (id p : ℕ) → AreOfTurn (signed l.running) (dqpkt l id p).events
  dqpkt-turn id p = turn-refused (signed l.running) (dqpkt_tests l id p) l (dequeued p (found_in l id p) l) (λ ok. on (found_in l id p))
    where
      on : (o : Option Search) → AreOfTurn (signed l.running) (dequeued p o l).events
      on None = turn-none (signed l.running)
      on (Some w) = turn-dequeued (signed l.running) _ p
