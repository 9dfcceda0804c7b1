-- A packet is sent, taken, or taken back.
use Rattle.std.proofs.Common.{◌≡◌, ℕ, ◌+◌, true, false, Option, Some, None, List, [], ◌∷◌, get_or, length, inl, inr, refl, sym, subst}
use Rattle.std.proofs.lemmas.Bool.{cases_eq, not-true}
use Rattle.kernel_model.specs.KernelRecord.ChangedStore.{HasKeeper}
use Rattle.kernel_model.specs.KernelRecord.HoldsLists.{HoldsLists}
use Rattle.kernel_model.specs.KernelRecord.Lists.{Lists}
use Rattle.kernel_model.specs.KernelRecord.ValidLists.{AreValid}
use Rattle.kernel_calls.specs.CallAnswers.Callers.{HasCaller}
use Rattle.kernel_calls.specs.CallAnswers.Guests.{GuestAt}
use Rattle.kernel_calls.specs.CallAnswers.CallChange.{by_refusal}
use Rattle.kernel_calls.specs.CallAnswers.Refusals.{first_refusal}
use Rattle.kernel_calls.proofs.CallAnswers.RunningTask.{caller-at}
use Rattle.kernel_calls.proofs.TaskCalls.TestsInTurn.{all-passed}
use Rattle.kernel_calls.specs.PacketCalls.Destinations.{is_destination, place_of, queue_for}
use Rattle.kernel_calls.specs.PacketCalls.Dqpkt.{Search, dequeued, dqpkt, dqpkt_tests, found_in, is_residents_packet, located}
use Rattle.kernel_calls.specs.PacketCalls.Qpkt.{packet_tests, qpkt, qpkt_tests, sent_to}
use Rattle.kernel_calls.specs.PacketCalls.TaskWait.{taskwait}
use Rattle.kernel_calls.proofs.PacketCalls.DequeueCall.{is-dequeued}
use Rattle.kernel_calls.proofs.PacketCalls.NamedQueues.{Names, named-place}
use Rattle.kernel_calls.proofs.PacketCalls.SendCall.{is-sent}
use Rattle.kernel_calls.proofs.PacketCalls.WaitCall.{none-waits, some-taken}
use Rattle.kernel_calls.proofs.CallAnswers.Refusals.{passed-tests}
use Rattle.tripos_machine.proofs.PacketHistory.NoKeeper.{no-keeper, tells_nothing}
use Rattle.tripos_machine.proofs.PacketHistory.TestedCalls.{unless-valid}

module _ (s : List ℕ) (l : Lists) (h : HoldsLists s l) (c : HasCaller l) where
  keeper : HasKeeper s tells_nothing (length s) l
  keeper = no-keeper s l h

  caller : GuestAt l l.running (get_or s 102 0)
  caller = caller-at s l h c

  pub taskwait-valid : AreValid (taskwait l).lists
  taskwait-valid =
      elim (cases_eq (get_or s (get_or s 102 0 + 3) 0) 0) [
        | inl none ↦ (none-waits s tells_nothing (length s) l (get_or s 102 0) keeper c caller _ none refl).leaves.lists.lists.valid
        | inr some ↦ (some-taken s tells_nothing (length s) l (get_or s 102 0) keeper c caller _ refl some _ tells_nothing refl (λ _ _ _ _ _. tt)).leaves.lists.lists.valid
      ]

  pub qpkt-valid : (p : ℕ) → AreValid (qpkt s l p).lists
  qpkt-valid p = unless-valid (qpkt_tests s l p) l (sent_to number s l p) h.valid sent
    where
      number : ℕ
      number = get_or s (p + 1) 0

      sent : first_refusal (qpkt_tests s l p) ≡ None → AreValid (sent_to number s l p).lists
      sent e =
          let parts = all-passed (packet_tests s l p) ((is_destination l number, 4) ∷ []) e in
          let there : is_destination l number ≡ true = (passed-tests ((is_destination l number, 4) ∷ []) parts.1).0 in
          let names : Names l number (queue_for l (place_of number)) = record { is = there; queue = refl; place = named-place l number there } in
          subst (λ o. AreValid (by_refusal o l (sent_to number s l p)).lists) e
          (is-sent s tells_nothing (length s) l p keeper c (get_or s 102 0) caller parts.0 (queue_for l (place_of number)) names _ refl _ tells_nothing refl (λ _ _ _ _. tt)).leaves.lists.lists.valid

  pub dqpkt-valid : (id p : ℕ) → AreValid (dqpkt l id p).lists
  dqpkt-valid id p = unless-valid (dqpkt_tests l id p) l (dequeued p (found_in l id p) l) h.valid back
    where
      back : first_refusal (dqpkt_tests l id p) ≡ None → AreValid (dequeued p (found_in l id p) l).lists
      back e = (let ok = passed-tests (dqpkt_tests l id p) e in by (found_in l id p) refl ok.0 (not-true (is_residents_packet l p) ok.1.1.0))
        where
          by : (o : Option Search) → found_in l id p ≡ o → is_destination l id ≡ true → is_residents_packet l p ≡ false → AreValid (dequeued p (found_in l id p) l).lists
          by None found names plain = subst (λ o. AreValid (dequeued p o l).lists) (sym found) h.valid
          by (Some w) found names plain =
              subst (λ o. AreValid (by_refusal o l (dequeued p (found_in l id p) l)).lists) e
              (is-dequeued s tells_nothing (length s) l id p keeper (located l w) (record { search = w; found = found; located = refl }) names plain _ refl _ tells_nothing refl (λ _ _ _ _ _. tt)).leaves.lists.lists.valid
