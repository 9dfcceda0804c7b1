-- The lists once a device has returned a packet are valid.
use Rattle.std.proofs.Common.{◌≡◌, ℕ, ◌+◌, List, [], ◌∷◌, eqb, ◌&&◌, ◌||◌, Bool, true, false, Some, None, Option, refl, sym, ap, ◌∙◌, subst, append-nil}
use Rattle.std.specs.Prelude.{is_some, not}
use Rattle.std.specs.List.{AllByRecursion, list_any}
use Rattle.std.proofs.lemmas.Bool.{and_parts, eqb-true, false≢true}
use Rattle.kernel_lists.specs.PacketQueue.QueueWords.{QueuedPacket}
use Rattle.kernel_model.specs.KernelRecord.Changes.{AreUnowned, queue_of, with_key, with_queue}
use Rattle.kernel_model.specs.KernelRecord.Lists.{Lists, has_task, is_queued}
use Rattle.kernel_model.specs.KernelRecord.Residents.{key_packet}
use Rattle.kernel_model.specs.KernelRecord.Task.{is_guest_id}
use Rattle.kernel_model.specs.KernelRecord.ValidBlocks.{AreData}
use Rattle.kernel_model.specs.KernelRecord.ValidLists.{AreValid}
use Rattle.kernel_model.specs.KernelRecord.ValidQueues.{IsFaultPacket, IsKeyPacket, IsValidPacket, Place, is_fault_packet, is_key_packet}
use Rattle.kernel_model.specs.KernelRecord.ValidQueues.Place.{Clock, Keyboard, Output, Work}
use Rattle.kernel_model.proofs.KernelRecord.PacketMoves.{queued-valid, unqueued-unowned, unqueued-valid}
use Rattle.kernel_model.proofs.KernelRecord.QueuePlaces.{is_queued-here}
use Rattle.kernel_model.proofs.KernelRecord.ResidentPackets.{key_queued-valid, key_unqueued-valid}
use Rattle.kernel_calls.specs.PacketCalls.Returned.{place_of, returned_by, with_work_for}
use Rattle.kernel_calls.specs.declared.packet_calls.returns.Device.{Device}
use Rattle.kernel_calls.specs.declared.packet_calls.returns.Device.TheVariants as devices

-- a packet that is on no queue, and none of the residents' two, comes to a guest
to_guest : (m : Lists) (d : Device) (res1 : ℕ) (p : QueuedPacket) → AreValid m → AreUnowned m p.address (p.address + 5) → has_task p.sender m.tasks ≡ true → is_guest_id p.sender ≡ true
    → AreData m.blocks p.address 5 → is_key_packet m p ≡ false → is_fault_packet m p ≡ false → AreValid (with_work_for p.sender (returned_by d res1 p) m)
to_guest m d res1 p v unowned there guest lodged no_key no_fault =
    queued-valid m (Work p.sender) (returned_by d res1 p) (queue_of (Work p.sender) m) [] v there (sym (append-nil (queue_of (Work p.sender) m)))
    (record {
      lodged = lodged;
      key = λ e. absurd (false≢true (sym no_key ∙ e));
      fault = λ e. absurd (false≢true (sym no_fault ∙ e));
      sender = λ none resident. absurd (false≢true (sym resident ∙ guest));
    })
    unowned tt

module _ (l : Lists) (p : QueuedPacket) (ps : List QueuedPacket) (v : AreValid l) where
  -- the fault packet waits for no device
  no-fault : (at : Place) → (IsFaultPacket at p → ⊥) → IsValidPacket l at p → is_fault_packet l p ≡ false
  no-fault at never valid-packet = on (is_fault_packet l p) refl
    where
      on : (b : Bool) → is_fault_packet l p ≡ b → b ≡ false
      on false e = refl
      on true e = absurd (never (valid-packet.fault e))

  no-key : (at : Place) → (IsKeyPacket at p → ⊥) → IsValidPacket l at p → is_key_packet l p ≡ false
  no-key at never valid-packet = on (is_key_packet l p) refl
    where
      on : (b : Bool) → is_key_packet l p ≡ b → b ≡ false
      on false e = refl
      on true e = absurd (never (valid-packet.key e))

  not-clock : IsFaultPacket Clock p → ⊥
  not-clock f = (let e = f.place in cc)

  not-keyboard : IsFaultPacket Keyboard p → ⊥
  not-keyboard f = (let e = f.place in cc)

  not-output : IsFaultPacket Output p → ⊥
  not-output f = (let e = f.place in cc)

  first : (at : Place) (qs : List QueuedPacket) → qs ≡ p ∷ ps → AllByRecursion (IsValidPacket l at) qs → IsValidPacket l at p
  first at qs is all = (subst (AllByRecursion (IsValidPacket l at)) is all).0

  from-clock : (res1 : ℕ) → l.clock ≡ p ∷ ps → AreValid (with_work_for p.sender (returned_by devices.Clock res1 p) (with_queue Clock ps l))
  from-clock res1 is =
      let may : IsValidPacket l Clock p = first Clock l.clock is v.queues.clock in
      let no_key = no-key Clock (λ k. k.place) may in
      let no_fault = no-fault Clock not-clock may in
      to_guest (with_queue Clock ps l) devices.Clock res1 p (unqueued-valid l Clock p [] ps v is no_key no_fault) (unqueued-unowned l Clock p [] ps v is) (may.sender no_key).1 (may.sender no_key).0
      may.lodged no_key no_fault

  from-output : (res1 : ℕ) → l.output ≡ p ∷ ps → AreValid (with_work_for p.sender (returned_by devices.Output res1 p) (with_queue Output ps l))
  from-output res1 is =
      let may : IsValidPacket l Output p = first Output l.output is v.queues.output in
      let no_key = no-key Output (λ k. k.place) may in
      let no_fault = no-fault Output not-output may in
      to_guest (with_queue Output ps l) devices.Output res1 p (unqueued-valid l Output p [] ps v is no_key no_fault) (unqueued-unowned l Output p [] ps v is) (may.sender no_key).1 (may.sender no_key).0
      may.lodged no_key no_fault

  -- the key packet comes back to the console
  key-back : (res1 : ℕ) → l.keyboard ≡ p ∷ ps → is_key_packet l p ≡ true → IsKeyPacket Keyboard p → AreValid (with_work_for p.sender (returned_by devices.Keyboard res1 p) (with_queue Keyboard ps l))
  key-back res1 is e k =
      let both = and_parts l.residents (eqb p.address key_packet) e in
      let m : Lists = with_queue Keyboard ps l in
      let off : AreValid (with_key (Some p.res1) m) = key_unqueued-valid l Keyboard p [] ps v is e in
      let queued : is_queued key_packet l ≡ true =
      is_queued-here key_packet l Keyboard l.keyboard v.tasks.distinct tt
      (ap (list_any (λ q. eqb q.address key_packet)) is ∙ ap (λ b. b || list_any (λ q. eqb q.address key_packet) ps) both.1)
      in
      let none : l.key ≡ None = no-value l.key (v.queues.key ∙ (λ i. both.0 i && not (queued i))) in
      let back : AreValid (with_key None (with_work_for 3 (returned_by devices.Keyboard res1 p) m)) =
      key_queued-valid (with_key (Some p.res1) m) (Work 3) (returned_by devices.Keyboard res1 p) (queue_of (Work 3) m) [] off (sym (append-nil (queue_of (Work 3) m))) refl (eqb-true p.address key_packet both.1)
      (record { place = (refl, refl); kind = k.kind; last = refl })
      in
      subst (λ id. AreValid (with_work_for id (returned_by devices.Keyboard res1 p) m)) (sym k.place) (subst (λ x. AreValid (with_key x (with_work_for 3 (returned_by devices.Keyboard res1 p) m))) (sym none) back)
    where
      no-value : (x : Option ℕ) → is_some x ≡ false → x ≡ None
      no-value None e = refl
      no-value (Some a) e = cc

  from-keys : (res1 : ℕ) → l.keyboard ≡ p ∷ ps → AreValid (with_work_for p.sender (returned_by devices.Keyboard res1 p) (with_queue Keyboard ps l))
  from-keys res1 is = on (is_key_packet l p) refl
    where
      may : IsValidPacket l Keyboard p
      may = first Keyboard l.keyboard is v.queues.keyboard

      on : (b : Bool) → is_key_packet l p ≡ b → AreValid (with_work_for p.sender (returned_by devices.Keyboard res1 p) (with_queue Keyboard ps l))
      on true e = key-back res1 is e (may.key e)
      on false no_key =
          let no_fault = no-fault Keyboard not-keyboard may in
          to_guest (with_queue Keyboard ps l) devices.Keyboard res1 p (unqueued-valid l Keyboard p [] ps v is no_key no_fault) (unqueued-unowned l Keyboard p [] ps v is) (may.sender no_key).1 (may.sender no_key).0
          may.lodged no_key no_fault

  pub returned-valid : (d : Device) (res1 : ℕ) → queue_of (place_of d) l ≡ p ∷ ps → AreValid (with_work_for p.sender (returned_by d res1 p) (with_queue (place_of d) ps l))
  returned-valid devices.Clock res1 is = from-clock res1 is
  returned-valid devices.Keyboard res1 is = from-keys res1 is
  returned-valid devices.Output res1 is = from-output res1 is

  -- its sender is a task that is there
  pub sender-there : (d : Device) → queue_of (place_of d) l ≡ p ∷ ps → has_task p.sender l.tasks ≡ true
  sender-there devices.Clock is = (let may : IsValidPacket l Clock p = first Clock l.clock is v.queues.clock in (may.sender (no-key Clock (λ k. k.place) may)).1)
  sender-there devices.Output is = (let may : IsValidPacket l Output p = first Output l.output is v.queues.output in (may.sender (no-key Output (λ k. k.place) may)).1)
  sender-there devices.Keyboard is = on (is_key_packet l p) refl
    where
      may : IsValidPacket l Keyboard p
      may = first Keyboard l.keyboard is v.queues.keyboard

      on : (b : Bool) → is_key_packet l p ≡ b → has_task p.sender l.tasks ≡ true
      on true e = ap (λ id. has_task id l.tasks) (may.key e).place ∙ v.tasks.console ∙ (and_parts l.residents (eqb p.address key_packet) e).0
      on false e = (may.sender e).1
