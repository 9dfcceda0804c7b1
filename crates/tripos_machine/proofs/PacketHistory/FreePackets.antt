-- A packet that is on no queue of valid lists is nowhere in their ledger.
use Rattle.std.proofs.Common.{◌≡◌, ℕ, ◌||◌, Bool, true, false, eqb, List, [], ◌∷◌, map, refl, sym, ap, ◌∙◌}
use Rattle.std.specs.List.{list_any}
use Rattle.std.proofs.lemmas.Bool.{eq-eqb, eqb-true, false≢true}
use Rattle.kernel_lists.specs.PacketQueue.QueueWords.{QueuedPacket}
use Rattle.kernel_model.specs.KernelRecord.Changes.{queue_of}
use Rattle.kernel_model.specs.KernelRecord.Lists.{Lists, is_queued}
use Rattle.kernel_model.specs.KernelRecord.ValidLists.{AreValid}
use Rattle.kernel_model.specs.KernelRecord.ValidQueues.{Place}
use Rattle.kernel_model.specs.KernelRecord.ValidQueues.Place.{Clock, Keyboard, Output, Pending, Work}
use Rattle.kernel_model.proofs.KernelRecord.QueuePlaces.{is_queued-here, is_queued-place}
use Rattle.tripos_machine.specs.EventHistory.Ledger.{Entry, IsNowhere, is_on_queue}
use Rattle.tripos_machine.specs.PacketHistory.Queues.{clock_entry, entry_of, ledger_of}
use Rattle.tripos_machine.proofs.PacketHistory.Ledgers.{entries_at, ledger-at}
use Rattle.tripos_machine.proofs.PacketHistory.ValidLedgers.{IsPlaceOf, has-place}

any-turned : (make : QueuedPacket → Entry) → ((p : QueuedPacket) → (make p).packet ≡ p.address) → (a : ℕ) (ps : List QueuedPacket) → is_on_queue a (map make ps) ≡ true → list_any (λ q. eqb q.address a) ps ≡ true
any-turned make same a [] some = cc
any-turned make same a (p ∷ ps) some = on (eqb a (make p).packet) refl some (any-turned make same a ps)
  where
    on : (b : Bool) → eqb a (make p).packet ≡ b → (b || is_on_queue a (map make ps)) ≡ true → (is_on_queue a (map make ps) ≡ true → list_any (λ q. eqb q.address a) ps ≡ true) → list_any (λ q. eqb q.address a) (p ∷ ps) ≡ true
    on true is some more = ap (λ b. b || list_any (λ q. eqb q.address a) ps) (eq-eqb p.address a (sym (same p) ∙ sym (eqb-true a (make p).packet is)))
    on false is some more = later (eqb p.address a) (more some)
      where
        later : (b : Bool) → list_any (λ q. eqb q.address a) ps ≡ true → (b || list_any (λ q. eqb q.address a) ps) ≡ true
        later true e = refl
        later false e = e

any-there : (at : Place) (a : ℕ) (ps : List QueuedPacket) → is_on_queue a (entries_at at ps) ≡ true → list_any (λ q. eqb q.address a) ps ≡ true
any-there (Work id) a ps some = any-turned entry_of (λ p. refl) a ps some
any-there Clock a ps some = any-turned clock_entry (λ p. refl) a ps some
any-there Keyboard a ps some = any-turned entry_of (λ p. refl) a ps some
any-there Output a ps some = any-turned entry_of (λ p. refl) a ps some
any-there Pending a ps some = any-turned entry_of (λ p. refl) a ps some

-- what is on no queue is nowhere
pub unqueued-nowhere : (l : Lists) → AreValid l → (a : ℕ) → is_queued a l ≡ false → IsNowhere a (ledger_of l)
unqueued-nowhere l v a none q = on (is_on_queue a (ledger_of l q)) refl
  where
    on : (b : Bool) → is_on_queue a (ledger_of l q) ≡ b → b ≡ false
    on false e = refl
    on true e =
        let p : IsPlaceOf l q = has-place l v q a e in
        let some : is_on_queue a (entries_at p.at (queue_of p.at l)) ≡ true = ap (is_on_queue a) (sym (ledger-at l p.at p.named) ∙ ap (ledger_of l) p.number) ∙ e in
        let here : list_any (λ z. eqb z.address a) (queue_of p.at l) ≡ true = any-there p.at a (queue_of p.at l) some in
        absurd
        (false≢true (sym none ∙ sym (is_queued-place a l p.at (queue_of p.at l) v.tasks.distinct p.has refl) ∙ is_queued-here a l p.at (queue_of p.at l) v.tasks.distinct p.has here))
