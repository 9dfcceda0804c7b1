-- What moves packets, and the events that say so.
use Rattle.std.proofs.Common.{◌≡◌, ◌≢◌, ℕ, pos, ◌-ℤ◌, ◌^◌, ◌≤◌, true, cond, eqb, leb, List, [], ◌∷◌, ◌++◌, drop, map, refl, sym, ap, ◌∙◌, subst, arith, lt-ltb}
use Rattle.std.specs.List.{list_any}
use Rattle.word_store.specs.Arithmetic.{signed}
use Rattle.kernel_lists.specs.LinkedList.Places.{insert_after, without_first}
use Rattle.kernel_lists.specs.PacketQueue.QueueWords.{QueuedPacket}
use Rattle.kernel_lists.specs.declared.packet_queue.events.KernelEvent.{KernelEvent}
use Rattle.kernel_lists.specs.declared.packet_queue.events.KernelEvent.TheVariants.{Accepted, Taken, Dequeued, Runs}
use Rattle.kernel_model.specs.KernelRecord.Changes.{HasPlace, queue_of, with_queue}
use Rattle.kernel_model.specs.KernelRecord.Lists.{Lists}
use Rattle.kernel_model.specs.KernelRecord.ValidQueues.{Place}
use Rattle.kernel_model.specs.KernelRecord.ValidQueues.Place.{Clock, Keyboard, Output, Pending, Work}
use Rattle.kernel_calls.specs.PacketCalls.Dqpkt.{pending_number}
use Rattle.kernel_calls.specs.PacketCalls.PacketMoves.{arrived, departed, with_arrived, with_departed}
use Rattle.tripos_machine.specs.EventHistory.Ledger.{AreOnce, Follows, IsFirst, IsNowhere, after_event, arrived as arrives, entry_on, with_queue as put}
use Rattle.tripos_machine.proofs.EventHistory.Following.{taken-nowhere, follows-join}
use Rattle.tripos_machine.specs.PacketHistory.Queues.{Moves, clock_entry, entry_of, ledger_of, timed_by}
use Rattle.tripos_machine.proofs.PacketHistory.Ledgers.{IsNamed, any-at, entries-end, entries-insert, entries-without, entries_at, ledger-at, ledger-put, number_of}
use Rattle.kernel_model.proofs.KernelDispatch.TakenWork.{signed-low}

pub timed-join : (due : KernelEvent → ℕ) (es fs : List KernelEvent) → timed_by due (es ++ fs) ≡ timed_by due es ++ timed_by due fs
timed-join due [] fs = refl
timed-join due (e ∷ es) fs = ap (λ z. record { event = e; due = due e } ∷ z) (timed-join due es fs)

pub low-named : (n : ℕ) → n ≤ 63 → n ≢ pending_number
low-named n low e = absurd (omega (arith, low, e))

-- ---- entries of a place

first-entry : (at : Place) (p : QueuedPacket) (ps : List QueuedPacket) → IsFirst p.address (signed p.sender) (entries_at at (p ∷ ps))
first-entry (Work id) p ps = (refl, refl)
first-entry Clock p ps = (refl, refl)
first-entry Keyboard p ps = (refl, refl)
first-entry Output p ps = (refl, refl)
first-entry Pending p ps = (refl, refl)

rest-entries : (at : Place) (p : QueuedPacket) (ps : List QueuedPacket) → drop 1 (entries_at at (p ∷ ps)) ≡ entries_at at ps
rest-entries (Work id) p ps = refl
rest-entries Clock p ps = refl
rest-entries Keyboard p ps = refl
rest-entries Output p ps = refl
rest-entries Pending p ps = refl

-- at the clock a packet is due at the tick in its last word
abbrev pub IsDueBy : Place → ℕ → QueuedPacket → Type 0
IsDueBy (Work id) due p = Unit {0}
IsDueBy Clock due p = due ≡ p.last
IsDueBy Keyboard due p = Unit {0}
IsDueBy Output due p = Unit {0}
IsDueBy Pending due p = Unit {0}

entries-arrived : (at : Place) (p : QueuedPacket) (ps : List QueuedPacket) (due : ℕ) → IsDueBy at due p
    → arrives (number_of at) (entry_on (number_of at) p.address (signed p.sender) due) (entries_at at ps) ≡ entries_at at (arrived at p ps)
entries-arrived (Work id) p ps due is = sym (entries-end ps p)
entries-arrived Clock p ps due is =
    ap (λ d. insert_after (λ e. leb e.due d) (record { packet = p.address; sender = signed p.sender; due = d }) (map clock_entry ps)) is ∙ sym (entries-insert p ps)
entries-arrived Keyboard p ps due is = sym (entries-end ps p)
entries-arrived Output p ps due is = sym (entries-end ps p)
entries-arrived Pending p ps due is = sym (entries-end ps p)

without-at : (at : Place) (a : ℕ) (ps : List QueuedPacket) → entries_at at (departed a ps) ≡ without_first (λ e. eqb a e.packet) (entries_at at ps)
without-at (Work id) a ps = entries-without entry_of (λ p. refl) a ps
without-at Clock a ps = entries-without clock_entry (λ p. refl) a ps
without-at Keyboard a ps = entries-without entry_of (λ p. refl) a ps
without-at Output a ps = entries-without entry_of (λ p. refl) a ps
without-at Pending a ps = entries-without entry_of (λ p. refl) a ps

-- ---- moves

module _ (due : KernelEvent → ℕ) where
  pub move-none : (l m : Lists) → ledger_of m ≡ ledger_of l → Moves due l [] m
  move-none l m e = sym e

  pub moves-then : (l m n : Lists) (es fs : List KernelEvent) → Moves due l es m → Moves due m fs n → Moves due l (es ++ fs) n
  moves-then l m n es fs x y =
      subst (λ xs. Follows xs (ledger_of l) (ledger_of n)) (sym (timed-join due es fs))
      (follows-join (timed_by due es) (timed_by due fs) (ledger_of l) (ledger_of m) (ledger_of n) x y)

  -- the lists have other things, and the same queues
  pub moves-same : (l m n : Lists) (es : List KernelEvent) → ledger_of n ≡ ledger_of m → Moves due l es m → Moves due l es n
  moves-same l m n es e x = subst (Follows (timed_by due es) (ledger_of l)) (sym e) x

  pub moves-from : (l k m : Lists) (es : List KernelEvent) → ledger_of k ≡ ledger_of l → Moves due k es m → Moves due l es m
  moves-from l k m es e x = subst (λ b. Follows (timed_by due es) b (ledger_of m)) e x

  pub move-runs : (l m : Lists) (id : ℕ) → ledger_of m ≡ ledger_of l → Moves due l (Runs id ∷ []) m
  move-runs l m id e = (tt, sym e)

  module _ (l : Lists) (at : Place) (p : QueuedPacket) where
    -- the first is taken
    pub is-first : (ps : List QueuedPacket) → IsNamed at → queue_of at l ≡ p ∷ ps → IsFirst p.address (signed p.sender) (ledger_of l (number_of at))
    is-first ps named is = subst (IsFirst p.address (signed p.sender)) (sym (ledger-at l at named ∙ ap (entries_at at) is)) (first-entry at p ps)

    pub after-taken : (ps : List QueuedPacket) (n : ℕ) → HasPlace l at → IsNamed at → queue_of at l ≡ p ∷ ps
        → after_event (Taken (number_of at) p.address (signed p.sender)) n (ledger_of l) ≡ ledger_of (with_queue at ps l)
    after-taken ps n has named is =
        ap (λ es. put (number_of at) es (ledger_of l)) (ap (drop 1) (ledger-at l at named ∙ ap (entries_at at) is) ∙ rest-entries at p ps)
        ∙ sym (ledger-put l at ps has named)

    pub move-taken : (ps : List QueuedPacket) → HasPlace l at → IsNamed at → queue_of at l ≡ p ∷ ps → Moves due l (Taken (number_of at) p.address (signed p.sender) ∷ []) (with_queue at ps l)
    move-taken ps has named is = (is-first ps named is, after-taken ps (due (Taken (number_of at) p.address (signed p.sender))) has named is)

    -- and is nowhere then
    pub nowhere-then : (ps : List QueuedPacket) → AreOnce (ledger_of l) → HasPlace l at → IsNamed at → queue_of at l ≡ p ∷ ps → IsNowhere p.address (ledger_of (with_queue at ps l))
    nowhere-then ps once has named is =
        subst (IsNowhere p.address) (after-taken ps 0 has named is) (taken-nowhere (number_of at) p.address (signed p.sender) 0 (ledger_of l) once (is-first ps named is))

    -- one comes
    pub move-accepted : HasPlace l at → IsNamed at → IsNowhere p.address (ledger_of l) → IsDueBy at (due (Accepted (number_of at) p.address (signed p.sender))) p
        → Moves due l (Accepted (number_of at) p.address (signed p.sender) ∷ []) (with_arrived at p l)
    move-accepted has named nowhere is = (
      nowhere,
      let n : ℕ = due (Accepted (number_of at) p.address (signed p.sender)) in
          ap (λ es. put (number_of at) es (ledger_of l))
          (ap (arrives (number_of at) (entry_on (number_of at) p.address (signed p.sender) n)) (ledger-at l at named) ∙ entries-arrived at p (queue_of at l) n is)
          ∙ sym (ledger-put l at (arrived at p (queue_of at l)) has named),
    )

    -- one is dequeued
    pub move-dequeued : (a : ℕ) → HasPlace l at → IsNamed at → list_any (λ q. eqb a q.address) (queue_of at l) ≡ true → Moves due l (Dequeued (number_of at) a ∷ []) (with_departed a at l)
    move-dequeued a has named some = (
      ap (list_any (λ e. eqb a e.packet)) (ledger-at l at named) ∙ any-at at a (queue_of at l) ∙ some,
      ap (λ es. put (number_of at) es (ledger_of l)) (ap (without_first (λ e. eqb a e.packet)) (ledger-at l at named) ∙ sym (without-at at a (queue_of at l)))
          ∙ sym (ledger-put l at (departed a (queue_of at l)) has named),
    )
