-- When a packet is taken its word 1 is its sender.
use Rattle.std.proofs.Common.{◌≡◌, ℕ, ℤ, zero, suc, pos, negsuc, ◌+◌, ◌%◌, Bool, true, false, cond, eqb, leb, Option, Some, None, List, [], ◌∷◌, ◌++◌, drop, get_or, map, take, sym, ap, ◌∙◌, subst}
use Rattle.std.specs.List.{AllByRecursion}
use Rattle.word_store.specs.Arithmetic.{signed}
use Rattle.kernel_lists.specs.LinkedList.Places.{without_first}
use Rattle.kernel_lists.specs.PacketQueue.QueueWords.{QueuedPacket}
use Rattle.kernel_lists.specs.declared.packet_queue.events.KernelEvent.{KernelEvent}
use Rattle.kernel_lists.specs.declared.packet_queue.events.KernelEvent.TheVariants.{Accepted, Taken, Dequeued, Runs}
use Rattle.kernel_model.specs.KernelRecord.Changes.{work_of}
use Rattle.kernel_model.specs.KernelRecord.HoldsLists.{HoldsLists}
use Rattle.kernel_model.specs.KernelRecord.Image.{image}
use Rattle.kernel_model.specs.KernelRecord.Kernel.{Kernel}
use Rattle.kernel_model.specs.KernelRecord.Lists.{Lists}
use Rattle.kernel_model.specs.KernelRecord.Task.{Task}
use Rattle.kernel_model.specs.KernelRecord.ValidQueues.Place.{Clock, Keyboard, Output, Pending, Work}
use Rattle.kernel_model.specs.KernelDispatch.Dispatch.{taken_event, takes_packet}
use Rattle.kernel_calls.specs.PacketCalls.Dqpkt.{pending_number}
use Rattle.kernel_calls.specs.PacketCalls.Returned.{first_returned}
use Rattle.kernel_calls.specs.declared.packet_calls.returns.Device.{Device}
use Rattle.kernel_calls.specs.declared.packet_calls.returns.Device.TheVariants as devices
use Rattle.kernel_devices.specs.Keys.{met}
use Rattle.kernel_devices.specs.Tick.{due_packets, events_of_return, ticked}
use Rattle.kernel_machine.specs.KernelSteps.Step.{dispatch, key, output, served, tick, with_key_typed}
use Rattle.kernel_machine.proofs.KernelSteps.DevicesKept.{typed-lists}
use Rattle.kernel_machine.proofs.KernelSteps.DispatchKept.{three-ways}
use Rattle.kernel_machine.proofs.KernelSteps.TurnWays.{due-or-not}
use Rattle.tripos_machine.specs.EventHistory.Ledger.{Entry, Follows, IsFirst, Ledger, May, after_event, arrived, entry_on, same_queue}
use Rattle.tripos_machine.proofs.EventHistory.Queues.{queue-ways}
use Rattle.tripos_machine.specs.PacketHistory.Queues.{clock_entry, entry_of, ledger_of, timed_by}
use Rattle.tripos_machine.specs.PacketHistory.Senders.{HasSender, IsNoAcceptance}
use Rattle.tripos_machine.specs.PacketHistory.SentBy.{AreSentBy, IsFrom, IsSentBy}
use Rattle.tripos_machine.proofs.PacketHistory.FirstTaken.{IsOfReads, TakesFirst, TakesReads}
use Rattle.tripos_machine.proofs.PacketHistory.HeldSenders.{AreSenders, place-senders}
use Rattle.tripos_machine.proofs.PacketHistory.PartEvents.{dispatch-accepts}
use Rattle.tripos_machine.proofs.PacketHistory.StepMoved.{dispatch-moved}

module _ (words : List ℕ) where
  abbrev word_one : ℕ → ℤ
  word_one p = signed (get_or words (p + 1) 0)

  -- ---- queues whose packets have their senders as their words 1

  abbrev HaveSenders : List Entry → Type 0
  HaveSenders es = AllByRecursion (λ e. word_one e.packet ≡ e.sender) es

  plain-entries : (ps : List QueuedPacket) → AreSenders words ps → HaveSenders (map entry_of ps)
  plain-entries [] h = tt
  plain-entries (p ∷ ps) h = (ap signed h.0, plain-entries ps h.1)

  clock-entries : (ps : List QueuedPacket) → AreSenders words ps → HaveSenders (map clock_entry ps)
  clock-entries [] h = tt
  clock-entries (p ∷ ps) h = (ap signed h.0, clock-entries ps h.1)

  pub ledger-senders : (l : Lists) → HoldsLists words l → (q : ℤ) → HaveSenders (ledger_of l q)
  ledger-senders l h (pos n) = on (eqb n pending_number)
    where
      on : (b : Bool) → HaveSenders (map entry_of (cond b l.pending (work_of n l.tasks)))
      on true = plain-entries l.pending (place-senders words l h Pending)
      on false = plain-entries (work_of n l.tasks) (place-senders words l h (Work n))
  ledger-senders l h (negsuc zero) = clock-entries l.clock (place-senders words l h Clock)
  ledger-senders l h (negsuc (suc zero)) = plain-entries l.keyboard (place-senders words l h Keyboard)
  ledger-senders l h (negsuc (suc (suc zero))) = plain-entries l.output (place-senders words l h Output)
  ledger-senders l h (negsuc (suc (suc (suc n)))) = tt

  -- ---- the reads that wait, from event to event

  abbrev reads : ℤ
  reads = pos pending_number

  -- the event before took its packet from the sender in word 1
  abbrev Known : Option KernelEvent → Type 0
  Known None = Unit {0}
  Known (Some e) = HasSender words e

  first-sender : (p : ℕ) (s : ℤ) (es : List Entry) → HaveSenders es → IsFirst p s es → word_one p ≡ s
  first-sender p s [] h may = absurd may
  first-sender p s (e ∷ es) h may = ap word_one (sym may.0) ∙ h.0 ∙ may.1

  end-senders : (x : Entry) (es : List Entry) → word_one x.packet ≡ x.sender → HaveSenders es → HaveSenders (es ++ x ∷ [])
  end-senders x [] is h = (is, tt)
  end-senders x (e ∷ es) is h = (h.0, end-senders x es is h.1)

  rest-senders : (es : List Entry) → HaveSenders es → HaveSenders (drop 1 es)
  rest-senders [] h = tt
  rest-senders (e ∷ es) h = h.1

  other-senders : (p : ℕ) (es : List Entry) → HaveSenders es → HaveSenders (without_first (λ e. eqb p e.packet) es)
  other-senders p [] h = tt
  other-senders p (e ∷ es) h = on (eqb p e.packet) (other-senders p es h.1)
    where
      on : (b : Bool) → HaveSenders (without_first (λ x. eqb p x.packet) es) → HaveSenders (cond b es (e ∷ without_first (λ x. eqb p x.packet) es))
      on true others = h.1
      on false others = (h.0, others)

  reads-after : (from : ℤ) (before : Option KernelEvent) (e : KernelEvent) (due : ℕ) (b : Ledger) → Known before → IsSentBy from before e → HaveSenders (b reads) → HaveSenders (after_event e due b reads)
  reads-after from before (Accepted q p s) due b known sent h =
      queue-ways (λ c. HaveSenders (cond c (arrived q (entry_on q p s due) (b q)) (b reads))) reads q
      (λ is.
      let came : before ≡ Some (Taken (pos 3) p s) = subst (λ z. IsFrom (same_queue z reads) from before p s) (sym is) sent in
      let sender : word_one p ≡ s = subst Known came known in
      subst (λ z. HaveSenders (arrived z (entry_on z p s due) (b z))) is (end-senders (entry_on reads p s due) (b reads) sender h))
      (λ other. h)
  reads-after from before (Taken q p s) due b known sent h =
      queue-ways (λ c. HaveSenders (cond c (drop 1 (b q)) (b reads))) reads q (λ is. subst (λ z. HaveSenders (drop 1 (b z))) is (rest-senders (b reads) h)) (λ other. h)
  reads-after from before (Dequeued q p) due b known sent h =
      queue-ways (λ c. HaveSenders (cond c (without_first (λ e. eqb p e.packet) (b q)) (b reads))) reads q
      (λ is. subst (λ z. HaveSenders (without_first (λ e. eqb p e.packet) (b z))) is (other-senders p (b reads) h)) (λ other. h)
  reads-after from before (Runs t) due b known sent h = h

  -- ---- events one after the other

  read-sender : (e : KernelEvent) (b : Ledger) → HaveSenders (b reads) → IsOfReads e → May e b → HasSender words e
  read-sender (Accepted q p s) b h is may = tt
  read-sender (Taken q p s) b h is may = first-sender p s (b reads) h (subst (λ z. IsFirst p s (b z)) is may)
  read-sender (Dequeued q p) b h is may = tt
  read-sender (Runs t) b h is may = tt

  any-sender : (e : KernelEvent) (b : Ledger) → ((q : ℤ) → HaveSenders (b q)) → May e b → HasSender words e
  any-sender (Accepted q p s) b h may = tt
  any-sender (Taken q p s) b h may = first-sender p s (b q) (h q) may
  any-sender (Dequeued q p) b h may = tt
  any-sender (Runs t) b h may = tt

  module _ (due : KernelEvent → ℕ) (from : ℤ) where
    later-senders : (before : Option KernelEvent) (es : List KernelEvent) (b a : Ledger) → Known before → HaveSenders (b reads) → TakesReads es → AreSentBy from before es → Follows (timed_by due es) b a
        → AllByRecursion (HasSender words) es
    later-senders before [] b a known h takes sent follows = tt
    later-senders before (e ∷ es) b a known h takes sent follows =
        let now : HasSender words e = read-sender e b h takes.0 follows.0 in
        (now, later-senders (Some e) es (after_event e (due e) b) a now (reads-after from before e (due e) b known sent.0 h) takes.1 sent.1 follows.1)

    -- where the first may be any packet, and the later ones reads
    pub first-senders : (es : List KernelEvent) (b a : Ledger) → ((q : ℤ) → HaveSenders (b q)) → TakesFirst es → AreSentBy from None es → Follows (timed_by due es) b a → AllByRecursion (HasSender words) es
    first-senders [] b a h takes sent follows = tt
    first-senders (e ∷ es) b a h takes sent follows =
        let now : HasSender words e = any-sender e b h follows.0 in
        (now, later-senders (Some e) es (after_event e (due e) b) a now (reads-after from None e (due e) b tt sent.0 (h reads)) takes sent.1 follows.1)

  -- ---- devices

  each-returned : (qs : List QueuedPacket) → AreSenders words qs → AllByRecursion (HasSender words) (events_of_return qs)
  each-returned [] h = tt
  each-returned (q ∷ qs) h = (ap signed h.0, (tt, each-returned qs h.1))

  due-senders : (now : ℕ) (qs : List QueuedPacket) → AreSenders words qs → AreSenders words (due_packets now qs)
  due-senders now [] h = tt
  due-senders now (q ∷ qs) h = on (leb q.last now) (due-senders now qs h.1)
    where
      on : (b : Bool) → AreSenders words (due_packets now qs) → AreSenders words (cond b (q ∷ due_packets now qs) (due_packets now qs))
      on true others = (h.0, others)
      on false others = others

  one-returned : (d : Device) (res1 : ℕ) (ps : List QueuedPacket) (l : Lists) → AreSenders words ps → AllByRecursion (HasSender words) (first_returned d res1 ps l).events
  one-returned d res1 [] l h = tt
  one-returned d res1 (p ∷ ps) l h = (ap signed h.0, (tt, tt))

  met-senders : (bytes : List ℕ) (l : Lists) → AreSenders words l.keyboard → AllByRecursion (HasSender words) (met bytes l).events
  met-senders [] l h = tt
  met-senders (byte ∷ bytes) l h = one-returned devices.Keyboard byte l.keyboard l h

-- ---- the parts of a step

module _ (k : Kernel) (h : HoldsLists (image k) k.lists) where
  pub tick-senders : AllByRecursion (HasSender (image k)) (tick k).events
  unfolding tick
  tick-senders =
      due-or-not (λ x. AllByRecursion (HasSender (image k)) x.events) (eqb (k.steps % k.lists.period) 0) (λ j. served j (ticked j.lists)) k
      (λ due. each-returned (image k) (due_packets (k.lists.tick + 1) k.lists.clock) (due-senders (image k) (k.lists.tick + 1) k.lists.clock (place-senders (image k) k.lists h Clock)))
      (λ none. tt)

  pub key-senders : AllByRecursion (HasSender (image k)) (key k).events
  unfolding key
  key-senders =
      let j : Kernel = with_key_typed k in
      met-senders (image k) j.type_ahead j.lists (subst (λ (l : Lists). AreSenders (image k) l.keyboard) (sym (typed-lists k)) (place-senders (image k) k.lists h Keyboard))

  pub output-senders : AllByRecursion (HasSender (image k)) (output k).events
  unfolding output
  output-senders = one-returned (image k) devices.Output 0 k.lists.output k.lists (place-senders (image k) k.lists h Output)

  dispatch-first : TakesFirst (dispatch k).events
  unfolding dispatch
  dispatch-first = three-ways (image k) k.lists k.regs (λ d. TakesFirst d.events) (λ t g. tt) (λ none. idle (eqb k.lists.running 0)) (λ t is. taken t (takes_packet t) t.queue)
    where
      idle : (b : Bool) → TakesFirst (cond b [] (Runs 0 ∷ []))
      idle true = tt
      idle false = tt

      taken : (t : Task) (b : Bool) (ps : List QueuedPacket) → TakesFirst (map (taken_event t) (cond b (take 1 ps) []) ++ Runs t.id ∷ [])
      taken t true [] = tt
      taken t true (p ∷ ps) = (tt, tt)
      taken t false ps = tt

  -- what accepts none sends none
  none-sent : (from : ℤ) (before : Option KernelEvent) (es : List KernelEvent) → AllByRecursion IsNoAcceptance es → AreSentBy from before es
  none-sent from before [] x = tt
  none-sent from before (Accepted q p s ∷ es) x = absurd x.0
  none-sent from before (Taken q p s ∷ es) x = (tt, none-sent from (Some (Taken q p s)) es x.1)
  none-sent from before (Dequeued q p ∷ es) x = (tt, none-sent from (Some (Dequeued q p)) es x.1)
  none-sent from before (Runs t ∷ es) x = (tt, none-sent from (Some (Runs t)) es x.1)

  pub dispatch-senders : AllByRecursion (HasSender (image k)) (dispatch k).events
  dispatch-senders =
      let due : KernelEvent → ℕ = λ e. 0 in
      first-senders (image k) due (pos 0) (dispatch k).events (ledger_of k.lists) (ledger_of (dispatch k).kernel.lists) (ledger-senders (image k) k.lists h) dispatch-first
      (none-sent (pos 0) None (dispatch k).events (dispatch-accepts k)) (dispatch-moved due k h.valid)
