-- The events of a step's parts: what devices return, and what a dispatch takes.
use Rattle.std.proofs.Common.{◌≡◌, ℕ, ℤ, negsuc, ◌+◌, ◌%◌, Bool, true, false, cond, eqb, is_some, None, List, [], ◌∷◌, ◌++◌, filter, leb, map, refl, ap, ◌∙◌}
use Rattle.std.specs.List.{AllByRecursion}
use Rattle.std.proofs.lemmas.List.{append_assoc}
use Rattle.word_store.specs.Arithmetic.{signed}
use Rattle.kernel_lists.specs.PacketQueue.QueueWords.{QueuedPacket}
use Rattle.kernel_lists.specs.declared.packet_queue.events.KernelEvent.{KernelEvent}
use Rattle.kernel_lists.specs.declared.packet_queue.events.KernelEvent.TheVariants.{Accepted, Taken, Dequeued, Runs}
use Rattle.kernel_model.specs.KernelRecord.Image.{image}
use Rattle.kernel_model.specs.KernelRecord.Kernel.{Kernel}
use Rattle.kernel_model.specs.KernelRecord.Lists.{Lists}
use Rattle.kernel_model.specs.KernelRecord.Task.{Task}
use Rattle.kernel_model.specs.KernelDispatch.Dispatch.{taken_event, packets_taken}
use Rattle.kernel_calls.specs.PacketCalls.Returned.{first_returned}
use Rattle.kernel_calls.specs.declared.packet_calls.returns.Device.TheVariants as devices
use Rattle.kernel_devices.specs.Tick.{due_packets, events_of_return, ticked}
use Rattle.kernel_devices.specs.Keys.{met}
use Rattle.kernel_machine.specs.KernelSteps.Step.{after_the_turn, dispatch, key, output, served, step, tick, turn, unless_stopped, with_key_typed, with_step}
use Rattle.kernel_machine.specs.KernelSteps.Stepped.{Stepped, and_then, quietly, where_due}
use Rattle.kernel_machine.proofs.KernelSteps.DispatchKept.{three-ways}
use Rattle.tripos_machine.specs.EventHistory.Acceptances.{taken_from}
use Rattle.tripos_machine.specs.EventHistory.Ledger.{clock, same_queue}
use Rattle.tripos_machine.specs.PacketHistory.Senders.{AreReturns, IsNoAcceptance, due_now, events_of_parts, pairs_at_clock}

-- ---- devices

clock-returns : (qs : List QueuedPacket) → AreReturns (negsuc 0) (events_of_return qs)
clock-returns [] = tt
clock-returns (q ∷ qs) = (refl, refl, refl, refl, clock-returns qs)

keys-return : (res1 : ℕ) (ps : List QueuedPacket) (l : Lists) → AreReturns (negsuc 1) (first_returned devices.Keyboard res1 ps l).events
keys-return res1 [] l = tt
keys-return res1 (p ∷ ps) l = (refl, refl, refl, refl, tt)

output-return : (res1 : ℕ) (ps : List QueuedPacket) (l : Lists) → AreReturns (negsuc 2) (first_returned devices.Output res1 ps l).events
output-return res1 [] l = tt
output-return res1 (p ∷ ps) l = (refl, refl, refl, refl, tt)

met-returns : (bytes : List ℕ) (l : Lists) → AreReturns (negsuc 1) (met bytes l).events
met-returns [] l = tt
met-returns (byte ∷ bytes) l = keys-return byte l.keyboard l

pub tick-returns : (k : Kernel) → AreReturns (negsuc 0) (tick k).events
unfolding tick
tick-returns k = on (eqb (k.steps % k.lists.period) 0)
  where
    on : (b : Bool) → AreReturns (negsuc 0) (where_due b (λ j. served j (ticked j.lists)) k).events
    on true = clock-returns (due_packets (k.lists.tick + 1) k.lists.clock)
    on false = tt

pub key-returns : (k : Kernel) → AreReturns (negsuc 1) (key k).events
unfolding key
key-returns k = met-returns (with_key_typed k).type_ahead (with_key_typed k).lists

pub output-returns : (k : Kernel) → AreReturns (negsuc 2) (output k).events
unfolding output
output-returns k = output-return 0 k.lists.output k.lists

-- a tick takes exactly what is due, in the order of the queue
all-taken : (qs : List QueuedPacket) → taken_from clock (events_of_return qs) ≡ pairs_at_clock qs
all-taken [] = refl
all-taken (q ∷ qs) = ap (λ z. (q.address, signed q.sender) ∷ z) (all-taken qs)

pub tick-takes : (k : Kernel) → taken_from clock (tick k).events ≡ pairs_at_clock (due_now k k.lists.clock)
unfolding tick
tick-takes k = on (eqb (k.steps % k.lists.period) 0)
  where
    on : (b : Bool) → taken_from clock (where_due b (λ j. served j (ticked j.lists)) k).events ≡ pairs_at_clock (cond b (filter (λ p. leb p.last (k.lists.tick + 1)) k.lists.clock) [])
    on true = all-taken (due_packets (k.lists.tick + 1) k.lists.clock)
    on false = refl

-- another device takes nothing from the clock's queue
returns-elsewhere : (d : ℤ) → same_queue d clock ≡ false → (es : List KernelEvent) → AreReturns d es → taken_from clock es ≡ []
returns-elsewhere d other [] h = refl
returns-elsewhere d other (Accepted q p s ∷ es) h = absurd h
returns-elsewhere d other (Dequeued q p ∷ es) h = absurd h
returns-elsewhere d other (Runs t ∷ es) h = absurd h
returns-elsewhere d other (Taken q p s ∷ []) h = absurd h
returns-elsewhere d other (Taken q p s ∷ Accepted r z t ∷ es) h =
    ap (λ b. cond b ((p, s) ∷ []) [] ++ taken_from clock es) (ap (λ x. same_queue x clock) h.0 ∙ other) ∙ returns-elsewhere d other es h.4
returns-elsewhere d other (Taken q p s ∷ Taken r z t ∷ es) h = absurd h
returns-elsewhere d other (Taken q p s ∷ Dequeued r z ∷ es) h = absurd h
returns-elsewhere d other (Taken q p s ∷ Runs t ∷ es) h = absurd h

pub key-takes : (k : Kernel) → taken_from clock (key k).events ≡ []
key-takes k = returns-elsewhere (negsuc 1) refl (key k).events (key-returns k)

pub output-takes : (k : Kernel) → taken_from clock (output k).events ≡ []
output-takes k = returns-elsewhere (negsuc 2) refl (output k).events (output-returns k)

-- ---- dispatch

pub dispatch-accepts : (k : Kernel) → AllByRecursion IsNoAcceptance (dispatch k).events
unfolding dispatch
dispatch-accepts k = three-ways (image k) k.lists k.regs (λ d. AllByRecursion IsNoAcceptance d.events) (λ t g. tt) (λ none. idle (eqb k.lists.running 0)) (λ t is. taken t (packets_taken t))
  where
    idle : (b : Bool) → AllByRecursion IsNoAcceptance (cond b [] (Runs 0 ∷ []))
    idle true = tt
    idle false = (tt, tt)

    taken : (t : Task) (ps : List QueuedPacket) → AllByRecursion IsNoAcceptance (map (taken_event t) ps ++ Runs t.id ∷ [])
    taken t [] = (tt, tt)
    taken t (p ∷ ps) = (tt, taken t ps)

pub dispatch-takes : (k : Kernel) → taken_from clock (dispatch k).events ≡ []
unfolding dispatch
dispatch-takes k = three-ways (image k) k.lists k.regs (λ d. taken_from clock d.events ≡ []) (λ t g. refl) (λ none. idle (eqb k.lists.running 0)) (λ t is. taken t (packets_taken t))
  where
    idle : (b : Bool) → taken_from clock (cond b [] (Runs 0 ∷ [])) ≡ []
    idle true = refl
    idle false = refl

    taken : (t : Task) (ps : List QueuedPacket) → taken_from clock (map (taken_event t) ps ++ Runs t.id ∷ []) ≡ []
    taken t [] = refl
    taken t (p ∷ ps) = taken t ps

-- ---- the step's events are those of its parts

pub step-parts : (k : Kernel) → k.stop ≡ None → (step k).events ≡ events_of_parts k
unfolding step
step-parts k goes =
    ap (λ b. (cond b (quietly k) (and_then (turn (with_step k)) (unless_stopped after_the_turn))).events) (ap is_some goes) ∙ on (is_some x.kernel.stop)
  where
    x : Stepped
    x = turn (with_step k)

    t : Stepped
    t = tick x.kernel

    y : Stepped
    y = key t.kernel

    o : Stepped
    o = output y.kernel

    d : Stepped
    d = dispatch o.kernel

    on : (b : Bool) → x.events ++ (cond b (quietly x.kernel) (after_the_turn x.kernel)).events ≡ cond b x.events (x.events ++ (t.events ++ (y.events ++ (o.events ++ d.events))))
    on true = append-none x.events
      where
        append-none : (es : List KernelEvent) → es ++ [] ≡ es
        append-none [] = refl
        append-none (e ∷ es) = ap (λ z. e ∷ z) (append-none es)
    on false =
        ap (λ z. x.events ++ z)
        (append_assoc (t.events ++ y.events) o.events d.events ∙ append_assoc t.events y.events (o.events ++ d.events))
