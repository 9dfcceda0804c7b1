-- What the clock, the keyboard and the output leave of a kernel.
use Rattle.std.proofs.Common.{◌≡◌, ℕ, ◌+◌, ◌%◌, ◌≤◌, Bool, true, false, List, [], ◌∷◌, ◌++◌, cond, eqb, leb, length, ltb, refl, sym, ap, ◌∙◌, subst, arith}
use Rattle.std.specs.List.{AllByRecursion}
use Rattle.std.proofs.lemmas.Bool.{ltb-true}
use Rattle.std.proofs.lemmas.List.{length-append}
use Rattle.word_store.specs.declared.registers.Regs.{Regs}
use Rattle.kernel_lists.specs.PacketQueue.QueueWords.{QueuedPacket}
use Rattle.kernel_model.specs.KernelRecord.Changes.{queue_of, with_queue}
use Rattle.kernel_model.specs.KernelRecord.Image.{settled}
use Rattle.kernel_model.specs.KernelRecord.Kernel.{Kernel}
use Rattle.kernel_model.specs.KernelRecord.Lists.{Lists}
use Rattle.kernel_model.specs.KernelRecord.ValidQueues.Place.{Clock, Work}
use Rattle.kernel_model.specs.KernelDispatch.Dispatch.{CanDispatch}
use Rattle.kernel_calls.specs.PacketCalls.Returned.{DeviceChange, first_returned, place_of, returned_by, with_work_for}
use Rattle.kernel_calls.specs.declared.packet_calls.returns.Device.{Device}
use Rattle.kernel_calls.specs.declared.packet_calls.returns.Device.TheVariants as devices
use Rattle.kernel_devices.specs.Tick.{due_packets, due_returned, later_packets, ticked, with_returned, with_tick}
use Rattle.kernel_devices.specs.Keys.{left_typed, met}
use Rattle.kernel_devices.specs.Printed.{finished}
use Rattle.kernel_devices.specs.Typed.{with_typed}
use Rattle.guest_turns.specs.GuestTurn.{Numbers, numbers_of}
use Rattle.guest_turns.proofs.RunningField.{RunsIn, queue-runs}
use Rattle.kernel_machine.specs.KernelSteps.Parts.{HasSameKeys, HasSameResidents, IsSameMachine, numbers_after_tick}
use Rattle.kernel_machine.specs.KernelSteps.Step.{key, output, served, tick, typed_by, with_key_typed}
use Rattle.kernel_machine.specs.KernelSteps.Stepped.{Stepped, quietly}
use Rattle.kernel_machine.proofs.KernelSteps.RunningCaller.{dispatch-after}
use Rattle.kernel_machine.proofs.KernelSteps.TurnWays.{due-or-not}

-- ---- the lists: packets only move

module _ (nums : Numbers) where
  work-runs : (l : Lists) (id : ℕ) (p : QueuedPacket) → RunsIn nums l → RunsIn nums (with_work_for id p l)
  work-runs l id p h = queue-runs nums l (Work id) (queue_of (Work id) l ++ p ∷ []) h

  first-runs : (d : Device) (res1 : ℕ) (ps : List QueuedPacket) (l : Lists) → RunsIn nums l → RunsIn nums (first_returned d res1 ps l).lists
  first-runs d res1 [] l h = h
  first-runs d res1 (p ∷ ps) l h = work-runs (with_queue (place_of d) ps l) p.sender (returned_by d res1 p) (queue-runs nums l (place_of d) ps h)

  met-runs : (bytes : List ℕ) (l : Lists) → RunsIn nums l → RunsIn nums (met bytes l).lists
  met-runs [] l h = h
  met-runs (byte ∷ bytes) l h = first-runs devices.Keyboard byte l.keyboard l h

  finished-runs : (l : Lists) → RunsIn nums l → RunsIn nums (finished l).lists
  finished-runs l h = first-runs devices.Output 0 l.output l h

  all-returned : (ps : List QueuedPacket) (l : Lists) → RunsIn nums l → RunsIn nums (with_returned ps l)
  all-returned [] l h = h
  all-returned (p ∷ ps) l h = all-returned ps (with_work_for p.sender (returned_by devices.Clock 0 p) l) (work-runs l p.sender (returned_by devices.Clock 0 p) h)

  due-runs : (now : ℕ) (l : Lists) → RunsIn nums l → RunsIn nums (due_returned now l).lists
  due-runs now l h = all-returned (due_packets now l.clock) (with_queue Clock (later_packets now l.clock) l) (queue-runs nums l Clock (later_packets now l.clock) h)

-- ---- what a dispatch asks

abbrev ticked_numbers : Lists → Numbers
ticked_numbers l = record (numbers_of l) { tick = l.tick + 1 }

runs-now : (l : Lists) (r : Regs) → CanDispatch l r → RunsIn (numbers_of l) l
runs-now l r can = record { numbers = refl; alone = can.field }

runs-ticked : (l : Lists) (r : Regs) → CanDispatch l r → RunsIn (ticked_numbers l) (with_tick (l.tick + 1) l)
runs-ticked l r can = record { numbers = refl; alone = can.field }

-- ---- what a device leaves

module _ (k : Kernel) (m : DeviceChange) where
  served-same : IsSameMachine k (served k m).kernel
  unfolding settled
  served-same = record { steps = refl }

  served-residents : HasSameResidents k (served k m).kernel
  unfolding settled
  served-residents = record { console = refl; shell = refl; disc = refl; pipes = refl }

  served-stop : (served k m).kernel.stop ≡ k.stop
  unfolding settled
  served-stop = refl

  served-keys : HasSameKeys k (served k m).kernel
  unfolding settled
  served-keys = record { keys = refl; ahead = refl }

  served-dispatch : CanDispatch m.lists k.regs → CanDispatch (served k m).kernel.lists (served k m).kernel.regs
  unfolding settled
  served-dispatch can = can

  served-numbers : numbers_of (served k m).kernel.lists ≡ numbers_of m.lists
  unfolding settled
  served-numbers = refl

-- ---- the clock

module _ (k : Kernel) where
  tick-ways : (P : Stepped → Type 0) → (eqb (k.steps % k.lists.period) 0 ≡ true → P (served k (ticked k.lists))) → (eqb (k.steps % k.lists.period) 0 ≡ false → P (quietly k)) → P (tick k)
  unfolding tick
  tick-ways P due other = due-or-not P (eqb (k.steps % k.lists.period) 0) (λ j. served j (ticked j.lists)) k due other

  pub tick-same : IsSameMachine k (tick k).kernel
  tick-same = tick-ways (λ x. IsSameMachine k x.kernel) (λ due. served-same k (ticked k.lists)) (λ none. record { steps = refl })

  pub tick-residents : HasSameResidents k (tick k).kernel
  tick-residents = tick-ways (λ x. HasSameResidents k x.kernel) (λ due. served-residents k (ticked k.lists)) (λ none. record { console = refl; shell = refl; disc = refl; pipes = refl })

  pub tick-stop : (tick k).kernel.stop ≡ k.stop
  tick-stop = tick-ways (λ x. x.kernel.stop ≡ k.stop) (λ due. served-stop k (ticked k.lists)) (λ none. refl)

  pub tick-keys : HasSameKeys k (tick k).kernel
  tick-keys = tick-ways (λ x. HasSameKeys k x.kernel) (λ due. served-keys k (ticked k.lists)) (λ none. record { keys = refl; ahead = refl })

  module _ (can : CanDispatch k.lists k.regs) where
    ticked-runs : RunsIn (ticked_numbers k.lists) (ticked k.lists).lists
    ticked-runs = due-runs (ticked_numbers k.lists) (k.lists.tick + 1) (with_tick (k.lists.tick + 1) k.lists) (runs-ticked k.lists k.regs can)

    pub tick-dispatch : CanDispatch (tick k).kernel.lists (tick k).kernel.regs
    tick-dispatch =
        tick-ways (λ x. CanDispatch x.kernel.lists x.kernel.regs)
        (λ due. served-dispatch k (ticked k.lists) (dispatch-after (ticked_numbers k.lists) k.lists (ticked k.lists).lists k.regs can refl ticked-runs)) (λ none. can)

    pub tick-numbers : numbers_of (tick k).kernel.lists ≡ numbers_after_tick k
    tick-numbers =
        let now : Bool → Numbers = λ b. record (numbers_of k.lists) { tick = cond b (k.lists.tick + 1) k.lists.tick } in
        tick-ways (λ x. numbers_of x.kernel.lists ≡ numbers_after_tick k) (λ due. served-numbers k (ticked k.lists) ∙ ticked-runs.numbers ∙ ap now (sym due)) (λ none. ap now (sym none))

-- ---- the keyboard

-- at most one key has come by this step
typed-ways : (P : Kernel → Type 0) (keys : List (ℕ × ℕ)) (k : Kernel) → P k
    → ((key : ℕ × ℕ) (rest : List (ℕ × ℕ)) → keys ≡ key ∷ rest → P (record k { keys = rest; type_ahead = with_typed key.1 k.type_ahead })) → P (typed_by keys k)
typed-ways P [] k none some = none
typed-ways P (key ∷ rest) k none some = on (leb key.0 k.steps)
  where
    on : (b : Bool) → P (cond b (record k { keys = rest; type_ahead = with_typed key.1 k.type_ahead }) k)
    on true = some key rest refl
    on false = none

pub most-typed : (byte : ℕ) (bytes : List ℕ) → length bytes ≤ 128 → length (with_typed byte bytes) ≤ 128
most-typed byte bytes most = on (ltb (length bytes) 128) refl
  where
    on : (b : Bool) → ltb (length bytes) 128 ≡ b → length (cond b (bytes ++ byte ∷ []) bytes) ≤ 128
    on true e = omega (arith, length-append bytes (byte ∷ []), ltb-true (length bytes) 128 e)
    on false e = most

most-left : (bytes : List ℕ) (ps : List QueuedPacket) → length bytes ≤ 128 → length (left_typed bytes ps) ≤ 128
most-left bytes [] most = most
most-left [] (p ∷ ps) most = most
most-left (byte ∷ bytes) (p ∷ ps) most = omega (arith, most)

module _ (k : Kernel) where
  abbrev typed : Kernel
  typed = with_key_typed k

  abbrev met_by : DeviceChange
  met_by = met typed.type_ahead typed.lists

  abbrev left : Kernel
  left = record typed { type_ahead = left_typed typed.type_ahead typed.lists.keyboard }

  typed-same : IsSameMachine k typed
  typed-same =
      typed-ways (λ j. IsSameMachine k j) k.keys k (record { steps = refl })
      (λ key rest is. record { steps = refl })

  typed-residents : HasSameResidents k typed
  typed-residents =
      typed-ways (λ j. HasSameResidents k j) k.keys k (record { console = refl; shell = refl; disc = refl; pipes = refl })
      (λ key rest is. record { console = refl; shell = refl; disc = refl; pipes = refl })

  pub typed-lists : typed.lists ≡ k.lists
  typed-lists = typed-ways (λ j. j.lists ≡ k.lists) k.keys k refl (λ key rest is. refl)

  pub key-same : IsSameMachine k (key k).kernel
  unfolding key settled
  key-same = record { steps = typed-same.steps }

  pub key-residents : HasSameResidents k (key k).kernel
  unfolding key settled
  key-residents = record { console = typed-residents.console; shell = typed-residents.shell; disc = typed-residents.disc; pipes = typed-residents.pipes }

  pub key-stop : (key k).kernel.stop ≡ k.stop
  unfolding key settled
  key-stop = typed-ways (λ j. j.stop ≡ k.stop) k.keys k refl (λ key rest is. refl)

  pub key-keys : (P : ℕ × ℕ → Type 0) → AllByRecursion P k.keys → AllByRecursion P (key k).kernel.keys
  unfolding key settled
  key-keys P all = typed-ways (λ j. AllByRecursion P j.keys) k.keys k all (λ key rest is. (subst (AllByRecursion P) is all).1)

  pub key-ahead : length k.type_ahead ≤ 128 → length (key k).kernel.type_ahead ≤ 128
  unfolding key settled
  key-ahead most =
      most-left typed.type_ahead typed.lists.keyboard (typed-ways (λ j. length j.type_ahead ≤ 128) k.keys k most (λ key rest is. most-typed key.1 k.type_ahead most))

  module _ (can : CanDispatch k.lists k.regs) where
    typed-dispatch : CanDispatch typed.lists typed.regs
    typed-dispatch = typed-ways (λ j. CanDispatch j.lists j.regs) k.keys k can (λ key rest is. can)

    met-now : RunsIn (numbers_of typed.lists) met_by.lists
    met-now = met-runs (numbers_of typed.lists) typed.type_ahead typed.lists (runs-now typed.lists typed.regs typed-dispatch)

    pub key-dispatch : CanDispatch (key k).kernel.lists (key k).kernel.regs
    unfolding key
    key-dispatch = served-dispatch left met_by (dispatch-after (numbers_of typed.lists) typed.lists met_by.lists typed.regs typed-dispatch refl met-now)

    pub key-numbers : numbers_of (key k).kernel.lists ≡ numbers_of k.lists
    unfolding key
    key-numbers = served-numbers left met_by ∙ met-now.numbers ∙ ap numbers_of typed-lists

-- ---- the output

module _ (k : Kernel) where
  pub output-same : IsSameMachine k (output k).kernel
  unfolding output
  output-same = served-same k (finished k.lists)

  pub output-residents : HasSameResidents k (output k).kernel
  unfolding output
  output-residents = served-residents k (finished k.lists)

  pub output-stop : (output k).kernel.stop ≡ k.stop
  unfolding output
  output-stop = served-stop k (finished k.lists)

  pub output-keys : HasSameKeys k (output k).kernel
  unfolding output
  output-keys = served-keys k (finished k.lists)

  module _ (can : CanDispatch k.lists k.regs) where
    finished-now : RunsIn (numbers_of k.lists) (finished k.lists).lists
    finished-now = finished-runs (numbers_of k.lists) k.lists (runs-now k.lists k.regs can)

    pub output-dispatch : CanDispatch (output k).kernel.lists (output k).kernel.regs
    unfolding output
    output-dispatch = served-dispatch k (finished k.lists) (dispatch-after (numbers_of k.lists) k.lists (finished k.lists).lists k.regs can refl finished-now)

    pub output-numbers : numbers_of (output k).kernel.lists ≡ numbers_of k.lists
    unfolding output
    output-numbers = served-numbers k (finished k.lists) ∙ finished-now.numbers
