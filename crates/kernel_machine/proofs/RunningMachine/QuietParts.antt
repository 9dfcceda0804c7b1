-- How many steps there are before a device acts.
use Rattle.std.proofs.Common.{◌≡◌, ℕ, ◌+◌, ◌-◌, ◌*◌, ◌/◌, ◌<◌, ◌≤◌, false, true, None, List, [], ◌∷◌, get_or, max, leb-false, leb-true, ◌⊎◌, inl, inr, refl, sym, ap, ◌∙◌, subst, arith}
use Rattle.std.specs.Prelude.{is_some, slice_get}
use Rattle.std.proofs.Math.Nat.{div-le_self, div-lt_iff_lt-mul, div-mul-le_self, mul-div_cancel}
use Rattle.std.proofs.lemmas.Bool.{cases_lt, le-leb, lt-leb}
use Rattle.std.proofs.lemmas.Nat.{le-div}
use Rattle.kernel_model.specs.KernelRecord.Ranges.{most_steps}
use Rattle.kernel_lists.specs.PacketQueue.QueueWords.{QueuedPacket}
use Rattle.kernel_model.specs.KernelRecord.HoldsLists.{HoldsLists}
use Rattle.kernel_model.specs.KernelRecord.Kernel.{Kernel}
use Rattle.kernel_model.specs.KernelRecord.Lists.{Lists}
use Rattle.kernel_model.specs.KernelRecord.Recovered.{lists_in}
use Rattle.kernel_model.proofs.KernelRecord.RecoveredLists.{lists-back}
use Rattle.kernel_model.specs.KernelRecord.Changes.{queue_of}
use Rattle.kernel_calls.specs.PacketCalls.Returned.{head_of, place_of}
use Rattle.kernel_calls.specs.declared.packet_calls.returns.Device.{Device}
use Rattle.kernel_calls.specs.declared.packet_calls.returns.Device.TheVariants.{Clock, Keyboard, Output}
use Rattle.kernel_calls.proofs.PacketCalls.DeviceQueues.{none-waits, one-waits}
use Rattle.kernel_devices.specs.Tick.{is_first_due}
use Rattle.kernel_devices.proofs.FirstDue.{due-some}
use Rattle.kernel_machine.specs.declared.running_machine.parts.Parts.{Parts}
use Rattle.kernel_machine.specs.KernelSteps.Quiet.{AreDueAfter, AwaitsTick, ComeAfter, IsQuietFor}
use Rattle.kernel_machine.proofs.KernelSteps.NextTick.{some-period}
use Rattle.kernel_machine.specs.RunningMachine.Script.{still_to_come}
use Rattle.kernel_machine.specs.RunningMachine.Machine.{IsWhole, kernel_of}
use Rattle.kernel_machine.specs.RunningMachine.Runs.{ServesNone}
use Rattle.kernel_machine.proofs.RunningMachine.OneMachine.{stop-of}

no-byte : (bytes : List ℕ) → is_some (slice_get bytes 0) ≡ false → bytes ≡ []
no-byte [] e = refl
no-byte (byte ∷ bytes) e = cc

not-due : (now : ℕ) (ps : List QueuedPacket) → is_first_due now ps ≡ false → AreDueAfter now ps
not-due now [] e = tt
not-due now (p ∷ ps) e = leb-false p.last now e

was-due : (now : ℕ) (ps : List QueuedPacket) → is_first_due now ps ≡ true → AreDueAfter now ps → ⊥
was-due now [] due after = cc
was-due now (p ∷ ps) due after = (let le = leb-true p.last now due in absurd (omega (arith, le, after)))

-- the latest of two is one of them
pub either-latest : (a b latest : ℕ) → latest ≡ max a b → (latest ≤ a) ⊎ (latest ≤ b)
either-latest a b latest e = elim (cases_lt a b) [ inl low ↦ inr (omega (arith, e, low)) | inr high ↦ inl (omega (arith, e, high)) ]

-- and both are at most that one
pub both-under : (a b latest : ℕ) → latest ≡ max a b → (a ≤ latest) × (b ≤ latest)
both-under a b latest e = elim (cases_lt a b) [ inl low ↦ (omega (arith, e, low), omega (arith, e, low)) | inr high ↦ (omega (arith, e, high), omega (arith, e, high)) ]

-- the word of the root has the ticks
pub held-tick : (s : List ℕ) (l : Lists) → HoldsLists s l → get_or s 108 0 ≡ l.tick
unfolding lists_in
held-tick s l held = ap (λ m. m.tick) (lists-back s l held.valid held.size held.holds)

module _ (p : Parts) (w : IsWhole p None) where
  abbrev now : Kernel
  now = kernel_of p None

  pub goes-on : now.stop ≡ None
  goes-on = stop-of p None

  held : HoldsLists p.store now.lists
  held = w.represents.keeper.lists

  pub ticks-now : now.lists.tick ≡ now.steps / now.lists.period
  ticks-now = w.valid.ticks goes-on

  pub period-now : 0 < now.lists.period
  period-now = some-period now.lists w.valid.lists

  pub period-here : 0 < p.period
  period-here = omega (arith, period-now, w.represents.period)

  pub tick-word : get_or p.store 108 0 ≡ now.lists.tick
  tick-word = held-tick p.store now.lists held

  ticks-here : p.step / p.period ≡ now.lists.tick
  ticks-here = (λ i. w.represents.steps i / w.represents.period i) ∙ sym ticks-now

  pub few-ticks-now : now.lists.tick ≤ most_steps
  few-ticks-now = omega (arith, ticks-now, div-le_self now.steps now.lists.period, w.valid.steps.steps)

  -- ---- before a tick that is to come

  module _ (tick a b : ℕ) (later : now.lists.tick < tick) (left : a ≡ tick) (right : b ≡ p.period) where
    product : a * b ≡ tick * p.period
    product = λ i. left i * right i

    step-before : p.step < tick * p.period
    step-before = (div-lt_iff_lt-mul {k = p.period} {x = p.step} {y = tick} period-here).0 (omega (arith, ticks-here, later))

    pub before-ends : p.step ≤ a * b - 1
    before-ends = omega (arith, product, step-before)

    pub before-ticks : (m : ℕ) → m ≤ a * b - 1 - p.step → (p.step + m) / p.period < tick
    before-ticks m few = (div-lt_iff_lt-mul {k = p.period} {x = p.step + m} {y = tick} period-here).1 (omega (arith, product, step-before, few))

    -- and behind them it has come
    pub tick-next : (p.step + ((a * b - 1 - p.step) + 1)) / p.period ≡ tick
    tick-next =
        let end : p.step + ((a * b - 1 - p.step) + 1) ≡ tick * p.period = omega (arith, product, step-before) in
        ap (λ n. n / p.period) end ∙ mul-div_cancel tick period-here

  -- the ticks do not fall
  pub ticks-grow : (m : ℕ) → now.lists.tick ≤ (p.step + m) / p.period
  ticks-grow m =
      let least : now.lists.tick * p.period ≤ p.step = omega (arith, ap (λ t. t * p.period) ticks-here, div-mul-le_self p.step p.period) in
      le-div now.lists.tick (p.step + m) p.period period-here (omega (arith, least))

  -- ---- before the clock returns a packet

  pub awaits-none : (m : ℕ) → get_or p.store 105 0 ≡ 0 → AwaitsTick m now.lists
  awaits-none m none = inl (subst (AreDueAfter m) (sym (none-waits p.store now.lists Clock held none)) tt)

  pub awaits-first : (m packet due next latest : ℕ) → packet ≡ get_or p.store 105 0 → (packet ≡ 0 → ⊥) → due ≡ get_or p.store (packet + 4) 0 → next ≡ now.lists.tick + 1 → (latest ≤ due) ⊎ (latest ≤ next)
      → (p.step + m) / p.period < latest → AwaitsTick ((p.step + m) / p.period) now.lists
  awaits-first m packet due next latest is some due_is next_is (inl most) low =
      let x : ℕ = (p.step + m) / p.period in
      inl (not-due x now.lists.clock (sym (due-some p.store now.lists x held packet is some due due_is) ∙ lt-leb due x (omega (arith, low, most))))
  awaits-first m packet due next latest is some due_is next_is (inr most) low = inr (omega (arith, low, most, next_is, ticks-grow m))

  -- one is returned at the latest of the ticks at which it is due and the next one
  pub returned-next : (packet due next latest : ℕ) → packet ≡ get_or p.store 105 0 → (packet ≡ 0 → ⊥) → due ≡ get_or p.store (packet + 4) 0 → next ≡ now.lists.tick + 1 → due ≤ latest → next ≤ latest → AwaitsTick latest now.lists → ⊥
  returned-next packet due next latest is some due_is next_is over later (inl after) =
      was-due latest now.lists.clock (sym (due-some p.store now.lists latest held packet is some due due_is) ∙ le-leb due latest over) after
  returned-next packet due next latest is some due_is next_is over later (inr ticks) = absurd (omega (arith, ticks, later, next_is))

  -- ---- the other two

  first-waits : (d : Device) (word : ℕ) → word ≡ get_or p.store (head_of d) 0 → (word ≡ 0 → ⊥) → queue_of (place_of d) now.lists ≡ [] → ⊥
  first-waits d word is some none = (let first = one-waits p.store now.lists d held word is some in let other = sym first.is ∙ none in cc)

  pub serves-output : (word : ℕ) → word ≡ get_or p.store 107 0 → (word ≡ 0 → ⊥) → ServesNone now → ⊥
  serves-output word is some none = first-waits Output word is some none.output

  pub serves-keyboard : (word : ℕ) → word ≡ get_or p.store 106 0 → (word ≡ 0 → ⊥) → is_some (slice_get p.tty 0) ≡ true → ServesNone now → ⊥
  serves-keyboard word is some byte none = on none.keyboard
    where
      typed : (bytes : List ℕ) → bytes ≡ [] → is_some (slice_get bytes 0) ≡ true → ⊥
      typed bytes empty there = (let other : false ≡ true = sym (ap (λ b. is_some (slice_get b 0)) empty) ∙ there in cc)

      on : (now.lists.keyboard ≡ []) ⊎ (now.type_ahead ≡ []) → ⊥
      on (inl queue) = first-waits Keyboard word is some queue
      on (inr empty) = typed p.tty (w.represents.type_ahead ∙ empty) byte

  pub serves-none : get_or p.store 107 0 ≡ 0 → get_or p.store 106 0 ≡ 0 → ServesNone now
  serves-none out keys = record { output = none-waits p.store now.lists Output held out; keyboard = inl (none-waits p.store now.lists Keyboard held keys) }

  pub serves-nobody : get_or p.store 107 0 ≡ 0 → is_some (slice_get p.tty 0) ≡ false → ServesNone now
  serves-nobody out none = record { output = none-waits p.store now.lists Output held out; keyboard = inr (sym w.represents.type_ahead ∙ no-byte p.tty none) }

  -- ---- all of them

  -- so that many steps are quiet, but for none
  pub quiet-all : (m : ℕ) → ServesNone now → ComeAfter (p.step + m) (still_to_come p.keys) → AwaitsTick ((p.step + m) / p.period) now.lists → IsQuietFor m now
  quiet-all m none keys clock = record {
    output = none.output;
    keyboard = none.keyboard;
    keys = subst (ComeAfter (now.steps + m)) w.represents.keys (subst (λ n. ComeAfter (n + m) (still_to_come p.keys)) w.represents.steps keys);
    clock = subst (λ n. AwaitsTick n now.lists) (λ i. (w.represents.steps i + m) / w.represents.period i) clock;
  }
