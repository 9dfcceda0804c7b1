-- What a step leaves: a valid kernel, if its lists are.
use Rattle.std.proofs.Common.{◌≡◌, ◌/◌, ◌%◌, ◌<◌, ◌≤◌, Bool, true, false, None, ◌≢◌, eqb, length, refl, sym, ap, ◌∙◌, subst, arith}
use Rattle.std.specs.List.{AllByRecursion}
use Rattle.kernel_model.specs.KernelRecord.Ranges.{most_steps}
use Rattle.ram_disc.specs.Disc.{IsDisc}
use Rattle.kernel_model.specs.KernelRecord.Between.{AreValidResidents, FirstRuns}
use Rattle.kernel_model.specs.KernelRecord.Image.{HasPlainWords, image, settled}
use Rattle.kernel_model.specs.KernelRecord.Kernel.{Kernel}
use Rattle.kernel_model.specs.KernelRecord.ValidKernel.{IsValid}
use Rattle.kernel_model.specs.KernelRecord.ValidLists.{AreValid}
use Rattle.kernel_model.specs.KernelDispatch.Dispatch.{CanDispatch}
use Rattle.kernel_devices.specs.Tick.{ticked}
use Rattle.kernel_devices.specs.Keys.{met}
use Rattle.guest_turns.specs.GuestTurn.{Numbers, numbers_of}
use Rattle.kernel_machine.specs.KernelSteps.Parts.{CanTurn, HasSameKeys, HasSameResidents, IsSameMachine, IsSameSystem, IsTaken, RunsFirst, numbers_after_tick}
use Rattle.kernel_machine.specs.KernelSteps.Step.{dispatch, key, output, served, step, tick, turn, with_key_typed, with_step}
use Rattle.kernel_machine.specs.KernelSteps.Stepped.{where_due}
use Rattle.kernel_machine.proofs.KernelSteps.CallRules.{KeepsRules, keeps-none}
use Rattle.kernel_machine.proofs.KernelSteps.DeviceRules.{NoDeviceHas, dispatch-keeps, finished-output-keeps, met-devices, met-keeps, no-device-has, tick-keeps, ticked-devices}
use Rattle.kernel_machine.proofs.KernelSteps.DevicesKept.{key-ahead, key-dispatch, key-keys, key-numbers, key-residents, key-same, output-dispatch, output-keys, output-numbers, output-residents, output-same, tick-dispatch, tick-keys, tick-numbers, tick-residents, tick-same, typed-lists}
use Rattle.kernel_machine.proofs.KernelSteps.DispatchKept.{dispatch-numbers, runs-first}
use Rattle.kernel_machine.proofs.KernelSteps.NextTick.{some-period, tick-periods}
use Rattle.kernel_machine.proofs.KernelSteps.OwnersRules.{system-of}
use Rattle.kernel_machine.proofs.KernelSteps.RunningCaller.{valid-runs, runs-dispatches}
use Rattle.kernel_machine.proofs.KernelSteps.StepEnds.{step-ends}
use Rattle.kernel_machine.proofs.KernelSteps.TurnKept.{numbers-turn, turn-dispatch, turn-keys, turn-same}
use Rattle.kernel_machine.proofs.KernelSteps.TurnRules.{rules-kept, turn-rules}

-- ---- what a step keeps up to the dispatch, and after it

-- the kernel j inside a step that began with k, or at its end
pub record IsAmid (k j : Kernel) : Type 0 where
  pub same : IsSameMachine k j
  pub system : IsSameSystem k.lists j.lists
  pub period : j.lists.period ≡ k.lists.period
  pub keys : AllByRecursion (λ key. key.0 ≤ most_steps) j.keys
  pub rules : AreValidResidents j
  pub can : CanDispatch j.lists j.regs

-- what a dispatch leaves
pub record IsDispatched (j : Kernel) : Type 0 where
  pub ticks : j.lists.tick ≡ j.steps / j.lists.period
  pub runs : FirstRuns j.lists

-- what is valid of it
pub amid-valid : (k j : Kernel) → IsAmid (with_step k) j → k.steps < most_steps → AreValid j.lists → HasPlainWords j → (j.stop ≡ None → IsDispatched j) → IsValid j
amid-valid k j m few v plain on =
    record {
      lists = v;
      plain = plain;
      ticks = λ goes. (on goes).ticks;
      running = λ goes. (on goes).runs;
      registers = m.can.registers;
      residents = m.rules;
      steps = record { steps = omega (arith, few, m.same.steps); keys = m.keys };
    }

-- ---- from part to part

-- a part that leaves what residents keep
amid-then : (k i j : Kernel) (n : Numbers) → IsAmid k i → IsSameMachine i j → HasSameResidents i j → numbers_of j.lists ≡ n → n.version ≡ i.lists.version → n.residents ≡ i.lists.residents → n.period ≡ i.lists.period
    → AllByRecursion (λ key. key.0 ≤ most_steps) j.keys → length j.type_ahead ≤ 128 → KeepsRules i.lists j.lists → CanDispatch j.lists j.regs → IsAmid k j
amid-then k i j n a same residents numbers version there period keys ahead keeps can =
    let system : IsSameSystem i.lists j.lists = record { version = ap (λ x. x.version) numbers ∙ version; residents = ap (λ x. x.residents) numbers ∙ there } in
    record {
      same = record { steps = same.steps ∙ a.same.steps };
      system = record { version = system.version ∙ a.system.version; residents = system.residents ∙ a.system.residents };
      period = ap (λ x. x.period) numbers ∙ period ∙ a.period;
      keys = keys;
      rules = rules-kept i j residents system keeps ahead a.rules;
      can = can;
    }

-- and the keys
amid-beside : (k i j : Kernel) (n : Numbers) → IsAmid k i → IsSameMachine i j → HasSameResidents i j → numbers_of j.lists ≡ n → n.version ≡ i.lists.version → n.residents ≡ i.lists.residents → n.period ≡ i.lists.period
    → HasSameKeys i j → KeepsRules i.lists j.lists → CanDispatch j.lists j.regs → IsAmid k j
amid-beside k i j n a same residents numbers version there period keys keeps can =
    amid-then k i j n a same residents numbers version there period (subst (AllByRecursion (λ key. key.0 ≤ most_steps)) (sym keys.keys) a.keys)
    (omega (arith, a.rules.ahead, ap length keys.ahead)) keeps can

-- ---- the parts

module _ (k j : Kernel) (a : IsAmid k j) (has : NoDeviceHas j.lists) where
  tick-lists : KeepsRules j.lists (tick j).kernel.lists × NoDeviceHas (tick j).kernel.lists
  unfolding tick settled
  tick-lists = on (eqb (j.steps % j.lists.period) 0)
    where
      on : (b : Bool) → KeepsRules j.lists (where_due b (λ i. served i (ticked i.lists)) j).kernel.lists × NoDeviceHas (where_due b (λ i. served i (ticked i.lists)) j).kernel.lists
      on true = (tick-keeps j.lists has.clock, ticked-devices j.lists has)
      on false = (keeps-none j.lists, has)

  amid-tick : IsAmid k (tick j).kernel
  amid-tick =
      amid-beside k j (tick j).kernel (numbers_after_tick j) a (tick-same j) (tick-residents j) (tick-numbers j a.can) refl refl refl (tick-keys j) tick-lists.0 (tick-dispatch j a.can)

  key-lists : KeepsRules j.lists (key j).kernel.lists × NoDeviceHas (key j).kernel.lists
  unfolding key settled
  key-lists =
      let i : Kernel = with_key_typed j in
      subst (λ l. KeepsRules l (met i.type_ahead i.lists).lists × NoDeviceHas (met i.type_ahead i.lists).lists) (typed-lists j)
      (subst (λ l. KeepsRules l (met i.type_ahead l).lists × NoDeviceHas (met i.type_ahead l).lists) (sym (typed-lists j)) (met-keeps i.type_ahead j.lists has.keyboard, met-devices i.type_ahead j.lists has))

  amid-key : IsAmid k (key j).kernel
  amid-key =
      amid-then k j (key j).kernel (numbers_of j.lists) a (key-same j) (key-residents j) (key-numbers j a.can) refl refl refl (key-keys j (λ key. key.0 ≤ most_steps) a.keys)
      (key-ahead j a.rules.ahead) key-lists.0 (key-dispatch j a.can)

  output-lists : KeepsRules j.lists (output j).kernel.lists
  unfolding output settled
  output-lists = finished-output-keeps j.lists has.output

  amid-output : IsAmid k (output j).kernel
  amid-output =
      amid-beside k j (output j).kernel (numbers_of j.lists) a (output-same j) (output-residents j) (output-numbers j a.can) refl refl refl (output-keys j) output-lists (output-dispatch j a.can)

module _ (k : Kernel) where
  pub dispatch-same : IsSameMachine k (dispatch k).kernel
  unfolding dispatch settled
  dispatch-same = record { steps = refl }

  pub dispatch-residents : HasSameResidents k (dispatch k).kernel
  unfolding dispatch settled
  dispatch-residents = record { console = refl; shell = refl; disc = refl; pipes = refl }

  dispatch-keys : HasSameKeys k (dispatch k).kernel
  unfolding dispatch settled
  dispatch-keys = record { keys = refl; ahead = refl }

  pub dispatch-lists : numbers_of (dispatch k).kernel.lists ≡ record (numbers_of k.lists) { running = (dispatch k).kernel.lists.running }
  unfolding dispatch settled
  dispatch-lists = dispatch-numbers (image k) k.lists k.regs

  pub dispatch-rules : KeepsRules k.lists (dispatch k).kernel.lists
  unfolding dispatch settled
  dispatch-rules = dispatch-keeps (image k) k.lists k.regs

  dispatch-runs : CanDispatch k.lists k.regs → AreValid (dispatch k).kernel.lists → RunsFirst (dispatch k).kernel.lists (dispatch k).kernel.regs
  unfolding dispatch settled
  dispatch-runs can v = runs-first (image k) k.lists k.regs can v

module _ (k j : Kernel) (a : IsAmid k j) (v : AreValid (dispatch j).kernel.lists) where
  amid-dispatch : IsAmid k (dispatch j).kernel
  amid-dispatch =
      let after : Kernel = (dispatch j).kernel in
      amid-beside k j after (record (numbers_of j.lists) { running = after.lists.running }) a (dispatch-same j) (dispatch-residents j) (dispatch-lists j) refl refl refl (dispatch-keys j) (dispatch-rules j)
      (runs-dispatches after.lists after.regs (dispatch-runs j a.can v))

-- ---- the step

-- between steps a turn may follow
pub step-turns : (k : Kernel) → IsValid k → k.stop ≡ None → CanTurn (with_step k)
step-turns k h goes =
    record {
      goes = goes;
      lists = h.lists;
      first = valid-runs k h goes;
      rules = rules-kept k (with_step k) (record { console = refl; shell = refl; disc = refl; pipes = refl }) (record { version = refl; residents = refl }) (keeps-none k.lists) h.residents.ahead h.residents;
    }

module _ (k : Kernel) (h : IsValid k) (goes : k.stop ≡ None) where
  abbrev turned : Kernel
  turned = (turn (with_step k)).kernel

  abbrev served_all : Kernel
  served_all = (output (key (tick turned).kernel).kernel).kernel

  -- it ends with the turn, or with the dispatch
  step-ways : (P : Kernel → Type 0) → (turned.stop ≢ None → P turned) → (turned.stop ≡ None → P (dispatch served_all).kernel) → P (step k).kernel
  step-ways P stopped other = step-ends P k (record { stopped = λ e. absurd (e goes); stops = λ e. stopped; whole = λ e. other })

  can : CanTurn (with_step k)
  can = step-turns k h goes

  module _ (v : AreValid turned.lists) (disc : IsDisc turned.disc) where
    amid-turned : IsAmid (with_step k) turned
    amid-turned =
        let first : Kernel = with_step k in
        let keys : HasSameKeys first turned = turn-keys first in
        let numbers = numbers-turn first can in
        record {
          same = turn-same first;
          system = system-of first.lists turned.lists numbers;
          period = ap (λ n. n.period) numbers;
          keys = subst (AllByRecursion (λ key. key.0 ≤ most_steps)) (sym keys.keys) h.steps.keys;
          rules = turn-rules first can disc;
          can = turn-dispatch first can;
        }

    has-turned : NoDeviceHas turned.lists
    has-turned = no-device-has turned.lists v

    amid-ticked : IsAmid (with_step k) (tick turned).kernel
    amid-ticked = amid-tick (with_step k) turned amid-turned has-turned

    has-ticked : NoDeviceHas (tick turned).kernel.lists
    has-ticked = (tick-lists (with_step k) turned amid-turned has-turned).1

    amid-typed : IsAmid (with_step k) (key (tick turned).kernel).kernel
    amid-typed = amid-key (with_step k) (tick turned).kernel amid-ticked has-ticked

    amid-served : IsAmid (with_step k) served_all
    amid-served = amid-output (with_step k) (key (tick turned).kernel).kernel amid-typed (key-lists (with_step k) (tick turned).kernel amid-ticked has-ticked).1

    -- the ticks
    turned-ticks : turned.lists.tick ≡ k.steps / turned.lists.period
    turned-ticks = ap (λ n. n.tick) (numbers-turn (with_step k) can) ∙ h.ticks goes ∙ ap (λ p. k.steps / p) (sym amid-turned.period)

    period-turned : 0 < turned.lists.period
    period-turned = omega (arith, amid-turned.period, some-period k.lists h.lists)

    ticks-served : served_all.lists.tick ≡ turned.steps / turned.lists.period
    ticks-served =
        let ticked : Kernel = (tick turned).kernel in
        let typed : Kernel = (key ticked).kernel in
        ap (λ n. n.tick) (output-numbers typed amid-typed.can) ∙ ap (λ n. n.tick) (key-numbers ticked amid-ticked.can) ∙ ap (λ n. n.tick) (tick-numbers turned amid-turned.can)
        ∙ tick-periods turned k.steps period-turned amid-turned.same.steps turned-ticks

    module _ (w : AreValid (dispatch served_all).kernel.lists) where
      abbrev last : Kernel
      last = (dispatch served_all).kernel

      amid-last : IsAmid (with_step k) last
      amid-last = amid-dispatch (with_step k) served_all amid-served w

      ticks-last : last.lists.tick ≡ last.steps / last.lists.period
      ticks-last =
          ap (λ n. n.tick) (dispatch-lists served_all) ∙ ticks-served
          ∙ (λ i. (amid-turned.same.steps ∙ sym amid-last.same.steps) i / (amid-turned.period ∙ sym amid-last.period) i)

      runs-last : IsDispatched last
      runs-last = record { ticks = ticks-last; runs = (dispatch-runs served_all amid-served.can w).runs }

    module _ (few : k.steps < most_steps) where
      abbrev IsLeft : Kernel → Type 0
      IsLeft j = AreValid j.lists → HasPlainWords j → IsValid j

      left-turned : turned.stop ≢ None → IsLeft turned
      left-turned stopped w plain = amid-valid k turned amid-turned few w plain (λ none. absurd (stopped none))

      left-last : IsLeft (dispatch served_all).kernel
      left-last w plain = amid-valid k (dispatch served_all).kernel (amid-last w) few w plain (λ none. runs-last w)

      left : IsLeft (step k).kernel
      left = step-ways IsLeft left-turned (λ none. left-last)

  pub step-left : k.steps < most_steps → IsTaken k → IsValid (step k).kernel
  step-left few is = left is.turned is.disc few is.lists is.plain
