-- What each part of a step asks, inside a step.
use Rattle.std.proofs.Common.{◌≡◌, ℕ, ◌+◌, ◌-◌, ◌^◌, ◌<◌, Bool, true, false, cond, Option, Some, None, refl, sym, ap, ◌∙◌, subst, arith}
use Rattle.std.specs.Prelude.{is_none, is_some, not}
use Rattle.std.proofs.Math.Nat.{div-le_self}
use Rattle.kernel_model.specs.KernelRecord.Ranges.{most_steps}
use Rattle.ram_disc.specs.Disc.{IsDisc}
use Rattle.kernel_model.specs.KernelRecord.Kernel.{Kernel}
use Rattle.kernel_model.specs.KernelRecord.ValidKernel.{IsValid}
use Rattle.kernel_model.specs.KernelDispatch.Dispatch.{CanDispatch}
use Rattle.kernel_model.specs.KernelRecord.Image.{settled}
use Rattle.kernel_model.specs.declared.kernel_record.stops.Stop.{Stop}
use Rattle.kernel_machine.specs.declared.running_machine.parts.Parts.{Parts}
use Rattle.kernel_machine.specs.RunningMachine.RepresentedKernels.{RepresentsKernel}
use Rattle.kernel_machine.specs.KernelSteps.Parts.{CanTurn, IsTaken}
use Rattle.kernel_machine.specs.KernelSteps.Step.{after_the_turn, dispatch, key, output, step, tick, turn, unless_stopped, with_step}
use Rattle.kernel_machine.specs.KernelSteps.Stepped.{and_then, quietly}
use Rattle.kernel_machine.proofs.KernelSteps.DevicesKept.{key-dispatch, key-stop, output-dispatch, output-stop, tick-dispatch, tick-stop}
use Rattle.kernel_machine.proofs.KernelSteps.StepKept.{step-turns}
use Rattle.kernel_machine.proofs.KernelSteps.TurnKept.{numbers-turn, turn-dispatch}
use Rattle.kernel_machine.specs.RunningMachine.Private.Leaves.{CanServe}
use Rattle.kernel_machine.proofs.KernelSteps.QuietSteps.{step-goes}

-- a dispatch may follow on each of the devices
pub record Serving (k : Kernel) : Type 0 where
  pub ticked : CanDispatch (tick k).kernel.lists (tick k).kernel.regs
  pub typed : CanDispatch (key (tick k).kernel).kernel.lists (key (tick k).kernel).kernel.regs
  pub printed : CanDispatch (output (key (tick k).kernel).kernel).kernel.lists (output (key (tick k).kernel).kernel).kernel.regs

pub serving : (k : Kernel) → CanServe k → Serving k
serving k can =
    let one = tick-dispatch k can.dispatch in
    let two = key-dispatch (tick k).kernel one in
    record { ticked = one; typed = two; printed = output-dispatch (key (tick k).kernel).kernel two }

-- ---- the turn of a step

module _ (k : Kernel) (h : IsValid k) (goes : k.stop ≡ None) where
  pub can-turn : CanTurn (with_step k)
  can-turn = step-turns k h goes

  few-ticks : k.steps < most_steps → k.lists.tick < 2 ^ 32 - 1
  few-ticks few = omega (arith, h.ticks goes, div-le_self k.steps k.lists.period, few)

  -- where the turn did not stop the machine, the devices may follow
  pub can-serve : k.steps < most_steps → CanServe (turn (with_step k)).kernel
  can-serve few = record {
    dispatch = turn-dispatch (with_step k) can-turn;
    tick = subst (λ n. n < 2 ^ 32 - 1) (sym (ap (λ n. n.tick) (numbers-turn (with_step k) can-turn))) (few-ticks few);
  }

-- one step more is counted
pub represents-step : (p : Parts) (k : Kernel) (n : ℕ) → RepresentsKernel p k → n ≡ p.step + 1 → RepresentsKernel (record p { step = n }) (with_step k)
represents-step p k n st e = record {
  keeper = st.keeper;
  marks = st.marks;
  image = record { size = st.image.size; holds = st.image.holds; plain = st.image.plain };
  plain = record { size = st.plain.size; plain = st.plain.plain; owned = st.plain.owned };
  regs = st.regs;
  type_ahead = st.type_ahead;
  disc = st.disc;
  keys = st.keys;
  steps = e ∙ ap (λ n. n + 1) st.steps;
  period = st.period;
  console = st.console;
  shell = st.shell;
  pipes = st.pipes;
}

-- ---- the whole step

-- and ends with it where that stopped the machine
pub rest-stops : (k : Kernel) (s : Stop) → k.stop ≡ Some s → unless_stopped after_the_turn k ≡ quietly k
rest-stops k s e = ap (λ o. cond (is_some o) (quietly k) (after_the_turn k)) e

pub rest-goes : (k : Kernel) → k.stop ≡ None → unless_stopped after_the_turn k ≡ after_the_turn k
rest-goes k e = ap (λ o. cond (is_some o) (quietly k) (after_the_turn k)) e

dispatch-stop : (k : Kernel) → (dispatch k).kernel.stop ≡ k.stop
unfolding dispatch settled
dispatch-stop k = refl

-- nothing behind the turn stops it
rest-stop : (k : Kernel) → (after_the_turn k).kernel.stop ≡ k.stop
rest-stop k = dispatch-stop (output (key (tick k).kernel).kernel).kernel ∙ output-stop (key (tick k).kernel).kernel ∙ key-stop (tick k).kernel ∙ tick-stop k

either-stop : (k : Kernel) (o : Option Stop) → k.stop ≡ o → (unless_stopped after_the_turn k).kernel.stop ≡ k.stop
either-stop k None e = ap (λ x. x.kernel.stop) (rest-goes k e) ∙ rest-stop k
either-stop k (Some s) e = ap (λ x. x.kernel.stop) (rest-stops k s e)

pub stop-in-turn : (k : Kernel) → k.stop ≡ None → (step k).kernel.stop ≡ (turn (with_step k)).kernel.stop
stop-in-turn k goes = ap (λ x. x.kernel.stop) (step-goes k goes) ∙ either-stop (turn (with_step k)).kernel (turn (with_step k)).kernel.stop refl

-- what was answered says so
pub none-stopped : (o r : Option Stop) → r ≡ o → is_none r ≡ true → o ≡ None
none-stopped None r e none = refl
none-stopped (Some s) r e none = absurd (no-none (ap is_none (sym e) ∙ none))
  where
    no-none : false ≡ true → ⊥
    no-none x = cc

pub some-stopped : (o r : Option Stop) → r ≡ o → is_none r ≡ false → (s : Stop) × (o ≡ Some s)
some-stopped None r e some = absurd (no-some (ap is_none (sym e) ∙ some))
  where
    no-some : true ≡ false → ⊥
    no-some x = cc
some-stopped (Some s) r e some = (s, refl)

-- what the code knows of a step, from the parts after its turn and at its end
pub taken : (k : Kernel) (p q : Parts) → RepresentsKernel p (turn (with_step k)).kernel → IsDisc p.disc → RepresentsKernel q (step k).kernel → IsTaken k
taken k p q turned disc whole = record {
  turned = turned.keeper.lists.valid;
  disc = subst IsDisc turned.disc disc;
  lists = whole.keeper.lists.valid;
  plain = whole.plain;
}

-- ---- a machine that has stopped, or has not

-- it stays as it is
pub step-stays : (k : Kernel) (s : Stop) → k.stop ≡ Some s → step k ≡ quietly k
unfolding step
step-stays k s e = ap (λ o. cond (is_some o) (quietly k) (and_then (turn (with_step k)) (unless_stopped after_the_turn))) e

-- what is no `None` is some, and the reverse
pub told : (r : Option Stop) (b c : Bool) → is_some r ≡ not b → b ≡ c → is_none r ≡ c
told r true c e f = ap not e ∙ f
told r false c e f = ap not e ∙ f
