-- A step in which no device acts.
use Rattle.std.proofs.Common.{◌≡◌, ℕ, ◌+◌, ◌/◌, ◌⊎◌, true, None, List, [], cond, set, refl, sym, ap, ◌∙◌, subst}
use Rattle.std.specs.Prelude.{is_some}
use Rattle.word_store.specs.declared.registers.Regs.{Regs}
use Rattle.instruction_set.specs.declared.Outcome.TheVariants.{Next}
use Rattle.kernel_model.specs.KernelRecord.HoldsLists.{HoldsLists}
use Rattle.kernel_model.specs.KernelRecord.Image.{image, word_of}
use Rattle.kernel_model.specs.KernelRecord.Kernel.{Kernel}
use Rattle.kernel_model.specs.KernelRecord.Lists.{Lists}
use Rattle.kernel_model.specs.KernelRecord.Task.{is_guest_id}
use Rattle.kernel_model.specs.KernelDispatch.Dispatch.{CanDispatch}
use Rattle.kernel_devices.specs.Tick.{with_tick}
use Rattle.guest_turns.specs.Guarded.{is_owned}
use Rattle.guest_turns.proofs.GuardedLists.{holds-kept}
use Rattle.guest_turns.proofs.MarkedWords.{keeps-marked}
use Rattle.guest_turns.specs.GuestTurn.{after_instruction, ended_with, turn_without_reporter}
use Rattle.guest_turns.specs.declared.turns.TurnEnd.TheVariants.{Goes}
use Rattle.guest_turns.proofs.TurnFields.{turn-dispatches}
use Rattle.kernel_machine.specs.KernelSteps.GuestSteps.{after_turn}
use Rattle.kernel_machine.specs.KernelSteps.Parts.{RunsFirst}
use Rattle.kernel_machine.specs.KernelSteps.Quiet.{AwaitsTick, ComeAfter, IsQuietFor, after_instruction_of, instruction_of, passed, with_ticks}
use Rattle.kernel_machine.specs.KernelSteps.Step.{after_the_turn, dispatch, key, output, step, tick, turn, unless_stopped, with_step}
use Rattle.kernel_machine.specs.KernelSteps.Stepped.{and_then, quietly}
use Rattle.kernel_machine.proofs.KernelSteps.NextTick.{some-period, tick-periods}
use Rattle.kernel_machine.proofs.KernelSteps.QuietDevices.{key-stays, output-stays, tick-stays, ticked-store, ticks_to}
use Rattle.kernel_machine.proofs.KernelSteps.QuietDispatch.{dispatch-stays}
use Rattle.kernel_machine.proofs.KernelSteps.StoredWords.{HasStore, store-holds, store-image, stored}
use Rattle.kernel_machine.proofs.KernelSteps.RunningCaller.{runs-alone, runs-calls}
use Rattle.kernel_machine.proofs.KernelSteps.TurnWays.{guest-goes, turn-guest, turn-nobody}

-- ---- behind the turn

-- the ticks are no part of what says who runs
runs-ticked : (l : Lists) (r : Regs) (now : ℕ) → RunsFirst l r → RunsFirst (with_tick now l) r
runs-ticked l r now h = record {
  runs = record { running = h.runs.running; alone = h.runs.alone; alive = h.runs.alive };
  registers = record { byte = h.registers.byte; idle = h.registers.idle };
}

-- the kernel behind a turn, in a step in which no device acts
record IsQuiet (s : List ℕ) (k : Kernel) (n : ℕ) : Type 0 where
  store : HasStore s k
  runs : RunsFirst k.lists k.regs
  steps : k.steps ≡ n + 1
  ticks : k.lists.tick ≡ n / k.lists.period
  output : k.lists.output ≡ []
  keyboard : (k.lists.keyboard ≡ []) ⊎ (k.type_ahead ≡ [])
  keys : ComeAfter k.steps k.keys
  clock : AwaitsTick (k.steps / k.lists.period) k.lists

quiet-rest : (s : List ℕ) (k : Kernel) (n : ℕ) → IsQuiet s k n → after_the_turn k ≡ quietly (with_ticks k)
quiet-rest s k n q =
    let now : ℕ = k.steps / k.lists.period in
    let j : Kernel = ticks_to now k in
    let t : List ℕ = set s 108 now in
    let store : HasStore t j = ticked-store s k q.store now in
    let runs : RunsFirst j.lists j.regs = runs-ticked k.lists k.regs now q.runs in
    let ticked : tick k ≡ quietly j = tick-stays s k q.store now (tick-periods k n (some-period k.lists q.store.valid) q.steps q.ticks) q.clock in
    ap (λ x. and_then (and_then (and_then x key) output) dispatch) ticked
    ∙ ap (λ x. and_then (and_then x output) dispatch) (key-stays t j store q.keyboard q.keys)
    ∙ ap (λ x. and_then x dispatch) (output-stays t j store q.output)
    ∙ dispatch-stays t j store runs

-- ---- a step

pub step-goes : (k : Kernel) → k.stop ≡ None → step k ≡ and_then (turn (with_step k)) (unless_stopped after_the_turn)
unfolding step
step-goes k goes = ap (λ s. cond (is_some s) (quietly k) (and_then (turn (with_step k)) (unless_stopped after_the_turn))) goes

-- the turn leaves j
quiet-step : (k j : Kernel) (s : List ℕ) → k.stop ≡ None → turn (with_step k) ≡ quietly j → j.stop ≡ None → IsQuiet s j k.steps → step k ≡ quietly (with_ticks j)
quiet-step k j s goes turned on q =
    step-goes k goes ∙ ap (λ x. and_then x (unless_stopped after_the_turn)) turned ∙ ap (λ s. cond (is_some s) (quietly j) (after_the_turn j)) on ∙ quiet-rest s j k.steps q

-- what holds between steps, and is asked of the kernel
pub record IsReady (s : List ℕ) (k : Kernel) : Type 0 where
  pub store : HasStore s k
  pub runs : RunsFirst k.lists k.regs
  pub ticks : k.lists.tick ≡ k.steps / k.lists.period
  pub goes : k.stop ≡ None

-- the number of steps is no part of the store
pub other-steps : (s : List ℕ) (k : Kernel) (n : ℕ) → HasStore s k → HasStore s (record k { steps = n })
other-steps s k n h = record {
  valid = h.valid;
  image = record { size = h.image.size; holds = h.image.holds; plain = h.image.plain };
  plain = record { size = h.plain.size; plain = h.plain.plain; owned = h.plain.owned };
}

-- ---- where nobody runs

module _ (s : List ℕ) (k : Kernel) (h : IsReady s k) (none : k.lists.running ≡ 0) (q : IsQuietFor 1 k) where
  idle-quiet : IsQuiet s (with_step k) k.steps
  idle-quiet = record {
    store = other-steps s k (k.steps + 1) h.store;
    runs = h.runs;
    steps = refl;
    ticks = h.ticks;
    output = q.output;
    keyboard = q.keyboard;
    keys = q.keys;
    clock = q.clock;
  }

  pub idle-step : step k ≡ quietly (passed 1 k)
  idle-step = quiet-step k (with_step k) s h.goes (turn-nobody (with_step k) none) h.goes idle-quiet

  pub idle-ready : IsReady (set s 108 ((k.steps + 1) / k.lists.period)) (passed 1 k)
  idle-ready = record {
    store = ticked-store s (with_step k) (other-steps s k (k.steps + 1) h.store) ((k.steps + 1) / k.lists.period);
    runs = runs-ticked k.lists k.regs ((k.steps + 1) / k.lists.period) h.runs;
    ticks = refl;
    goes = h.goes;
  }

-- ---- where a guest executes an instruction

module _ (s : List ℕ) (k : Kernel) (h : IsReady s k) (guest : is_guest_id k.lists.running ≡ true) (next : (instruction_of k).outcome ≡ Next) where
  abbrev left : Kernel
  left = with_step (after_instruction_of k)

  turn-next : turn_without_reporter (image k) k.lists k.regs ≡ ended_with Goes (instruction_of k).words k.lists (instruction_of k).regs
  unfolding turn_without_reporter
  turn-next = ap (after_instruction k.lists (instruction_of k).words (instruction_of k).regs) next

  pub guest-turn : turn (with_step k) ≡ quietly left
  unfolding image word_of
  guest-turn = turn-guest (with_step k) guest ∙ ap (after_turn (with_step k)) (guest-goes (image k) k.lists k.regs (ap (λ m. m.ends) turn-next) ∙ turn-next) ∙ ap (λ s. quietly (record left { stop = s })) (sym h.goes)

  words-hold : HoldsLists (instruction_of k).words k.lists
  words-hold = holds-kept (image k) (instruction_of k).words k.lists (subst (λ z. HoldsLists z k.lists) (store-image s k h.store) (store-holds s k h.store)) (keeps-marked (is_owned k.lists) (image k) k.regs)

  pub left-store : HasStore (instruction_of k).words left
  left-store = stored (instruction_of k).words k.lists (record (with_step k) { regs = (instruction_of k).regs }) words-hold

  left-runs : RunsFirst left.lists left.regs
  left-runs =
      let can : CanDispatch left.lists left.regs =
      subst (λ m. CanDispatch m.lists m.regs) turn-next (turn-dispatches (image k) k.lists k.regs (runs-alone k.lists k.regs h.runs) (runs-calls k.lists k.regs h.runs h.store.valid guest) h.runs.registers.byte) in
      record { runs = h.runs.runs; registers = can.registers }

  pub guest-step : IsQuietFor 1 k → step k ≡ quietly (with_ticks left)
  guest-step q =
      quiet-step k left (instruction_of k).words h.goes guest-turn h.goes
      (record { store = left-store; runs = left-runs; steps = refl; ticks = h.ticks; output = q.output; keyboard = q.keyboard; keys = q.keys; clock = q.clock })

  -- its store, with the ticks
  pub guest-store : HasStore (set (instruction_of k).words 108 ((k.steps + 1) / k.lists.period)) (with_ticks left)
  guest-store = ticked-store (instruction_of k).words left left-store ((k.steps + 1) / k.lists.period)
