-- Steps of which nobody but the running task knows.
use Rattle.std.proofs.Common.{◌≡◌, ℕ, zero, suc, ◌+◌, ◌/◌, ◌<◌, ◌≤◌, true, None, List, [], length, set, refl, sym, ap, ◌∙◌, subst, arith}
use Rattle.kernel_model.specs.KernelRecord.Ranges.{most_steps}
use Rattle.word_store.specs.declared.registers.Regs.{Regs}
use Rattle.instruction_set.specs.Instruction.{instruction}
use Rattle.instruction_set.specs.declared.Outcome.TheVariants.{Next}
use Rattle.kernel_model.specs.KernelRecord.HoldsLists.{HoldsLists}
use Rattle.kernel_model.specs.KernelRecord.Image.{image}
use Rattle.kernel_model.specs.KernelRecord.Kernel.{Kernel}
use Rattle.kernel_model.specs.KernelRecord.Task.{is_guest_id}
use Rattle.kernel_model.specs.KernelRecord.ValidKernel.{IsValid}
use Rattle.kernel_model.proofs.KernelRecord.ChangedLists.{changed-none, knows-same}
use Rattle.kernel_model.proofs.KernelRecord.ImageWords.{image-list}
use Rattle.kernel_model.specs.WordKinds.ByteMap.{MarksAll}
use Rattle.kernel_devices.specs.Tick.{with_tick}
use Rattle.kernel_devices.proofs.TickLists.{tick-owned}
use Rattle.guest_turns.specs.Guarded.{is_owned}
use Rattle.kernel_machine.specs.declared.running_machine.parts.Parts.{Parts}
use Rattle.kernel_machine.specs.RunningMachine.RepresentedKernels.{RepresentsKernel}
use Rattle.kernel_machine.specs.KernelSteps.Quiet.{IsQuietFor, after_instruction_of, instruction_of, passed}
use Rattle.kernel_machine.specs.KernelSteps.Step.{run, step}
use Rattle.kernel_machine.specs.KernelSteps.Stepped.{Stepped, and_then, quietly, with_store}
use Rattle.kernel_machine.proofs.KernelSteps.NextTick.{some-period}
use Rattle.kernel_machine.proofs.KernelSteps.QuietMachines.{guest-valid, idle-valid}
use Rattle.kernel_machine.proofs.KernelSteps.QuietSteps.{IsReady}
use Rattle.kernel_machine.proofs.KernelSteps.QuietSpans.{valid-ready, guest-left, guest-passed, idle-run, quiet-first}
use Rattle.kernel_machine.proofs.KernelSteps.Runs.{run-more}
use Rattle.kernel_machine.proofs.KernelSteps.StoredWords.{HasStore, store-holds}
use Rattle.kernel_machine.proofs.KernelSteps.QuietDevices.{ticked-store, ticks_to}
use Rattle.kernel_machine.specs.RunningMachine.Machine.{IsWhole, kernel_of}
use Rattle.kernel_machine.specs.RunningMachine.Runs.{AreQuiet, HasPassed, IsOnWay, counted}
use Rattle.kernel_machine.proofs.RunningMachine.LeftParts.{represents-changed}
use Rattle.kernel_machine.proofs.RunningMachine.OneMachine.{stop-of}
use Rattle.kernel_machine.proofs.RunningMachine.RunParts.{are-quiet, none-quiet, run-zero, run-first}

-- n steps that were quiet, and left this kernel
passed-by : (n : ℕ) (k j : Kernel) (p : Parts) → run n k ≡ quietly j → RepresentsKernel p j → IsValid j → j.stop ≡ None → HasPassed n k p
passed-by n k j p e st h goes =
    let same : (run n k).kernel ≡ j = ap (λ (x : Stepped). x.kernel) e in
    record { quiet = e ∙ ap quietly (sym same); represents = subst (RepresentsKernel p) (sym same) st; valid = subst IsValid (sym same) h; goes = ap (λ (x : Kernel). x.stop) same ∙ goes }

-- none is taken
pub passed-none : (p : Parts) (w : IsWhole p None) (n : ℕ) → n ≡ 0 → HasPassed n (kernel_of p None) p
passed-none p w n none =
    let k : Kernel = kernel_of p None in
    passed-by n k k p (ap (λ m. run m k) none ∙ run-zero k) w.represents w.valid (stop-of p None)

-- the steps and the ticks are counted
pub represents-counted : (p : Parts) (k : Kernel) → RepresentsKernel p k → (m : ℕ) → RepresentsKernel (counted m p) (passed m k)
represents-counted p k st m =
    let n : ℕ = (k.steps + m) / k.lists.period in
    let s : List ℕ = set p.store 108 n in
    let here : HasStore p.store k = record { valid = st.keeper.lists.valid; image = st.image; plain = st.plain } in
    let there : HasStore s (ticks_to n k) = ticked-store p.store k here n in
    let holds : HoldsLists s (with_tick n k.lists) = store-holds s (ticks_to n k) there in
    let represents : RepresentsKernel (record p { store = s; step = p.step + m }) (passed m k) =
    record {
      marks = st.marks ∙ st.keeper.lists.size ∙ sym holds.size;
      keeper = record {
        lists = holds;
        knows = knows-same (MarksAll p.kinds) k.lists (with_tick n k.lists) (λ a. tick-owned k.lists n a) st.keeper.knows;
        enough = omega (arith, holds.size, st.keeper.lists.size, st.keeper.enough);
      };
      image = record { size = there.image.size; holds = there.image.holds; plain = there.image.plain };
      plain = record { size = there.plain.size; plain = there.plain.plain; owned = there.plain.owned };
      regs = st.regs;
      type_ahead = st.type_ahead;
      disc = st.disc;
      keys = st.keys;
      steps = ap (λ i. i + m) st.steps;
      period = st.period;
      console = st.console;
      shell = st.shell;
      pipes = st.pipes;
    } in
    subst (λ z. RepresentsKernel (record p { store = set p.store 108 z; step = p.step + m }) (passed m k)) (λ i. (sym st.steps i + m) / sym st.period i) represents

-- ---- nobody runs

module _ (p : Parts) (w : IsWhole p None) where
  abbrev now : Kernel
  now = kernel_of p None

  pub passed-idle : (m : ℕ) → now.lists.running ≡ 0 → IsQuietFor m now → p.step + m ≤ most_steps → HasPassed m now (counted m p)
  passed-idle m none q few =
      passed-by m now (passed m now) (counted m p) (idle-run m (image now) now (valid-ready now w.valid (stop-of p None)) none q) (represents-counted p now w.represents m)
      (idle-valid m now w.valid (stop-of p None) none (omega (arith, few, w.represents.steps)) q) (stop-of p None)

  -- nobody runs behind them
  pub idle-behind : (m : ℕ) → now.lists.running ≡ 0 → IsQuietFor m now → (run m now).kernel.lists.running ≡ 0
  idle-behind m none q = ap (λ (x : Stepped). x.kernel.lists.running) (idle-run m (image now) now (valid-ready now w.valid (stop-of p None)) none q) ∙ none

  -- and they show and note nothing
  pub idle-quiet : (m : ℕ) → now.lists.running ≡ 0 → (0 < m → IsQuietFor m now) → AreQuiet m now
  idle-quiet zero none q = none-quiet 0 now refl (stop-of p None)
  idle-quiet (suc m) none q =
      are-quiet (suc m) now (passed (suc m) now) (idle-run (suc m) (image now) now (valid-ready now w.valid (stop-of p None)) none (q (omega arith))) (stop-of p None)

-- ---- a guest runs

-- so they are before the first one
pub on-way-first : (p : Parts) (w : IsWhole p None) (m : ℕ) → is_guest_id (kernel_of p None).lists.running ≡ true → (0 < m → IsQuietFor m (kernel_of p None)) → IsOnWay (kernel_of p None) 0 m p
on-way-first p w m guest quiet =
    let k : Kernel = kernel_of p None in
    let at : (run 0 k).kernel ≡ k = ap (λ (x : Stepped). x.kernel) (run-zero k) in
    record {
      passed = passed-none p w 0 refl;
      guest = ap (λ (x : Kernel). is_guest_id x.lists.running) at ∙ guest;
      quiet = λ some. subst (IsQuietFor m) (sym at) (quiet some);
      steps = ap (λ (x : Kernel). x.steps) at ∙ omega arith;
    }

-- the store and the registers that an instruction leaves
pub represents-instruction : (p : Parts) (j : Kernel) (t : List ℕ) (r : Regs) → RepresentsKernel p j → HoldsLists t j.lists → t ≡ (instruction_of j).words → r ≡ (instruction_of j).regs → RepresentsKernel (record p { store = t; regs = r }) (after_instruction_of j)
represents-instruction p j t r st holds words regs =
    let left : Regs = (instruction_of j).regs in
    let q : Parts = record p { store = t; regs = r } in
    let size : length t ≡ length p.store = holds.size ∙ sym st.keeper.lists.size in
    let one : RepresentsKernel q (record (with_store t j.lists j) { regs = left }) =
    represents-changed p j st t t p.kinds r j.lists [] left j.stop size (changed-none t j.lists holds) st.keeper.knows refl regs (refl) in
    subst (λ z. RepresentsKernel q (record (with_store z j.lists j) { regs = left })) words one

module _ (k : Kernel) (n m : ℕ) (p : Parts) (way : IsOnWay k n (suc m) p) (few : k.steps + (n + suc m) ≤ most_steps) where
  abbrev here : Kernel
  here = (run n k).kernel

  -- the instruction is the one of the store and the registers
  pub instruction-here : instruction (is_owned here.lists) p.store p.regs ≡ instruction_of here
  instruction-here = λ i. instruction (is_owned here.lists) (image-list p.store here way.passed.represents.image i) (way.passed.represents.regs i)

  module _ (next : (instruction_of here).outcome ≡ Next) where
    abbrev there : Kernel
    there = passed 1 (after_instruction_of here)

    ready : IsReady (image here) here
    ready = valid-ready here way.passed.valid way.passed.goes

    quiet : IsQuietFor (suc m) here
    quiet = way.quiet (omega arith)

    first : IsQuietFor 1 here
    first = quiet-first here (some-period here.lists way.passed.valid.lists) ready.ticks m quiet

    one-step : step here ≡ quietly there
    one-step = guest-passed here ready way.guest next first

    more-steps : run (n + 1) k ≡ quietly there
    more-steps =
        run-more n 1 k ∙ ap (λ (x : Stepped). and_then x (run 1)) way.passed.quiet ∙ run-first here ∙ ap (λ (x : Stepped). and_then x (run 0)) one-step ∙ run-zero there

    same : (run (n + 1) k).kernel ≡ there
    same = ap (λ (x : Stepped). x.kernel) more-steps

    pub on-way-next : (t : List ℕ) (r : Regs) → HoldsLists t here.lists → t ≡ (instruction_of here).words → r ≡ (instruction_of here).regs → IsOnWay k (n + 1) m (counted 1 (record p { store = t; regs = r }))
    on-way-next t r holds words regs =
        let q : Parts = record p { store = t; regs = r } in
        let full : IsValid there =
        guest-valid here way.passed.valid way.passed.goes way.guest next (omega (arith, few, way.steps)) first in
        record {
          passed = passed-by (n + 1) k there (counted 1 q) more-steps (represents-counted q (after_instruction_of here) (represents-instruction p here t r way.passed.represents holds words regs) 1) full way.passed.goes;
          guest = ap (λ (x : Kernel). is_guest_id x.lists.running) same ∙ way.guest;
          quiet = λ some. subst (IsQuietFor m) (sym same) (guest-left here ready m there way.guest next quiet one-step);
          steps = ap (λ (x : Kernel). x.steps) same ∙ omega (arith, way.steps);
        }
