-- Quiet steps of a machine of one kind, as those of its state.
use Rattle.std.proofs.Common.{◌≡◌, ℕ, ◌≤◌, None, refl, sym, ap, ◌∙◌, subst, arith}
use Rattle.kernel_model.specs.KernelRecord.Kernel.{Kernel}
use Rattle.kernel_machine.specs.RunningMachine.Runs.{AreQuiet as AreKernelQuiet}
use Rattle.kernel_machine.specs.KernelSteps.Step.{run as kernel_run}
use Rattle.tripos_machine.specs.Quiet.{AreQuiet}
use Rattle.tripos_machine.specs.State.{State, stop_of}
use Rattle.tripos_machine.specs.State.State.{Full}
use Rattle.tripos_machine.specs.Step.{Stepped, of_kernel, quietly, run}
use Rattle.tripos_machine.proofs.StateRuns.{run-full}

pub run-none : (s : State) → run 0 s ≡ quietly s
unfolding run
run-none s = refl

-- none is taken
pub none-quiet : (n : ℕ) (s : State) → n ≤ 0 → stop_of s ≡ None → AreQuiet n s
none-quiet n s few goes =
    let none : 0 ≡ n = omega (arith, few) in
    let same : (run 0 s).state ≡ s = ap (λ (x : Stepped). x.state) (run-none s) in
    subst (λ m. AreQuiet m s) none (record { quiet = run-none s ∙ ap quietly (sym same); goes = ap stop_of same ∙ goes })

-- those of a kernel
pub full-quiet : (n : ℕ) (s : State) (k : Kernel) → s ≡ Full k → AreKernelQuiet n k → AreQuiet n s
full-quiet n s k here q =
    let same : run n s ≡ of_kernel (kernel_run n k) = ap (run n) here ∙ run-full n k in
    record {
      quiet = same ∙ ap of_kernel q.quiet ∙ sym (ap (λ (x : Stepped). quietly x.state) same);
      goes = ap (λ (x : Stepped). stop_of x.state) same ∙ q.goes;
    }
