-- Runs: those of either kind, one after another, of a machine that has stopped, and how many steps they take.
use Rattle.std.proofs.Common.{◌≡◌, ◌≢◌, ℕ, zero, suc, ◌+◌, ◌≤◌, ◌++◌, [], None, refl, sym, ap, ◌∙◌, arith}
use Rattle.std.proofs.lemmas.List.{append_assoc}
use Rattle.bare_machine.specs.Run.{run as bare_run}
use Rattle.bare_machine.specs.State.{BareState}
use Rattle.bare_machine.specs.Step.{step as bare_step}
use Rattle.bare_machine.proofs.Runs.{run-counts as bare-run-counts, run-later as bare-run-later, run-steps as bare-run-steps, run-stopped as bare-run-stopped}
use Rattle.kernel_model.specs.KernelRecord.Kernel.{Kernel}
use Rattle.kernel_machine.specs.KernelSteps.Step.{run as kernel_run, step as kernel_step}
use Rattle.kernel_machine.proofs.KernelSteps.Runs.{run-counts as kernel-run-counts, run-later as kernel-run-later, run-steps as kernel-run-steps, run-stopped as kernel-run-stopped}
use Rattle.tripos_machine.specs.State.{State, steps_of, stop_of}
use Rattle.tripos_machine.specs.State.State.{Bare, Full}
use Rattle.tripos_machine.specs.Step.{Stepped, and_then, of_bare, of_kernel, quietly, run, step}

pub run-bare : (n : ℕ) (m : BareState) → run n (Bare m) ≡ of_bare (bare_run n m)
unfolding run bare_run
run-bare zero m = refl
run-bare (suc n) m = ap (λ (y : Stepped). record { state = y.state; bytes = (bare_step m).bytes ++ y.bytes; events = [] ++ y.events }) (run-bare n (bare_step m).state)

pub run-full : (n : ℕ) (k : Kernel) → run n (Full k) ≡ of_kernel (kernel_run n k)
unfolding run kernel_run
run-full zero k = refl
run-full (suc n) k =
    ap (λ (y : Stepped). record { state = y.state; bytes = (kernel_step k).bytes ++ y.bytes; events = (kernel_step k).events ++ y.events }) (run-full n (kernel_step k).kernel)

then-assoc : (x : Stepped) (f g : State → Stepped) → and_then (and_then x f) g ≡ and_then x (λ t. and_then (f t) g)
then-assoc x f g =
    let y : Stepped = f x.state in
    let z : Stepped = g y.state in
    λ i. record { state = z.state; bytes = append_assoc x.bytes y.bytes z.bytes i; events = append_assoc x.events y.events z.events i }

pub run-more : (m n : ℕ) (s : State) → run (m + n) s ≡ and_then (run m s) (run n)
unfolding run
run-more zero n s = (let none : zero + n ≡ n = omega arith in ap (λ i. run i s) none)
run-more (suc m) n s =
    let next : suc m + n ≡ suc (m + n) = omega arith in
    let behind : Stepped → Stepped = λ (y : Stepped). record { state = y.state; bytes = (step s).bytes ++ y.bytes; events = (step s).events ++ y.events } in
    ap (λ i. run i s) next ∙ ap behind (run-more m n (step s).state) ∙ sym (then-assoc (step s) (run m) (run n))

pub run-stopped : (n : ℕ) (s : State) → stop_of s ≢ None → run n s ≡ quietly s
run-stopped n (Bare m) stopped = run-bare n m ∙ ap of_bare (bare-run-stopped n m stopped)
run-stopped n (Full k) stopped = run-full n k ∙ ap of_kernel (kernel-run-stopped n k stopped)

pub run-steps : (n : ℕ) (s : State) → steps_of (run n s).state ≤ steps_of s + n
run-steps n (Bare m) = (let is = ap (λ (x : Stepped). steps_of x.state) (run-bare n m) in omega (arith, is, bare-run-steps n m))
run-steps n (Full k) = (let is = ap (λ (x : Stepped). steps_of x.state) (run-full n k) in omega (arith, is, kernel-run-steps n k))

pub run-counts : (n : ℕ) (s : State) → stop_of (run n s).state ≡ None → steps_of (run n s).state ≡ steps_of s + n
run-counts n (Bare m) goes = (let is = run-bare n m in ap (λ (x : Stepped). steps_of x.state) is ∙ bare-run-counts n m (sym (ap (λ (x : Stepped). stop_of x.state) is) ∙ goes))
run-counts n (Full k) goes = (let is = run-full n k in ap (λ (x : Stepped). steps_of x.state) is ∙ kernel-run-counts n k (sym (ap (λ (x : Stepped). stop_of x.state) is) ∙ goes))

pub run-later : (n : ℕ) (s : State) → steps_of s ≤ steps_of (run n s).state
run-later n (Bare m) = (let is = ap (λ (x : Stepped). steps_of x.state) (run-bare n m) in omega (arith, is, bare-run-later n m))
run-later n (Full k) = (let is = ap (λ (x : Stepped). steps_of x.state) (run-full n k) in omega (arith, is, kernel-run-later n k))
