-- Runs: one after another, of a machine that has stopped, and how many steps they take.
use Rattle.std.proofs.Common.{◌≡◌, ◌≢◌, ℕ, zero, suc, ◌+◌, ◌≤◌, true, Option, Some, None, cond, refl, sym, ap, ◌∙◌, arith}
use Rattle.std.specs.Prelude.{is_some}
use Rattle.std.proofs.lemmas.List.{append_assoc}
use Rattle.kernel_model.specs.KernelRecord.Kernel.{Kernel}
use Rattle.kernel_model.specs.declared.kernel_record.stops.Stop.{Stop}
use Rattle.kernel_machine.specs.KernelSteps.Step.{after_the_turn, key, output, run, step, tick, turn, unless_stopped, with_step}
use Rattle.kernel_machine.specs.KernelSteps.Stepped.{Stepped, and_then, behind, quietly}
use Rattle.kernel_machine.proofs.KernelSteps.DevicesKept.{key-same, output-same, tick-same}
use Rattle.kernel_machine.proofs.KernelSteps.StepEnds.{step-ends, turned}
use Rattle.kernel_machine.proofs.KernelSteps.StepKept.{dispatch-same}
use Rattle.kernel_machine.proofs.KernelSteps.TurnKept.{turn-same}
use Rattle.bare_machine.proofs.Runs.{has-stopped}

then-assoc : (x : Stepped) (f g : Kernel → Stepped) → and_then (and_then x f) g ≡ and_then x (λ j. and_then (f j) g)
then-assoc x f g =
    let y : Stepped = f x.kernel in
    let z : Stepped = g y.kernel in
    λ i. record { kernel = z.kernel; bytes = append_assoc x.bytes y.bytes z.bytes i; events = append_assoc x.events y.events z.events i }

pub run-more : (m n : ℕ) (k : Kernel) → run (m + n) k ≡ and_then (run m k) (run n)
unfolding run
run-more zero n k = (let none : zero + n ≡ n = omega arith in ap (λ i. run i k) none)
run-more (suc m) n k =
    let next : suc m + n ≡ suc (m + n) = omega arith in
    ap (λ i. run i k) next ∙ ap (behind (step k).bytes (step k).events) (run-more m n (step k).kernel) ∙ sym (then-assoc (step k) (run m) (run n))

-- ---- a machine that has stopped

pub step-stopped : (k : Kernel) → k.stop ≢ None → step k ≡ quietly k
unfolding step
step-stopped k stopped = ap (λ b. cond b (quietly k) (and_then (turn (with_step k)) (unless_stopped after_the_turn))) (has-stopped k.stop stopped)

pub run-stopped : (n : ℕ) (k : Kernel) → k.stop ≢ None → run n k ≡ quietly k
unfolding run
run-stopped zero k stopped = refl
run-stopped (suc n) k stopped = ap (λ x. and_then x (run n)) (step-stopped k stopped) ∙ run-stopped n k stopped

-- ---- the steps that are taken

rest-steps : (k : Kernel) → (after_the_turn k).kernel.steps ≡ k.steps
rest-steps k =
    let ticked : Kernel = (tick k).kernel in
    let typed : Kernel = (key ticked).kernel in
    (dispatch-same (output typed).kernel).steps ∙ (output-same typed).steps ∙ (key-same ticked).steps ∙ (tick-same k).steps

pub step-steps : (k : Kernel) → (step k).kernel.steps ≤ k.steps + 1
step-steps k =
    let same : (turned k).steps ≡ k.steps + 1 = (turn-same (with_step k)).steps in
    step-ends (λ j. j.steps ≤ k.steps + 1) k
    (record { stopped = λ e. omega arith; stops = λ e f. omega (arith, same); whole = λ e f. omega (arith, same, rest-steps (turned k)) })

pub run-steps : (n : ℕ) (k : Kernel) → (run n k).kernel.steps ≤ k.steps + n
unfolding run
run-steps zero k = omega arith
run-steps (suc n) k = omega (arith, run-steps n (step k).kernel, step-steps k)

-- they are never fewer
step-later : (k : Kernel) → k.steps ≤ (step k).kernel.steps
step-later k =
    let same : (turned k).steps ≡ k.steps + 1 = (turn-same (with_step k)).steps in
    step-ends (λ j. k.steps ≤ j.steps) k
    (record { stopped = λ e. omega arith; stops = λ e f. omega (arith, same); whole = λ e f. omega (arith, same, rest-steps (turned k)) })

pub run-later : (n : ℕ) (k : Kernel) → k.steps ≤ (run n k).kernel.steps
unfolding run
run-later zero k = omega arith
run-later (suc n) k = omega (arith, run-later n (step k).kernel, step-later k)

-- and a step of a machine that has not stopped is one more
pub step-counts : (k : Kernel) → k.stop ≡ None → (step k).kernel.steps ≡ k.steps + 1
step-counts k goes =
    let same : (turned k).steps ≡ k.steps + 1 = (turn-same (with_step k)).steps in
    step-ends (λ j. j.steps ≡ k.steps + 1) k (record { stopped = λ e. absurd (e goes); stops = λ e f. same; whole = λ e f. rest-steps (turned k) ∙ same })

pub run-counts : (n : ℕ) (k : Kernel) → (run n k).kernel.stop ≡ None → (run n k).kernel.steps ≡ k.steps + n
unfolding run
run-counts zero k goes = omega arith
run-counts (suc n) k goes = on k.stop refl (run-counts n (step k).kernel goes)
  where
    on : (o : Option Stop) → k.stop ≡ o → (run n (step k).kernel).kernel.steps ≡ (step k).kernel.steps + n → (run n (step k).kernel).kernel.steps ≡ k.steps + suc n
    on None is more = omega (arith, more, step-counts k is)
    on (Some stop) is more =
        let stays = ap (λ (x : Stepped). x.kernel.stop) (run-stopped (suc n) k (λ none. (let other = sym is ∙ none in cc))) in
        let other : Some stop ≡ None = sym is ∙ sym stays ∙ goes in
        cc
