-- A step behind quiet ones.
use Rattle.std.proofs.Common.{◌≡◌, ℕ, ◌+◌, ◌-◌, ◌<◌, Option, Some, None, List, [], ◌∷◌, ◌++◌, refl, sym, ap, ◌∙◌, arith}
use Rattle.std.proofs.lemmas.List.{append-nil}
use Rattle.kernel_model.specs.KernelRecord.Kernel.{Kernel}
use Rattle.kernel_model.specs.declared.kernel_record.stops.Stop.{Stop}
use Rattle.kernel_machine.specs.KernelSteps.Step.{run, step}
use Rattle.kernel_machine.specs.KernelSteps.Stepped.{Stepped, and_then, quietly}
use Rattle.kernel_machine.proofs.KernelSteps.Runs.{run-more, run-stopped}
use Rattle.kernel_machine.specs.RunningMachine.Runs.{AreQuiet, IsQuietButLast}

pub run-zero : (k : Kernel) → run 0 k ≡ quietly k
unfolding run
run-zero k = refl

pub run-first : (k : Kernel) → run 1 k ≡ and_then (step k) (run 0)
unfolding run
run-first k = refl

and-quietly : (x : Stepped) → and_then x quietly ≡ x
and-quietly x = λ i. record { kernel = x.kernel; bytes = append-nil x.bytes i; events = append-nil x.events i }

pub run-one : (k : Kernel) → run 1 k ≡ step k
run-one k =
    run-first k ∙ ap (λ (y : Stepped). record { kernel = y.kernel; bytes = (step k).bytes ++ y.bytes; events = (step k).events ++ y.events }) (run-zero (step k).kernel)
    ∙ and-quietly (step k)

pub run-behind : (q : ℕ) (k j : Kernel) → run q k ≡ quietly j → run (q + 1) k ≡ step j
run-behind q k j quiet = run-more q 1 k ∙ ap (λ (x : Stepped). and_then x (run 1)) quiet ∙ run-one j

-- ---- steps that show and note nothing

pub are-quiet : (n : ℕ) (k j : Kernel) → run n k ≡ quietly j → j.stop ≡ None → AreQuiet n k
are-quiet n k j e goes =
    let same : (run n k).kernel ≡ j = ap (λ (x : Stepped). x.kernel) e in
    record { quiet = e ∙ ap quietly (sym same); goes = ap (λ (x : Kernel). x.stop) same ∙ goes }

-- none is taken
pub none-quiet : (n : ℕ) (k : Kernel) → n ≡ 0 → k.stop ≡ None → AreQuiet n k
none-quiet n k none goes = are-quiet n k k (ap (λ m. run m k) none ∙ run-zero k) goes

-- ---- steps of which the last alone may show something

-- a step behind quiet ones is the last
pub last-behind : (q n : ℕ) (k j : Kernel) → n ≡ q + 1 → run q k ≡ quietly j → j.stop ≡ None → IsQuietButLast n k
last-behind q n k j next quiet goes = (let before : n - 1 ≡ q = omega (arith, next) in are-quiet (n - 1) k j (ap (λ i. run i k) before ∙ quiet) goes)

pub no-front : {A : Type 0} (xs ys : List A) → xs ++ ys ≡ [] → xs ≡ []
no-front [] ys e = refl
no-front (x ∷ xs) ys e = cc

goes-before : (j : Kernel) (o : Option Stop) → j.stop ≡ o → (run 1 j).kernel.stop ≡ None → o ≡ None
goes-before j None is goes = refl
goes-before j (Some stop) is goes =
    let stopped : run 1 j ≡ quietly j = run-stopped 1 j (λ none. (let other : Some stop ≡ None = sym is ∙ none in cc)) in
    sym is ∙ ap (λ (x : Stepped). x.kernel.stop) (sym stopped) ∙ goes

-- quiet steps are quiet but for the last
pub last-of-quiet : (q : ℕ) (k j : Kernel) → run q k ≡ quietly j → j.stop ≡ None → 0 < q → IsQuietButLast q k
last-of-quiet q k j quiet goes some =
    let x : Stepped = run (q - 1) k in
    let whole : q ≡ q - 1 + 1 = omega (arith, some) in
    let e : and_then x (run 1) ≡ quietly j = sym (run-more (q - 1) 1 k) ∙ ap (λ i. run i k) (sym whole) ∙ quiet in
    let bytes : x.bytes ≡ [] = no-front x.bytes (run 1 x.kernel).bytes (ap (λ (y : Stepped). y.bytes) e) in
    let events : x.events ≡ [] = no-front x.events (run 1 x.kernel).events (ap (λ (y : Stepped). y.events) e) in
    record {
      quiet = λ i. record { kernel = x.kernel; bytes = bytes i; events = events i };
      goes = goes-before x.kernel x.kernel.stop refl (ap (λ (y : Stepped). y.kernel.stop) e ∙ goes);
    }
