-- What is written of the boot, after the steps before the first that is shown: where the boot is shown there are none.
use Rattle.std.proofs.Common.{◌≡◌, ◌∙◌, ℕ, zero, suc, ◌==◌, [], arith, cond, false, refl, ap, sym}
use Rattle.std.proofs.lemmas.Bool.{ne_eqb}
use Rattle.tripos_machine.specs.State.{State}
use Rattle.tripos_machine.specs.Step.{run}
use Rattle.show_run.specs.StepLog.StepLines.{boot_lines}
use Rattle.show_run.specs.ShownAnswers.{boot_part, skipped}

run-none : (s : State) → (run 0 s).state ≡ s
unfolding run
run-none s = refl

-- where the first step is another than 0
no-boot : (first : ℕ) (s : State) → boot_part (suc first) s ≡ []
no-boot first s =
    let other : (suc first == 0) ≡ false = ne_eqb (suc first) 0 (λ e. omega (arith, e)) in
    ap (λ b. cond b (boot_lines s) []) other

pub boot-after : (first go : ℕ) (s : State) → boot_part first (run (skipped first go) s).state ≡ boot_part first s
boot-after zero go s = (let none : skipped zero go ≡ 0 = omega arith in ap (λ n. boot_part zero (run n s).state) none ∙ ap (boot_part zero) (run-none s))
boot-after (suc first) go s = no-boot first (run (skipped (suc first) go) s).state ∙ sym (no-boot first s)
