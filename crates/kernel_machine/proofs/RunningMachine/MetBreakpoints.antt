-- Where a breakpoint is met, and steps that meet none.
use Rattle.std.proofs.Common.{◌≡◌, ℕ, ◌+◌, ◌-◌, ◌<◌, ◌≤◌, Bool, true, false, List, [], ◌∷◌, ◌&&◌, ◌==◌, length, inl, inr, refl, sym, ap, ◌∙◌, subst, arith}
use Rattle.std.proofs.lemmas.Bool.{cases_lt, eqb-true, le-leb, lt-leb}
use Rattle.instruction_set.specs.Breakpoints.{has_breakpoint}
use Rattle.kernel_model.specs.KernelRecord.Kernel.{Kernel}
use Rattle.kernel_model.specs.KernelRecord.Task.{is_guest_id}
use Rattle.kernel_machine.specs.declared.running_machine.parts.Parts.{Parts}
use Rattle.kernel_machine.specs.KernelSteps.Step.{run}
use Rattle.kernel_machine.specs.KernelSteps.Stepped.{Stepped}
use Rattle.kernel_machine.proofs.KernelSteps.Runs.{run-more}
use Rattle.kernel_machine.specs.RunningMachine.Runs.{Avoids, IsOnWay, is_met}

not-both : (a b : Bool) → b ≡ false → (a && b) ≡ false
not-both true b e = e
not-both false b e = refl

-- where there are none
pub none-met : (breakpoints : List ℕ) (k : Kernel) → (length breakpoints == 0) ≡ true → is_met breakpoints k ≡ false
none-met [] k none = not-both (is_guest_id k.lists.running) (has_breakpoint k.regs.pc []) refl
none-met (a ∷ breakpoints) k none = absurd (omega (arith, eqb-true (length (a ∷ breakpoints)) 0 none))

-- where no guest runs, and where one does
pub task-met : (breakpoints : List ℕ) (k : Kernel) → k.lists.running < 5 → is_met breakpoints k ≡ false
task-met breakpoints k low = ap (λ b. b && has_breakpoint k.regs.pc breakpoints) (lt-leb 5 k.lists.running low)

pub guest-met : (breakpoints : List ℕ) (k : Kernel) → 5 ≤ k.lists.running → has_breakpoint k.regs.pc breakpoints ≡ is_met breakpoints k
guest-met breakpoints k high = ap (λ b. b && has_breakpoint k.regs.pc breakpoints) (sym (le-leb 5 k.lists.running high))

-- where nobody runs
pub idle-met : (breakpoints : List ℕ) (k : Kernel) → k.lists.running ≡ 0 → is_met breakpoints k ≡ false
idle-met breakpoints k none = ap (λ n. is_guest_id n && has_breakpoint k.regs.pc breakpoints) none

module _ (breakpoints : List ℕ) (k : Kernel) where
  -- where the parts that the steps left have the next instruction elsewhere
  pub way-met : (n m : ℕ) (p : Parts) → IsOnWay k n m p → has_breakpoint p.regs.pc breakpoints ≡ false → is_met breakpoints (run n k).kernel ≡ false
  way-met n m p way elsewhere =
      not-both (is_guest_id (run n k).kernel.lists.running) (has_breakpoint (run n k).kernel.regs.pc breakpoints)
      (ap (λ r. has_breakpoint r.pc breakpoints) (sym way.passed.represents.regs) ∙ elsewhere)

  pub avoids-few : (n : ℕ) → n ≤ 1 → Avoids breakpoints n k
  avoids-few n few = λ i some low. absurd (omega (arith, few, some, low))

  pub avoids-fewer : (n m : ℕ) → n ≤ m → Avoids breakpoints m k → Avoids breakpoints n k
  avoids-fewer n m le a = λ i some low. a i some (omega (arith, le, low))

  -- one step more
  pub avoids-next : (n : ℕ) → Avoids breakpoints n k → (0 < n → is_met breakpoints (run n k).kernel ≡ false) → Avoids breakpoints (n + 1) k
  avoids-next n a next = λ i some low.
      elim (cases_lt i n) [
        | inl less ↦ a i some less
        | inr high ↦
            let e : n ≡ i = omega (arith, high, low) in
            subst (λ z. is_met breakpoints (run z k).kernel ≡ false) e (next (omega (arith, e, some)))
      ]

  kernel-more : (n i : ℕ) → (run (n + i) k).kernel ≡ (run i (run n k).kernel).kernel
  kernel-more n i = ap (λ (x : Stepped). x.kernel) (run-more n i k)

  -- some steps behind others
  pub avoids-behind : (n q : ℕ) → Avoids breakpoints (n + 1) k → Avoids breakpoints q (run n k).kernel → Avoids breakpoints (n + q) k
  avoids-behind n q a b = λ i some low.
      elim (cases_lt n i) [
        | inl less ↦
            let e : n + (i - n) ≡ i = omega (arith, less) in
            subst (λ z. is_met breakpoints (run z k).kernel ≡ false) e (ap (is_met breakpoints) (kernel-more n (i - n)) ∙ b (i - n) (omega (arith, less)) (omega (arith, less, low)))
        | inr high ↦ a i some (omega (arith, high))
      ]

  -- the same where some of the steps are counted apart
  pub met-behind : (n i m : ℕ) (p : Parts) → IsOnWay k (n + i) m p → has_breakpoint p.regs.pc breakpoints ≡ false → is_met breakpoints (run i (run n k).kernel).kernel ≡ false
  met-behind n i m p way elsewhere = ap (is_met breakpoints) (sym (kernel-more n i)) ∙ way-met (n + i) m p way elsewhere
