-- Instructions that are each a step of their own.
use Rattle.std.proofs.Common.{◌≡◌, ℕ, zero, suc, ◌+◌, ◌≤◌, List, None, refl, sym, ap, ◌++◌, ◌∙◌, subst, arith}
use Rattle.std.proofs.lemmas.List.{append-nil}
use Rattle.word_store.specs.declared.registers.Regs.{Regs}
use Rattle.instruction_set.specs.Instruction.{After, instruction}
use Rattle.instruction_set.specs.declared.Outcome.{Outcome}
use Rattle.instruction_set.specs.declared.Outcome.TheVariants.{Next, Sys}
use Rattle.instruction_set.proofs.Unexecuted.{stays-instruction}
use Rattle.bare_machine.specs.Run.{Executes, run}
use Rattle.bare_machine.specs.State.{BareState, going}
use Rattle.bare_machine.specs.Step.{BareStepped, after_outcome, and_then, quietly, step, unmarked}
use Rattle.bare_machine.proofs.Runs.{goes-earlier, run-behind}

-- one more is executed
executes-suc : (n : ℕ) (s : List ℕ) (r : Regs) (t : List ℕ) (q : Regs) → Executes n s r t q → (instruction unmarked t q).outcome ≡ Next → Executes (suc n) s r (instruction unmarked t q).words (instruction unmarked t q).regs
executes-suc zero s r t q e next =
    let same : instruction unmarked t q ≡ instruction unmarked s r = λ i. instruction unmarked (e.0 i) (e.1 i) in
    (sym (ap (λ (x : After). x.outcome) same) ∙ next, (ap (λ (x : After). x.words) same, ap (λ (x : After). x.regs) same))
executes-suc (suc n) s r t q e next = (e.0, executes-suc n (instruction unmarked s r).words (instruction unmarked s r).regs t q e.1 next)

pub executes-same : (n : ℕ) (s : List ℕ) (r : Regs) (t u : List ℕ) (q p : Regs) → Executes n s r t q → (u ≡ t) × (p ≡ q) → Executes n s r u p
executes-same n s r t u q p e same = subst (λ w. Executes n s r w p) (sym same.0) (subst (λ v. Executes n s r t v) (sym same.1) e)

pub executes-next : (n : ℕ) (s : List ℕ) (r : Regs) (t : List ℕ) (q : Regs) → Executes n s r t q → (instruction unmarked t q).outcome ≡ Next → Executes (n + 1) s r (instruction unmarked t q).words (instruction unmarked t q).regs
executes-next n s r t q e next =
    let more : suc n ≡ n + 1 = omega arith in
    subst (λ k. Executes k s r (instruction unmarked t q).words (instruction unmarked t q).regs) more (executes-suc n s r t q e next)

step-going : (s : List ℕ) (r : Regs) (k : ℕ) → (instruction unmarked s r).outcome ≡ Next → step (going s r k) ≡ quietly (going (instruction unmarked s r).words (instruction unmarked s r).regs (k + 1))
unfolding step
step-going s r k next = ap (λ o. after_outcome o (going (instruction unmarked s r).words (instruction unmarked s r).regs (k + 1))) next

-- they are a run that writes nothing
pub executed-run : (n : ℕ) (s : List ℕ) (r : Regs) (t : List ℕ) (q : Regs) (k : ℕ) → Executes n s r t q → run n (going s r k) ≡ quietly (going t q (k + n))
unfolding run
executed-run zero s r t q k e = (let none : k ≡ k + zero = omega arith in λ i. quietly (going (sym e.0 i) (sym e.1 i) (none i)))
executed-run (suc n) s r t q k e =
    let more : k + 1 + n ≡ k + suc n = omega arith in
    ap (λ (x : BareStepped). and_then x (run n)) (step-going s r k e.0) ∙ executed-run n (instruction unmarked s r).words (instruction unmarked s r).regs t q (k + 1) e.1
    ∙ ap (λ j. quietly (going t q j)) more

-- ---- a step, by what its instruction comes to

pub step-as : (s : List ℕ) (r : Regs) (k : ℕ) (o is : Outcome) (t : List ℕ) (q : Regs) → o ≡ (instruction unmarked s r).outcome → t ≡ (instruction unmarked s r).words → q ≡ (instruction unmarked s r).regs → o ≡ is
    → step (going s r k) ≡ after_outcome is (going t q (k + 1))
unfolding step
step-as s r k o is t q outcome words regs same = λ i. after_outcome ((sym outcome ∙ same) i) (going (sym words i) (sym regs i) (k + 1))

-- one that is a call
pub step-calls : (s : List ℕ) (r : Regs) (k : ℕ) → (instruction unmarked s r).outcome ≡ Sys → step (going s r k) ≡ after_outcome Sys (going s r (k + 1))
step-calls s r k calls =
    let left = (stays-instruction unmarked s r).stays (λ next. (let other : Sys ≡ Next = sym calls ∙ next in cc)) in
    step-as s r k Sys Sys s r (sym calls) (sym left.0) (sym left.1) refl

-- ---- instructions, and a step behind them

module _ (s : List ℕ) (r : Regs) (t : List ℕ) (q : Regs) (k n : ℕ) (e : Executes n s r t q) (old : BareState) (here : going s r k ≡ old) where
  pub ran : run n old ≡ quietly (going t q (k + n))
  ran = ap (run n) (sym here) ∙ executed-run n s r t q k e

  pub ran-behind : run (n + 1) old ≡ step (going t q (k + n))
  ran-behind = run-behind n old (going t q (k + n)) ran

  pub ran-goes : (i : ℕ) → i ≤ n → (run i old).state.stop ≡ None
  ran-goes i few = goes-earlier i n old few (ap (λ (x : BareStepped). x.state.stop) ran)

-- ---- bytes behind others

-- what a step wrote is behind what was there
pub same-behind : (old : List ℕ) (x y : BareStepped) → x ≡ y → old ++ x.bytes ≡ old ++ y.bytes
same-behind old x y same = ap (λ (z : BareStepped). old ++ z.bytes) same

-- and nothing, where nothing was written
pub quiet-behind : (old : List ℕ) (x : BareStepped) (j : BareState) → x ≡ quietly j → old ≡ old ++ x.bytes
quiet-behind old x j quiet = sym (append-nil old) ∙ same-behind old (quietly j) x (sym quiet)
