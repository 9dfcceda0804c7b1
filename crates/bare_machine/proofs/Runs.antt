-- Runs: one after another, of a machine that has stopped, and how many steps they take.
use Rattle.std.proofs.Common.{◌≡◌, ◌≢◌, ℕ, zero, suc, ◌+◌, ◌-◌, ◌≤◌, ◌++◌, Bool, true, false, Option, Some, None, Result, Ok, Err, cond, refl, sym, ap, ◌∙◌, arith}
use Rattle.std.specs.Prelude.{is_some}
use Rattle.std.proofs.lemmas.List.{append_assoc, append-nil}
use Rattle.instruction_set.specs.declared.Fault.{Fault}
use Rattle.instruction_set.specs.declared.Outcome.{Outcome}
use Rattle.instruction_set.specs.declared.Outcome.TheVariants.{Next, Sys, Returned, Fault as Faulted}
use Rattle.kernel_model.specs.declared.kernel_record.stops.Stop.{Stop}
use Rattle.bare_machine.specs.declared.calls.CallAnswer.{CallAnswer}
use Rattle.bare_machine.specs.Calls.{call_answer}
use Rattle.bare_machine.specs.Run.{run}
use Rattle.bare_machine.specs.State.{BareState}
use Rattle.bare_machine.specs.Step.{BareStepped, after_call, after_outcome, and_then, instruction_of, quietly, step, turn}

then-assoc : (x : BareStepped) (f g : BareState → BareStepped) → and_then (and_then x f) g ≡ and_then x (λ j. and_then (f j) g)
then-assoc x f g =
    let y : BareStepped = f x.state in
    let z : BareStepped = g y.state in
    λ i. record { state = z.state; bytes = append_assoc x.bytes y.bytes z.bytes i }

pub run-more : (m n : ℕ) (k : BareState) → run (m + n) k ≡ and_then (run m k) (run n)
unfolding run
run-more zero n k = (let none : zero + n ≡ n = omega arith in ap (λ i. run i k) none)
run-more (suc m) n k =
    let next : suc m + n ≡ suc (m + n) = omega arith in
    let behind : BareStepped → BareStepped = λ (y : BareStepped). record { state = y.state; bytes = (step k).bytes ++ y.bytes } in
    ap (λ i. run i k) next ∙ ap behind (run-more m n (step k).state) ∙ sym (then-assoc (step k) (run m) (run n))

run-one : (k : BareState) → run 1 k ≡ step k
unfolding run
run-one k = λ i. record { state = (step k).state; bytes = append-nil (step k).bytes i }

-- behind steps that wrote nothing
pub run-behind : (n : ℕ) (k j : BareState) → run n k ≡ quietly j → run (n + 1) k ≡ step j
run-behind n k j quiet = run-more n 1 k ∙ ap (λ (x : BareStepped). and_then x (run 1)) quiet ∙ run-one j

-- ---- a machine that has stopped

pub has-stopped : (o : Option Stop) → o ≢ None → is_some o ≡ true
has-stopped None some = absurd (some refl)
has-stopped (Some stop) some = refl

pub step-stopped : (k : BareState) → k.stop ≢ None → step k ≡ quietly k
unfolding step
step-stopped k stopped = ap (λ b. cond b (quietly k) (turn (record k { steps = k.steps + 1 }))) (has-stopped k.stop stopped)

pub run-stopped : (n : ℕ) (k : BareState) → k.stop ≢ None → run n k ≡ quietly k
unfolding run
run-stopped zero k stopped = refl
run-stopped (suc n) k stopped = ap (λ (x : BareStepped). and_then x (run n)) (step-stopped k stopped) ∙ run-stopped n k stopped

-- ---- the steps that are taken

call-steps : (c : Result CallAnswer Fault) (k : BareState) → (after_call c k).state.steps ≡ k.steps
call-steps (Ok c) k = refl
call-steps (Err f) k = refl

outcome-steps : (o : Outcome) (k : BareState) → (after_outcome o k).state.steps ≡ k.steps
outcome-steps Next k = refl
outcome-steps Sys k = call-steps (call_answer k.words k.regs) k
outcome-steps Returned k = refl
outcome-steps (Faulted f) k = refl

step-steps : (k : BareState) → (step k).state.steps ≤ k.steps + 1
unfolding step
step-steps k = on (is_some k.stop)
  where
    turned : (turn (record k { steps = k.steps + 1 })).state.steps ≡ k.steps + 1
    turned = outcome-steps (instruction_of k).outcome (record k { words = (instruction_of k).words; regs = (instruction_of k).regs; steps = k.steps + 1 })

    on : (b : Bool) → (cond b (quietly k) (turn (record k { steps = k.steps + 1 }))).state.steps ≤ k.steps + 1
    on true = omega arith
    on false = omega (arith, turned)

pub run-steps : (n : ℕ) (k : BareState) → (run n k).state.steps ≤ k.steps + n
unfolding run
run-steps zero k = omega arith
run-steps (suc n) k = omega (arith, run-steps n (step k).state, step-steps k)

-- they are never fewer
step-later : (k : BareState) → k.steps ≤ (step k).state.steps
unfolding step
step-later k = on (is_some k.stop)
  where
    turned : (turn (record k { steps = k.steps + 1 })).state.steps ≡ k.steps + 1
    turned = outcome-steps (instruction_of k).outcome (record k { words = (instruction_of k).words; regs = (instruction_of k).regs; steps = k.steps + 1 })

    on : (b : Bool) → k.steps ≤ (cond b (quietly k) (turn (record k { steps = k.steps + 1 }))).state.steps
    on true = omega arith
    on false = omega (arith, turned)

pub run-later : (n : ℕ) (k : BareState) → k.steps ≤ (run n k).state.steps
unfolding run
run-later zero k = omega arith
run-later (suc n) k = omega (arith, run-later n (step k).state, step-later k)

-- and a step of a machine that has not stopped is one more
pub step-counts : (k : BareState) → k.stop ≡ None → (step k).state.steps ≡ k.steps + 1
unfolding step
step-counts k goes =
    let stepped : BareStepped = turn (record k { steps = k.steps + 1 }) in
    ap (λ o. (cond (is_some o) (quietly k) stepped).state.steps) goes
    ∙ outcome-steps (instruction_of k).outcome (record k { words = (instruction_of k).words; regs = (instruction_of k).regs; steps = k.steps + 1 })

pub run-counts : (n : ℕ) (k : BareState) → (run n k).state.stop ≡ None → (run n k).state.steps ≡ k.steps + n
unfolding run
run-counts zero k goes = omega arith
run-counts (suc n) k goes = on k.stop refl (run-counts n (step k).state goes)
  where
    on : (o : Option Stop) → k.stop ≡ o → (run n (step k).state).state.steps ≡ (step k).state.steps + n → (run n (step k).state).state.steps ≡ k.steps + suc n
    on None is more = omega (arith, more, step-counts k is)
    on (Some stop) is more =
        let stays = ap (λ (x : BareStepped). x.state.stop) (run-stopped (suc n) k (λ none. (let other = sym is ∙ none in cc))) in
        let other : Some stop ≡ None = sym is ∙ sym stays ∙ goes in
        cc

-- a machine that has not stopped after some steps has not stopped after fewer
pub goes-earlier : (i n : ℕ) (k : BareState) → i ≤ n → (run n k).state.stop ≡ None → (run i k).state.stop ≡ None
goes-earlier i n k few goes = on (run i k).state.stop refl
  where
    on : (o : Option Stop) → (run i k).state.stop ≡ o → (run i k).state.stop ≡ None
    on None is = is
    on (Some stop) is =
        let all : n ≡ i + (n - i) = omega (arith, few) in
        let stays = run-stopped (n - i) (run i k).state (λ none. (let other = sym is ∙ none in cc)) in
        let there = ap (λ j. (run j k).state.stop) all ∙ ap (λ (x : BareStepped). x.state.stop) (run-more i (n - i) k) ∙ ap (λ (x : BareStepped). x.state.stop) stays ∙ is in
        let other : Some stop ≡ None = sym there ∙ goes in
        cc
