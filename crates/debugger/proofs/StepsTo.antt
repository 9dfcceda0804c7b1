-- How many steps lead to a breakpoint or to a stop.
use Rattle.std.proofs.Common.{◌≡◌, ◌≢◌, ℕ, zero, suc, ◌+◌, ◌-◌, ◌<◌, ◌≤◌, ◌&&◌, ◌||◌, ◌++◌, Bool, true, false, Option, Some, None, List, [], inl, inr, refl, sym, ap, ◌∙◌, arith}
use Rattle.std.specs.Prelude.{◌==◌, is_some, if◌then◌else◌, not}
use Rattle.kernel_model.specs.declared.kernel_record.stops.Stop.{Stop}
use Rattle.tripos_machine.specs.Breakpoints.{Avoids, is_met}
use Rattle.instruction_set.specs.Breakpoints.{has_breakpoint}
use Rattle.kernel_model.specs.KernelRecord.Task.{is_guest_id}
use Rattle.tripos_machine.specs.State.{State, regs_of, stop_of}
use Rattle.tripos_machine.specs.State.State.{Bare, Full}
use Rattle.tripos_machine.specs.Step.{Stepped, and_then, quietly, run, step}
use Rattle.tripos_machine.proofs.StateRuns.{run-more, run-stopped}
use Rattle.debugger.specs.Debugged.{steps_to}
use Rattle.std.proofs.lemmas.Bool.{cases_lt}
use Rattle.std.proofs.lemmas.List.{append-nil}
use Rattle.debugger.specs.Views.{is_at, is_end, is_guest_next}
use Rattle.tripos_machine.proofs.QuietSteps.{run-none}

pub to-here : (stops : List ℕ) (n : ℕ) (s : State) → is_end stops (step s).state ≡ true → steps_to stops (suc n) s ≡ 1
to-here stops n s here = ap (λ b. if b then 1 else suc (steps_to stops n (step s).state)) here

pub to-further : (stops : List ℕ) (n : ℕ) (s : State) → is_end stops (step s).state ≡ false → steps_to stops (suc n) s ≡ suc (steps_to stops n (step s).state)
to-further stops n s other = ap (λ b. if b then 1 else suc (steps_to stops n (step s).state)) other

-- at most so many, and one at least where one may be taken
pub to-most : (stops : List ℕ) (n : ℕ) (s : State) → steps_to stops n s ≤ n
to-most stops zero s = omega arith
to-most stops (suc n) s = on (is_end stops (step s).state) refl (to-most stops n (step s).state)
  where
    on : (b : Bool) → is_end stops (step s).state ≡ b → steps_to stops n (step s).state ≤ n → steps_to stops (suc n) s ≤ suc n
    on true is more = omega (arith, to-here stops n s is)
    on false is more = omega (arith, to-further stops n s is, more)

pub to-some : (stops : List ℕ) (n : ℕ) (s : State) → 0 < n → 1 ≤ steps_to stops n s
to-some stops zero s some = omega (arith, some)
to-some stops (suc n) s some = on (is_end stops (step s).state) refl
  where
    on : (b : Bool) → is_end stops (step s).state ≡ b → 1 ≤ steps_to stops (suc n) s
    on true is = omega (arith, to-here stops n s is)
    on false is = omega (arith, to-further stops n s is)

-- ---- without breakpoints

and-false : (a b : Bool) → (a && b && false) ≡ false
and-false true true = refl
and-false true false = refl
and-false false true = refl
and-false false false = refl

or-false : (a b : Bool) → b ≡ false → (a || b) ≡ a
or-false true b none = refl
or-false false b none = none

never-at : (t : State) → is_at [] t ≡ false
never-at t = and-false (is_guest_next t) (not ((regs_of t).pc == 0))

-- a run ends at a stop alone
pub end-none : (t : State) → is_end [] t ≡ is_some (stop_of t)
end-none t = or-false (is_some (stop_of t)) (is_at [] t) (never-at t)

pub run-suc : (n : ℕ) (s : State) → run (suc n) s ≡ and_then (step s) (run n)
unfolding run
run-suc n s = refl

not-none : (o : Option Stop) → is_some o ≡ true → o ≢ None
not-none None is none = cc
not-none (Some stop) is none = cc

pub to-all : (n : ℕ) (s : State) → run (steps_to [] n s) s ≡ run n s
to-all zero s = refl
to-all (suc n) s = on (is_some (stop_of (step s).state)) refl (to-all n (step s).state)
  where
    t : State
    t = (step s).state

    on : (b : Bool) → is_some (stop_of t) ≡ b → run (steps_to [] n t) t ≡ run n t → run (steps_to [] (suc n) s) s ≡ run (suc n) s
    on true is more =
        ap (λ i. run i s) (to-here [] n s (end-none t ∙ is)) ∙ run-suc 0 s
        ∙ ap (λ (x : Stepped). and_then (step s) (λ _. x)) (run-none t ∙ sym (run-stopped n t (not-none (stop_of t) is))) ∙ sym (run-suc n s)
    on false is more =
        ap (λ i. run i s) (to-further [] n s (end-none t ∙ is)) ∙ run-suc (steps_to [] n t) s
        ∙ ap (λ (x : Stepped). and_then (step s) (λ _. x)) more ∙ sym (run-suc n s)

-- ---- behind these steps, and behind fewer

pub to-earlier : (stops : List ℕ) (n i : ℕ) (s : State) → 0 < i → i < steps_to stops n s → is_end stops (run i s).state ≡ false
to-earlier stops zero i s some few = absurd (omega (arith, few))
to-earlier stops (suc n) zero s some few = absurd (omega (arith, some))
to-earlier stops (suc n) (suc i) s some few = on (is_end stops (step s).state) refl (to-earlier stops n i (step s).state)
  where
    on : (b : Bool) → is_end stops (step s).state ≡ b → (0 < i → i < steps_to stops n (step s).state → is_end stops (run i (step s).state).state ≡ false) → is_end stops (run (suc i) s).state ≡ false
    on true is more = absurd (omega (arith, few, to-here stops n s is))
    on false is more = first i refl
      where
        first : (j : ℕ) → i ≡ j → is_end stops (run (suc i) s).state ≡ false
        first zero none = ap (λ k. is_end stops (run (suc k) s).state) none ∙ ap (λ (x : Stepped). is_end stops x.state) (run-suc 0 s) ∙ ap (λ (x : Stepped). is_end stops x.state) (run-none (step s).state) ∙ is
        first (suc j) there = ap (λ (x : Stepped). is_end stops x.state) (run-suc i s) ∙ more (omega (arith, there)) (omega (arith, few, to-further stops n s is))

pub to-last : (stops : List ℕ) (n : ℕ) (s : State) → steps_to stops n s < n → is_end stops (run (steps_to stops n s) s).state ≡ true
to-last stops zero s few = absurd (omega (arith, few))
to-last stops (suc n) s few = on (is_end stops (step s).state) refl (to-last stops n (step s).state)
  where
    t : State
    t = (step s).state

    on : (b : Bool) → is_end stops t ≡ b → (steps_to stops n t < n → is_end stops (run (steps_to stops n t) t).state ≡ true) → is_end stops (run (steps_to stops (suc n) s) s).state ≡ true
    on true is more =
        ap (λ k. is_end stops (run k s).state) (to-here stops n s is) ∙ ap (λ (x : Stepped). is_end stops x.state) (run-suc 0 s)
        ∙ ap (λ (x : Stepped). is_end stops x.state) (run-none t) ∙ is
    on false is more =
        ap (λ k. is_end stops (run k s).state) (to-further stops n s is) ∙ ap (λ (x : Stepped). is_end stops x.state) (run-suc (steps_to stops n t) s)
        ∙ more (omega (arith, few, to-further stops n s is))

-- ---- some steps after others, between which no run ends

pub run-one : (s : State) → run 1 s ≡ step s
run-one s =
    let t : State = (step s).state in
    run-suc 0 s ∙ ap (λ (x : Stepped). and_then (step s) (λ _. x)) (run-none t)
    ∙ (λ i. record { state = t; bytes = append-nil (step s).bytes i; events = append-nil (step s).events i })

pub one-state : (s : State) → (step s).state ≡ (run 1 s).state
one-state s = ap (λ (x : Stepped). x.state) (sym (run-one s))

pub one-bytes : (s : State) → (step s).bytes ≡ (run 1 s).bytes
one-bytes s = ap (λ (x : Stepped). x.bytes) (sym (run-one s))

-- within one step no run ends
pub one-unended : (stops : List ℕ) (s : State) → (i : ℕ) → 0 < i → i < 1 → is_end stops (run i s).state ≡ false
one-unended stops s i some less = absurd (omega (arith, some, less))

to-past : (stops : List ℕ) (m rest : ℕ) (t : State) → m ≤ rest → ((i : ℕ) → 0 < i → i ≤ m → is_end stops (run i t).state ≡ false) → steps_to stops rest t ≡ m + steps_to stops (rest - m) (run m t).state
to-past stops zero rest t few none =
    let whole : rest ≡ rest - 0 = omega arith in
    let same : steps_to stops rest t ≡ steps_to stops (rest - 0) (run 0 t).state = λ j. steps_to stops (whole j) (sym (ap (λ (x : Stepped). x.state) (run-none t)) j) in
    omega (arith, same)
to-past stops (suc m) zero t few none = absurd (omega (arith, few))
to-past stops (suc m) (suc rest) t few none =
    let u : State = (step t).state in
    let behind : (i : ℕ) → (run (suc i) t).state ≡ (run i u).state = λ i. ap (λ (x : Stepped). x.state) (run-suc i t) in
    let first : is_end stops u ≡ false = sym (ap (λ (x : Stepped). is_end stops x.state) (run-one t)) ∙ none 1 (omega arith) (omega arith) in
    let more = to-past stops m rest u (omega (arith, few)) (λ i some le. sym (ap (is_end stops) (behind i)) ∙ none (suc i) (omega arith) (omega (arith, le))) in
    let less : rest - m ≡ suc rest - suc m = omega arith in
    let same : steps_to stops (rest - m) (run m u).state ≡ steps_to stops (suc rest - suc m) (run (suc m) t).state = λ j. steps_to stops (less j) (sym (behind m) j) in
    omega (arith, to-further stops rest t first, more, same)

module _ (stops : List ℕ) (most taken m : ℕ) (s t : State) (state : t ≡ (run taken s).state) where
  pub next-state : (run m t).state ≡ (run (taken + m) s).state
  next-state = ap (λ z. (run m z).state) state ∙ sym (ap (λ (x : Stepped). x.state) (run-more taken m s))

  pub next-bytes : (run taken s).bytes ++ (run m t).bytes ≡ (run (taken + m) s).bytes
  next-bytes = ap (λ z. (run taken s).bytes ++ (run m z).bytes) state ∙ sym (ap (λ (x : Stepped). x.bytes) (run-more taken m s))

  module _ (told : steps_to stops most s ≡ taken + steps_to stops (most - taken) t) (some : 0 < m) (few : m ≤ most - taken) (none : (i : ℕ) → 0 < i → i < m → is_end stops (run i t).state ≡ false) where
    -- all but the last
    but_last : steps_to stops (most - taken) t ≡ m - 1 + steps_to stops (most - taken - (m - 1)) (run (m - 1) t).state
    but_last = to-past stops (m - 1) (most - taken) t (omega (arith, few)) (λ i positive le. none i positive (omega (arith, some, le)))

    pub told-some : taken + m ≤ steps_to stops most s
    told-some = omega (arith, told, but_last, some, to-some stops (most - taken - (m - 1)) (run (m - 1) t).state (omega (arith, some, few)))

    pub told-here : is_end stops (run m t).state ≡ true → steps_to stops most s ≡ taken + m
    told-here is =
        let u : State = (run (m - 1) t).state in
        let all : m - 1 + 1 ≡ m = omega (arith, some) in
        let there : (step u).state ≡ (run m t).state =
        sym (ap (λ (x : Stepped). x.state) (run-one u)) ∙ sym (ap (λ (x : Stepped). x.state) (run-more (m - 1) 1 t)) ∙ ap (λ n. (run n t).state) all in
        let left : most - taken - (m - 1) ≡ suc (most - taken - m) = omega (arith, some, few) in
        let one = ap (λ n. steps_to stops n u) left ∙ to-here stops (most - taken - m) u (ap (is_end stops) there ∙ is) in
        omega (arith, told, but_last, one, some)

    pub told-further : is_end stops (run m t).state ≡ false → steps_to stops most s ≡ taken + m + steps_to stops (most - (taken + m)) (run m t).state
    told-further is =
        let past = to-past stops m (most - taken) t few (λ i positive le. elim (cases_lt i m) [
          | inl low ↦ none i positive low
          | inr high ↦ (let same : i ≡ m = omega (arith, le, high) in ap (λ n. is_end stops (run n t).state) same ∙ is)
        ]) in
        let left = ap (λ n. steps_to stops n (run m t).state) (let less : most - taken - m ≡ most - (taken + m) = omega arith in less) in
        omega (arith, told, past, left)

pub told-end : (stops : List ℕ) (most taken : ℕ) (s t : State) → steps_to stops most s ≡ taken + steps_to stops (most - taken) t → taken ≡ most → steps_to stops most s ≡ taken
told-end stops most taken s t told all =
    let none : most - taken ≡ 0 = omega (arith, all) in
    let no-more : steps_to stops (most - taken) t ≡ 0 = ap (λ n. steps_to stops n t) none in
    omega (arith, told, no-more)

-- ---- steps that met no breakpoint

unmet-between : (g n h : Bool) → (g && h) ≡ false → (g && n && h) ≡ false
unmet-between true true h unmet = unmet
unmet-between true false h unmet = refl
unmet-between false n h unmet = refl

unmet-at : (stops : List ℕ) (t : State) → is_met stops t ≡ false → is_at stops t ≡ false
unmet-at stops (Bare m) unmet = unmet-between true (not (m.regs.pc == 0)) (has_breakpoint m.regs.pc stops) unmet
unmet-at stops (Full k) unmet = unmet-between (is_guest_id k.lists.running) (not (k.regs.pc == 0)) (has_breakpoint k.regs.pc stops) unmet

-- behind a machine that has not stopped
pub went-on : (n : ℕ) (s : State) → stop_of (run n s).state ≡ None → stop_of s ≡ None
went-on n s goes = on (stop_of s) refl
  where
    on : (o : Option Stop) → stop_of s ≡ o → stop_of s ≡ None
    on None is = is
    on (Some stop) is =
        let stays = ap (λ (x : Stepped). stop_of x.state) (run-stopped n s (λ none. (let other = sym is ∙ none in cc))) in
        let other : Some stop ≡ None = sym is ∙ sym stays ∙ goes in
        cc

-- no run ends before the last of them
pub unended : (stops : List ℕ) (m : ℕ) (t : State) → Avoids stops m t → stop_of (run (m - 1) t).state ≡ None → (i : ℕ) → 0 < i → i < m → is_end stops (run i t).state ≡ false
unended stops m t unmet goes i some less =
    let all : i + (m - 1 - i) ≡ m - 1 = omega (arith, less) in
    let later : stop_of (run (m - 1 - i) (run i t).state).state ≡ None = sym (ap (λ (x : Stepped). stop_of x.state) (run-more i (m - 1 - i) t)) ∙ ap (λ n. stop_of (run n t).state) all ∙ goes in
    ap (λ o. is_some o || is_at stops (run i t).state) (went-on (m - 1 - i) (run i t).state later) ∙ unmet-at stops (run i t).state (unmet i some less)
