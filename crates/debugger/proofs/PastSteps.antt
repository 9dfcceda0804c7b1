-- What is past once some steps were taken.
use Rattle.std.proofs.Common.{◌≡◌, ℕ, zero, suc, ◌+◌, Bool, true, false, Option, Some, None, List, [], refl, sym, ap, ◌∙◌, arith}
use Rattle.std.specs.Prelude.{is_some, if◌then◌else◌}
use Rattle.debugger.specs.MachineHistory.Pasts.{remembered}
use Rattle.kernel_model.specs.declared.kernel_record.stops.Stop.{Stop}
use Rattle.tripos_machine.specs.State.{State, stop_of}
use Rattle.tripos_machine.specs.Step.{Stepped, run, step}
use Rattle.debugger.specs.Debugged.{past_after, steps_to}
use Rattle.debugger.proofs.StepsTo.{end-none, run-suc, to-further, to-here, went-on}
use Rattle.tripos_machine.proofs.QuietSteps.{run-none}

-- a machine that has stopped takes no step
pub past-stopped : (n : ℕ) (past : List State) (s : State) → is_some (stop_of s) ≡ true → past_after n past s ≡ past
past-stopped zero past s is = refl
past-stopped (suc n) past s is = ap (λ b. if b then past else past_after n (remembered past s (step s).state) (step s).state) is

past-on : (n : ℕ) (past : List State) (s : State) → stop_of s ≡ None → past_after (suc n) past s ≡ past_after n (remembered past s (step s).state) (step s).state
past-on n past s goes = ap (λ o. if is_some o then past else past_after n (remembered past s (step s).state) (step s).state) goes

-- one step more
past-next : (n : ℕ) (past : List State) (s : State) → stop_of (run n s).state ≡ None → past_after (suc n) past s ≡ remembered (past_after n past s) (run n s).state (step (run n s).state).state
past-next zero past s goes =
    let here : (run 0 s).state ≡ s = ap (λ (x : Stepped). x.state) (run-none s) in
    past-on 0 past s (sym (ap stop_of here) ∙ goes) ∙ ap (λ t. remembered past t (step t).state) (sym here)
past-next (suc n) past s goes =
    let t : State = (step s).state in
    let there : (run (suc n) s).state ≡ (run n t).state = ap (λ (x : Stepped). x.state) (run-suc n s) in
    let first : stop_of s ≡ None = went-on (suc n) s goes in
    past-on (suc n) past s first
    ∙ past-next n (remembered past s t) t (sym (ap stop_of there) ∙ goes)
    ∙ ap (λ u. remembered (past_after n (remembered past s t) t) u (step u).state) (sym there)
    ∙ ap (λ p. remembered p (run (suc n) s).state (step (run (suc n) s).state).state) (sym (past-on n past s first))

pub past-more : (n : ℕ) (past : List State) (s t u : State) → t ≡ (run n s).state → stop_of t ≡ None → u ≡ (step t).state → remembered (past_after n past s) t u ≡ past_after (n + 1) past s
past-more n past s t u is goes next =
    let count : n + 1 ≡ suc n = omega arith in
    (λ i. remembered (past_after n past s) (is i) ((next ∙ ap (λ v. (step v).state) is) i))
    ∙ sym (past-next n past s (sym (ap stop_of is) ∙ goes))
    ∙ ap (λ m. past_after m past s) (sym count)

-- where there is no breakpoint, all steps are taken
pub past-all : (n : ℕ) (past : List State) (s : State) → past_after (steps_to [] n s) past s ≡ past_after n past s
past-all zero past s = refl
past-all (suc n) past s = on (stop_of s) refl (past-all n (remembered past s (step s).state) (step s).state)
  where
    t : State
    t = (step s).state

    rest : List State
    rest = remembered past s t

    one : stop_of s ≡ None → (b : Bool) → is_some (stop_of t) ≡ b → past_after (steps_to [] n t) rest t ≡ past_after n rest t → past_after (steps_to [] (suc n) s) past s ≡ past_after (suc n) past s
    one goes true is more = ap (λ m. past_after m past s) (to-here [] n s (end-none t ∙ is)) ∙ past-on 0 past s goes ∙ sym (past-stopped n rest t is) ∙ sym (past-on n past s goes)
    one goes false is more = ap (λ m. past_after m past s) (to-further [] n s (end-none t ∙ is)) ∙ past-on (steps_to [] n t) past s goes ∙ more ∙ sym (past-on n past s goes)

    on : (o : Option Stop) → stop_of s ≡ o → past_after (steps_to [] n t) rest t ≡ past_after n rest t → past_after (steps_to [] (suc n) s) past s ≡ past_after (suc n) past s
    on None is more = one is (is_some (stop_of t)) refl more
    on (Some stop) is more = past-stopped (steps_to [] (suc n) s) past s (ap is_some is) ∙ sym (past-stopped (suc n) past s (ap is_some is))
