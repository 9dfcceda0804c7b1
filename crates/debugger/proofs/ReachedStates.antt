-- The states that lines reach, and those that can be gone back to.
use Rattle.std.proofs.Common.{◌≡◌, ℕ, zero, suc, ◌+◌, ◌-◌, ◌≤◌, min, Option, Some, None, List, [], ◌∷◌, ◌++◌, Result, Ok, Err, length, take, get_or, refl, sym, ap, subst, ◌∙◌, arith}
use Rattle.std.specs.Prelude.{is_some, if◌then◌else◌, unwrap_or}
use Rattle.std.specs.List.{AllByRecursion}
use Rattle.std.specs.Option.{option_map}
use Rattle.debugger.specs.MachineHistory.Pasts.{kept, past_back, remembered, state_back}
use Rattle.debugger.proofs.MachineHistory.KeptStates.{is-suffix}
use Rattle.debugger.proofs.MachineHistory.StatesInOrder.{all-back, all-joined, all-turned}
use Rattle.kernel_model.specs.declared.kernel_record.stops.Stop.{Stop}
use Rattle.tripos_machine.specs.State.{State, steps_of, stop_of}
use Rattle.tripos_machine.specs.Step.{Stepped, run, step}
use Rattle.tripos_machine.proofs.StateRuns.{run-counts}
use Rattle.debugger.specs.declared.limits.Limits.{Limits}
use Rattle.debugger.specs.declared.orders.BadLine.{BadLine}
use Rattle.debugger.specs.declared.orders.Order.{Order}
use Rattle.debugger.specs.declared.orders.Order.TheVariants.{Back, Blocks, Break, Continue, DeviceQueue, Instructions, Registers, Step, TaskQueue, Tasks, Unbreak, Words}
use Rattle.debugger.specs.Debugged.{Debugging, HasDebugged, line_obeyed, obeyed, past_after, past_of, steps_left, steps_to}
use Rattle.debugger.specs.Runs.{IsWithin}
use Rattle.debugger.proofs.DebuggedRuns.{debugged-all, debugged-then, left-goes, within-then}
use Rattle.debugger.proofs.StepsTo.{run-one, to-most}

-- of a list, or what is in its place
get-holds : {X : Type 0} (P : X → Type 0) (xs : List X) (k : ℕ) (d : X) → AllByRecursion P xs → P d → P (get_or xs k d)
get-holds P [] k d all one = one
get-holds P (x ∷ xs) zero d all one = all.0
get-holds P (x ∷ xs) (suc k) d all one = get-holds P xs k d all.1 one

take-holds : {X : Type 0} (P : X → Type 0) (k : ℕ) (xs : List X) → AllByRecursion P xs → AllByRecursion P (take k xs)
take-holds P zero [] all = tt
take-holds P (suc k) [] all = tt
take-holds P zero (x ∷ xs) all = tt
take-holds P (suc k) (x ∷ xs) all = (all.0, take-holds P k xs all.1)

module _ (c : Limits) (s : State) where
  -- a state that some steps lead to, of those that may be taken
  abbrev pub Reached : State → Type 0
  Reached t = HasDebugged (steps_left c s) s t

  -- the machine, and each state that it can go back to
  pub record AreReached (e : Debugging) : Type 0 where
    pub now : Reached e.state
    pub past : AllByRecursion Reached (past_of e)

  kept-reached : (past : List State) (t u : State) → AllByRecursion Reached past → Reached t → AllByRecursion Reached (remembered past t u)
  kept-reached past t u all one =
      let whole : List State = past ++ t ∷ [] in
      let parts = is-suffix u whole in
      all-back Reached parts.0 (kept whole u) (subst (AllByRecursion Reached) (sym parts.1) (all-joined Reached past (t ∷ []) all (one, tt)))

  -- a step that may be taken leads to one
  step-reached : (t : State) → stop_of t ≡ None → 1 ≤ steps_left c t → Reached t → Reached (step t).state
  step-reached t goes some one = debugged-then c s t (step t).state one (debugged-all 1 (steps_left c t) t (step t).state some (sym (ap (λ (x : Stepped). x.state) (run-one t))))

  -- behind it there is one step fewer to be taken
  left-next : (n : ℕ) (t : State) → stop_of t ≡ None → suc n ≤ steps_left c t → stop_of (step t).state ≡ None → n ≤ steps_left c (step t).state
  left-next n t goes few next =
      let one : (run 1 t).state ≡ (step t).state = ap (λ (x : Stepped). x.state) (run-one t) in
      let counted : steps_of (step t).state ≡ steps_of t + 1 = sym (ap steps_of one) ∙ run-counts 1 t (ap stop_of one ∙ next) in
      omega (arith, few, counted, left-goes c t goes, left-goes c (step t).state next)

  past-reached : (n : ℕ) (past : List State) (t : State) → (stop_of t ≡ None → n ≤ steps_left c t) → AllByRecursion Reached past → Reached t → AllByRecursion Reached (past_after n past t)
  past-reached zero past t few all one = all
  past-reached (suc n) past t few all one =
      on (stop_of t) refl
      (λ goes. past-reached n (remembered past t (step t).state) (step t).state (left-next n t goes (few goes)) (kept-reached past t (step t).state all one) (step-reached t goes (omega (arith, few goes)) one))
    where
      on : (o : Option Stop) → stop_of t ≡ o → (stop_of t ≡ None → AllByRecursion Reached (past_after n (remembered past t (step t).state) (step t).state)) → AllByRecursion Reached (past_after (suc n) past t)
      on None is rest = subst (AllByRecursion Reached) (sym (ap (λ o. if is_some o then past else past_after n (remembered past t (step t).state) (step t).state) is)) (rest is)
      on (Some stop) is rest = subst (AllByRecursion Reached) (sym (ap (λ o. if is_some o then past else past_after n (remembered past t (step t).state) (step t).state) is)) all

  -- where a history is kept
  module _ (e : Debugging) (past : List State) (keeps : e.past ≡ Some past) (r : AreReached e) where
    past-is : past_of e ≡ past
    past-is = ap (λ p. unwrap_or p []) keeps

    all-past : AllByRecursion Reached past
    all-past = subst (AllByRecursion Reached) past-is r.past

    -- a list of states, seen through what is kept
    mapped : (f : List State → List State) → AllByRecursion Reached (f past) → AllByRecursion Reached (unwrap_or (option_map f e.past) [])
    mapped f all = subst (λ p. AllByRecursion Reached (unwrap_or (option_map f p) [])) (sym keeps) all

    steps-reached : (n : ℕ) → n ≤ steps_left c e.state → AllByRecursion Reached (unwrap_or (option_map (λ p. past_after n p e.state) e.past) [])
    steps-reached n few = mapped (λ p. past_after n p e.state) (past-reached n past e.state (λ goes. few) all-past r.now)

    run-reached : (n : ℕ) → n ≤ steps_left c e.state → Reached (run n e.state).state
    run-reached n few = debugged-then c s e.state (run n e.state).state r.now (debugged-all n (steps_left c e.state) e.state (run n e.state).state few refl)

    -- the states that are gone back to
    pub back-reached : (n : ℕ) → Reached (state_back n (past_of e) e.state)
    back-reached n = get-holds Reached (past_of e) (length (past_of e) - n) e.state r.past r.now

    obeyed-reached : (order : Order) → AreReached (obeyed c order e).after
    obeyed-reached (Break a) = record { now = r.now; past = r.past }
    obeyed-reached (Unbreak a) = record { now = r.now; past = r.past }
    obeyed-reached (Step n) = record { now = run-reached (min n (steps_left c e.state)) (omega arith); past = steps-reached (min n (steps_left c e.state)) (omega arith) }
    obeyed-reached (Back n) = record { now = back-reached n; past = mapped (past_back n) (take-holds Reached (length past - n) past all-past) }
    obeyed-reached Continue = (let few = to-most e.stops (steps_left c e.state) e.state in record { now = run-reached (steps_to e.stops (steps_left c e.state) e.state) few; past = steps-reached (steps_to e.stops (steps_left c e.state) e.state) few })
    obeyed-reached Registers = record { now = r.now; past = r.past }
    obeyed-reached (Words a n) = record { now = r.now; past = r.past }
    obeyed-reached Tasks = record { now = r.now; past = r.past }
    obeyed-reached (TaskQueue id) = record { now = r.now; past = r.past }
    obeyed-reached (DeviceQueue n) = record { now = r.now; past = r.past }
    obeyed-reached Blocks = record { now = r.now; past = r.past }
    obeyed-reached (Instructions a n) = record { now = r.now; past = r.past }

    pub line-reached : (x : Result Order BadLine) → AreReached (line_obeyed c x e).after
    line-reached (Ok order) = obeyed-reached order
    line-reached (Err line) = record { now = r.now; past = r.past }

    -- all of them are within the limits of the call
    pub past-within : IsWithin c s → AllByRecursion (IsWithin c) past
    past-within w = all-turned Reached (IsWithin c) (λ t one. within-then c s t w one) past all-past
