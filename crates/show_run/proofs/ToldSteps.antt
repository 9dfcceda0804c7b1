-- A text that has the lines of one step after another.
use Rattle.std.proofs.Common.{◌≡◌, ◌∙◌, ℕ, suc, ◌+◌, ◌-◌, ◌<◌, ◌≤◌, ◌++◌, true, false, Option, List, [], arith, refl, sym, ap, subst, append_assoc, append-nil}
use Rattle.std.specs.Prelude.{is_some}
use Rattle.byte_streams.specs.Pending.{IsCut, IsGathered}
use Rattle.byte_streams.proofs.GatheredTexts.{IsCut-more, IsCut-then, IsGathered-nothing, IsGathered-then}
use Rattle.kernel_model.specs.KernelRecord.Ranges.{most_steps}
use Rattle.tripos_machine.specs.State.{State, steps_of, stop_of}
use Rattle.tripos_machine.specs.Step.{Stepped, run, step}
use Rattle.tripos_machine.proofs.StateRuns.{run-steps, run-stopped}

-- the text of so many steps has the lines of each, up to one that stops the machine
pub record TellsSteps (text : ℕ → State → List ℕ) (lines : State → List ℕ) : Type 0 where
  pub none : (s : State) → text 0 s ≡ []
  pub stopped : (n : ℕ) (s : State) → is_some (stop_of s) ≡ true → text n s ≡ []
  pub goes : (n : ℕ) (s : State) → is_some (stop_of s) ≡ false → text (suc n) s ≡ lines s ++ text n (step s).state

run-none : (s : State) → (run 0 s).state ≡ s
unfolding run
run-none s = refl

run-next : (n : ℕ) (s : State) → (run (suc n) s).state ≡ (run n (step s).state).state
unfolding run
run-next n s = refl

step-steps : (s : State) → steps_of (step s).state ≤ steps_of s + 1
unfolding run
step-steps s = run-steps 1 s

stays : (n : ℕ) (s : State) → is_some (stop_of s) ≡ true → (run n s).state ≡ s
stays n s stopped = ap (λ (x : Stepped). x.state) (run-stopped n s (λ none. (let other : true ≡ false = sym stopped ∙ ap is_some none in cc other)))

-- the lines of i of n steps were gathered, which led from s to t
pub record HasTold (text : ℕ → State → List ℕ) (n : ℕ) (s : State) (i : ℕ) (t : State) (h k : Option (List ℕ)) (p q : List ℕ) : Type 0 where
  pub front : List ℕ
  pub all : front ++ text (n - i) t ≡ text n s
  pub gathered : IsGathered h k p q front
  pub state : (run (n - i) t).state ≡ (run n s).state
  pub room : steps_of t + (n - i) ≤ most_steps

pub told-none : (text : ℕ → State → List ℕ) (n : ℕ) (s : State) (h : Option (List ℕ)) (p : List ℕ) → steps_of s + n ≤ most_steps → HasTold text n s 0 s h h p p
told-none text n s h p room =
    let whole : n - 0 ≡ n = omega arith in
    record { front = []; all = ap (λ j. text j s) whole; gathered = IsGathered-nothing h p; state = ap (λ j. (run j s).state) whole; room = omega (arith, room) }

module _ {text : ℕ → State → List ℕ} {lines : State → List ℕ} (tells : TellsSteps text lines)
    {n : ℕ} {s : State} {i : ℕ} {t : State} {h k : Option (List ℕ)} {p q : List ℕ} (d : HasTold text n s i t h k p q) where
  -- the machine has stopped
  module _ (stopped : is_some (stop_of t) ≡ true) where
    pub told-stopped : IsGathered h k p q (text n s)
    told-stopped = subst (IsGathered h k p q) (sym (append-nil d.front) ∙ ap (λ v. d.front ++ v) (sym (tells.stopped (n - i) t stopped)) ∙ d.all) d.gathered

    pub state-stopped : t ≡ (run n s).state
    state-stopped = sym (stays (n - i) t stopped) ∙ d.state

  -- all steps were taken
  module _ (all : n ≤ i) where
    none-left : n - i ≡ 0
    none-left = omega (arith, all)

    pub told-all : IsGathered h k p q (text n s)
    told-all = subst (IsGathered h k p q) (sym (append-nil d.front) ∙ ap (λ v. d.front ++ v) (sym (ap (λ j. text j t) none-left ∙ tells.none t)) ∙ d.all) d.gathered

    pub state-all : t ≡ (run n s).state
    state-all = sym (ap (λ j. (run j t).state) none-left ∙ run-none t) ∙ d.state

  -- another step is taken
  module _ (few : i < n) (goes : is_some (stop_of t) ≡ false) where
    next : n - i ≡ suc (n - (i + 1))
    next = omega (arith, few)

    pub told-room : steps_of t < most_steps
    told-room = omega (arith, few, d.room)

    more : d.front ++ (lines t ++ text (n - (i + 1)) (step t).state) ≡ text n s
    more = ap (λ v. d.front ++ v) (sym (ap (λ j. text j t) next ∙ tells.goes (n - (i + 1)) t goes)) ∙ d.all

    pub told-cut : {m : Option (List ℕ)} → IsCut k m q (lines t) → IsCut h m p (text n s)
    told-cut {m} cut = subst (IsCut h m p) more (IsCut-then d.gathered (IsCut-more (text (n - (i + 1)) (step t).state) cut))

    pub told-more : {m : Option (List ℕ)} {r : List ℕ} (u : State) → u ≡ (step t).state → IsGathered k m q r (lines t) → HasTold text n s (i + 1) u h m p r
    told-more {m} {r} u is told = record {
      front = d.front ++ lines t;
      all = ap (λ z. (d.front ++ lines t) ++ text (n - (i + 1)) z) is ∙ append_assoc d.front (lines t) (text (n - (i + 1)) (step t).state) ∙ more;
      gathered = IsGathered-then d.gathered told;
      state = ap (λ z. (run (n - (i + 1)) z).state) is ∙ sym (run-next (n - (i + 1)) t) ∙ sym (ap (λ j. (run j t).state) next) ∙ d.state;
      room = (let steps = ap steps_of is in omega (arith, few, d.room, steps, step-steps t));
    }
