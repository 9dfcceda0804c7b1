-- How steps and lines end, by what they answered.
use Rattle.std.proofs.Common.{◌≡◌, ℕ, ◌+◌, ◌≤◌, ◌++◌, ◌||◌, true, false, Option, Some, None, List, Result, Ok, Err, refl, sym, ap, ◌∙◌, subst}
use Rattle.std.specs.Prelude.{IfOk, is_some}
use Rattle.byte_streams.specs.Pending.{Gathers, IsCut, IsGathered}
use Rattle.byte_streams.proofs.GatheredTexts.{Gathers-then, IsCut-then}
use Rattle.tripos_machine.specs.State.{State, stop_of}
use Rattle.kernel_model.specs.declared.kernel_record.stops.Stop.{Stop}
use Rattle.debugger.specs.Views.{is_at, is_end}
use Rattle.tripos_machine.specs.Step.{run}
use Rattle.tripos_machine.proofs.RunParts.{cut-more}
use Rattle.debugger.specs.declared.limits.Limits.{Limits}
use Rattle.debugger.specs.declared.orders.Order.{Order}
use Rattle.debugger.specs.declared.orders.Order.TheVariants.{Break}
use Rattle.debugger.specs.Breakpoints.{with_breakpoint}
use Rattle.debugger.specs.Debugged.{Debugging, obeyed, stepped, steps_left, steps_text, steps_to, undone}
use Rattle.debugger.specs.Runs.{EndsSteps, EndsTold}
use Rattle.debugger.specs.Texts.{place_text}
use Rattle.debugger.proofs.DebuggedRuns.{debugged-all, debugged-none, back-stays}
use Rattle.debugger.proofs.StepsTo.{next-bytes}

-- all steps were taken, whatever came of the text after them
pub ends-all : {T E : Type 0} (n most : ℕ) (s t : State) (r : Result T E) → n ≤ most → t ≡ (run n s).state → EndsSteps n most s t r
ends-all n most s t (Ok x) few is = is
ends-all n most s t (Err e) few is = debugged-all n most s t few is

-- the steps and the text after them
pub text-then : {T E : Type 0} (c : Limits) (n : ℕ) (s t : State) {h m : Option (List ℕ)} {p q : List ℕ} (k : Option (List ℕ)) (o : List ℕ) (r : Result T E) → t ≡ (run n s).state → IsGathered h m p q (run n s).bytes
    → Gathers m k q o (place_text c.first t) r → Gathers h k p o (steps_text c n s) r
text-then c n s t {h} {m} {p} {q} k o r is first second =
    Gathers-then first k o (place_text c.first (run n s).state) r (subst (λ z. Gathers m k q o (place_text c.first z) r) is second)

-- ---- the sink failed behind some steps

module _ (stops : List ℕ) (most taken m : ℕ) (s t : State) (state : t ≡ (run taken s).state) (more : taken + m ≤ steps_to stops most s) where
  pub cut-behind : {h o k : Option (List ℕ)} {p q text : List ℕ} → IsGathered h o p q (run taken s).bytes → text ≡ (run m t).bytes → IsCut o k q text → IsCut h k p (run (steps_to stops most s) s).bytes
  cut-behind {h} {o} {k} {p} {q} {text} first is cut =
      let whole : (run taken s).bytes ++ text ≡ (run (taken + m) s).bytes = ap (λ v. (run taken s).bytes ++ v) is ∙ next-bytes stops most taken m s t state in
      cut-more s (taken + m) (steps_to stops most s) more (subst (IsCut h k p) whole (IsCut-then first cut))

-- ---- lines

-- a line that only shows something, whatever came of it
pub ends-shown : {T E : Type 0} (c : Limits) (d : Debugging) (order : Order) (r : Result T E) → d ≡ (obeyed c order d).after → EndsTold c d (obeyed c order d) d.state d.stops r
ends-shown c d order (Ok x) same = (ap (λ (e : Debugging). e.state) same, ap (λ (e : Debugging). e.stops) same)
ends-shown c d order (Err e) same = debugged-none _ _

-- a line that sets a breakpoint
pub ends-set : {T E : Type 0} (c : Limits) (a : ℕ) (d : Debugging) (stops : List ℕ) (r : Result T E) → stops ≡ with_breakpoint a d.stops → EndsTold c d (obeyed c (Break a) d) d.state stops r
ends-set c a d stops (Ok x) is = (refl, is)
ends-set c a d stops (Err e) is = debugged-none _ _

-- a line that undoes steps, where no history is kept
pub ends-returned : {T E : Type 0} (c : Limits) (n : ℕ) (d : Debugging) (r : Result T E) → d.past ≡ None → EndsTold c d (undone c n d) d.state d.stops r
ends-returned c n d (Ok x) none = (sym (back-stays n d none), refl)
ends-returned c n d (Err e) none = debugged-none _ _

-- where something holds, it holds if all went well
pub if-held : {T E : Type 0} (r : Result T E) (P : Type 0) → P → IfOk r (λ x. P)
if-held (Ok x) P held = held
if-held (Err e) P held = tt

-- behind a step at which no run ends the machine goes on
pub end-goes : (stops : List ℕ) (t : State) → is_end stops t ≡ false → stop_of t ≡ None
end-goes stops t none = on (stop_of t) refl
  where
    on : (o : Option Stop) → stop_of t ≡ o → stop_of t ≡ None
    on None is = is
    on (Some stop) is = (let here : true ≡ false = sym (ap (λ o. is_some o || is_at stops t) is) ∙ none in cc)
