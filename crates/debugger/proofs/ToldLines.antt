-- What lines come to, one after another.
use Rattle.std.proofs.Common.{◌≡◌, ℕ, ◌+◌, ◌++◌, min, Option, None, List, [], ◌∷◌, Result, Ok, Err, refl, sym, ap, ◌∙◌, subst, arith}
use Rattle.std.proofs.lemmas.List.{append_assoc, append-nil}
use Rattle.std.specs.Option.{option_map}
use Rattle.tripos_machine.specs.State.{State, steps_of}
use Rattle.byte_streams.specs.Pending.{IsCut, IsGathered}
use Rattle.byte_streams.proofs.GatheredTexts.{IsCut-more, IsCut-then, IsGathered-nothing, IsGathered-then}
use Rattle.debugger.specs.declared.limits.Limits.{Limits}
use Rattle.debugger.specs.declared.orders.BadLine.{BadLine}
use Rattle.debugger.specs.declared.orders.Order.{Order}
use Rattle.debugger.specs.declared.orders.Order.TheVariants.{Back, Blocks, Break, Continue, DeviceQueue, Instructions, Registers, Step, TaskQueue, Tasks, Unbreak, Words}
use Rattle.debugger.specs.Debugged.{Debugging, HasDebugged, Told, debugged, line_obeyed, lines_obeyed, obeyed, steps_left, steps_to, tell, told_then}
use Rattle.debugger.specs.Orders.{order_of}
use Rattle.debugger.proofs.DebuggedRuns.{back-stays, debugged-all, debugged-none}
use Rattle.debugger.proofs.StepsTo.{to-most}

-- ---- where no history is kept

-- a line takes at most the steps that are left
obeyed-runs : (c : Limits) (order : Order) (d : Debugging) → d.past ≡ None → HasDebugged (steps_left c d.state) d.state (obeyed c order d).after.state
obeyed-runs c (Break a) d none = debugged-none _ _
obeyed-runs c (Unbreak a) d none = debugged-none _ _
obeyed-runs c (Step n) d none = debugged-all (min n (steps_left c d.state)) _ d.state _ (omega arith) refl
obeyed-runs c (Back n) d none = subst (HasDebugged (steps_left c d.state) d.state) (sym (back-stays n d none)) (debugged-none _ _)
obeyed-runs c Continue d none = debugged-all (steps_to d.stops (steps_left c d.state) d.state) _ d.state _ (to-most d.stops (steps_left c d.state) d.state) refl
obeyed-runs c Registers d none = debugged-none _ _
obeyed-runs c (Words a n) d none = debugged-none _ _
obeyed-runs c Tasks d none = debugged-none _ _
obeyed-runs c (TaskQueue id) d none = debugged-none _ _
obeyed-runs c (DeviceQueue n) d none = debugged-none _ _
obeyed-runs c Blocks d none = debugged-none _ _
obeyed-runs c (Instructions a n) d none = debugged-none _ _

pub line-runs : (c : Limits) (r : Result Order BadLine) (d : Debugging) → d.past ≡ None → HasDebugged (steps_left c d.state) d.state (line_obeyed c r d).after.state
line-runs c (Ok order) d none = obeyed-runs c order d none
line-runs c (Err line) d none = debugged-none _ _

-- and none is begun
mapped-none : (f : List State → List State) (p : Option (List State)) → p ≡ None → option_map f p ≡ None
mapped-none f p none = ap (option_map f) none

obeyed-past : (c : Limits) (order : Order) (d : Debugging) → d.past ≡ None → (obeyed c order d).after.past ≡ None
obeyed-past c (Break a) d none = none
obeyed-past c (Unbreak a) d none = none
obeyed-past c (Step n) d none = mapped-none _ d.past none
obeyed-past c (Back n) d none = mapped-none _ d.past none
obeyed-past c Continue d none = mapped-none _ d.past none
obeyed-past c Registers d none = none
obeyed-past c (Words a n) d none = none
obeyed-past c Tasks d none = none
obeyed-past c (TaskQueue id) d none = none
obeyed-past c (DeviceQueue n) d none = none
obeyed-past c Blocks d none = none
obeyed-past c (Instructions a n) d none = none

pub line-past : (c : Limits) (r : Result Order BadLine) (d : Debugging) → d.past ≡ None → (line_obeyed c r d).after.past ≡ None
line-past c (Ok order) d none = obeyed-past c order d none
line-past c (Err line) d none = none

-- ---- lines behind others

lines-none : (c : Limits) (d : Debugging) → lines_obeyed c [] d ≡ tell [] d
unfolding lines_obeyed
lines-none c d = refl

lines-next : (c : Limits) (line : List ℕ) (lines : List (List ℕ)) (d : Debugging) → lines_obeyed c (line ∷ lines) d ≡ told_then (line_obeyed c (order_of 0 line) d) (lines_obeyed c lines)
unfolding lines_obeyed
lines-next c line lines d = refl

-- the limits of a call that takes so many steps at most
abbrev pub limits : ℕ → ℕ → Limits
limits first budget = record { first = first; last = first + budget }

-- the steps that the machine had taken before
pub told-same : (budget : ℕ) (all : List (List ℕ)) (s : State) (past : Option (List State)) {first : ℕ} → first ≡ steps_of s
    → lines_obeyed (limits first budget) all (record { state = s; stops = []; past = past }) ≡ debugged budget all s past
told-same budget all s past is = ap (λ n. lines_obeyed (limits n budget) all (record { state = s; stops = []; past = past })) is

-- so much was written by the lines so far, which lead from d to e, and these are left
pub record IsTold (c : Limits) (all : List (List ℕ)) (d e : Debugging) (rest : List (List ℕ)) (old new : Option (List ℕ)) (before after : List ℕ) : Type 0 where
  pub written : List ℕ
  pub whole : lines_obeyed c all d ≡ told_then (tell written e) (lines_obeyed c rest)
  pub gathered : IsGathered old new before after written

module _ (c : Limits) (all : List (List ℕ)) (d : Debugging) where
  -- nothing yet
  pub told-none : (old : Option (List ℕ)) (before : List ℕ) → IsTold c all d d all old old before before
  told-none old before = record { written = []; whole = refl; gathered = IsGathered-nothing old before }

  module _ (e : Debugging) (line : List ℕ) (lines rest : List (List ℕ)) {h0 h1 : Option (List ℕ)} {p q : List ℕ} (told : IsTold c all d e rest h0 h1 p q) (is : rest ≡ line ∷ lines) where
    next : lines_obeyed c all d ≡ told_then (tell (told.written ++ (line_obeyed c (order_of 0 line) e).bytes) (line_obeyed c (order_of 0 line) e).after) (lines_obeyed c lines)
    next =
        let x : Told = line_obeyed c (order_of 0 line) e in
        let y : Told = lines_obeyed c lines x.after in
        told.whole ∙ ap (λ l. told_then (tell told.written e) (lines_obeyed c l)) is
        ∙ ap (λ (z : Told). record { after = z.after; bytes = told.written ++ z.bytes }) (lines-next c line lines e)
        ∙ (λ i. record { after = y.after; bytes = sym (append_assoc told.written x.bytes y.bytes) i })

    -- a line more was done
    pub told-then : {h2 : Option (List ℕ)} {r : List ℕ} (f : Debugging) → f ≡ (line_obeyed c (order_of 0 line) e).after → IsGathered h1 h2 q r (line_obeyed c (order_of 0 line) e).bytes → IsTold c all d f lines h0 h2 p r
    told-then {h2} {r} f same more = record {
      written = told.written ++ (line_obeyed c (order_of 0 line) e).bytes;
      whole = next ∙ ap (λ z. told_then (tell (told.written ++ (line_obeyed c (order_of 0 line) e).bytes) z) (lines_obeyed c lines)) (sym same);
      gathered = IsGathered-then told.gathered more;
    }

    -- the sink failed within a line
    pub told-cut : {h2 : Option (List ℕ)} → IsCut h1 h2 q (line_obeyed c (order_of 0 line) e).bytes → IsCut h0 h2 p (lines_obeyed c all d).bytes
    told-cut {h2} cut =
        subst (λ (z : Told). IsCut h0 h2 p z.bytes) (sym next)
        (IsCut-more (lines_obeyed c lines (line_obeyed c (order_of 0 line) e).after).bytes (IsCut-then told.gathered cut))

  module _ (e : Debugging) (rest : List (List ℕ)) {h0 h1 : Option (List ℕ)} {p q : List ℕ} (told : IsTold c all d e rest h0 h1 p q) (none : rest ≡ []) where
    ended : lines_obeyed c all d ≡ tell told.written e
    ended =
        told.whole ∙ ap (λ l. told_then (tell told.written e) (lines_obeyed c l)) none
        ∙ ap (λ (z : Told). record { after = z.after; bytes = told.written ++ z.bytes }) (lines-none c e)
        ∙ (λ i. record { after = e; bytes = append-nil told.written i })

    -- all lines were done
    pub told-all : IsGathered h0 h1 p q (lines_obeyed c all d).bytes
    told-all = subst (λ (z : Told). IsGathered h0 h1 p q z.bytes) (sym ended) told.gathered

    pub told-after : e ≡ (lines_obeyed c all d).after
    told-after = sym (ap (λ (z : Told). z.after) ended)
