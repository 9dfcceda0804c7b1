use Rattle.std.proofs.Common.{◌≡◌, ◌∙◌, ◌≤◌, [], Some, ap, refl, sym, subst, arith, inl, inr}
use Rattle.std.specs.List.{AllByRecursion}
use Rattle.module_text.specs.TextReader.Lines.{lines_of}
use Rattle.debugger.specs.MachineHistory.Pasts.{HistoryView}
use Rattle.byte_streams.specs.Pending.{IsCut, IsGathered}
use Rattle.debugger.specs.Debugged.{Debugging, HasDebugged, Told, debugged, line_obeyed, steps_left}
use Rattle.debugger.specs.Orders.{order_of}
use Rattle.debugger.proofs.DebuggedRuns.{debugged-more, debugged-none, debugged-then, left-few, within-then}
use Rattle.debugger.proofs.KeptLines.{cut-badly, ended-badly, ended-well, gathered-well, gathers-badly, here}
use Rattle.debugger.proofs.ReachedStates.{AreReached, back-reached, line-reached, past-within}
use Rattle.debugger.proofs.ToldLines.{IsTold, limits, told-after, told-all, told-cut, told-none, told-same, told-then}
use Rattle.debugger.proofs.histories.debug_back.Goals as goal

pub loop-line-init : goal.loop-line-init
loop-line-init g c =
    let s = c.args.machine.state in
    let all = lines_of c.args.lines.now in
    let c0 = limits c.steps-first.result c.args.budget in
    let holds = g.K.Sink.holds c.args.out.now in
    let pending = c.args.pending.now in
    let none = ap (λ (v : HistoryView). v.past) c.requires.begins in
    let told = subst (λ stops. IsTold c0 all (here s [] (Some [])) (here s stops (Some [])) all holds holds pending pending) (sym c.new-stops.ensures) (told-none c0 all (here s [] (Some [])) holds pending) in
    record {
      told = subst (λ past. IsTold c0 all (here s [] (Some [])) (here s c.new-stops.result (Some past)) all holds holds pending pending) (sym none) told;
      reached = record { now = debugged-none _ s; past = subst (AllByRecursion (HasDebugged (steps_left c0 s) s)) (sym none) tt };
      within = record { begun = omega (arith, c.steps-first.ensures); short = omega (arith, c.steps-first.ensures); most = omega (arith, c.requires.steps, c.steps-first.ensures) };
      now = ap (λ (v : HistoryView). v.now) c.requires.begins;
      later = omega arith;
    }

pub obey_line-after-requires-clause-within : goal.obey_line-after-requires-clause-within
obey_line-after-requires-clause-within g c =
    let kept = c.loop-line.invariant in
    within-then (limits c.steps-first.result c.args.budget) c.args.machine.state c.loop-line.machine.state kept.within kept.reached.now

pub obey_line-after-requires-clause-past : goal.obey_line-after-requires-clause-past
obey_line-after-requires-clause-past g c =
    let kept = c.loop-line.invariant in
    let past = c.loop-line.history.past in
    past-within (limits c.steps-first.result c.args.budget) c.args.machine.state (here c.loop-line.machine.state c.loop-line.stops (Some past)) past refl kept.reached kept.within

pub returns-then-is_err-clause-text : goal.returns-then-is_err-clause-text
returns-then-is_err-clause-text g c =
    let holds = g.K.Sink.holds in
    let s = c.args.machine.state in
    let all = lines_of c.args.lines.now in
    let line = c.in-Some.line.now in
    let c0 = limits c.steps-first.result c.args.budget in
    let e = here c.loop-line.machine.state c.loop-line.stops (Some c.loop-line.history.past) in
    let badly = sym c.is_err.ensures.value ∙ c.if-is_err.true in
    let cut = cut-badly c.obey_line-after.new.pending (line_obeyed c0 (order_of 0 line) e).bytes c.obey_line-after.result.1 badly c.obey_line-after.ensures.text in
    gathers-badly c.obey_line-after.new.pending (debugged c.args.budget all s (Some [])).bytes c.obey_line-after.result.1 badly
    (subst (λ (x : Told). IsCut (holds c.args.out.now) (holds c.obey_line-after.new.out) c.args.pending.now x.bytes) (told-same c.args.budget all s (Some []) c.steps-first.ensures)
    (told-cut c0 all (here s [] (Some [])) e line (lines_of c.in-Some.others.now) _ c.loop-line.invariant.told c.in-Some.ensures.cases cut))

pub returns-then-is_err-clause-steps : goal.returns-then-is_err-clause-steps
returns-then-is_err-clause-steps g c =
    let s = c.args.machine.state in
    let kept = c.loop-line.invariant in
    let past = c.loop-line.history.past in
    let c0 = limits c.steps-first.result c.args.budget in
    let e = here c.loop-line.machine.state c.loop-line.stops (Some past) in
    let few : steps_left c0 s ≤ c.args.budget = omega (arith, left-few c0 s, c.steps-first.ensures) in
    let badly = sym c.is_err.ensures.value ∙ c.if-is_err.true in
    debugged-more (steps_left c0 s) c.args.budget s c.obey_line-after.result.0.state few
    (elim (ended-badly c0 e (line_obeyed c0 (order_of 0 c.in-Some.line.now) e) c.obey_line-after.result.0.state c.obey_line-after.new.stops c.obey_line-after.new.history.past c.obey_line-after.result.1 badly c.obey_line-after.ensures.end) [
      | inl ran ↦ debugged-then c0 s e.state c.obey_line-after.result.0.state kept.reached.now ran
      | inr (n, is) ↦ subst (HasDebugged (steps_left c0 s) s) (sym is) (back-reached c0 s e past refl kept.reached n)
    ])

pub loop-line-preserved : goal.loop-line-preserved
loop-line-preserved g c =
    let s = c.args.machine.state in
    let all = lines_of c.args.lines.now in
    let line = c.in-Some.line.now in
    let kept = c.loop-line.invariant in
    let past = c.loop-line.history.past in
    let c0 = limits c.steps-first.result c.args.budget in
    let e = here c.loop-line.machine.state c.loop-line.stops (Some past) in
    let x = line_obeyed c0 (order_of 0 line) e in
    let f = here c.obey_line-after.result.0.state c.obey_line-after.new.stops (Some c.obey_line-after.new.history.past) in
    let well = sym c.is_err.ensures.value ∙ c.if-is_err.false in
    let end = ended-well c0 e x c.obey_line-after.result.0.state c.obey_line-after.new.stops c.obey_line-after.new.history.past c.obey_line-after.result.1 well c.obey_line-after.ensures.end in
    let same : ◌≡◌ {A = Debugging} f x.after = λ i. record { state = end.0 i; stops = end.1 i; past = end.2 i } in
    let text = gathered-well c.obey_line-after.new.pending x.bytes c.obey_line-after.result.1 well c.obey_line-after.ensures.text in
    record {
      told = told-then c0 all (here s [] (Some [])) e line (lines_of c.in-Some.others.now) _ kept.told c.in-Some.ensures.cases f same text;
      reached = subst (AreReached c0 s) (sym same) (line-reached c0 s e past refl kept.reached (order_of 0 line));
      within = kept.within;
      now = c.obey_line-after.ensures.now;
      later = omega (arith, kept.later, c.obey_line-after.ensures.cause.later);
    }

pub returns-clause-text : goal.returns-clause-text
returns-clause-text g c =
    let holds = g.K.Sink.holds in
    let s = c.args.machine.state in
    let all = lines_of c.args.lines.now in
    let e = here c.loop-line.machine.state c.loop-line.stops (Some c.loop-line.history.past) in
    let c0 = limits c.steps-first.result c.args.budget in
    subst (λ (x : Told). IsGathered (holds c.args.out.now) (holds c.loop-line.out) c.args.pending.now c.loop-line.pending x.bytes) (told-same c.args.budget all s (Some []) c.steps-first.ensures)
    (told-all c0 all (here s [] (Some [])) e _ c.loop-line.invariant.told c.in_default.ensures.cases)

pub returns-clause-state : goal.returns-clause-state
returns-clause-state g c =
    let s = c.args.machine.state in
    let all = lines_of c.args.lines.now in
    let e = here c.loop-line.machine.state c.loop-line.stops (Some c.loop-line.history.past) in
    let c0 = limits c.steps-first.result c.args.budget in
    ap (λ (x : Debugging). x.state) (told-after c0 all (here s [] (Some [])) e _ c.loop-line.invariant.told c.in_default.ensures.cases)
    ∙ ap (λ (x : Told). x.after.state) (told-same c.args.budget all s (Some []) c.steps-first.ensures)

pub returns-clause-past : goal.returns-clause-past
returns-clause-past g c =
    let s = c.args.machine.state in
    let all = lines_of c.args.lines.now in
    let e = here c.loop-line.machine.state c.loop-line.stops (Some c.loop-line.history.past) in
    let c0 = limits c.steps-first.result c.args.budget in
    ap (λ (x : Debugging). x.past) (told-after c0 all (here s [] (Some [])) e _ c.loop-line.invariant.told c.in_default.ensures.cases)
    ∙ ap (λ (x : Told). x.after.past) (told-same c.args.budget all s (Some []) c.steps-first.ensures)
