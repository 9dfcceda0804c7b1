use Rattle.std.proofs.Common.{◌∙◌, ◌≤◌, [], None, List, ℕ, ap, refl, sym, subst, arith}
use Rattle.std.proofs.lemmas.Result.{err_from_is_err_and}
use Rattle.module_text.specs.TextReader.Lines.{lines_of}
use Rattle.byte_streams.specs.Pending.{IsCut, IsGathered}
use Rattle.tripos_machine.specs.State.{State}
use Rattle.debugger.specs.Debugged.{Debugging, HasDebugged, Told, steps_left}
use Rattle.debugger.specs.Orders.{order_of}
use Rattle.debugger.proofs.DebuggedRuns.{debugged-more, debugged-none, debugged-then, left-few, within-then}
use Rattle.debugger.proofs.ToldLines.{IsTold, limits, line-past, line-runs, told-after, told-all, told-cut, told-none, told-same, told-then}
use Rattle.debugger.proofs.sessions.debug.Goals as goal

abbrev here : State → List ℕ → Debugging
here s stops = record { state = s; stops = stops; past = None }

pub loop-line-init : goal.loop-line-init
loop-line-init g c =
    let s = c.args.machine.now.state in
    let all = lines_of c.args.lines.now in
    let holds = g.K.Sink.holds c.args.out.now in
    let pending = c.args.pending.now in
    let told = subst (λ stops. IsTold (limits c.steps-first.result c.args.budget) all (here s []) (here s stops) all holds holds pending pending) (sym c.new-stops.ensures) (told-none _ all (here s []) holds pending) in
    record {
      told = told;
      ran = debugged-none _ s;
      within = record { begun = omega (arith, c.steps-first.ensures); short = omega (arith, c.steps-first.ensures); most = omega (arith, c.requires, c.steps-first.ensures) };
      later = omega arith;
    }

pub returns-in_err-obey_line-clause-text : goal.returns-in_err-obey_line-clause-text
returns-in_err-obey_line-clause-text g c =
    let holds = g.K.Sink.holds in
    let s = c.args.machine.now.state in
    let all = lines_of c.args.lines.now in
    let e = here c.loop-line.machine.state c.loop-line.stops in
    let c0 = limits c.steps-first.result c.args.budget in
    let p = err_from_is_err_and c.from_residual.result c.from_residual.ensures.1 in
    rw p.1
    (subst (λ (x : Told). IsCut (holds c.args.out.now) (holds c.obey_line.new.out) c.args.pending.now x.bytes) (told-same c.args.budget all s None c.steps-first.ensures)
    (told-cut c0 all (here s []) e c.in-Some.line.now (lines_of c.in-Some.others.now) _ c.loop-line.invariant.told c.in-Some.ensures.cases c.in_err-obey_line.ensures.text))

pub returns-in_err-obey_line-clause-steps : goal.returns-in_err-obey_line-clause-steps
returns-in_err-obey_line-clause-steps g c =
    let s = c.args.machine.now.state in
    let c0 = limits c.steps-first.result c.args.budget in
    let few : steps_left c0 s ≤ c.args.budget = omega (arith, left-few c0 s, c.steps-first.ensures) in
    debugged-more (steps_left c0 s) c.args.budget s _ few (debugged-then c0 s c.loop-line.machine.state _ c.loop-line.invariant.ran c.in_err-obey_line.ensures.end)

pub loop-line-preserved : goal.loop-line-preserved
loop-line-preserved g c =
    let s = c.args.machine.now.state in
    let all = lines_of c.args.lines.now in
    let line = c.in-Some.line.now in
    let e = here c.loop-line.machine.state c.loop-line.stops in
    let f = here c.obey_line.new.machine.state c.obey_line.new.stops in
    let c0 = limits c.steps-first.result c.args.budget in
    let kept = c.loop-line.invariant in
    let end = c.in_ok-obey_line.ensures.end in
    let ran = subst (HasDebugged (steps_left c0 e.state) e.state) (sym end.0) (line-runs c0 (order_of 0 line) e refl) in
    let past = sym (line-past c0 (order_of 0 line) e refl) in
    record {
      told =
          told-then c0 all (here s []) e line (lines_of c.in-Some.others.now) _ kept.told c.in-Some.ensures.cases f
          (λ i. record { state = end.0 i; stops = end.1 i; past = past i }) c.in_ok-obey_line.ensures.text;
      ran = debugged-then c0 s e.state f.state kept.ran ran;
      within = within-then c0 e.state f.state kept.within ran;
      later = omega (arith, kept.later, c.in_ok-obey_line.ensures.cause.later);
    }

pub returns-clause-text : goal.returns-clause-text
returns-clause-text g c =
    let holds = g.K.Sink.holds in
    let s = c.args.machine.now.state in
    let all = lines_of c.args.lines.now in
    let e = here c.loop-line.machine.state c.loop-line.stops in
    let c0 = limits c.steps-first.result c.args.budget in
    subst (λ (x : Told). IsGathered (holds c.args.out.now) (holds c.loop-line.out) c.args.pending.now c.loop-line.pending x.bytes) (told-same c.args.budget all s None c.steps-first.ensures)
    (told-all c0 all (here s []) e _ c.loop-line.invariant.told c.in_default.ensures.cases)

pub returns-clause-state : goal.returns-clause-state
returns-clause-state g c =
    let s = c.args.machine.now.state in
    let all = lines_of c.args.lines.now in
    let e = here c.loop-line.machine.state c.loop-line.stops in
    let c0 = limits c.steps-first.result c.args.budget in
    ap (λ (x : Debugging). x.state) (told-after c0 all (here s []) e _ c.loop-line.invariant.told c.in_default.ensures.cases)
    ∙ ap (λ (x : Told). x.after.state) (told-same c.args.budget all s None c.steps-first.ensures)

pub returns-clause-steps : goal.returns-clause-steps
returns-clause-steps g c =
    let s = c.args.machine.now.state in
    let c0 = limits c.steps-first.result c.args.budget in
    let few : steps_left c0 s ≤ c.args.budget = omega (arith, left-few c0 s, c.steps-first.ensures) in
    debugged-more (steps_left c0 s) c.args.budget s _ few c.loop-line.invariant.ran
