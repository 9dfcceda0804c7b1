use Rattle.std.proofs.Common.{◌∙◌, Some, inl, refl, sym, subst, []}
use Rattle.resident_tasks.specs.ResidentRequests.Requests.{taken}
use Rattle.resident_tasks.specs.ResidentRequests.Turns.{IsResidentTurn}
use Rattle.kernel_calls.specs.CallAnswers.Outside.{outside}
use Rattle.resident_tasks.proofs.ResidentRequests.ResidentTurns.{keeper-taken, turn-idle, turn-served}
use Rattle.resident_tasks.proofs.ResidentRequests.TakenRequest.{taken-running}
use Rattle.resident_tasks.specs.FaultReporter.FaultTurns.{unknown}
use Rattle.resident_tasks.proofs.FaultReporter.ReportedTurn.{other-turn, takes-other, turn-reported}
use Rattle.resident_tasks.proofs.fault_reporter.turns.fault_turn.Goals as goal

pub is_fault_first-requires : goal.is_fault_first-requires
is_fault_first-requires g c = (c.requires.0, c.requires.1.lists, c.requires.2.runs)

pub report_faults-requires : goal.report_faults-requires
report_faults-requires g c =
    let l = c.requires.0 in
    (l, c.requires.1.lists, c.requires.2, sym (c.is_fault_first.ensures l c.requires.1.lists c.requires.2.runs) ∙ c.if-is_fault_first.true)

pub returns-then-is_fault_first-clause-turn : goal.returns-then-is_fault_first-clause-turn
returns-then-is_fault_first-clause-turn g c = λ l k r.
    let f = sym (c.is_fault_first.ensures l k.lists r.runs) ∙ c.if-is_fault_first.true in
    turn-reported c.args.store.now c.report_faults.new.store (g.Q.KindKeeper.tells c.args.kinds.now) (g.Q.KindKeeper.room c.args.kinds.now) l c.args.bytes.now c.report_faults.new.bytes (g.L.EventLog.noted c.args.log.now)
    (g.L.EventLog.noted c.report_faults.new.log) (g.L.EventLog.has_failed c.args.log.now) (g.L.EventLog.has_failed c.report_faults.new.log) k f
    (c.report_faults.ensures.lists l k.lists r f) (c.report_faults.ensures.bytes l k.lists r f) (c.report_faults.ensures.notes l k.lists r f)

pub take_request-requires : goal.take_request-requires
take_request-requires g c =
    let l = c.requires.0 in
    let k = c.requires.1 in
    let r = c.requires.2 in
    (l, k, takes-other l k.lists.valid r.runs r.reporter (sym (c.is_fault_first.ensures l k.lists r.runs) ∙ c.if-is_fault_first.false))

pub serve_request-requires-clause-request : goal.serve_request-requires-clause-request
serve_request-requires-clause-request g c =
    let l = c.requires.0 in
    let k = c.requires.1 in
    let r = c.requires.2 in
    let takes = takes-other l k.lists.valid r.runs r.reporter (sym (c.is_fault_first.ensures l k.lists r.runs) ∙ c.if-is_fault_first.false) in
    let x = c.in-Some.ensures.taken l k takes in (
      (taken l).lists,
      keeper-taken c.args.store.now c.take_request.new.store (g.Q.KindKeeper.tells c.args.kinds.now) (g.Q.KindKeeper.tells c.take_request.new.kinds) (g.Q.KindKeeper.room c.args.kinds.now)
          (g.Q.KindKeeper.room c.take_request.new.kinds) l (Some c.in-Some.request) k x c.take_request.ensures.room,
      x.runs,
      x.has_request,
      sym r.reporter ∙ sym (taken-running l),
      inl (refl {a = []}),
    )

pub finish_turn-requires : goal.finish_turn-requires
finish_turn-requires g c =
    let l = c.requires.0 in
    let k = c.requires.1 in
    let r = c.requires.2 in
    let takes = takes-other l k.lists.valid r.runs r.reporter (sym (c.is_fault_first.ensures l k.lists r.runs) ∙ c.if-is_fault_first.false) in
    let x = c.in-None.ensures.taken l k takes in
    ((taken l).lists, x.lists.lists, x.runs)

pub returns-in-Some-clause-turn : goal.returns-in-Some-clause-turn
returns-in-Some-clause-turn g c = λ l k r.
    let other = sym (c.is_fault_first.ensures l k.lists r.runs) ∙ c.if-is_fault_first.false in
    let takes = takes-other l k.lists.valid r.runs r.reporter other in
    let m = (taken l).lists in
    let x = c.in-Some.ensures.taken l k takes in
    let k' =
    keeper-taken c.args.store.now c.take_request.new.store (g.Q.KindKeeper.tells c.args.kinds.now) (g.Q.KindKeeper.tells c.take_request.new.kinds) (g.Q.KindKeeper.room c.args.kinds.now)
    (g.Q.KindKeeper.room c.take_request.new.kinds) l (Some c.in-Some.request) k x c.take_request.ensures.room
    in
    let from = sym r.reporter ∙ sym (taken-running l) in
    subst (IsResidentTurn c.serve_request.new.store (g.Q.KindKeeper.tells c.serve_request.new.kinds) (outside c.args.bytes.now (g.L.EventLog.noted c.args.log.now) (g.L.EventLog.has_failed c.args.log.now))
    (outside c.args.bytes.now (g.L.EventLog.noted c.serve_request.new.log) (g.L.EventLog.has_failed c.serve_request.new.log))) (other-turn l k.lists.valid r.runs r.reporter other c.args.store.now)
    (turn-served c.args.store.now c.take_request.new.store c.serve_request.new.store l (g.Q.KindKeeper.tells c.serve_request.new.kinds) (g.Q.KindKeeper.tells c.take_request.new.kinds)
    unknown c.args.bytes.now (g.L.EventLog.noted c.args.log.now) (g.L.EventLog.noted c.take_request.new.log) (g.L.EventLog.noted c.serve_request.new.log)
    (g.L.EventLog.has_failed c.args.log.now) (g.L.EventLog.has_failed c.take_request.new.log) (g.L.EventLog.has_failed c.serve_request.new.log) c.in-Some.request x
    (c.serve_request.ensures.served m k' x.runs x.has_request from (inl (refl {a = []}))) (c.in-Some.ensures.notes l k takes) (c.serve_request.ensures.notes m k' x.runs x.has_request from (inl (refl {a = []}))))

pub returns-in-None-clause-turn : goal.returns-in-None-clause-turn
returns-in-None-clause-turn g c = λ l k r.
    let other = sym (c.is_fault_first.ensures l k.lists r.runs) ∙ c.if-is_fault_first.false in
    let takes = takes-other l k.lists.valid r.runs r.reporter other in
    let x = c.in-None.ensures.taken l k takes in
    subst (IsResidentTurn c.finish_turn.new.store (g.Q.KindKeeper.tells c.take_request.new.kinds) (outside c.args.bytes.now (g.L.EventLog.noted c.args.log.now) (g.L.EventLog.has_failed c.args.log.now))
    (outside c.args.bytes.now (g.L.EventLog.noted c.take_request.new.log) (g.L.EventLog.has_failed c.take_request.new.log))) (other-turn l k.lists.valid r.runs r.reporter other c.args.store.now)
    (turn-idle c.args.store.now c.take_request.new.store c.finish_turn.new.store l (g.Q.KindKeeper.tells c.take_request.new.kinds) (g.Q.KindKeeper.tells c.take_request.new.kinds)
    unknown c.args.bytes.now (g.L.EventLog.noted c.args.log.now) (g.L.EventLog.noted c.args.log.now) (g.L.EventLog.noted c.take_request.new.log)
    (g.L.EventLog.has_failed c.args.log.now) (g.L.EventLog.has_failed c.args.log.now) (g.L.EventLog.has_failed c.take_request.new.log) x
    (c.finish_turn.ensures (taken l).lists x.lists.lists x.runs) (c.in-None.ensures.notes l k takes))
