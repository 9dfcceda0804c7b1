use Rattle.std.proofs.Common.{◌∙◌, Some, take, sym, subst}
use Rattle.kernel_model.specs.KernelRecord.NotedEvents.{NotesAll}
use Rattle.resident_tasks.specs.ResidentRequests.Answers.{answered}
use Rattle.resident_tasks.specs.ResidentRequests.Requests.{taken}
use Rattle.resident_tasks.specs.ResidentRequests.Turns.{CanServe, IsServed, Served}
use Rattle.resident_tasks.proofs.ResidentRequests.ResidentTurns.{keeper-taken, turn-idle, turn-served}
use Rattle.resident_tasks.proofs.ResidentRequests.TakenRequest.{taken-running}
use Rattle.resident_tasks.specs.PipeHandler.PipeTurns.{pipe_request, pipe_service}
use Rattle.resident_tasks.proofs.PipeHandler.PipeTurns.{can-serve, same-service}
use Rattle.resident_tasks.proofs.pipe_handler.turns.pipe_turn.Goals as goal

pub serve-answer-requires-clause-keeper : goal.serve-answer-requires-clause-keeper
serve-answer-requires-clause-keeper g c =
    let l = c.requires.0 in
    let x = c.in-Some.ensures.taken l c.requires.1 c.requires.2 in (
      (taken l).lists,
      keeper-taken c.args.store.now c.take_request.new.store (g.Q.KindKeeper.tells c.args.kinds.now) (g.Q.KindKeeper.tells c.take_request.new.kinds) (g.Q.KindKeeper.room c.args.kinds.now)
          (g.Q.KindKeeper.room c.take_request.new.kinds) l (Some c.in-Some.request) c.requires.1 x c.take_request.ensures.room,
    )

pub serve_request-requires-clause-request : goal.serve_request-requires-clause-request
serve_request-requires-clause-request g c =
    let l = c.requires.0 in
    let m = (taken l).lists in
    let x = c.in-Some.ensures.taken l c.requires.1 c.requires.2 in
    let k =
    keeper-taken c.args.store.now c.take_request.new.store (g.Q.KindKeeper.tells c.args.kinds.now) (g.Q.KindKeeper.tells c.take_request.new.kinds) (g.Q.KindKeeper.room c.args.kinds.now)
    (g.Q.KindKeeper.room c.take_request.new.kinds) l (Some c.in-Some.request) c.requires.1 x c.take_request.ensures.room
    in
    let r = c.in-Some.request in
    let o = pipe_request c.args.pipes.now c.take_request.new.store m r in
    let same =
    same-service c.serve-answer.result.0 o.answer r.second (take c.serve-answer.result.1 c.serve-answer.new.bytes) o.bytes (c.serve-answer.ensures.answer m k) (c.serve-answer.ensures.bytes m k)
    in (
      m,
      k,
      x.runs,
      x.has_request,
      c.requires.3 ∙ sym (taken-running l),
      subst (CanServe c.take_request.new.store m r) (sym same) (can-serve c.args.pipes.now c.take_request.new.store m r),
    )

pub returns-in-Some-clause-turn : goal.returns-in-Some-clause-turn
returns-in-Some-clause-turn g c = λ l shown keeper takes from.
    let m = (taken l).lists in
    let x = c.in-Some.ensures.taken l keeper takes in
    let k =
    keeper-taken c.args.store.now c.take_request.new.store (g.Q.KindKeeper.tells c.args.kinds.now) (g.Q.KindKeeper.tells c.take_request.new.kinds) (g.Q.KindKeeper.room c.args.kinds.now)
    (g.Q.KindKeeper.room c.take_request.new.kinds) l (Some c.in-Some.request) keeper x c.take_request.ensures.room
    in
    let r = c.in-Some.request in
    let o = pipe_request c.args.pipes.now c.take_request.new.store m r in
    let same =
    same-service c.serve-answer.result.0 o.answer r.second (take c.serve-answer.result.1 c.serve-answer.new.bytes) o.bytes (c.serve-answer.ensures.answer m k) (c.serve-answer.ensures.bytes m k)
    in
    let can = subst (CanServe c.take_request.new.store m r) (sym same) (can-serve c.args.pipes.now c.take_request.new.store m r) in
    let from' = from ∙ sym (taken-running l) in
    turn-served c.args.store.now c.take_request.new.store c.serve_request.new.store l (g.Q.KindKeeper.tells c.serve_request.new.kinds) (g.Q.KindKeeper.tells c.take_request.new.kinds)
    (pipe_service c.args.pipes.now) shown (g.L.EventLog.noted c.args.log.now) (g.L.EventLog.noted c.take_request.new.log) (g.L.EventLog.noted c.serve_request.new.log)
    (g.L.EventLog.has_failed c.args.log.now) (g.L.EventLog.has_failed c.take_request.new.log) (g.L.EventLog.has_failed c.serve_request.new.log) r x
    (subst (IsServed c.take_request.new.store c.serve_request.new.store (g.Q.KindKeeper.tells c.serve_request.new.kinds) m r) same
    (c.serve_request.ensures.served m k x.runs x.has_request from' can)) (c.in-Some.ensures.notes l keeper takes)
    (subst (λ (w : Served).
    NotesAll (g.L.EventLog.noted c.take_request.new.log) (g.L.EventLog.noted c.serve_request.new.log) (g.L.EventLog.has_failed c.take_request.new.log)
    (g.L.EventLog.has_failed c.serve_request.new.log) (answered m r w.answer).events) same
    (c.serve_request.ensures.notes m k x.runs x.has_request from' can))

pub returns-in-None-clause-turn : goal.returns-in-None-clause-turn
returns-in-None-clause-turn g c = λ l shown keeper takes from.
    let x = c.in-None.ensures.taken l keeper takes in
    turn-idle c.args.store.now c.take_request.new.store c.finish_turn.new.store l (g.Q.KindKeeper.tells c.take_request.new.kinds) (g.Q.KindKeeper.tells c.take_request.new.kinds)
    (pipe_service c.args.pipes.now) shown (g.L.EventLog.noted c.args.log.now) (g.L.EventLog.noted c.args.log.now) (g.L.EventLog.noted c.take_request.new.log)
    (g.L.EventLog.has_failed c.args.log.now) (g.L.EventLog.has_failed c.args.log.now) (g.L.EventLog.has_failed c.take_request.new.log) x
    (c.finish_turn.ensures (taken l).lists x.lists.lists x.runs) (c.in-None.ensures.notes l keeper takes)
