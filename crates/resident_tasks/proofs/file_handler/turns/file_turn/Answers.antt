use Rattle.std.proofs.Common.{◌≡◌, ◌∙◌, Some, sym, subst}
use Rattle.kernel_model.specs.KernelRecord.NotedEvents.{NotesAll}
use Rattle.resident_tasks.specs.ResidentRequests.Answers.{answered}
use Rattle.resident_tasks.specs.ResidentRequests.Requests.{taken}
use Rattle.resident_tasks.specs.ResidentRequests.Turns.{CanServe, IsServed, service}
use Rattle.resident_tasks.proofs.ResidentRequests.ResidentTurns.{keeper-taken, turn-idle, turn-served}
use Rattle.resident_tasks.proofs.ResidentRequests.TakenRequest.{taken-running}
use Rattle.resident_tasks.specs.FileHandler.FileTurn.{file_service}
use Rattle.resident_tasks.proofs.FileHandler.FileTurns.{disc-idle, disc-served, handler-takes, told}
use Rattle.resident_tasks.proofs.FileHandler.HandledCalls.{can-serve}
use Rattle.resident_tasks.proofs.file_handler.turns.file_turn.Goals as goal

pub take_request-requires : goal.take_request-requires
take_request-requires g c = let l = c.requires.0 in let k = c.requires.1 in (l, k, handler-takes c.args.store.now l k.lists c.requires.2)

pub finish_turn-requires : goal.finish_turn-requires
finish_turn-requires g c =
    let l = c.requires.0 in
    let k = c.requires.1 in
    let x = c.in-None.ensures.taken l k (handler-takes c.args.store.now l k.lists c.requires.2) in
    ((taken l).lists, x.lists.lists, x.runs)

pub returns-in-None-clause-turn : goal.returns-in-None-clause-turn
returns-in-None-clause-turn g c = λ l shown k f.
    let r = handler-takes c.args.store.now l k.lists f in
    let x = c.in-None.ensures.taken l k r in
    turn-idle c.args.store.now c.take_request.new.store c.finish_turn.new.store l (g.Q.KindKeeper.tells c.args.kinds.now) (g.Q.KindKeeper.tells c.take_request.new.kinds) (file_service c.args.disc.now) shown
    (g.L.EventLog.noted c.args.log.now) (g.L.EventLog.noted c.args.log.now) (g.L.EventLog.noted c.take_request.new.log) (g.L.EventLog.has_failed c.args.log.now)
    (g.L.EventLog.has_failed c.args.log.now) (g.L.EventLog.has_failed c.take_request.new.log) x
    (c.finish_turn.ensures (taken l).lists x.lists.lists x.runs) (c.in-None.ensures.notes l k r)

pub returns-in-None-clause-disc : goal.returns-in-None-clause-disc
returns-in-None-clause-disc g c = λ l k f.
    disc-idle c.args.disc.now c.args.store.now c.take_request.new.store (g.Q.KindKeeper.tells c.take_request.new.kinds) l (c.in-None.ensures.taken l k (handler-takes c.args.store.now l k.lists f))

pub file_request-answer-requires-clause-keeper : goal.file_request-answer-requires-clause-keeper
file_request-answer-requires-clause-keeper g c =
    let l = c.requires.0 in
    let k = c.requires.1 in
    let x = c.in-Some.ensures.taken l k (handler-takes c.args.store.now l k.lists c.requires.2) in (
      (taken l).lists,
      keeper-taken c.args.store.now c.take_request.new.store (g.Q.KindKeeper.tells c.args.kinds.now) (g.Q.KindKeeper.tells c.take_request.new.kinds) (g.Q.KindKeeper.room c.args.kinds.now)
          (g.Q.KindKeeper.room c.take_request.new.kinds) l (Some c.in-Some.request) k x c.take_request.ensures.room,
    )

pub serve_request-requires-clause-request : goal.serve_request-requires-clause-request
serve_request-requires-clause-request g c =
    let l = c.requires.0 in
    let k = c.requires.1 in
    let f = c.requires.2 in
    let d = c.args.disc.now in
    let t = c.take_request.new.store in
    let r = c.in-Some.request in
    let x = c.in-Some.ensures.taken l k (handler-takes c.args.store.now l k.lists f) in
    let k' =
    keeper-taken c.args.store.now c.take_request.new.store (g.Q.KindKeeper.tells c.args.kinds.now) (g.Q.KindKeeper.tells c.take_request.new.kinds) (g.Q.KindKeeper.room c.args.kinds.now)
    (g.Q.KindKeeper.room c.take_request.new.kinds) l (Some c.in-Some.request) k x c.take_request.ensures.room
    in (
      (taken l).lists,
      k',
      x.runs,
      x.has_request,
      sym (taken-running l ∙ f.is),
      subst (CanServe t (taken l).lists r) (sym (told d t (taken l).lists r c.file_request-answer.new.disc c.file_request-answer.result c.file_request-answer.new.bytes.items c.as_slice-bytes.result.now c.as_slice-bytes.ensures.value (c.file_request-answer.ensures (taken l).lists k')))
          (can-serve d t (taken l).lists r),
    )

pub returns-in-Some-clause-turn : goal.returns-in-Some-clause-turn
returns-in-Some-clause-turn g c = λ l shown k f.
    let d = c.args.disc.now in
    let t = c.take_request.new.store in
    let r = c.in-Some.request in
    let m = (taken l).lists in
    let takes = handler-takes c.args.store.now l k.lists f in
    let x = c.in-Some.ensures.taken l k takes in
    let k' =
    keeper-taken c.args.store.now c.take_request.new.store (g.Q.KindKeeper.tells c.args.kinds.now) (g.Q.KindKeeper.tells c.take_request.new.kinds) (g.Q.KindKeeper.room c.args.kinds.now)
    (g.Q.KindKeeper.room c.take_request.new.kinds) l (Some c.in-Some.request) k x c.take_request.ensures.room
    in
    let made = service c.file_request-answer.result r.second c.as_slice-bytes.result.now in
    let is : made ≡ file_service d t m r =
    told d t m r c.file_request-answer.new.disc c.file_request-answer.result c.file_request-answer.new.bytes.items c.as_slice-bytes.result.now c.as_slice-bytes.ensures.value (c.file_request-answer.ensures m k')
    in
    let runs = sym (taken-running l ∙ f.is) in
    let can = subst (CanServe t m r) (sym is) (can-serve d t m r) in
    turn-served c.args.store.now t c.serve_request.new.store l (g.Q.KindKeeper.tells c.serve_request.new.kinds) (g.Q.KindKeeper.tells c.take_request.new.kinds) (file_service d) shown
    (g.L.EventLog.noted c.args.log.now) (g.L.EventLog.noted c.take_request.new.log) (g.L.EventLog.noted c.serve_request.new.log) (g.L.EventLog.has_failed c.args.log.now)
    (g.L.EventLog.has_failed c.take_request.new.log) (g.L.EventLog.has_failed c.serve_request.new.log) r x
    (subst (IsServed t c.serve_request.new.store (g.Q.KindKeeper.tells c.serve_request.new.kinds) m r) is (c.serve_request.ensures.served m k' x.runs x.has_request runs can))
    (c.in-Some.ensures.notes l k takes)
    (subst
    (λ w. NotesAll (g.L.EventLog.noted c.take_request.new.log) (g.L.EventLog.noted c.serve_request.new.log) (g.L.EventLog.has_failed c.take_request.new.log) (g.L.EventLog.has_failed c.serve_request.new.log)
    (answered m r w.answer).events)
    is
    (c.serve_request.ensures.notes m k' x.runs x.has_request runs can))

pub returns-in-Some-clause-disc : goal.returns-in-Some-clause-disc
returns-in-Some-clause-disc g c = λ l k f.
    let d = c.args.disc.now in
    let t = c.take_request.new.store in
    let x = c.in-Some.ensures.taken l k (handler-takes c.args.store.now l k.lists f) in
    let k' =
    keeper-taken c.args.store.now c.take_request.new.store (g.Q.KindKeeper.tells c.args.kinds.now) (g.Q.KindKeeper.tells c.take_request.new.kinds) (g.Q.KindKeeper.room c.args.kinds.now)
    (g.Q.KindKeeper.room c.take_request.new.kinds) l (Some c.in-Some.request) k x c.take_request.ensures.room
    in
    disc-served d c.args.store.now t (g.Q.KindKeeper.tells c.take_request.new.kinds) l c.in-Some.request c.file_request-answer.new.disc c.file_request-answer.result c.file_request-answer.new.bytes.items x
    (c.file_request-answer.ensures (taken l).lists k')
