use Rattle.std.proofs.Common.{◌∙◌, ap}
use Rattle.std.proofs.Math.Facts.{to_z-of_z}
use Rattle.word_store.specs.Arithmetic.{word_of}
use Rattle.resident_tasks.specs.ResidentRequests.Turns.{service}
use Rattle.resident_tasks.proofs.ResidentRequests.ResidentTurns.{is-served, keeper-written, written-then}
use Rattle.resident_tasks.proofs.resident_requests.services.serve_request.Goals as goal

pub answer_request-requires : goal.answer_request-requires
answer_request-requires g c =
    let l = c.requires.request.0 in
    let x = written-then c.args.store.now c.write_buffer.new.store l c.args.request (service c.args.answer c.args.at c.args.bytes.now) c.requires.request.1.lists c.requires.request.3 c.requires.request.5 c.write_buffer.ensures.words in (
      l,
      keeper-written c.args.store.now c.write_buffer.new.store (g.Q.KindKeeper.tells c.args.kinds.now) (g.Q.KindKeeper.room c.args.kinds.now) l c.args.request (service c.args.answer c.args.at c.args.bytes.now) c.requires.request.1 x,
      c.requires.request.2,
      x.has_request,
      ap word_of (to_z-of_z c.ranges.from) ∙ c.requires.request.4,
    )

pub returns-clause-served : goal.returns-clause-served
returns-clause-served g c = λ l k runs h from can.
    let w = service c.args.answer c.args.at c.args.bytes.now in
    let x = written-then c.args.store.now c.write_buffer.new.store l c.args.request w k.lists h can c.write_buffer.ensures.words in
    let k' = keeper-written c.args.store.now c.write_buffer.new.store (g.Q.KindKeeper.tells c.args.kinds.now) (g.Q.KindKeeper.room c.args.kinds.now) l c.args.request w k x in
    let from' = ap word_of (to_z-of_z c.ranges.from) ∙ from in
    is-served c.args.store.now c.write_buffer.new.store c.answer_request.new.store (g.Q.KindKeeper.tells c.answer_request.new.kinds) l c.args.request w x
    (c.answer_request.ensures.made l k' runs x.has_request from') (c.answer_request.ensures.owns l k' runs x.has_request from')

pub returns-clause-notes : goal.returns-clause-notes
returns-clause-notes g c = λ l k runs h from can.
    let w = service c.args.answer c.args.at c.args.bytes.now in
    let x = written-then c.args.store.now c.write_buffer.new.store l c.args.request w k.lists h can c.write_buffer.ensures.words in
    c.answer_request.ensures.notes l
    (keeper-written c.args.store.now c.write_buffer.new.store (g.Q.KindKeeper.tells c.args.kinds.now) (g.Q.KindKeeper.room c.args.kinds.now) l c.args.request w k x) runs x.has_request
    (ap word_of (to_z-of_z c.ranges.from) ∙ from)
