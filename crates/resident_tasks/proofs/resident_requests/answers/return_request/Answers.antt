use Rattle.std.proofs.Common.{◌∙◌, Ok, ap, subst, w32}
use Rattle.std.proofs.Math.Facts.{to_z-of_z}
use mir.Val.{of_z, to_z}
use Rattle.word_store.specs.Arithmetic.{word_of}
use Rattle.kernel_calls.specs.CallAnswers.CallChange.{Leaves, minus_one}
use Rattle.kernel_calls.specs.PacketCalls.Reply.{reply}
use Rattle.resident_tasks.proofs.ResidentRequests.ReturnedRequest.{can-return, is-noted, is-returned, owners-returned, return-room}
use Rattle.resident_tasks.proofs.ResidentRequests.RunningResident.{runs-work}
use Rattle.resident_tasks.proofs.resident_requests.answers.return_request.Goals as goal

pub reply-requires : goal.reply-requires
reply-requires g c =
    let l = c.requires.0 in
    let k = c.requires.1 in
    (l, k.lists, can-return c.args.store.now (g.Q.KindKeeper.tells c.args.kinds.now) (g.Q.KindKeeper.room c.args.kinds.now) l c.args.request _ k c.requires.2 c.requires.3 (ap word_of (to_z-of_z c.ranges.from) ∙ c.requires.4))

pub claim-requires : goal.claim-requires
claim-requires g c =
    return-room c.args.store.now (g.Q.KindKeeper.tells c.args.kinds.now) (g.Q.KindKeeper.room c.args.kinds.now) c.requires.0 c.args.request _ c.requires.1 c.requires.2 c.requires.3 (ap word_of (to_z-of_z c.ranges.from) ∙ c.requires.4)

pub returns-clause-made : goal.returns-clause-made
returns-clause-made g c = λ l k runs h from.
    is-returned c.args.store.now (g.Q.KindKeeper.tells c.args.kinds.now) (g.Q.KindKeeper.room c.args.kinds.now) l c.args.request _ k runs h (ap word_of (to_z-of_z c.ranges.from) ∙ from) c.args.answer c.reply.new.store
    (g.Q.KindKeeper.tells c.claim.new.self)
    (subst (λ w. Leaves c.args.store.now c.reply.new.store (Ok minus_one) (reply c.args.store.now l c.args.request.packet (word_of (to_z w32 (of_z w32 c.args.from))) w.0 w.1)) c.results-res1.ensures
    (c.reply.ensures.made l k.lists (can-return c.args.store.now (g.Q.KindKeeper.tells c.args.kinds.now) (g.Q.KindKeeper.room c.args.kinds.now) l c.args.request _ k runs h (ap word_of (to_z-of_z c.ranges.from) ∙ from)))) c.claim.ensures.tells

pub returns-clause-notes : goal.returns-clause-notes
returns-clause-notes g c = λ l k runs h from.
    is-noted c.args.store.now (g.Q.KindKeeper.tells c.args.kinds.now) (g.Q.KindKeeper.room c.args.kinds.now) l c.args.request _ k runs h (ap word_of (to_z-of_z c.ranges.from) ∙ from) c.args.answer
    (g.L.EventLog.noted c.args.log.now) (g.L.EventLog.noted c.reply.new.log) (g.L.EventLog.has_failed c.args.log.now) (g.L.EventLog.has_failed c.reply.new.log)
    (c.reply.ensures.notes l k.lists (can-return c.args.store.now (g.Q.KindKeeper.tells c.args.kinds.now) (g.Q.KindKeeper.room c.args.kinds.now) l c.args.request _ k runs h (ap word_of (to_z-of_z c.ranges.from) ∙ from)))

pub returns-clause-runs : goal.returns-clause-runs
returns-clause-runs g c = λ l runs. runs-work l c.args.request.sender _ runs

pub returns-clause-owns : goal.returns-clause-owns
returns-clause-owns g c = λ l k runs h from.
    owners-returned c.args.store.now (g.Q.KindKeeper.tells c.args.kinds.now) (g.Q.KindKeeper.room c.args.kinds.now) l c.args.request _ k runs h (ap word_of (to_z-of_z c.ranges.from) ∙ from) c.args.answer
