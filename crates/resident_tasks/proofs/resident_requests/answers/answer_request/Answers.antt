use Rattle.std.proofs.Common.{◌∙◌, ap}
use Rattle.std.proofs.Math.Facts.{to_z-of_z}
use Rattle.word_store.specs.Arithmetic.{word_of}
use Rattle.resident_tasks.proofs.ResidentRequests.AnsweredRequest.{is-answered}
use Rattle.resident_tasks.proofs.resident_requests.answers.answer_request.Goals as goal

pub finish_turn-requires : goal.finish_turn-requires
finish_turn-requires g c =
    let l = c.requires.0 in
    let made = c.return_request.ensures.made l c.requires.1 c.requires.2 c.requires.3 (ap word_of (to_z-of_z c.ranges.from) ∙ c.requires.4) in
    (_, made.leaves.lists.lists, c.return_request.ensures.runs l c.requires.2)

pub returns-clause-made : goal.returns-clause-made
returns-clause-made g c = λ l k runs h from.
    let made = c.return_request.ensures.made l k runs h (ap word_of (to_z-of_z c.ranges.from) ∙ from) in
    is-answered c.args.store.now c.return_request.new.store c.finish_turn.new.store (g.Q.KindKeeper.tells c.return_request.new.kinds) l c.args.request c.args.answer made
    (c.finish_turn.ensures _ made.leaves.lists.lists (c.return_request.ensures.runs l runs))

pub returns-clause-notes : goal.returns-clause-notes
returns-clause-notes g c = λ l k runs h from. c.return_request.ensures.notes l k runs h (ap word_of (to_z-of_z c.ranges.from) ∙ from)

pub returns-clause-owns : goal.returns-clause-owns
returns-clause-owns g c = λ l k runs h from.
    let made = c.return_request.ensures.made l k runs h (ap word_of (to_z-of_z c.ranges.from) ∙ from) in
    let owns = c.return_request.ensures.owns l k runs h (ap word_of (to_z-of_z c.ranges.from) ∙ from) in
    λ a. (c.finish_turn.ensures _ made.leaves.lists.lists (c.return_request.ensures.runs l runs)).same a ∙ owns a
