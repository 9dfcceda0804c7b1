use Rattle.std.proofs.Common.{◌∙◌, None, Some, cond, sym, ap}
use Rattle.std.proofs.lemmas.Bool.{ne_eqb}
use Rattle.kernel_calls.proofs.CallAnswers.RootTold.{running-word}
use Rattle.resident_tasks.proofs.ResidentRequests.TakenRequest.{first-of, packet_or_none}
use Rattle.resident_tasks.proofs.resident_requests.requests.first_packet.Goals as goal

pub returns-then-p-eq0 : goal.returns-then-p-eq0
returns-then-p-eq0 c = λ l h r.
    sym (ap packet_or_none c.if-p-eq0.true) ∙ first-of c.args.store.now l h r c.root-task.result c.field-p.result (c.root-task.ensures ∙ running-word c.args.store.now l h) c.field-p.ensures

pub returns : goal.returns
returns c = λ l h r.
    sym (ap (λ b. cond b None (Some c.field-p.result)) (ne_eqb c.field-p.result 0 c.if-p-eq0.false))
    ∙ first-of c.args.store.now l h r c.root-task.result c.field-p.result (c.root-task.ensures ∙ running-word c.args.store.now l h) c.field-p.ensures
