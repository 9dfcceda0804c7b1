use Rattle.std.proofs.Common.{◌∙◌, ◌+◌, set, sym, arith}
use Rattle.kernel_calls.proofs.CallAnswers.RootTold.{running-word}
use Rattle.resident_tasks.proofs.ResidentRequests.FinishedTurn.{goes-on, low-state, waits}
use Rattle.resident_tasks.proofs.resident_requests.answers.finish_turn.Goals as goal

pub returns-then-field-ne0 : goal.returns-then-field-ne0
returns-then-field-ne0 c = λ l h r.
    goes-on c.args.store.now l h r c.root-task.result (c.root-task.ensures ∙ running-word c.args.store.now l h) (λ e. c.if-field-ne0.true (c.field.ensures ∙ e))

pub overflow_add-state : goal.overflow_add-state
overflow_add-state c =
    omega (
      arith,
      c.field-state.ensures,
      low-state c.args.store.now c.requires.0 c.requires.1 c.requires.2 c.root-task.result (c.root-task.ensures ∙ running-word c.args.store.now c.requires.0 c.requires.1),
    )

pub returns : goal.returns
returns c = λ l h r.
    waits c.args.store.now l h r c.root-task.result (c.root-task.ensures ∙ running-word c.args.store.now l h) (sym c.field.ensures ∙ c.if-field-ne0.false) c.set_field.new.store
    (c.set_field.ensures ∙ (λ i. set c.args.store.now (c.root-task.result + 4) (c.field-state.ensures i + 4)))
