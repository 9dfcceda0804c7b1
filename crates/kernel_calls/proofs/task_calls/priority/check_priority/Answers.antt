use Rattle.std.proofs.Common.{true, false, sym, ap, ◌∙◌}
use Rattle.kernel_calls.specs.CallAnswers.Refusals.{answer_of}
use Rattle.kernel_calls.proofs.TaskCalls.ChangedPriority.{no_priority, priority_taken}
use Rattle.kernel_calls.proofs.CallAnswers.FoundTask.{reads}
use Rattle.kernel_calls.proofs.TaskCalls.Priorities.{taken-used}
use Rattle.kernel_calls.proofs.task_calls.priority.check_priority.Goals as goal

pub returns-then-not-is_priority : goal.returns-then-not-is_priority
returns-then-not-is_priority c = λ l h. ap answer_of (sym (no_priority l c.args.id c.args.pri (sym c.is_priority.ensures ∙ c.if-not-is_priority.true)))

pub priority_used-requires : goal.priority_used-requires
priority_used-requires c = (reads c.args.store.now c.requires.0 c.requires.1).tasks.tasks

pub returns-then-priority_used : goal.returns-then-priority_used
returns-then-priority_used c = λ l h.
    ap answer_of (sym (priority_taken l c.args.id c.args.pri true (sym c.is_priority.ensures ∙ c.if-not-is_priority.false)
    (sym (taken-used c.args.store.now l c.args.id c.args.pri h) ∙ sym c.priority_used.ensures ∙ c.if-priority_used.true)))

pub returns : goal.returns
returns c = λ l h.
    ap answer_of (sym (priority_taken l c.args.id c.args.pri false (sym c.is_priority.ensures ∙ c.if-not-is_priority.false)
    (sym (taken-used c.args.store.now l c.args.id c.args.pri h) ∙ sym c.priority_used.ensures ∙ c.if-priority_used.false)))
