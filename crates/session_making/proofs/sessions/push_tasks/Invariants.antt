use Rattle.std.proofs.Common.{◌≡◌, ◌++◌, map}
use Rattle.session_making.specs.Sessions.{task_line}
use Rattle.session_making.proofs.sessions.push_tasks.Given as goal

abbrev pub invariant-loop-task : goal.invariant-loop-task
invariant-loop-task l =
    l.lines.items ++ map task_line l.task-iterator.rest.items ≡ l.fn.lines.items ++ map task_line l.fn.tasks.items
