use Rattle.std.proofs.Common.{◌≡◌, ◌+◌, ◌*◌, ◌≤◌, ◌++◌, length}
use Rattle.std.specs.List.{flat_map}
use Rattle.kernel_lists.specs.TaskBlock.TaskChain.{tasks_in}
use Rattle.shell.specs.ShellListings.TaskLines.{most_in_task_line, task_line_at}
use Rattle.shell.proofs.shell_listings.tasks.write_chain.Given as goal

abbrev pub invariant-loop-t : goal.invariant-loop-t
invariant-loop-t l = record {
  text : l.bytes ++ flat_map (task_line_at l.store) l.t-iterator ≡ l.fn.bytes ++ flat_map (task_line_at l.store) (tasks_in l.store);
  room : length l.bytes + most_in_task_line * length l.t-iterator ≤ length l.fn.bytes + most_in_task_line * length (tasks_in l.store);
}
