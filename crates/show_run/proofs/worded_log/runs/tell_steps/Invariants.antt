use Rattle.std.proofs.Common.{◌≤◌}
use Rattle.tripos_machine.specs.State.{steps_of}
use Rattle.show_run.specs.WordedLog.{window_end}
use Rattle.show_run.proofs.worded_log.runs.tell_steps.Given as goal

abbrev pub invariant-loop-turn : goal.invariant-loop-turn
invariant-loop-turn l = steps_of l.machine.state ≤ window_end l.window
