use Rattle.std.proofs.Common.{◌≡◌, ◌+◌}
use Rattle.std.specs.Prelude.{slice_range}
use Rattle.kernel_lists.specs.TaskBlock.Versions.{head_words}
use Rattle.state_text.specs.ProgramNames.{first_name, name_in}
use Rattle.state_text.proofs.FurtherNames.{modules_among}
use Rattle.state_text.proofs.names.name_of_further.Given as goal

abbrev pub invariant-loop-i : goal.invariant-loop-i
invariant-loop-i l =
    first_name (name_in l.programs l.store) (modules_among (slice_range l.store (l.t + 23) (l.t + head_words l.store)))
    ≡ first_name (name_in l.programs l.store) (modules_among (slice_range l.store (l.t + (21 + l.i)) (l.t + head_words l.store)))
