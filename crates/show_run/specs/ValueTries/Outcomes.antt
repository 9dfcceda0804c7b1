-- What a try of a value comes to, and when two of them come to the same.
use Rattle.std.specs.Prelude.{◌==◌, ◌&&◌, Bool, true, false}
use Rattle.std.specs.Str.{bytes_eq}
use Rattle.kernel_model.specs.declared.kernel_record.stops.Stop.{Stop}
use Rattle.kernel_model.specs.declared.kernel_record.stops.Stop.TheVariants.{Steps, Quit, Finish, Fault}
use Rattle.show_run.specs.declared.value_tries.outcomes.Ending.{Ending}
use Rattle.show_run.specs.declared.value_tries.outcomes.Ending.TheVariants.{Stopped, NoBoot, NoSession}
use Rattle.show_run.specs.declared.value_tries.outcomes.Outcome.{Outcome}

-- the same reason for a stop
abbrev pub is_same_stop : Stop → Stop → Bool
is_same_stop Steps Steps = true
is_same_stop (Quit code) (Quit other) = code == other
is_same_stop Finish Finish = true
is_same_stop (Fault code address task) (Fault other_code other_address other_task) =
    (code == other_code) && (address == other_address) && (task == other_task)
is_same_stop _ _ = false

-- the same end of a try
abbrev pub is_same_ending : Ending → Ending → Bool
is_same_ending (Stopped stop) (Stopped other) = is_same_stop stop other
is_same_ending (NoBoot line code) (NoBoot other_line other_code) = (line == other_line) && (code == other_code)
is_same_ending NoSession NoSession = true
is_same_ending _ _ = false

-- the same end, and the same bytes
abbrev pub is_same_outcome : Outcome → Outcome → Bool
is_same_outcome a b = is_same_ending a.ending b.ending && bytes_eq a.bytes b.bytes
