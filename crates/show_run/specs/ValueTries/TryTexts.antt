-- The texts that are written of tries.
use Rattle.std.specs.Prelude.{ℕ, ◌==◌, if◌then◌else◌, List, [], ◌∷◌, ◌++◌, length, codes, decimal}
use Rattle.std.specs.List.{flat_map}
use Rattle.byte_streams.specs.Pieces.{joined}
use Rattle.kernel_model.specs.declared.kernel_record.stops.Stop.{Stop}
use Rattle.kernel_model.specs.declared.kernel_record.stops.Stop.TheVariants.{Steps, Quit, Finish, Fault}
use Rattle.show_run.specs.declared.value_tries.groups.Group.{Group}
use Rattle.show_run.specs.declared.value_tries.outcomes.Ending.{Ending}
use Rattle.show_run.specs.declared.value_tries.outcomes.Ending.TheVariants.{Stopped, NoBoot, NoSession}
use Rattle.show_run.specs.declared.value_tries.spans.Span.{Span}

-- why a run has stopped
abbrev pub quit_text : ℕ → List ℕ
quit_text code = joined (codes "quit " ∷ decimal code ∷ [])

-- a fault that stopped the machine: its code, its address and its task
abbrev pub fault_text : ℕ → ℕ → ℕ → List ℕ
fault_text code address task =
    joined (codes "fault " ∷ decimal code ∷ codes " at " ∷ decimal address ∷ codes " in task " ∷ decimal task ∷ [])

-- each way in which a run stops, in words
abbrev pub stop_text : Stop → List ℕ
stop_text Steps = codes "steps"
stop_text (Quit code) = quit_text code
stop_text Finish = codes "finish"
stop_text (Fault code address task) = fault_text code address task

-- how a try ended: with a stop, with a refusal to boot, or since there is no session with the value
abbrev pub no_boot_text : ℕ → ℕ → List ℕ
no_boot_text line code = joined (codes "no boot " ∷ decimal line ∷ codes " " ∷ decimal code ∷ [])

-- each way in which a try ends, in words
abbrev pub ending_text : Ending → List ℕ
ending_text (Stopped stop) = stop_text stop
ending_text (NoBoot line code) = no_boot_text line code
ending_text NoSession = codes "no session"

-- a value, or the first and the last of values in a row, after a blank
abbrev pub span_text : Span → List ℕ
span_text span =
    if span.first == span.last then joined (codes " " ∷ decimal span.first ∷ [])
    else joined (codes " " ∷ decimal span.first ∷ codes "-" ∷ decimal span.last ∷ [])

-- all spans of values, in their order
abbrev pub spans_text : List Span → List ℕ
spans_text spans = flat_map span_text spans

-- how many tries came to this, their least and their most steps, and how many bytes they wrote
abbrev pub head_text : Group → List ℕ
head_text group =
    joined (codes "outcome " ∷ decimal group.count ∷ codes " " ∷ decimal group.least ∷ codes " " ∷ decimal group.most
    ∷ codes " " ∷ decimal (length group.outcome.bytes) ∷ codes " " ∷ [])

-- that and how they ended
abbrev pub line_text : Group → List ℕ
line_text group = head_text group ++ ending_text group.outcome.ending

-- in a second line their values
abbrev pub values_text : List Span → List ℕ
values_text spans = codes "\nvalues" ++ spans_text spans

-- after it the bytes, and an LF
abbrev pub bytes_text : List ℕ → List ℕ
bytes_text bytes = joined (codes "\n" ∷ bytes ∷ codes "\n" ∷ [])

-- the values and the bytes of a group
abbrev pub rest_text : Group → List ℕ
rest_text group = values_text group.spans ++ bytes_text group.outcome.bytes

-- all that is written of a group
abbrev pub group_text : Group → List ℕ
group_text group = line_text group ++ rest_text group

-- all groups, in the order of the first try of each
abbrev pub groups_text : List Group → List ℕ
groups_text groups = flat_map group_text groups

-- how many tries there were
abbrev pub tried_text : ℕ → List ℕ
tried_text tried = joined (codes "tried " ∷ decimal tried ∷ codes "\n" ∷ [])

-- all groups, and how many tries there were
abbrev pub gathering_text : List Group → ℕ → List ℕ
gathering_text groups tried = groups_text groups ++ tried_text tried
