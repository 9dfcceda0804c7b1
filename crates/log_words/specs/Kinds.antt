-- Which lines are wanted.
use Rattle.std.specs.Prelude.{ℕ, ◌==◌, ◌&&◌, ◌||◌, if◌then◌else◌, Bool, true, false, not, Contains, IsTrue, List, codes, filter, Option, Some, None}
use Rattle.std.specs.List.{list_any}
use Rattle.std.specs.Str.{bytes_eq}
use Rattle.session_text.specs.Statements.{fields}
use Rattle.run_names.specs.declared.parties.Party.{Party}
use Rattle.run_names.specs.declared.parties.Party.TheVariants.{Task}
use Rattle.log_words.specs.declared.kinds.TheConstants.{KINDS}
use Rattle.log_words.specs.declared.kinds.Kind.{Kind}
use Rattle.log_words.specs.declared.kinds.Kind.TheVariants.{Call, Refused, Send, Return, Take, Dequeue, Run, Console, Key, Fault, Die, Step, Write, Tick, End}
use Rattle.log_words.specs.declared.kinds.Wanted.{Wanted}

-- the word of a kind
abbrev pub kind_word : Kind → List ℕ
kind_word Call = codes "call"
kind_word Refused = codes "refused"
kind_word Send = codes "send"
kind_word Return = codes "return"
kind_word Take = codes "take"
kind_word Dequeue = codes "dequeue"
kind_word Run = codes "run"
kind_word Console = codes "console"
kind_word Key = codes "key"
kind_word Fault = codes "fault"
kind_word Die = codes "die"
kind_word Step = codes "step"
kind_word Write = codes "write"
kind_word Tick = codes "tick"
kind_word End = codes "end"

-- lines of this kind are wanted only where they are asked for
abbrev pub is_quiet : Kind → Bool
is_quiet Step = true
is_quiet Write = true
is_quiet Tick = true
is_quiet _ = false

-- lines of this kind are of packets
abbrev pub is_packets : Kind → Bool
is_packets Send = true
is_packets Return = true
is_packets Take = true
is_packets Dequeue = true
is_packets _ = false

-- a word names the kind
abbrev pub is_named : List ℕ → Kind → Bool
is_named word kind =
    bytes_eq word (codes "all") || bytes_eq word (kind_word kind) || bytes_eq word (codes "packet") && is_packets kind

-- lines of the kind are wanted, by these words
abbrev pub is_kind_wanted : List ℕ → Kind → Bool
is_kind_wanted words kind =
    if bytes_eq words (codes "-") then not (is_quiet kind) else list_any (λ word. is_named word kind) (fields words)

-- somebody is the task with this number
abbrev pub is_task : ℕ → Party → Bool
is_task id (Task task) = task == id
is_task id _ = false

-- a line is about the task that is asked for, or any is: it runs in the step, or is one of these
abbrev pub is_about : Option ℕ → ℕ → List Party → Bool
is_about None task about = true
is_about (Some id) task about = id == task || list_any (is_task id) about

-- all kinds of which lines are wanted, by these words
abbrev pub wanted_kinds : List ℕ → List Kind
wanted_kinds words = filter (is_kind_wanted words) KINDS

-- lines of the kind are wanted
abbrev pub HasKind : Wanted → Kind → Type 0
HasKind w kind = Contains w.kinds.items kind

-- a line of the kind is wanted, in a step in which this task runs, that is about these besides
abbrev pub HasLine : Wanted → Kind → ℕ → List Party → Type 0
HasLine w kind task about = HasKind w kind × IsTrue (is_about w.task task about)
