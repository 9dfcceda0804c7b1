-- Who has a queue or sends packets, by numbers and by words.
use Rattle.std.specs.Prelude.{ℕ, ℤ, ◌==◌, ◌^◌, ◌-◌, if◌then◌else◌, List, [], ◌∷◌, codes, decimal, nat_lt, Option, Some, None, option_and_then}
use Rattle.std.specs.Str.{bytes_eq}
use Rattle.byte_streams.specs.Pieces.{joined}
use Rattle.kernel_model.specs.declared.kernel_record.numbers.TheConstants.{CLOCK, KEYBOARD, OUTPUT, PENDING}
use Rattle.module_text.specs.TextReader.Fields.{after_word}
use Rattle.module_text.specs.TextReader.Numbers.{number_of}
use Rattle.word_store.specs.Arithmetic.{word_of}
use Rattle.run_names.specs.declared.parties.Party.{Party}
use Rattle.run_names.specs.declared.parties.Party.TheVariants.{Task, Clock, Keyboard, Output, ConsoleReads}

-- the one with this number
abbrev pub party_of : ℤ → Party
party_of q =
    if word_of q == CLOCK then Clock else
    if word_of q == KEYBOARD then Keyboard else
    if word_of q == OUTPUT then Output else
    if word_of q == PENDING then ConsoleReads else
    Task (word_of q)

-- the task with a number, which is below 2 ^ 32
abbrev pub task_party : ℕ → Option Party
task_party id = if nat_lt (2 ^ 32 - 1) id then None else Some (Task id)

-- the one that these words name
abbrev pub party_named : List ℕ → Option Party
party_named words =
    if bytes_eq words (codes "the clock") then Some Clock else
    if bytes_eq words (codes "the keyboard") then Some Keyboard else
    if bytes_eq words (codes "the output") then Some Output else
    if bytes_eq words (codes "the reads at the console") then Some ConsoleReads else
    option_and_then task_party (option_and_then number_of (after_word (codes "task ") words))

-- the words that name somebody
abbrev pub party_words : Party → List ℕ
party_words (Task id) = joined (codes "task " ∷ decimal id ∷ [])
party_words Clock = codes "the clock"
party_words Keyboard = codes "the keyboard"
party_words Output = codes "the output"
party_words ConsoleReads = codes "the reads at the console"
