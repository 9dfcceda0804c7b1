-- The words that there are.
use Rattle.std.specs.Prelude.{ℕ, ◌||◌, Bool, true, false, List, codes, if◌then◌else◌}
use Rattle.std.specs.Str.{bytes_eq}
use Rattle.show_run.specs.declared.typed_words.words.Word.{Word}
use Rattle.show_run.specs.declared.typed_words.words.Word.TheVariants.{Back, Backtrace, Blocks, Break, Continue, Finish, Help, LastWrite, Line, List as Listing, NextWrite, Over, Queue, Quit, Registers, Step, Tasks, Unbreak, Unknown, Words}

-- whether a word is the first of a line of the debugger
abbrev pub begins_line : List ℕ → Bool
begins_line name =
    bytes_eq name (codes "STEP") || bytes_eq name (codes "BACK") || bytes_eq name (codes "CONT") || bytes_eq name (codes "BP")
    || bytes_eq name (codes "UNBP") || bytes_eq name (codes "REGS") || bytes_eq name (codes "MEM") || bytes_eq name (codes "TASKS")
    || bytes_eq name (codes "QUEUE") || bytes_eq name (codes "BLOCKS") || bytes_eq name (codes "DIS")

-- what a word asks for
abbrev pub word_named : List ℕ → Word
word_named name =
    if bytes_eq name (codes "s") then Step else
    if bytes_eq name (codes "back") then Back else
    if bytes_eq name (codes "n") then Over else
    if bytes_eq name (codes "fin") then Finish else
    if bytes_eq name (codes "c") then Continue else
    if bytes_eq name (codes "b") then Break else
    if bytes_eq name (codes "d") then Unbreak else
    if bytes_eq name (codes "w") then NextWrite else
    if bytes_eq name (codes "who") then LastWrite else
    if bytes_eq name (codes "r") then Registers else
    if bytes_eq name (codes "x") then Words else
    if bytes_eq name (codes "l") then Listing else
    if bytes_eq name (codes "t") then Tasks else
    if bytes_eq name (codes "q") then Queue else
    if bytes_eq name (codes "k") then Blocks else
    if bytes_eq name (codes "bt") then Backtrace else
    if bytes_eq name (codes "h") then Help else
    if bytes_eq name (codes "quit") then Quit else
    if begins_line name then Line else
    Unknown

-- whether a word needs one after it
abbrev pub needs_more : Word → Bool
needs_more Break = true
needs_more Unbreak = true
needs_more NextWrite = true
needs_more LastWrite = true
needs_more Words = true
needs_more Queue = true
needs_more _ = false
