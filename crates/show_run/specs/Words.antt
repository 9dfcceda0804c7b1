-- What the words of the command line ask for.
use Rattle.std.specs.Prelude.{ℕ, ◌^◌, nat_lt, List, [], ◌∷◌, codes, Option, Some, None, if◌then◌else◌}
use Rattle.std.specs.Option.{option_and_then, option_map}
use Rattle.std.specs.Str.{bytes_eq}
use Rattle.module_text.specs.TextReader.Numbers.{number_of}
use Rattle.show_run.specs.declared.commands.Show.{Show}
use Rattle.show_run.specs.declared.commands.Show.TheVariants.{Log, State, Writes}
use Rattle.show_run.specs.declared.commands.TheConstants.{LAST}

-- what one word asks for, if it asks for something
abbrev pub command_named : List ℕ → Option Show
command_named word =
    if bytes_eq word (codes "state") then Some State else
    if bytes_eq word (codes "log") then Some (Log 0 LAST) else
    None

-- `log` with its first and its last step
abbrev pub span : List ℕ → List ℕ → List ℕ → Option Show
span word first last =
    if bytes_eq word (codes "log") then option_and_then (λ m. option_map (Log m) (number_of last)) (number_of first) else None

-- the steps of a span that write the word at an address, which is a number below 2 ^ 32
abbrev pub writes_at : ℕ → ℕ → ℕ → Option Show
writes_at first last a = if nat_lt a (2 ^ 32) then Some (Writes a first last) else None

-- `writes` with an address, over the steps of a span
abbrev pub writes_of_address : List ℕ → List ℕ → ℕ → ℕ → Option Show
writes_of_address word address first last =
    if bytes_eq word (codes "writes") then option_and_then (writes_at first last) (number_of address) else None

-- over all steps
abbrev pub writes : List ℕ → List ℕ → Option Show
writes word address = writes_of_address word address 0 LAST

-- with the first and the last step
abbrev pub writes_in_span : List ℕ → List ℕ → List ℕ → List ℕ → Option Show
writes_in_span word address first last =
    option_and_then (λ m. option_and_then (writes_of_address word address m) (number_of last)) (number_of first)

-- what all words together ask for, if they ask for something
abbrev pub show_of : List (List ℕ) → Option Show
show_of (word ∷ []) = command_named word
show_of (word ∷ address ∷ []) = writes word address
show_of (word ∷ first ∷ last ∷ []) = span word first last
show_of (word ∷ address ∷ first ∷ last ∷ []) = writes_in_span word address first last
show_of _ = None

-- what is said where the words ask for nothing
abbrev pub usage_text : List ℕ
usage_text = codes "* usage: tripos_show state, log or log FIRST LAST, writes A or writes A FIRST LAST, places, words, events, moment, errors, outcomes, variant, tries tick, key K, priority TASK or stack TASK, and values: N or N-M\n"
