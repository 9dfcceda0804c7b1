-- Tasks and devices, and their names.
use Rattle.std.specs.Prelude.{ℕ, Bool, true, false, nat_le, List, [], ◌∷◌, codes, decimal, Option, Some, option_map}
use Rattle.std.specs.Option.{option_map_or}
use Rattle.byte_streams.specs.Pieces.{joined}
use Rattle.module_text.specs.TextReader.Fields.{after_word}
use Rattle.run_pictures.specs.Texts.{leading_number}
use Rattle.run_pictures.specs.declared.parties.Party.{Party}
use Rattle.run_pictures.specs.declared.parties.Party.TheVariants.{Clock, Keyboard, Task, Output}

-- whether it is a task
abbrev pub is_task : Party → Bool
is_task (Task n) = true
is_task _ = false

-- whether it is a guest: a task whose number is 5 or more
abbrev pub is_guest : Party → Bool
is_guest (Task n) = nat_le 5 n
is_guest _ = false

-- the name of a party
abbrev pub party_name : Party → List ℕ
party_name Clock = codes "the clock"
party_name Keyboard = codes "the keyboard"
party_name (Task n) = joined (codes "task " ∷ decimal n ∷ [])
party_name Output = codes "the output"

-- the task whose number a text begins with, and what comes after it
abbrev pub leading_task : List ℕ → Option (Party × List ℕ)
leading_task text = option_map (λ n. (Task n.0, n.1)) (leading_number text)

-- the party with whose name a text begins, and what comes after it
abbrev pub leading_party : List ℕ → Option (Party × List ℕ)
leading_party text =
    option_map_or leading_task (after_word (codes "task ") text)
    (option_map_or (λ rest. Some (Clock, rest)) (after_word (codes "the clock") text)
    (option_map_or (λ rest. Some (Keyboard, rest)) (after_word (codes "the keyboard") text)
    (option_map (λ rest. (Output, rest)) (after_word (codes "the output") text))))
