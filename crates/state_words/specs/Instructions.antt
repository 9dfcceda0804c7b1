-- Where an instruction leads, by its text.
use Rattle.std.specs.Prelude.{ℕ, ◌+◌, ◌==◌, ◌||◌, ◌&&◌, not, Bool, List, [], ◌∷◌, codes, take, Option, Some, None, if◌then◌else◌, true, false}
use Rattle.std.specs.List.{position}
use Rattle.std.specs.Str.{bytes_eq}

-- a text up to an end, if there is one
abbrev pub up_to : List ℕ → Option ℕ → List ℕ
up_to text None = text
up_to text (Some end) = take end text

-- the name of an instruction: what comes before the first blank
abbrev pub name_of : List ℕ → List ℕ
name_of instruction = up_to instruction (position (λ c. c == 32) instruction)

-- a text begins with this letter
abbrev pub begins_with : ℕ → List ℕ → Bool
begins_with letter [] = false
begins_with letter (c ∷ cs) = c == letter

-- an instruction of this name leads elsewhere each time: a return, a jump without a condition, a switch or a call
abbrev pub leads_always : List ℕ → Bool
leads_always name =
    bytes_eq name (codes "RTN") || bytes_eq name (codes "GOTO") || bytes_eq name (codes "SWB") || bytes_eq name (codes "SWL")
    || bytes_eq name (codes "J") || bytes_eq name (codes "J$") || begins_with 75 name

-- An instruction has led elsewhere than to the one after it. A jump has two bytes, and a SYS one.
abbrev pub has_led : List ℕ → ℕ → ℕ → Bool
has_led instruction from to =
    if leads_always (name_of instruction) then true else
    if begins_with 74 (name_of instruction) then not (to == from + 2) else
    bytes_eq (name_of instruction) (codes "SYS") && not (to == from + 1)
