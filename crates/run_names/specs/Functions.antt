-- The names of functions, in the words before them.
use Rattle.std.specs.Prelude.{ℕ, ◌+◌, ◌==◌, ◌||◌, if◌then◌else◌, Bool, false, List, [], ◌∷◌, drop, length, nat_le, nat_lt, take, Option, Some, None}
use Rattle.std.specs.Int.{w32, to_le_bytes}
use Rattle.std.specs.List.{flat_map, list_all}
use Rattle.std.specs.Option.{option_or}

-- a letter of a name
abbrev pub is_letter : ℕ → Bool
is_letter c = if nat_le 32 c then nat_le c 126 else false

-- how many letters there are up to the last that is no blank: n come before these, and there were so many up to here
abbrev pub shown_length : ℕ → ℕ → List ℕ → ℕ
shown_length n end [] = end
shown_length n end (c ∷ cs) = shown_length (n + 1) (if c == 32 then end else n + 1) cs

-- the letters without the blanks at their end
abbrev pub shown : List ℕ → List ℕ
shown letters = take (shown_length 0 0 letters) letters

-- the name that letters are; there is none without a letter
abbrev pub named : List ℕ → Option (List ℕ)
named letters = if length letters == 0 then None else Some letters

-- the name that letters are without the blanks at their end, where each is a letter
abbrev pub name_in : List ℕ → Option (List ℕ)
name_in letters = if list_all is_letter letters then named (shown letters) else None

-- the name in a string, whose first byte has the number of its letters: 7 or 11
abbrev pub name_of : List ℕ → Option (List ℕ)
name_of [] = None
name_of (count ∷ letters) = if count == 7 || count == 11 then name_in (take count letters) else None

-- the bytes of three words
unfoldable pub string_bytes : ℕ → ℕ → ℕ → List ℕ
string_bytes first second third = flat_map (to_le_bytes w32) (first ∷ second ∷ third ∷ [])

-- the name in three words after the mark 0xdfdf
abbrev pub marked_name : ℕ → ℕ → ℕ → ℕ → Option (List ℕ)
marked_name mark first second third = if mark == 57311 then name_of (string_bytes first second third) else None

-- the name that words begin with
abbrev pub name_after : List ℕ → Option (List ℕ)
name_after (mark ∷ first ∷ second ∷ third ∷ rest) = marked_name mark first second third
name_after _ = None

-- the last name in words, after this one
abbrev pub last_name : Option (List ℕ) → List ℕ → Option (List ℕ)
last_name found [] = found
last_name found (w ∷ ws) = last_name (option_or (name_after (w ∷ ws)) found) ws

-- the name of the function that the last of these words is in
abbrev pub function_in : List ℕ → Option (List ℕ)
function_in words = last_name None words
