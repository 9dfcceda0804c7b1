-- Labels, and the names of instructions and directives.
use Rattle.std.specs.Prelude.{ℕ, ◌&&◌, ◌||◌, ◌==◌, Bool, false, if◌then◌else◌, List, [], ◌∷◌, length, nat_le, Option, Some, None}
use Rattle.std.specs.Char.{is_ascii_alphabetic, is_ascii_alphanumeric}
use Rattle.std.specs.List.{list_all}

-- a label is a letter, and up to 15 letters and digits
abbrev pub is_label : List ℕ → Bool
is_label [] = false
is_label (c ∷ cs) = is_ascii_alphabetic c && nat_le (length cs) 15 && list_all is_ascii_alphanumeric cs

-- the label that a part of a line is, if it is one
abbrev pub label_of : List ℕ → Option (List ℕ)
label_of part = if is_label part then Some part else None

-- a name is a letter, and any number of letters, digits and `$`
abbrev pub has_name_form : List ℕ → Bool
has_name_form [] = false
has_name_form (c ∷ cs) = is_ascii_alphabetic c && list_all (λ d. is_ascii_alphanumeric d || (d == 36)) cs
