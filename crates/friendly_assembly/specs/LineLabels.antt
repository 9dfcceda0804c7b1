-- The labels that a line begins with, and what it says after them.
use Rattle.std.specs.Prelude.{ℕ, ◌-◌, ◌&&◌, Bool, false, not, if◌then◌else◌, List, [], ◌∷◌, length, take, drop, codes, nat_eq, Option, Some, None}
use Rattle.std.specs.Char.{is_ascii_alphabetic, is_ascii_alphanumeric}
use Rattle.std.specs.List.{ends_with, list_all, position_or_len}
use Rattle.std.specs.Option.{option_map_or}
use Rattle.friendly_assembly.specs.declared.parts.Part.{Part}

-- a name is a letter, and any number of letters and digits
abbrev pub is_name : List ℕ → Bool
is_name [] = false
is_name (c ∷ cs) = is_ascii_alphabetic c && list_all is_ascii_alphanumeric cs

-- what comes before the colon, if a part ends with one
abbrev pub before_colon : List ℕ → Option (List ℕ)
before_colon part = if ends_with nat_eq part (codes ":") then Some (take (length part - 1) part) else None

-- a label is a name and a colon
abbrev pub is_label : List ℕ → Bool
is_label part = option_map_or is_name (before_colon part) false

-- how many labels the parts begin with
abbrev pub label_count : List Part → ℕ
label_count parts = position_or_len (λ p. not (is_label p.text)) parts

-- these labels
abbrev pub labels_in : List Part → List Part
labels_in parts = take (label_count parts) parts

-- what a line says after its labels
abbrev pub said_in : List Part → List Part
said_in parts = drop (label_count parts) parts

-- the name of a label
abbrev pub name_of : List ℕ → List ℕ
name_of label = take (length label - 1) label
