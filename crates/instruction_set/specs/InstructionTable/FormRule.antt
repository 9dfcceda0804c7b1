-- The rule by which a name tells the form of its operand.
use Prim.Native.String.{String}
use Rattle.std.specs.Prelude.{ℕ, Bool, not, ◌&&◌, List, [], ◌∷◌, ◌++◌, codes, nat_eq, map, reverse, take_while, if◌then◌else◌}
use Rattle.std.specs.Char.{is_ascii_digit}
use Rattle.std.specs.List.{ends_with, list_any}
use Rattle.std.specs.Str.{bytes_eq}
use Rattle.std.specs.Str.Parse.{digits_value}
use Rattle.instruction_set.specs.declared.instruction_table.forms.Form.{Form}
use Rattle.instruction_set.specs.declared.instruction_table.forms.Form.TheVariants.{Plain, Byte, BytePlus, Half, Word, Relative, Indirect, Switch}

-- each text as its bytes
abbrev pub texts : List String → List (List ℕ)
texts [] = []
texts (t ∷ ts) = codes t ∷ texts ts

-- whether a name is one of these
abbrev pub is_among : List (List ℕ) → List ℕ → Bool
is_among names name = list_any (bytes_eq name) names

-- whether a name ends so
abbrev pub ends : String → List ℕ → Bool
ends suffix name = ends_with nat_eq name (codes suffix)

-- loads, stores and jumps whose operand leads to a target
abbrev pub target_names : List (List ℕ)
target_names =
    texts ("LF" ∷ "SL" ∷ "LL" ∷ "LLL" ∷ "J" ∷
    "JEQ" ∷ "JNE" ∷ "JLS" ∷ "JGR" ∷ "JLE" ∷ "JGE" ∷
    "JEQ0" ∷ "JNE0" ∷ "JLS0" ∷ "JGR0" ∷ "JLE0" ∷ "JGE0" ∷ [])

-- the number that the digits at the end of a name write, or 0
abbrev pub number_at_end : List ℕ → ℕ
number_at_end name = digits_value 10 (reverse (take_while is_ascii_digit (reverse name)))

-- The first line that fits a name gives its form.
unfoldable pub form_named : List ℕ → Form
form_named name =
    if is_among (texts ("SWB" ∷ "SWL" ∷ [])) name then Switch else
    if is_among target_names name then Relative else
    if is_among (map (λ front. front ++ codes "$") target_names) name then Indirect else
    if is_among (texts ("K" ∷ "L" ∷ "LM" ∷ "LP" ∷ "LLP" ∷ "SP" ∷ "AP" ∷ "A" ∷ "S" ∷ [])) name then Byte else
    if ends "G" name && not (is_among (texts ("NEG" ∷ [])) name) then Byte else
    if ends "G1" name then BytePlus else
    if ends "H" name && not (is_among (texts ("LSH" ∷ "RSH" ∷ "XCH" ∷ [])) name) then Half else
    if ends "W" name then Word else
    Plain (number_at_end name)
