-- What may be meant by a name or a label.
use Rattle.std.specs.Prelude.{ℕ, ◌&&◌, ◌||◌, Bool, false, if◌then◌else◌, List, [], ◌∷◌, take, drop, codes, decimal, Option, Some, None, option_and_then}
use Rattle.std.specs.Char.{is_ascii_digit}
use Rattle.std.specs.List.{find, list_all, position, range_with_len}
use Rattle.std.specs.Option.{option_map_or}
use Rattle.byte_streams.specs.Pieces.{joined}
use Rattle.instruction_set.specs.InstructionTable.Table.{entry}
use Rattle.assembly_errors.specs.Likeness.{is_like}
use Rattle.assembly_errors.specs.Takes.{is_number, taken_after}
use Rattle.assembly_errors.specs.declared.drafts.Definition.{Definition}
use Rattle.assembly_errors.specs.declared.hints.Hint.{Hint}
use Rattle.assembly_errors.specs.declared.hints.Hint.TheVariants as name
use Rattle.assembly_errors.specs.declared.hints.LabelHint.{LabelHint}
use Rattle.assembly_errors.specs.declared.hints.LabelHint.TheVariants as label
use Rattle.assembly_errors.specs.declared.likeness.Likeness.{Likeness}
use Rattle.assembly_errors.specs.declared.likeness.Likeness.TheVariants.{Same, Swapped, OneOff}

-- ---- names

-- the name of the instruction with a byte, where it is like this one
abbrev pub instruction_at : Likeness → List ℕ → ℕ → Option (List ℕ)
instruction_at likeness word byte =
    option_and_then (λ e. if is_like likeness word e.name then Some e.name else None) (entry byte)

-- the first that is found at these bytes
abbrev pub first_of : (ℕ → Option (List ℕ)) → List ℕ → Option (List ℕ)
first_of f [] = None
first_of f (byte ∷ bytes) = option_map_or Some (f byte) (first_of f bytes)

-- the first name of an instruction, among so many bytes from this one on, that is like this one
unfoldable pub like_from : Likeness → List ℕ → ℕ → ℕ → Option (List ℕ)
like_from likeness word byte count = first_of (instruction_at likeness word) (range_with_len byte count)

-- the first name of an instruction, by its byte, that is like this one
abbrev pub instruction_like : Likeness → List ℕ → Option (List ℕ)
instruction_like likeness word = like_from likeness word 0 256

-- the first name of a directive that is like this one
abbrev pub directive_like : Likeness → List ℕ → Option (List ℕ)
directive_like likeness word =
    if is_like likeness word (codes "DB") then Some (codes "DB") else
    if is_like likeness word (codes "DH") then Some (codes "DH") else
    if is_like likeness word (codes "DW") then Some (codes "DW") else
    if is_like likeness word (codes "RES") then Some (codes "RES") else
    if is_like likeness word (codes "DA") then Some (codes "DA") else
    if is_like likeness word (codes "ALIGN") then Some (codes "ALIGN") else
    if is_like likeness word (codes "GLOBAL") then Some (codes "GLOBAL") else
    None

-- the first name that is like this one: of an instruction, or else of a directive
abbrev pub name_like : Likeness → List ℕ → Option (List ℕ)
name_like likeness word = option_map_or Some (instruction_like likeness word) (directive_like likeness word)

-- what is said of a word that other machines or texts have
abbrev pub other_words : List ℕ → Option (List ℕ)
other_words word =
    if is_like Same word (codes "JMP") || is_like Same word (codes "JUMP") then Some (codes "J jumps to a label") else
    if is_like Same word (codes "CALL") then Some (codes "LF loads the address of a function, and K calls it") else
    if is_like Same word (codes "LOAD") then Some (codes "L loads a number, and LP a word of the stack frame") else
    if is_like Same word (codes "STORE") then Some (codes "SP stores in the stack frame, and SG in a global") else
    if is_like Same word (codes "RET") then Some (codes "RTN returns from a function") else
    if is_like Same word (codes "ST4") then Some (codes "there are ST, ST1, ST2 and ST3, and S4 takes 4 from A") else
    if is_like Same word (codes "SET") || is_like Same word (codes "DS") then Some (codes "a .s text may have it") else
    None

-- digits alone
abbrev pub are_digits : List ℕ → Bool
are_digits digits = list_all is_ascii_digit digits

-- whether a number is after a name
abbrev pub takes_number : List ℕ → Bool
takes_number word = option_map_or is_number (taken_after word) false

-- a name up to this place, and a number from there on
abbrev pub spaced_at : List ℕ → ℕ → Option Hint
spaced_at word place =
    if are_digits (drop place word) && takes_number (take place word) then Some (name.Spaced (take place word) (drop place word)) else
    None

-- a name and a number between which a space is missing
abbrev pub spaced_hint : List ℕ → Option Hint
spaced_hint word = option_and_then (spaced_at word) (position is_ascii_digit word)

-- What may be meant by a name that nothing has: the same in capitals; a word of other machines or texts; a name and a number; a name with
-- two neighbours exchanged; a name with one letter changed, added or missing.
unfoldable pub name_hint : List ℕ → Hint
name_hint word =
    option_map_or name.Capitals (name_like Same word) (
    option_map_or name.Other (other_words word) (
    option_map_or (λ h. h) (spaced_hint word) (
    option_map_or name.Like (name_like Swapped word) (
    option_map_or name.Like (name_like OneOff word) name.Nothing))))

-- what may be meant by a name, in words
abbrev pub name_hint_text : Hint → List ℕ
name_hint_text name.Nothing = []
name_hint_text (name.Capitals word) = joined (codes "; names have capitals: " ∷ word ∷ [])
name_hint_text (name.Other said) = joined (codes "; " ∷ said ∷ [])
name_hint_text (name.Spaced front digits) = joined (codes "; is " ∷ front ∷ codes " " ∷ digits ∷ codes " meant, with a space?" ∷ [])
name_hint_text (name.Like word) = joined (codes "; is " ∷ word ∷ codes " meant?" ∷ [])

-- ---- labels

-- whether a label is defined that is like this one
abbrev pub is_defined_like : Likeness → List ℕ → Definition → Bool
is_defined_like likeness word d = is_like likeness word d.name

-- What may be meant by a label that is defined nowhere: one with other capitals; one with two neighbours exchanged; one with a letter
-- changed, added or missing.
unfoldable pub label_hint : List Definition → List ℕ → LabelHint
label_hint definitions word =
    option_map_or label.Capitals (find (is_defined_like Same word) definitions) (
    option_map_or label.Like (find (is_defined_like Swapped word) definitions) (
    option_map_or label.Like (find (is_defined_like OneOff word) definitions) label.Nothing))

-- what may be meant by a label, in words
abbrev pub label_hint_text : LabelHint → List ℕ
label_hint_text label.Nothing = []
label_hint_text (label.Capitals d) =
    joined (codes "; there is a label " ∷ d.name ∷ codes " in line " ∷ decimal d.number ∷ codes "; capitals differ" ∷ [])
label_hint_text (label.Like d) = joined (codes "; is " ∷ d.name ∷ codes " of line " ∷ decimal d.number ∷ codes " meant?" ∷ [])
