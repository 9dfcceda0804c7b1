-- The operands of a line, which follow the name.
use Rattle.std.specs.Prelude.{ℕ, ℤ, List, [], ◌∷◌, Result, Ok, Err}
use Rattle.std.specs.Option.{option_map_or}
use Rattle.assembly.specs.AssemblyText.Names.{label_of}
use Rattle.assembly.specs.AssemblyText.Numbers.{number_of}
use Rattle.assembly.specs.declared.assembly_text.errors.LineError.{LineError}
use Rattle.assembly.specs.declared.assembly_text.errors.LineError.TheVariants.{NoForm, UnknownName}
use Rattle.assembly.specs.declared.assembly_text.operands.Operands.{Operands}
use Rattle.assembly.specs.declared.assembly_text.operands.Operands.TheVariants.{Nothing, Number, Label, NumberAndLabel, Other}

-- what a single part after the name is: a number, a label, or neither
abbrev pub one_operand : List ℕ → Operands
one_operand part = option_map_or Number (number_of part) (option_map_or Label (label_of part) Other)

-- what two parts after the name are: a number and a label, or neither
abbrev pub both : List ℕ → List ℕ → Operands
both p q = option_map_or (λ n. option_map_or (NumberAndLabel n) (label_of q) Other) (number_of p) Other

-- the operands that the parts after the name are
abbrev pub operands_of : List (List ℕ) → Operands
operands_of [] = Nothing
operands_of (p ∷ []) = one_operand p
operands_of (p ∷ q ∷ []) = both p q
operands_of (p ∷ q ∷ r ∷ more) = Other

-- an instruction or directive that takes no operand; with one, its line has no form
abbrev pub no_operand : Operands → Result Unit LineError
no_operand Nothing = Ok tt
no_operand _ = Err NoForm

-- the one number that follows a name; any other operand gives the line no form
abbrev pub number_operand : Operands → Result ℤ LineError
number_operand (Number n) = Ok n
number_operand _ = Err NoForm

-- the one label that follows a name; any other operand gives the line no form
abbrev pub label_operand : Operands → Result (List ℕ) LineError
label_operand (Label l) = Ok l
label_operand _ = Err NoForm

-- the number and the label that follow a name; any other operands give the line no form
abbrev pub numbered_label : Operands → Result (ℤ × List ℕ) LineError
numbered_label (NumberAndLabel n l) = Ok (n, l)
numbered_label _ = Err NoForm

-- nothing, a number or a label may come after a name that is unknown
abbrev pub unknown_name : Operands → LineError
unknown_name Nothing = UnknownName
unknown_name (Number n) = UnknownName
unknown_name (Label l) = UnknownName
unknown_name _ = NoForm
