-- What the rest of a line gives a command: texts, names and numbers.
use Rattle.std.specs.Prelude.{ℕ, ◌≤◌, ◌^◌, ◌&&◌, Bool, true, false, if◌then◌else◌, List, [], nat_lt, slice_index_or, slice_range, Option, Some, None, Result, Ok, Err}
use Rattle.std.specs.Str.Parse.{digits_value}
use Rattle.module_text.specs.TextReader.Numbers.{are_digits}
use Rattle.ram_disc.specs.Name.{is_name}
use Rattle.command_lines.specs.ArgumentTemplates.Answer.{answer}
use Rattle.command_lines.specs.declared.argument_templates.args.Arg.{Arg}
use Rattle.command_lines.specs.declared.argument_templates.args.Arg.TheVariants.{Unset, Switch, Span}
use Rattle.ram_disc.specs.declared.codes.TheConstants.{BAD_NAME}

-- what follows where there is no refusal
abbrev pub on_ok : {A B : Type 0} → Result A ℕ → (A → Result B ℕ) → Result B ℕ
on_ok (Ok x) next = next x
on_ok (Err code) next = Err code

-- what a line gives the entries of a template, in their order
unfoldable pub arguments : List ℕ → List ℕ → Result (List Arg) ℕ
arguments template line = answer template line

-- the places of a value lie in a line of so many bytes
abbrev pub IsInside : ℕ → Arg → Type 0
IsInside n Unset = Unit {0}
IsInside n Switch = Unit {0}
IsInside n (Span from to) = (from ≤ to) × (to ≤ n)

-- the values of all entries lie in a line of n bytes
abbrev pub AreInside : ℕ → List Arg → Type 0
AreInside n args = (k : ℕ) → IsInside n (slice_index_or args k Unset)

-- what is in the line, as the value of an entry
abbrev pub text_of : List ℕ → Arg → List ℕ
text_of line Unset = []
text_of line Switch = []
text_of line (Span from to) = slice_range line from to

-- what is in the line as the value of the k-th entry, from 0
abbrev pub text_at : List ℕ → List Arg → ℕ → List ℕ
text_at line args k = text_of line (slice_index_or args k Unset)

-- whether an entry was given a value, or was set as a switch
abbrev pub is_set : Arg → Bool
is_set Unset = false
is_set Switch = true
is_set (Span from to) = true

-- whether the k-th entry is given anything
abbrev pub is_set_at : List Arg → ℕ → Bool
is_set_at args k = is_set (slice_index_or args k Unset)

-- a name, or code 40
abbrev pub name_of : List ℕ → Result (List ℕ) ℕ
name_of text = if is_name text then Ok text else Err BAD_NAME

-- a decimal number of any number of digits, of which zeros may lead, below 2 ^ 32; or code 55
abbrev pub number_of : List ℕ → Result ℕ ℕ
number_of text = if are_digits 10 text && nat_lt (digits_value 10 text) (2 ^ 32) then Ok (digits_value 10 text) else Err 55

-- a number, where the entry is given one
abbrev pub option_number_of : List ℕ → Arg → Result (Option ℕ) ℕ
option_number_of line arg = if is_set arg then on_ok (number_of (text_of line arg)) (λ n. Ok (Some n)) else Ok None

-- the number of the k-th entry, from 0, where it was given one
abbrev pub option_number_at : List ℕ → List Arg → ℕ → Result (Option ℕ) ℕ
option_number_at line args k = option_number_of line (slice_index_or args k Unset)
