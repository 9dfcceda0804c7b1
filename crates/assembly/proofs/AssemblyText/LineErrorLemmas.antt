-- Which errors a line can have: 1 to 3 where it cannot be read, 4 and 6 where its operand cannot be given.
use Rattle.std.proofs.Common.{◌≡◌, ◌≢◌, ℕ, ◌+◌, ◌-◌, ◌*◌, ◌/◌, ◌%◌, ◌≤◌, ◌⊎◌, inl, inr, Bool, true, false, not, ◌&&◌, ◌==◌, cond, nat_le, nat_lt, Option, Some, None, Result, Ok, Err, List, [], ◌∷◌, refl, subst, arith, lit≤}
use Rattle.std.specs.Prelude.{ℤ, pos, negsuc}
use Rattle.std.specs.Option.{ok_or, option_map_or}
use Rattle.instruction_set.specs.declared.instruction_table.forms.Form.{Form}
use Rattle.instruction_set.specs.declared.instruction_table.forms.Form.TheVariants.{Plain, Byte, BytePlus, Half, Word, Relative, Indirect, Switch}
use Rattle.assembly.specs.AssemblyText.AssemblyForm.{IsBadLine, IsBadOperand, IsWrong}
use Rattle.assembly.specs.AssemblyText.Directives.{directive_named}
use Rattle.assembly.specs.AssemblyText.Labels.{Table}
use Rattle.assembly.specs.AssemblyText.LineErrors.{code_of}
use Rattle.assembly.specs.AssemblyText.Names.{has_name_form, label_of}
use Rattle.assembly.specs.AssemblyText.Numbers.{is_from_to}
use Rattle.assembly.specs.AssemblyText.Operands.{label_operand, no_operand, number_operand, numbered_label, operands_of, unknown_name}
use Rattle.assembly.specs.AssemblyText.Parts.{parts_of, without_comment}
use Rattle.assembly.specs.AssemblyText.Pieces.{found, piece_of}
use Rattle.assembly.specs.AssemblyText.Places.{rounded_up}
use Rattle.assembly.specs.AssemblyText.LineText.{align, before_colon, directed, global, instruction, instruction_named, labelled, line_of, line_of_parts, statement_of, unlabelled, with_number}
use Rattle.module_text.specs.TextReader.Steps.{◌>>=◌}
use Rattle.assembly.specs.declared.assembly_text.directives.Directive.{Directive}
use Rattle.assembly.specs.declared.assembly_text.directives.Directive.TheVariants as directive
use Rattle.assembly.specs.declared.assembly_text.errors.LineError.{LineError}
use Rattle.assembly.specs.declared.assembly_text.errors.LineError.TheVariants.{NoForm, UnknownName, OutOfRange, UndefinedLabel, RepeatedLabel, OutOfReach, HunkTooLong}
use Rattle.assembly.specs.declared.assembly_text.operands.Operands.{Operands}
use Rattle.assembly.specs.declared.assembly_text.operands.Operands.TheVariants.{Nothing, Number, Label, NumberAndLabel, Other}
use Rattle.assembly.specs.declared.assembly_text.places.Place.{Place}
use Rattle.assembly.specs.declared.assembly_text.statements.Boundary.TheVariants as boundary
use Rattle.assembly.specs.declared.assembly_text.statements.Line.{Line}
use Rattle.assembly.specs.declared.assembly_text.statements.Statement.{Statement}
use Rattle.assembly.specs.declared.assembly_text.statements.Statement.TheVariants as says

-- an error, if there is one, is of this kind
record ErrIs {A : Type 0} (P : LineError → Type 0) (r : Result A LineError) : Type 0 where
  each : (e : LineError) → r ≡ Err e → P e

no_error : {A : Type 0} {P : LineError → Type 0} {x : A} → ErrIs P (Ok x)
no_error = record { each = λ e h. cc h }

this_error : {A : Type 0} {P : LineError → Type 0} {d : LineError} → P d → ErrIs {A = A} P (Err d)
this_error {A} {P} {d} h = record { each = λ e same. let is : d ≡ e = cc same in subst P is h }

bind_is : {A B : Type 0} {P : LineError → Type 0} {r : Result A LineError} {f : A → Result B LineError} → ErrIs P r → ((x : A) → ErrIs P (f x)) → ErrIs P (r >>= f)
bind_is {r = Ok x} h k = k x
bind_is {r = Err d} h k = this_error (h.each d refl)

cond_is : {A : Type 0} {P : LineError → Type 0} (b : Bool) {r s : Result A LineError} → ErrIs P r → ErrIs P s → ErrIs P (cond b r s)
cond_is true h k = h
cond_is false h k = k

option_is : {A B : Type 0} {P : LineError → Type 0} (f : B → Result A LineError) (o : Option B) {d : Result A LineError} → ((x : B) → ErrIs P (f x)) → ErrIs P d → ErrIs P (option_map_or f o d)
option_is f None h k = k
option_is f (Some x) h k = h x

or_is : {A : Type 0} {P : LineError → Type 0} (o : Option A) (e : LineError) → P e → ErrIs P (ok_or o e)
or_is None e h = this_error h
or_is (Some x) e h = no_error

-- ---- reading

abbrev IsLow : LineError → Type 0
IsLow e = code_of e ≤ 3

nothing_low : (o : Operands) → ErrIs IsLow (no_operand o)
nothing_low Nothing = no_error
nothing_low (Number n) = this_error (lit≤ tt)
nothing_low (Label l) = this_error (lit≤ tt)
nothing_low (NumberAndLabel n l) = this_error (lit≤ tt)
nothing_low Other = this_error (lit≤ tt)

number_low : (o : Operands) → ErrIs IsLow (number_operand o)
number_low Nothing = this_error (lit≤ tt)
number_low (Number n) = no_error
number_low (Label l) = this_error (lit≤ tt)
number_low (NumberAndLabel n l) = this_error (lit≤ tt)
number_low Other = this_error (lit≤ tt)

label_low : (o : Operands) → ErrIs IsLow (label_operand o)
label_low Nothing = this_error (lit≤ tt)
label_low (Number n) = this_error (lit≤ tt)
label_low (Label l) = no_error
label_low (NumberAndLabel n l) = this_error (lit≤ tt)
label_low Other = this_error (lit≤ tt)

both_low : (o : Operands) → ErrIs IsLow (numbered_label o)
both_low Nothing = this_error (lit≤ tt)
both_low (Number n) = this_error (lit≤ tt)
both_low (Label l) = this_error (lit≤ tt)
both_low (NumberAndLabel n l) = no_error
both_low Other = this_error (lit≤ tt)

unknown_low : (o : Operands) → IsLow (unknown_name o)
unknown_low Nothing = lit≤ tt
unknown_low (Number n) = lit≤ tt
unknown_low (Label l) = lit≤ tt
unknown_low (NumberAndLabel n l) = lit≤ tt
unknown_low Other = lit≤ tt

with_number_low : (front : List ℕ) (count : ℕ) (low high : ℤ) (o : Operands) → ErrIs IsLow (with_number front count low high o)
with_number_low front count low high o = bind_is (bind_is (number_low o) (λ n. cond_is (is_from_to low high n) no_error (this_error (lit≤ tt)))) (λ n. no_error)

instruction_low : (byte : ℕ) (form : Form) (o : Operands) → ErrIs IsLow (instruction byte form o)
instruction_low byte (Plain k) o = bind_is (nothing_low o) (λ n. no_error)
instruction_low byte Switch o = bind_is (nothing_low o) (λ n. no_error)
instruction_low byte Byte o = with_number_low (byte ∷ []) 1 (pos 0) (pos 255) o
instruction_low byte BytePlus o = with_number_low (byte ∷ []) 1 (pos 256) (pos 511) o
instruction_low byte Half o = with_number_low (byte ∷ []) 2 (pos 0) (pos 65535) o
instruction_low byte Word o = with_number_low (byte ∷ []) 4 (negsuc 2147483647) (pos 4294967295) o
instruction_low byte Relative o = bind_is (label_low o) (λ l. no_error)
instruction_low byte Indirect o = bind_is (label_low o) (λ l. no_error)

align_low : (n : ℤ) → ErrIs IsLow (align n)
align_low n = cond_is (is_from_to (pos 2) (pos 2) n) no_error (cond_is (is_from_to (pos 4) (pos 4) n) no_error (this_error (lit≤ tt)))

global_low : (n : ℤ) (label : List ℕ) → ErrIs IsLow (global n label)
global_low n label = cond_is (is_from_to (pos 1) (pos 1000) n) no_error (this_error (lit≤ tt))

directed_low : (d : Directive) (o : Operands) → ErrIs IsLow (directed d o)
directed_low directive.Byte o = with_number_low [] 1 (negsuc 127) (pos 255) o
directed_low directive.Half o = with_number_low [] 2 (negsuc 32767) (pos 65535) o
directed_low directive.Word o = with_number_low [] 4 (negsuc 2147483647) (pos 4294967295) o
directed_low directive.Reserve o = bind_is (label_low o) (λ l. no_error)
directed_low directive.Address o = bind_is (label_low o) (λ l. no_error)
directed_low directive.Align o = bind_is (number_low o) align_low
directed_low directive.Global o = bind_is (both_low o) (λ b. global_low b.0 b.1)

statement_low : (parts : List (List ℕ)) → ErrIs IsLow (statement_of parts)
statement_low [] = no_error
statement_low (name ∷ parts) =
    let o = operands_of parts in
    cond_is (not (has_name_form name)) (this_error (lit≤ tt))
    (option_is (λ d. directed d o) (directive_named name) (λ d. directed_low d o)
    (option_is (λ i. instruction i.0 i.1 o) (instruction_named name) (λ i. instruction_low i.0 i.1 o) (this_error (unknown_low o))))

unlabelled_low : (parts : List (List ℕ)) → ErrIs IsLow (unlabelled parts)
unlabelled_low parts = bind_is (statement_low parts) (λ s. no_error)

labelled_low : (name : List ℕ) (parts : List (List ℕ)) → ErrIs IsLow (labelled name parts)
labelled_low name parts = bind_is (or_is (label_of name) NoForm (lit≤ tt)) (λ l. bind_is (statement_low parts) (λ s. no_error))

parts_low : (parts : List (List ℕ)) → ErrIs IsLow (line_of_parts parts)
parts_low [] = unlabelled_low []
parts_low (part ∷ parts) = option_is (λ name. labelled name parts) (before_colon part) (λ name. labelled_low name parts) (unlabelled_low (part ∷ parts))

-- a line that cannot be read has code 1, 2 or 3
pub read_error : (line : List ℕ) (e : LineError) → line_of line ≡ Err e → code_of e ≤ 3
unfolding line_of
read_error line e h = (parts_low (parts_of (without_comment line))).each e h

-- ---- giving

abbrev IsOperands : LineError → Type 0
IsOperands e = (code_of e ≡ 4) ⊎ (code_of e ≡ 6)

-- the tests of a distance
abbrev is_near : ℕ → ℕ → ℕ → Bool
is_near half from to = nat_le from (to + half) && nat_lt to (from + half)

abbrev is_half_near : ℕ → Place → Bool
is_half_near from place = place.is_reserve && nat_le (from / 2 * 2) place.offset && nat_le ((place.offset - from / 2 * 2) / 2) 255

found_error : (table : Table) (label : List ℕ) → ErrIs IsOperands (found table label)
found_error table label = or_is (table label) UndefinedLabel (inl refl)

pieces_error : (table : Table) (offset : ℕ) (s : Statement) → ErrIs IsOperands (piece_of table offset s)
unfolding piece_of
pieces_error table offset (says.Fixed bytes) = no_error
pieces_error table offset (says.Relative byte label) = bind_is (found_error table label) (λ place. bind_is (cond_is (is_near 128 (offset + 1) place.offset) no_error (this_error (inr refl))) (λ d. no_error))
pieces_error table offset (says.Indirect byte label) = bind_is (found_error table label) (λ place. bind_is (cond_is (is_half_near (offset + 1) place) no_error (this_error (inr refl))) (λ d. no_error))
pieces_error table offset (says.Reserve label) = bind_is (found_error table label) (λ place. bind_is (cond_is (is_near 32768 (rounded_up boundary.Half offset) place.offset) no_error (this_error (inr refl))) (λ d. no_error))
pieces_error table offset (says.Address label) = bind_is (found_error table label) (λ place. bind_is (cond_is (place.offset % 4 == 0) no_error (this_error (inr refl))) (λ d. no_error))
pieces_error table offset (says.Align boundary) = no_error
pieces_error table offset (says.Global number label) = bind_is (found_error table label) (λ place. no_error)

-- a line whose operand cannot be given has code 4 or 6
piece_error : (table : Table) (offset : ℕ) (s : Statement) (e : LineError) → piece_of table offset s ≡ Err e → (code_of e ≡ 4) ⊎ (code_of e ≡ 6)
piece_error table offset s e h = (pieces_error table offset s).each e h

wrong_code : (program : List Line) (text : List ℕ) (e : LineError) → IsWrong program text e → (code_of e ≢ 4) × (code_of e ≢ 6)
wrong_code program text e (inl h) = let low = read_error text e h in (λ is. omega arith, λ is. omega arith)
wrong_code program text RepeatedLabel (inr h) = (λ is. omega arith, λ is. omega arith)
wrong_code program text HunkTooLong (inr h) = (λ is. omega arith, λ is. omega arith)
wrong_code program text NoForm (inr h) = absurd h
wrong_code program text UnknownName (inr h) = absurd h
wrong_code program text OutOfRange (inr h) = absurd h
wrong_code program text UndefinedLabel (inr h) = absurd h
wrong_code program text OutOfReach (inr h) = absurd h

pub line_codes : (text : List ℕ) (n : ℕ) (e : LineError) → IsBadLine text n e → (code_of e ≢ 4) × (code_of e ≢ 6)
line_codes text n e b = wrong_code b.program b.line e b.wrong

pub operand_codes : (text : List ℕ) (n : ℕ) (e : LineError) → IsBadOperand text n e → (code_of e ≡ 4) ⊎ (code_of e ≡ 6)
operand_codes text n e b = piece_error b.table b.line.0 b.line.1.statement e b.wrong
