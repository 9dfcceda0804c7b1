-- What is said of a name and its operands, where a line has none of the forms. What a definition gives where nothing is wrong is never said.
use Rattle.std.specs.Prelude.{ℕ, ◌&&◌, Bool, true, false, not, if◌then◌else◌, List, [], ◌∷◌, ◌++◌, codes, is_some, Option, Some, None}
use Rattle.byte_streams.specs.Pieces.{joined}
use Rattle.assembly.specs.AssemblyText.Names.{has_name_form, label_of}
use Rattle.assembly_errors.specs.Hints.{name_hint, name_hint_text}
use Rattle.assembly_errors.specs.NumberWords.{is_number_part, no_label_text, no_number_text}
use Rattle.assembly_errors.specs.Parts.{next_part, parts_from}
use Rattle.assembly_errors.specs.Remarks.{Remark, said_of}
use Rattle.assembly_errors.specs.Takes.{is_number, operand_text, taken_after}
use Rattle.assembly_errors.specs.declared.parts.Part.{Part}
use Rattle.assembly_errors.specs.declared.parts.ThreeParts.{ThreeParts}
use Rattle.assembly_errors.specs.declared.takes.Takes.{Takes}
use Rattle.assembly_errors.specs.declared.takes.Takes.TheVariants.{Nothing, Boundary, Global}

-- where nothing else is said
abbrev pub no_form_remark : Remark
no_form_remark = said_of 1 (codes "the line has none of the forms of assembly" ∷ [])

-- a part is a label
abbrev pub is_label_part : List ℕ → Bool
is_label_part part = is_some (label_of part)

-- a part that is no label, after this
abbrev pub no_label_remark : ℕ → List (List ℕ) → List ℕ → Remark
no_label_remark column before part = record { column = column; words = joined before ++ no_label_text part }

-- a part that is no number, after this
abbrev pub no_number_remark : ℕ → List (List ℕ) → List ℕ → Remark
no_number_remark column before part = record { column = column; words = joined before ++ no_number_text part }

-- ---- operands

-- a third operand of GLOBAL
abbrev pub third_remark : Option Part → Remark
third_remark (Some third) = said_of third.column (codes "GLOBAL has two operands, and " ∷ third.text ∷ codes " is one too many" ∷ [])
third_remark None = no_form_remark

-- the second operand of GLOBAL, and the third
abbrev pub global_label_remark : Part → Part → ThreeParts → Remark
global_label_remark first second operands =
    if not (is_label_part second.text) then
    no_label_remark second.column (codes "after GLOBAL " ∷ first.text ∷ codes " comes a label; " ∷ []) second.text
    else
    third_remark operands.third

-- the first operand of GLOBAL, which is no number
abbrev pub no_global_remark : Part → Remark
no_global_remark first = no_number_remark first.column (codes "after GLOBAL comes a number from 1 to 1000; " ∷ []) first.text

-- the same, where another operand follows
abbrev pub global_order_remark : Part → Part → Remark
global_order_remark first second =
    if is_label_part first.text && is_number_part second.text then
    said_of
    first.column
    (codes "after GLOBAL comes the number first, and then the label: GLOBAL " ∷ second.text ∷ codes " " ∷ first.text ∷ [])
    else
    no_global_remark first

-- the same, by whether another operand follows
abbrev pub global_number_by : Part → Option Part → Remark
global_number_by first None = no_global_remark first
global_number_by first (Some second) = global_order_remark first second

-- the first operand of GLOBAL, which is no number
abbrev pub global_number_remark : Part → ThreeParts → Remark
global_number_remark first operands = global_number_by first operands.second

-- the label of GLOBAL, by whether it is there
abbrev pub global_label_by : Part → ThreeParts → Option Part → Remark
global_label_by first operands None = said_of first.end (codes "after GLOBAL " ∷ first.text ∷ codes " a label is missing" ∷ [])
global_label_by first operands (Some second) = global_label_remark first second operands

-- the operands of GLOBAL
abbrev pub global_remark : Part → ThreeParts → Remark
global_remark first operands =
    if not (is_number_part first.text) then global_number_remark first operands else global_label_by first operands operands.second

-- a second operand where one may be
abbrev pub more_remark : Part → Part → Remark
more_remark name second = said_of second.column (name.text ∷ codes " has one operand, and " ∷ second.text ∷ codes " is one too many" ∷ [])

-- the same, if it is there
abbrev pub more_by : Part → Option Part → Remark
more_by name (Some second) = more_remark name second
more_by name None = no_form_remark

-- a name takes a number
abbrev pub takes_number : Takes → Bool
takes_number Boundary = true
takes_number takes = is_number takes

-- a name where a number is due
abbrev pub name_for_number_remark : Takes → Part → Part → Remark
name_for_number_remark takes name operand =
    said_of
    operand.column
    (codes "after " ∷ name.text ∷ codes " comes " ∷ operand_text takes ∷ codes ", and " ∷ operand.text
    ∷ codes " is a name; a .s text may have it, where SET gives it a number" ∷ [])

-- another part where a number is due
abbrev pub number_due_remark : Takes → Part → Part → Remark
number_due_remark takes name operand =
    no_number_remark operand.column (codes "after " ∷ name.text ∷ codes " comes " ∷ operand_text takes ∷ codes "; " ∷ []) operand.text

-- an operand that is no number
abbrev pub wrong_number_remark : Takes → Part → Part → Remark
wrong_number_remark takes name operand =
    if is_label_part operand.text then name_for_number_remark takes name operand else number_due_remark takes name operand

-- another part where a label is due
abbrev pub wrong_label_remark : Part → Part → Remark
wrong_label_remark name operand = no_label_remark operand.column (codes "after " ∷ name.text ∷ codes " comes a label; " ∷ []) operand.text

-- the operands of a name that takes a number
abbrev pub number_remark : Takes → Part → Part → ThreeParts → Remark
number_remark takes name first operands =
    if is_number_part first.text then more_by name operands.second else wrong_number_remark takes name first

-- the operands of a name that takes one
abbrev pub one_operand_remark : Takes → Part → Part → ThreeParts → Remark
one_operand_remark takes name first operands =
    if takes_number takes then number_remark takes name first operands else
    if is_label_part first.text then more_by name operands.second else
    wrong_label_remark name first

-- an operand where none may be
abbrev pub no_operand_remark : Part → Part → Remark
no_operand_remark name operand = said_of operand.column (name.text ∷ codes " has no operand, and " ∷ operand.text ∷ codes " is after it" ∷ [])

-- a global and its label are after a name
abbrev pub is_global : Takes → Bool
is_global Global = true
is_global takes = false

-- no operand after a name
abbrev pub missing_remark : Takes → Part → Remark
missing_remark takes name =
    if is_global takes then said_of name.end (codes "after GLOBAL a number from 1 to 1000 and a label are missing" ∷ []) else
    said_of name.end (codes "after " ∷ name.text ∷ codes " " ∷ operand_text takes ∷ codes " is missing" ∷ [])

-- nothing is after a name
abbrev pub is_nothing : Takes → Bool
is_nothing Nothing = true
is_nothing takes = false

-- operands of a name that takes this
abbrev pub given_remark : Takes → Part → Part → ThreeParts → Remark
given_remark takes name first operands =
    if is_nothing takes then no_operand_remark name first else
    if is_global takes then global_remark first operands else
    one_operand_remark takes name first operands

-- operands of a name that takes this, by whether there is one
abbrev pub operand_by : Takes → Part → ThreeParts → Option Part → Remark
operand_by takes name operands None = missing_remark takes name
operand_by takes name operands (Some first) = given_remark takes name first operands

-- the operands of a name that takes this
abbrev pub operand_remark : Takes → Part → ThreeParts → Remark
operand_remark takes name operands = operand_by takes name operands operands.first

-- ---- names

-- a part that has not the form of a name
abbrev pub no_name_remark : Part → Remark
no_name_remark name =
    if is_number_part name.text then
    said_of
    name.column
    (codes "the name of an instruction or a directive is due here, and " ∷ name.text ∷ codes " is a number" ∷ [])
    else
    said_of name.column (codes "the name of an instruction or a directive is due here, and " ∷ name.text ∷ codes " is none" ∷ [])

-- a name that nothing has, after this
abbrev pub unknown_remark : Part → List (List ℕ) → Remark
unknown_remark name before = record { column = name.column; words = joined before ++ name_hint_text (name_hint name.text) }

-- a name that nothing has, with operands that no line has
abbrev pub strange_remark : Part → Remark
strange_remark name =
    unknown_remark name (codes "there is no instruction and no directive " ∷ name.text ∷ codes ", and no line with such operands" ∷ [])

-- a name that takes this, or that nothing has
abbrev pub named_by : Part → ThreeParts → Option Takes → Remark
named_by name operands (Some takes) = operand_remark takes name operands
named_by name operands None = strange_remark name

-- a name and its operands
abbrev pub named_remark : Part → ThreeParts → Remark
named_remark name operands =
    if not (has_name_form name.text) then no_name_remark name else named_by name operands (taken_after name.text)

-- a name and what follows it
abbrev pub operands_remark : List ℕ → Part → List ℕ → Remark
operands_remark code name rest = named_remark name (parts_from code rest)

-- the parts after a label, if there is one
abbrev pub statement_by : List ℕ → Option Part → List ℕ → Remark
statement_by code None rest = no_form_remark
statement_by code (Some name) rest = operands_remark code name rest

-- the parts after a label, if there is one
abbrev pub statement_remark : List ℕ → List ℕ → Remark
statement_remark code rest = statement_by code (next_part code rest).part (next_part code rest).rest
