-- What is said of labels: where they are defined, and whether they are within reach.
use Rattle.std.specs.Prelude.{ℕ, ◌+◌, ◌-◌, ◌*◌, ◌/◌, not, if◌then◌else◌, List, [], ◌∷◌, ◌++◌, codes, decimal, nat_lt, Option, Some, None}
use Rattle.std.specs.List.{find}
use Rattle.std.specs.Option.{option_map_or}
use Rattle.std.specs.Str.{bytes_eq}
use Rattle.byte_streams.specs.Pieces.{joined}
use Rattle.assembly.specs.AssemblyText.Labels.{Table}
use Rattle.assembly.specs.AssemblyText.LineText.{before_colon}
use Rattle.assembly.specs.declared.assembly_text.places.Place.{Place}
use Rattle.assembly_errors.specs.OperandWords.{no_form_remark}
use Rattle.assembly_errors.specs.Hints.{is_defined_like, label_hint, label_hint_text}
use Rattle.assembly_errors.specs.Parts.{next_part}
use Rattle.assembly_errors.specs.Remarks.{Remark, said_of}
use Rattle.assembly_errors.specs.Takes.{taken_after}
use Rattle.assembly_errors.specs.declared.drafts.Definition.{Definition}
use Rattle.assembly_errors.specs.declared.likeness.Likeness.TheVariants.{Equal}
use Rattle.assembly_errors.specs.declared.name_words.NamedLine.{NamedLine}
use Rattle.assembly_errors.specs.declared.parts.Part.{Part}
use Rattle.assembly_errors.specs.declared.takes.Takes.{Takes}
use Rattle.assembly_errors.specs.declared.takes.Takes.TheVariants.{Near, Indirect, Reserve, Address}

-- ---- a label that is defined nowhere

-- this label is defined nowhere
abbrev pub undefined_label : List Definition → Part → Remark
undefined_label definitions target = record {
  column = target.column;
  words = joined (codes "the label " ∷ target.text ∷ codes " is defined nowhere in this text" ∷ []) ++ label_hint_text (label_hint definitions target.text);
}

-- the label is defined nowhere, if there is one
abbrev pub undefined_by : List Definition → Option Part → Remark
undefined_by definitions None = no_form_remark
undefined_by definitions (Some target) = undefined_label definitions target

-- the label after this name is defined nowhere: with GLOBAL it is the second operand, and else the first
abbrev pub undefined_after : List Definition → Part → NamedLine → Remark
undefined_after definitions name line =
    if bytes_eq name.text (codes "GLOBAL") then undefined_by definitions line.operands.second else undefined_by definitions line.operands.first

-- a line that names a label which is defined nowhere
abbrev pub undefined_remark : List Definition → NamedLine → Remark
undefined_remark definitions line = option_map_or (λ name. undefined_after definitions name line) line.name no_form_remark

-- ---- a label that is defined again

-- this label is defined again
abbrev pub defined_remark : List Definition → Part → List ℕ → Remark
defined_remark definitions part label =
    option_map_or
    (λ (d : Definition). said_of part.column (codes "the label " ∷ label ∷ codes " is defined on line " ∷ decimal d.number ∷ codes " already" ∷ []))
    (find (is_defined_like Equal label) definitions)
    no_form_remark

-- the label of a line that begins with this part is defined again
abbrev pub before_colon_remark : List Definition → Part → Remark
before_colon_remark definitions part = option_map_or (defined_remark definitions part) (before_colon part.text) no_form_remark

-- a line that defines a label again
abbrev pub repeated_remark : List Definition → List ℕ → Remark
repeated_remark definitions code = option_map_or (before_colon_remark definitions) (next_part code code).part no_form_remark

-- ---- the hunk's length

-- a line that makes the hunk too long
abbrev pub length_remark : List ℕ → Remark
length_remark code =
    option_map_or
    (λ (part : Part). said_of part.column (codes "with this line the hunk has more than the 65536 words that it may have" ∷ []))
    (next_part code code).part
    no_form_remark

-- ---- a label out of reach

-- the label is at the begin of no word
abbrev pub address_remark : Place → Part → Remark
address_remark place target =
    said_of
    target.column
    (codes "the label " ∷ target.text ∷ codes " is at offset " ∷ decimal place.offset ∷ codes ", which is no multiple of 4; ALIGN 4 before it makes it one" ∷ [])

-- the even offset at the operand byte, or after the offset
abbrev pub even_after : ℕ → ℕ
even_after offset = (offset + 1) / 2 * 2

-- no halfword can lead to the label
abbrev pub reserve_remark : Place → ℕ → Part → Remark
reserve_remark place offset target =
    if nat_lt place.offset (even_after offset) then
    said_of
    target.column
    (codes "the label " ∷ target.text ∷ codes " is " ∷ decimal (even_after offset - place.offset) ∷ codes " bytes back, and RES reaches 32768" ∷ [])
    else
    said_of
    target.column
    (codes "the label " ∷ target.text ∷ codes " is " ∷ decimal (place.offset - even_after offset) ∷ codes " bytes ahead, and RES reaches 32767" ∷ [])

-- the label is on no RES line
abbrev pub unreserved_remark : Part → Part → Remark
unreserved_remark name target =
    said_of
    target.column
    (codes "the label " ∷ target.text ∷ codes " is on no RES line, and " ∷ name.text ∷ codes " leads on by one: a label of its own on a line RES "
    ∷ target.text ∷ [])

-- the RES line is before the one that names it
abbrev pub early_remark : Part → Remark
early_remark target = said_of target.column (codes "the RES line of " ∷ target.text ∷ codes " is before this line, and has to come after it" ∷ [])

-- the RES line is so many bytes ahead
abbrev pub far_remark : ℕ → Part → Part → Remark
far_remark distance name target =
    said_of
    target.column
    (codes "the RES line of " ∷ target.text ∷ codes " is " ∷ decimal distance ∷ codes " bytes ahead, and " ∷ name.text ∷ codes " reaches 510" ∷ [])

-- no halfword that leads to the label is near
abbrev pub indirect_remark : Place → ℕ → Part → Part → Remark
indirect_remark place offset name target =
    if not place.is_reserve then unreserved_remark name target else
    if nat_lt place.offset (even_after offset) then early_remark target else
    far_remark (place.offset - even_after offset) name target

-- the label is so many bytes back
abbrev pub back_remark : ℕ → Part → Part → Remark
back_remark distance name target =
    said_of
    target.column
    (codes "the label " ∷ target.text ∷ codes " is " ∷ decimal distance ∷ codes " bytes back, and " ∷ name.text ∷ codes " reaches 128; " ∷ name.text
    ∷ codes "$ reaches further, by a line RES " ∷ target.text ∷ [])

-- the label is so many bytes ahead
abbrev pub ahead_remark : ℕ → Part → Part → Remark
ahead_remark distance name target =
    said_of
    target.column
    (codes "the label " ∷ target.text ∷ codes " is " ∷ decimal distance ∷ codes " bytes ahead, and " ∷ name.text ∷ codes " reaches 127; " ∷ name.text
    ∷ codes "$ reaches further, by a line RES " ∷ target.text ∷ [])

-- the label is not near
abbrev pub near_remark : Place → ℕ → Part → Part → Remark
near_remark place offset name target =
    if nat_lt place.offset (offset + 1) then back_remark (offset + 1 - place.offset) name target else
    ahead_remark (place.offset - (offset + 1)) name target

-- the label with this place is out of reach of a name that takes this
abbrev pub placed_remark : Takes → Place → ℕ → Part → Part → Remark
placed_remark Near place offset name target = near_remark place offset name target
placed_remark Indirect place offset name target = indirect_remark place offset name target
placed_remark Reserve place offset name target = reserve_remark place offset target
placed_remark Address place offset name target = address_remark place target
placed_remark takes place offset name target = no_form_remark

-- the label is out of reach of a name
abbrev pub target_remark : Table → ℕ → Part → Part → Remark
target_remark table offset name target =
    option_map_or
    (λ place. option_map_or (λ takes. placed_remark takes place offset name target) (taken_after name.text) no_form_remark)
    (table target.text)
    no_form_remark

-- a line that names a label out of its reach
abbrev pub reach_remark : Table → ℕ → NamedLine → Remark
reach_remark table offset line =
    option_map_or (λ name. option_map_or (target_remark table offset name) line.operands.first no_form_remark) line.name no_form_remark
