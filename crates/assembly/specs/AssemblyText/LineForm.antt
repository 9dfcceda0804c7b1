-- What it is that a text is a line of assembly, rule by rule.
use Rattle.std.specs.Prelude.{◌≡◌, ◌≢◌, ℕ, ℤ, pos, negsuc, Bool, true, false, List, [], ◌∷◌, ◌++◌, codes, nat_eq, Option, Some, None}
use Rattle.std.specs.List.{AllByRecursion, ends_with}
use Rattle.instruction_set.specs.InstructionTable.Operand.{low_bytes}
use Rattle.instruction_set.specs.InstructionTable.Table.{Entry, entry}
use Rattle.instruction_set.specs.declared.instruction_table.forms.Form.{Form}
use Rattle.instruction_set.specs.declared.instruction_table.forms.Form.TheVariants.{Plain, Byte, BytePlus, Half, Word, Relative, Indirect, Switch}
use Rattle.assembly.specs.AssemblyText.Names.{is_label}
use Rattle.assembly.specs.AssemblyText.Numbers.{is_from_to, number_of, word_of}
use Rattle.assembly.specs.declared.assembly_text.directives.Directive.{Directive}
use Rattle.assembly.specs.declared.assembly_text.directives.Directive.TheVariants as directive
use Rattle.assembly.specs.declared.assembly_text.statements.Boundary.TheVariants as boundary
use Rattle.assembly.specs.declared.assembly_text.statements.Line.{Line}
use Rattle.assembly.specs.declared.assembly_text.statements.Statement.{Statement}
use Rattle.assembly.specs.declared.assembly_text.statements.Statement.TheVariants as says

-- ---- the parts of a text

-- the byte is not in the text
abbrev pub IsFreeOf : ℕ → List ℕ → Type 0
IsFreeOf byte text = AllByRecursion (λ c. c ≢ byte) text

-- what follows is nothing, or begins with the byte
abbrev pub EndsAt : ℕ → List ℕ → Type 0
EndsAt byte [] = Unit {0}
EndsAt byte (c ∷ cs) = c ≡ byte

-- the text is this, and then a comment or none; a comment begins with a semicolon
pub record IsCommented (text code : List ℕ) : Type 0 where
  -- the comment, or no bytes
  pub comment : List ℕ
  -- the text is both
  pub all : text ≡ code ++ comment
  -- no semicolon comes before it
  pub free : IsFreeOf 59 code
  -- it begins with one
  pub ends : EndsAt 59 comment

-- the parts are between spaces
pub data AreParts : List ℕ → List (List ℕ) → Type 0 where
  at_end : AreParts [] []
  space : {text : List ℕ} {parts : List (List ℕ)} → AreParts text parts → AreParts (32 ∷ text) parts
  part : {first : ℕ} {text rest : List ℕ} {parts : List (List ℕ)} → first ≢ 32 → IsFreeOf 32 text → EndsAt 32 rest → AreParts rest parts →
      AreParts (first ∷ (text ++ rest)) ((first ∷ text) ∷ parts)

-- ---- numbers

-- the lowest and the highest, and how many bytes hold one
pub record Range : Type 0 where
  -- the lowest number
  pub low : ℤ
  -- the highest number
  pub high : ℤ
  -- how many bytes hold one
  pub size : ℕ

-- the numbers that an instruction may have, by the form of its operand
abbrev pub range_of : Form → Option Range
range_of Byte = Some (record { low = pos 0; high = pos 255; size = 1 })
range_of BytePlus = Some (record { low = pos 256; high = pos 511; size = 1 })
range_of Half = Some (record { low = pos 0; high = pos 65535; size = 2 })
range_of Word = Some (record { low = negsuc 2147483647; high = pos 4294967295; size = 4 })
range_of _ = None

-- the numbers that a line of data may have
abbrev pub data_range : Directive → Option Range
data_range directive.Byte = Some (record { low = negsuc 127; high = pos 255; size = 1 })
data_range directive.Half = Some (record { low = negsuc 32767; high = pos 65535; size = 2 })
data_range directive.Word = Some (record { low = negsuc 2147483647; high = pos 4294967295; size = 4 })
data_range _ = None

-- the part is the number in decimal, which is in the range
pub record IsNumber (part : List ℕ) (range : Range) (n : ℤ) : Type 0 where
  -- the part is the number in decimal
  pub number : number_of part ≡ Some n
  -- it is in the range
  pub inside : is_from_to range.low range.high n ≡ true

-- ---- what parts say

-- an instruction whose name says all
abbrev pub has_name_alone : Form → Bool
has_name_alone (Plain k) = true
has_name_alone Switch = true
has_name_alone _ = false

-- the name of each directive, as a line has it
abbrev pub directive_name : Directive → List ℕ
directive_name directive.Byte = codes "DB"
directive_name directive.Half = codes "DH"
directive_name directive.Word = codes "DW"
directive_name directive.Reserve = codes "RES"
directive_name directive.Address = codes "DA"
directive_name directive.Align = codes "ALIGN"
directive_name directive.Global = codes "GLOBAL"

-- the numbers of globals
abbrev pub global_range : Range
global_range = record { low = pos 1; high = pos 1000; size = 4 }

-- a name, and what it needs
pub data Says : List (List ℕ) → Statement → Type 0 where
  nothing : Says [] (says.Fixed [])
  -- the name of a row of the table stands for its instruction
  alone : {byte : ℕ} {row : Entry} → entry byte ≡ Some row → has_name_alone row.form ≡ true → Says (row.name ∷ []) (says.Fixed (byte ∷ []))
  number : {byte : ℕ} {row : Entry} {range : Range} {operand : List ℕ} {n : ℤ} → entry byte ≡ Some row → range_of row.form ≡ Some range → IsNumber operand range n →
      Says (row.name ∷ operand ∷ []) (says.Fixed (byte ∷ low_bytes range.size (word_of n)))
  relative : {byte : ℕ} {row : Entry} {label : List ℕ} → entry byte ≡ Some row → row.form ≡ Relative → is_label label ≡ true →
      Says (row.name ∷ label ∷ []) (says.Relative byte label)
  indirect : {byte : ℕ} {row : Entry} {label : List ℕ} → entry byte ≡ Some row → row.form ≡ Indirect → is_label label ≡ true →
      Says (row.name ∷ label ∷ []) (says.Indirect byte label)
  -- lines that have no instruction
  bytes : (d : Directive) {range : Range} {operand : List ℕ} {n : ℤ} → data_range d ≡ Some range → IsNumber operand range n →
      Says (directive_name d ∷ operand ∷ []) (says.Fixed (low_bytes range.size (word_of n)))
  reserve : {label : List ℕ} → is_label label ≡ true → Says (codes "RES" ∷ label ∷ []) (says.Reserve label)
  address : {label : List ℕ} → is_label label ≡ true → Says (codes "DA" ∷ label ∷ []) (says.Address label)
  align_half : {operand : List ℕ} → number_of operand ≡ Some (pos 2) → Says (codes "ALIGN" ∷ operand ∷ []) (says.Align boundary.Half)
  align_word : {operand : List ℕ} → number_of operand ≡ Some (pos 4) → Says (codes "ALIGN" ∷ operand ∷ []) (says.Align boundary.Word)
  global : {operand label : List ℕ} {n : ℤ} → IsNumber operand global_range n → is_label label ≡ true →
      Says (codes "GLOBAL" ∷ operand ∷ label ∷ []) (says.Global (word_of n) label)

-- ---- the line

-- the first part ends with no colon
abbrev pub BeginsPlain : List (List ℕ) → Type 0
BeginsPlain [] = Unit {0}
BeginsPlain (first ∷ more) = ends_with nat_eq first (codes ":") ≡ false

-- it may define a label, which a colon follows
pub data IsLine (text : List ℕ) : Line → Type 0 where
  labelled : {code name : List ℕ} {parts : List (List ℕ)} {statement : Statement} → IsCommented text code → AreParts code ((name ++ codes ":") ∷ parts) →
      is_label name ≡ true → Says parts statement → IsLine text (record { label = Some name; statement = statement })
  plain : {code : List ℕ} {parts : List (List ℕ)} {statement : Statement} → IsCommented text code → AreParts code parts →
      BeginsPlain parts → Says parts statement → IsLine text (record { label = None; statement = statement })
