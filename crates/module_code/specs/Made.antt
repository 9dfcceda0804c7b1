-- What is written of a module: of each hunk assembly that makes it again, or its words.
use Rattle.std.specs.Prelude.{ℕ, ◌≡◌, ◌+◌, ◌-◌, ◌==◌, if◌then◌else◌, List, [], ◌∷◌, ◌++◌, length, map, take, get_or, codes, decimal, Ok}
use Rattle.std.specs.List.{AllByRecursion, flat_map}
use Rattle.assembly.specs.AssemblyText.Assembly.{assembled}
use Rattle.module_text.specs.Canonical.{printed}
use Rattle.module_text.specs.declared.modules.Hunk.{Hunk}
use Rattle.module_text.specs.declared.modules.Module.{Module}
use Rattle.module_text.specs.ModuleOfText.{module_of}
use Rattle.module_code.specs.HunkWords.{hunk_lines}
use Rattle.module_code.specs.declared.parts.Form.{Form}
use Rattle.module_code.specs.declared.parts.Form.TheVariants.{Whole, WithLast, Words}
use Rattle.module_code.specs.declared.parts.Part.{Part}

-- a module of one hunk
abbrev pub one_hunk : Hunk → Module
one_hunk h = record { hunks = h ∷ [] }

-- the assembler makes this hunk of a text, and nothing else
abbrev pub Makes : List ℕ → Hunk → Type 0
Makes lines h = assembled lines ≡ Ok (printed (one_hunk h))

-- a hunk with another last word
abbrev pub with_last : ℕ → Hunk → Hunk
with_last last h = record { words = take (length h.words - 1) h.words ++ last ∷ []; relocations = h.relocations }

-- the assembler makes a hunk of a text, but for its last word
abbrev pub MakesFront : List ℕ → Hunk → Type 0
MakesFront lines h = (last : ℕ) × Makes lines (with_last last h)

-- the assembly in which a hunk is written makes it; any hunk may be written as its words, and nothing is said of the reason
abbrev pub IsFormOf : Hunk → Form → Type 0
IsFormOf h (Whole lines) = Makes lines.items h
IsFormOf h (WithLast lines) = MakesFront lines.items h
IsFormOf h (Words why) = Unit {0}

-- the line with the last word of a hunk
abbrev pub last_line : Hunk → List ℕ
last_line h = codes "; LAST " ++ decimal (get_or h.words (length h.words - 1) 0) ++ codes "\n"

-- the end of the line after which the words of a hunk come, with the reason
abbrev pub reason_line : List ℕ → List ℕ
reason_line why = codes ", as words: " ++ why ++ codes "\n"

-- what is written of a hunk in a form, after these bytes
abbrev pub IsAfter : List ℕ → Hunk → Form → List ℕ → Type 0
IsAfter before h (Whole lines) text = text ≡ before ++ codes "\n" ++ lines.items
IsAfter before h (WithLast lines) text = text ≡ before ++ codes "\n" ++ lines.items ++ last_line h
IsAfter before h (Words why) text = text ≡ before ++ reason_line why.items ++ hunk_lines h

-- the beginning of what is written of hunk n
abbrev pub head : ℕ → List ℕ
head n = codes "; HUNK " ++ decimal n

-- the hunk of which something is written
abbrev pub hunk_in : Part → Hunk
hunk_in part = part.hunk.now

-- what is written of a hunk is right
pub record IsRight (part : Part) : Type 0 where
  -- its assembly makes the hunk
  pub form : IsFormOf (hunk_in part) part.form
  -- the text is a line with its number, and then the assembly or the words
  pub text : IsAfter (head part.number) (hunk_in part) part.form part.text.items

-- what is written of a hunk
abbrev pub part_bytes : Part → List ℕ
part_bytes part = part.text.items

-- all that is written of a module
abbrev pub module_bytes : List Part → List ℕ
module_bytes parts = if length parts == 0 then codes "; NO HUNKS\n" else flat_map part_bytes parts

-- the numbers of hunks, from this one on
abbrev pub numbers_from : ℕ → List Hunk → List ℕ
numbers_from n [] = []
numbers_from n (h ∷ hs) = n ∷ numbers_from (n + 1) hs

-- hunks are written: each of them, in their order, and each right
pub record AreParts (hs : List Hunk) (bytes : List ℕ) (parts : List Part) : Type 0 where
  -- each hunk, in their order
  pub hunks : map hunk_in parts ≡ hs
  -- with their numbers, from 1
  pub numbers : map (λ part. part.number) parts ≡ numbers_from 1 hs
  -- what is written of each is right
  pub right : AllByRecursion IsRight parts
  -- and that is all that is written
  pub text : bytes ≡ module_bytes parts

-- hunks are written in such a way
abbrev pub AreWritten : List Hunk → List ℕ → Type 0
AreWritten hunks text = (parts : List Part) × AreParts hunks text parts

-- the module of a text is written
abbrev pub IsAssemblyOf : List ℕ → List ℕ → Type 0
IsAssemblyOf text bytes = (m : Module) × (module_of text ≡ Ok m) × AreWritten m.hunks bytes
