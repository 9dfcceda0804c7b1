-- The modules of programs.
use Rattle.std.specs.Prelude.{ℕ, if◌then◌else◌, List, codes, Result, Ok, Err, nat_eq}
use Rattle.std.specs.List.{ends_with}
use Rattle.assembly.specs.AssemblyText.Assembly.{assembled}
use Rattle.assembly_errors.specs.Reports.{assembly_errors}
use Rattle.friendly_assembly.specs.PlainText.{friendly_told}
use Rattle.module_text.specs.ModuleOfText.{module_of}
use Rattle.module_text.specs.TextReader.Refusal.{Refusal}
use Rattle.module_text.specs.TextReader.Steps.{◌>>=◌}
use Rattle.module_text.specs.declared.modules.Module.{Module}
use Rattle.tool_texts.specs.Told.{Told}
use Rattle.tool_bundles.specs.declared.bundles.Content.{Content}
use Rattle.tool_bundles.specs.declared.bundles.Content.TheVariants.{Nothing, Unread, Bytes}
use Rattle.tool_bundles.specs.declared.bundles.Entry.{Entry}
use Rattle.session_making.specs.declared.wrongs.Wrong.{Wrong}
use Rattle.session_making.specs.declared.wrongs.Wrong.TheVariants.{NoFile, NoModule, Program}

-- the bytes that a word brings
abbrev pub bytes_in : List ℕ → Content → Result (List ℕ) Wrong
bytes_in path Nothing = Err (NoFile path)
bytes_in path Unread = Err (NoFile path)
bytes_in path (Bytes bytes) = Ok bytes

-- the bytes of a file
abbrev pub file_bytes : Entry → Result (List ℕ) Wrong
file_bytes file = bytes_in file.word file.content

-- what a tool makes, where it finds nothing wrong
abbrev pub sound : Told → Result (List ℕ) Wrong
sound told = if told.is_wrong then Err (Program told.bytes) else Ok told.bytes

-- the plain assembly text of one with more forms
abbrev pub plain_text : List ℕ → List ℕ → Result (List ℕ) Wrong
plain_text name text = sound (friendly_told name text)

-- what was assembled, or else what is said of the text
abbrev pub assembled_or : List ℕ → Result (List ℕ) Refusal → Result (List ℕ) Wrong
assembled_or said (Ok m) = Ok m
assembled_or said (Err refusal) = Err (Program said)

-- the text of the module that plain assembly makes
abbrev pub assembled_text : List ℕ → List ℕ → Result (List ℕ) Wrong
assembled_text name text = assembled_or (assembly_errors name text).bytes (assembled text)

-- the text of the module of a program: of a module text itself, or of assembly, which may have more forms
abbrev pub module_text : List ℕ → List ℕ → Result (List ℕ) Wrong
module_text path text =
    if ends_with nat_eq path (codes ".module") then Ok text else
    if ends_with nat_eq path (codes ".s") then plain_text path text >>= assembled_text path else
    assembled_text path text

-- the module that was read
abbrev pub module_or : List ℕ → Result Module Refusal → Result Module Wrong
module_or path (Ok m) = Ok m
module_or path (Err refusal) = Err (NoModule path refusal.line refusal.code)

-- the module of a module text
abbrev pub read_module : List ℕ → List ℕ → Result Module Wrong
read_module path text = module_or path (module_of text)

-- the module of a program's file
abbrev pub file_module : Entry → Result Module Wrong
file_module file = do
  bytes ← file_bytes file
  text ← module_text file.word bytes
  read_module file.word text
