-- What is told of a bundle with a module.
use Rattle.std.specs.Prelude.{ℕ, ◌≡◌, if◌then◌else◌, true, false, List, [], ◌∷◌, codes, Option, Some, None, option_and_then, option_map}
use Rattle.std.specs.Str.{bytes_eq}
use Rattle.module_text.specs.ModuleOfText.{IsRefused}
use Rattle.tool_bundles.specs.Bundles.{bundle_of}
use Rattle.tool_bundles.specs.Entries.{file_of}
use Rattle.tool_bundles.specs.declared.bundles.Entry.{Entry}
use Rattle.tool_texts.specs.Told.{Told}
use Rattle.module_code.specs.Made.{IsAssemblyOf}
use Rattle.module_code.specs.declared.requests.NoAnswer.{NoAnswer}
use Rattle.module_code.specs.declared.requests.NoAnswer.TheVariants.{NoRequest, NoModule, WantMemory}

-- the text of the names: of the file that a word names, or nothing where the word is `-`
abbrev pub names_text : Entry → Option (List ℕ)
names_text entry = if bytes_eq entry.word (codes "-") then Some [] else file_of entry

-- the text of the module, where words ask for one: a word of names, and the module
abbrev pub asked_by : List Entry → Option (List ℕ)
asked_by (names ∷ named ∷ []) = option_and_then (λ text. option_map (λ _. text) (names_text names)) (file_of named)
asked_by _ = None

-- the text of the module of a bundle; `None` where the bundle asks for none
abbrev pub asked_in : List ℕ → Option (List ℕ)
asked_in bundle = option_and_then asked_by (bundle_of bundle)

-- these bytes are the assembly of the module that a bundle has
abbrev pub IsRead : List ℕ → List ℕ → Type 0
IsRead bundle bytes = (text : List ℕ) × (asked_in bundle ≡ Some text) × IsAssemblyOf text bytes

-- Why a bundle has no answer: it asks for no module, or the text of the module is refused at a line with a code. That memory could not be had has
-- no cause here.
abbrev pub HasCause : List ℕ → NoAnswer → Type 0
HasCause bundle NoRequest = asked_in bundle ≡ None
HasCause bundle (NoModule i line code) = (text : List ℕ) × (asked_in bundle ≡ Some text) × IsRefused text line code
HasCause bundle WantMemory = Unit {0}

-- why the text of a module is not read
abbrev pub IsUnread : List ℕ → NoAnswer → Type 0
IsUnread text NoRequest = ⊥
IsUnread text (NoModule i line code) = IsRefused text line code
IsUnread text WantMemory = Unit {0}

-- something is wrong for such a cause
abbrev pub IsWrongFor : List ℕ → NoAnswer → Type 0
IsWrongFor bundle NoRequest = HasCause bundle NoRequest
IsWrongFor bundle (NoModule i line code) = HasCause bundle (NoModule i line code)
IsWrongFor bundle WantMemory = ⊥

-- something is wrong
abbrev pub IsWrong : List ℕ → Type 0
IsWrong bundle = (end : NoAnswer) × IsWrongFor bundle end

-- What is told: the assembly of the module of a bundle; or something is wrong, and that has its cause in the bundle.
pub record ReadsBack (bundle : List ℕ) (t : Told) : Type 0 where
  -- the assembly
  pub assembly : t.is_wrong ≡ false → IsRead bundle t.bytes
  -- the cause
  pub cause : t.is_wrong ≡ true → IsWrong bundle
