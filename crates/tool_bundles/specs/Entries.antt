-- A word of a bundle, with what it brings.
use Rattle.std.specs.Prelude.{ℕ, ◌+◌, ◌==◌, if◌then◌else◌, List, length, take, drop, codes, Option, Some, None, option_and_then, option_map, nat_lt}
use Rattle.std.specs.List.{position}
use Rattle.std.specs.Option.{option_map_or}
use Rattle.module_text.specs.TextReader.Fields.{after_word}
use Rattle.module_text.specs.TextReader.Numbers.{number_of}
use Rattle.session_text.specs.Statements.{number_field}
use Rattle.tool_bundles.specs.declared.bundles.Content.{Content}
use Rattle.tool_bundles.specs.declared.bundles.Content.TheVariants.{Nothing, Unread, Bytes}
use Rattle.tool_bundles.specs.declared.bundles.Entry.{Entry}
use Rattle.tool_bundles.specs.declared.bundles.Header.{Header}
use Rattle.tool_bundles.specs.declared.bundles.Header.TheVariants.{Word, Unread as UnreadWord, File}

-- the bytes that come with a word, where some do
abbrev pub bytes_with : Content → Option (List ℕ)
bytes_with Nothing = None
bytes_with Unread = None
bytes_with (Bytes bytes) = Some bytes

-- the bytes of the file that a word names
abbrev pub file_of : Entry → Option (List ℕ)
file_of entry = bytes_with entry.content

infixl 10 ◌>>=◌
-- a step, and then the next one with what it gave, unless it gave nothing
abbrev ◌>>=◌ : {A B : Type 0} → Option A → (A → Option B) → Option B
o >>= f = option_and_then f o

-- the first line, and what comes after its LF
abbrev pub first_line : List ℕ → Option (List ℕ × List ℕ)
first_line text = option_map (λ i. (take i text, drop (i + 1) text)) (position (λ c. c == 10) text)

-- so many bytes, and what comes after them and a LF
abbrev pub part_of : ℕ → List ℕ → Option (List ℕ × List ℕ)
part_of size text =
    if nat_lt size (length text) then option_map (λ rest. (take size text, rest)) (after_word (codes "\n") (drop size text)) else
    None

-- the two sizes of a line `file`: that of the word, and that of the file
abbrev pub file_header : List ℕ → Option Header
file_header sizes = do
  name ← number_field sizes
  size ← number_of name.1
  Some (File name.0 size)

-- the one size of another line
abbrev pub word_header : (ℕ → Header) → List ℕ → Option Header
word_header header digits = do
  size ← number_of digits
  Some (header size)

-- what the line before a word says
abbrev pub header_of : List ℕ → Option Header
header_of line =
    option_map_or (word_header (λ size. Word size)) (after_word (codes "word ") line)
    (option_map_or (word_header (λ size. UnreadWord size)) (after_word (codes "none ") line)
    (option_map_or file_header (after_word (codes "file ") line)
    None))

-- a word of so many bytes, which brings this, and what comes after it
abbrev pub bare_word : Content → ℕ → List ℕ → Option (Entry × List ℕ)
bare_word content size text = do
  word ← part_of size text
  Some (record { word = word.0; content = content }, word.1)

-- a word that names a file, and the bytes of the file
abbrev pub file_word : ℕ → ℕ → List ℕ → Option (Entry × List ℕ)
file_word name size text = do
  word ← part_of name text
  bytes ← part_of size word.1
  Some (record { word = word.0; content = Bytes bytes.0 }, bytes.1)

-- the word after its line, with what it brings
abbrev pub with_header : Header → List ℕ → Option (Entry × List ℕ)
with_header (Word size) text = bare_word Nothing size text
with_header (UnreadWord size) text = bare_word Unread size text
with_header (File name size) text = file_word name size text

-- the first word with what it brings, and what comes after that
abbrev pub entry_of : List ℕ → Option (Entry × List ℕ)
entry_of text = do
  line ← first_line text
  header ← header_of line.0
  with_header header line.1
