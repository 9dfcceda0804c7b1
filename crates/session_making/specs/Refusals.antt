-- What is said of a request in which something is wrong.
use Rattle.std.specs.Prelude.{ℕ, if◌then◌else◌, Bool, true, false, List, [], ◌∷◌, ◌++◌, codes, decimal}
use Rattle.byte_streams.specs.Pieces.{joined}
use Rattle.session_making.specs.Words.{words_of}
use Rattle.session_making.specs.declared.stops.Place.{Place}
use Rattle.session_making.specs.declared.stops.Place.TheVariants.{Request, Item}
use Rattle.session_making.specs.declared.wrongs.Wrong.{Wrong}
use Rattle.session_making.specs.declared.wrongs.Wrong.TheVariants.{FileByte, HunkCount, NoBareSteps, NoBundle, NoFile, NoModule, NoRequest, NoRoom, NoSteps, NoVersion, Period, Program, Steps, StoreSize}

-- a file is wrong, and not the words
abbrev pub is_of_file : Wrong → Bool
is_of_file (NoFile path) = true
is_of_file (Program said) = true
is_of_file (NoModule path line code) = true
is_of_file (HunkCount path count) = true
is_of_file (NoRoom path store) = true
is_of_file (FileByte path line column byte) = true
is_of_file _ = false

-- the status with which a command ends: 1 where a file is wrong, and 2 where the words are
abbrev pub status_of : Wrong → ℕ
status_of wrong = if is_of_file wrong then 1 else 2

-- which part of a request is wrong
abbrev pub field_of : Wrong → List ℕ
field_of NoBundle = codes "bundle"
field_of NoRequest = codes "bundle"
field_of (NoVersion word) = codes "version"
field_of (StoreSize most word) = codes "store"
field_of (NoRoom path store) = codes "store"
field_of NoBareSteps = codes "steps"
field_of (NoSteps kind) = codes "steps"
field_of (Steps word) = codes "steps"
field_of (Period word) = codes "period"
field_of _ = codes "programs"

-- the first line, where the request as a whole is wrong in this part
abbrev pub field_line : ℕ → List ℕ → List ℕ
field_line status field = joined (codes "* " ∷ decimal status ∷ codes " " ∷ field ∷ codes "\n" ∷ [])

-- the first line, where this item is wrong
abbrev pub number_line : ℕ → ℕ → List ℕ
number_line status number = joined (codes "* " ∷ decimal status ∷ codes " item " ∷ decimal number ∷ codes "\n" ∷ [])

-- the first line: the status, and where something is wrong
abbrev pub head_text : Place → Wrong → List ℕ
head_text Request wrong = field_line (status_of wrong) (field_of wrong)
head_text (Item number word next) wrong = number_line (status_of wrong) number

-- an item of one word, by its number
abbrev pub one_word : ℕ → List ℕ → List ℕ
one_word number word = joined (codes "session: item " ∷ decimal number ∷ codes " (" ∷ word ∷ codes "): " ∷ [])

-- an item with its first two words
abbrev pub two_words : ℕ → List ℕ → List ℕ → List ℕ
two_words number word next =
    joined (codes "session: item " ∷ decimal number ∷ codes " (" ∷ word ∷ codes " " ∷ next ∷ codes "): " ∷ [])

-- an item: its number, and its first words
abbrev pub item_text : ℕ → List ℕ → List ℕ → List ℕ
item_text number word [] = one_word number word
item_text number word (c ∷ cs) = two_words number word (c ∷ cs)

-- who speaks, and the item
abbrev pub place_text : Place → List ℕ
place_text Request = joined (codes "session: " ∷ [])
place_text (Item number word next) = item_text number word next

-- the words of what is wrong are all lines
abbrev pub is_whole : Wrong → Bool
is_whole (Program said) = true
is_whole (NoModule path line code) = true
is_whole _ = false

-- what is wrong, with who says it
abbrev pub message : Place → Wrong → List ℕ
message place wrong = if is_whole wrong then words_of wrong else joined (place_text place ∷ words_of wrong ∷ codes "\n" ∷ [])

-- what is said: a line with a status and where something is wrong, and then what is wrong
abbrev pub refused_text : Place → Wrong → List ℕ
refused_text place wrong = head_text place wrong ++ message place wrong
