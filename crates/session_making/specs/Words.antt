-- What is wrong, in words.
use Rattle.std.specs.Prelude.{ℕ, ◌==◌, if◌then◌else◌, List, [], ◌∷◌, codes, decimal}
use Rattle.byte_streams.specs.Pieces.{joined}
use Rattle.hex.specs.Hex.{encode_lower}
use Rattle.session_making.specs.declared.wrongs.Wrong.{Wrong}
use Rattle.session_making.specs.declared.wrongs.Wrong.TheVariants.{FileByte, FileCount, FileName, FileTaken, FileWords, HunkCount, KeyDigits, KeyWords, NameTaken, NoBareSteps, NoBundle, NoFile, NoItem, NoModule, NoPrograms, NoRequest, NoRoom, NoShell, NoSteps, NoVersion, NotRead, NumberTaken, Period, Priority, PriorityReserved, PriorityTaken, Program, ProgramName, ProgramWords, Stack, Step, Steps, StoreSize, TaskFiles, TaskNumber, TaskProgram, TaskWords, TypeWords, TypedByte}

-- what is after the words where the words of the command line are wrong
abbrev pub help : List ℕ
help = codes "; ./session --help has all words"

-- what a byte with these two hex digits is called
abbrev pub hex_name : List ℕ → List ℕ
hex_name digits = joined (codes "the byte " ∷ digits ∷ codes " in hex" ∷ [])

-- what a byte is called that no session may have
abbrev pub byte_name : ℕ → List ℕ
byte_name byte =
    if byte == 9 then codes "a tab" else
    if byte == 10 then codes "a line end" else
    if byte == 13 then codes "a carriage return" else
    hex_name (encode_lower (byte ∷ []))

-- a byte of a file that no session may have: its line, its place in the line, and its name
abbrev pub file_byte_words : List ℕ → ℕ → ℕ → List ℕ → List ℕ
file_byte_words path line column name =
    joined (path ∷ codes ":" ∷ decimal line ∷ codes ": byte " ∷ decimal column ∷ codes " of the line is " ∷ name
    ∷ codes ", and a session may have the bytes from the blank to ~" ∷ [])

-- a byte of a typed text that no session may have: its place, and its name
abbrev pub typed_byte_words : ℕ → List ℕ → List ℕ
typed_byte_words column name =
    joined (codes "byte " ∷ decimal column ∷ codes " of the text is " ∷ name
    ∷ codes ", and a typed text may have the bytes from the blank to ~" ∷ [])

-- the steps of a machine with a kernel are missing
abbrev pub no_steps_words : List ℕ → List ℕ
no_steps_words kind =
    joined (kind ∷ codes " has the most steps after it, and items: " ∷ kind ∷ codes " STEPS ITEM.." ∷ help ∷ [])

-- there is no such version
abbrev pub no_version_words : List ℕ → List ℕ
no_version_words word =
    joined (codes "there is no version " ∷ word ∷ codes ", but 1 and 2" ∷ [])

-- a file could not be read
abbrev pub no_file_words : List ℕ → List ℕ
no_file_words path =
    joined (codes "there is no file " ∷ path ∷ codes " that can be read" ∷ [])

-- a program of a bare machine has so many hunks
abbrev pub hunk_count_words : List ℕ → ℕ → List ℕ
hunk_count_words path count =
    joined (path ∷ codes " has " ∷ decimal count ∷ codes " hunks, and a program of a bare machine has one" ∷ [])

-- a program does not fit into a store of so many words
abbrev pub no_room_words : List ℕ → ℕ → List ℕ
no_room_words path store =
    joined (path ∷ codes " does not fit into a store of " ∷ decimal store ∷ codes " words; take a larger one with -s" ∷ [])

-- there is no such item
abbrev pub no_item_words : List ℕ → List ℕ
no_item_words word =
    joined (codes "there is no item " ∷ word ∷ codes ", but task, program, file, type and key" ∷ [])

-- the task of an earlier item has the number
abbrev pub number_taken_words : ℕ → ℕ → List ℕ
number_taken_words item number =
    joined (codes "the task of item " ∷ decimal item ∷ codes " has the number " ∷ decimal number ∷ codes " already" ∷ [])

-- the task of an earlier item has the priority
abbrev pub priority_taken_words : ℕ → ℕ → List ℕ
priority_taken_words item priority =
    joined (codes "the task of item " ∷ decimal item ∷ codes " has the priority " ∷ decimal priority ∷ codes " already" ∷ [])

-- files of this name come from other paths in an earlier item
abbrev pub name_taken_words : List ℕ → List ℕ → ℕ → List ℕ → List ℕ
name_taken_words name known item paths =
    joined (codes "two files have the name " ∷ name ∷ codes ": " ∷ known ∷ codes " of item " ∷ decimal item ∷ codes ", and " ∷ paths ∷ [])

-- there are as many files as a machine has at most, before this one
abbrev pub file_count_words : List ℕ → List ℕ
file_count_words name =
    joined (name ∷ codes " would be file 65, and a machine has at most 64" ∷ [])

-- what is wrong, in words
abbrev pub words_of : Wrong → List ℕ
words_of NoBundle = joined (codes "the input is no bundle of words and files" ∷ [])
words_of NoRequest = joined (codes "a request begins with bare, guests or shell, a version, a store, a period, and -d or -" ∷ [])
words_of NoBareSteps = joined (codes "bare has the most steps and files of assembly after it: bare STEPS FILE.asm.." ∷ help ∷ [])
words_of (NoPrograms steps) =
    joined (codes "after the steps, " ∷ steps ∷ codes ", a file of assembly is missing: bare STEPS FILE.asm.." ∷ help ∷ [])
words_of (NoSteps kind) = no_steps_words kind
words_of (NoVersion word) = no_version_words word
words_of (StoreSize most word) =
    joined (codes "a store has an even number of words from 1024 to " ∷ decimal most ∷ codes ", and not " ∷ word ∷ [])
words_of (Steps word) = joined (codes "the steps are a number from 0 to 4000000000, and not " ∷ word ∷ [])
words_of (Period word) = joined (codes "a tick is a number of steps from 1 to 1000000, and not " ∷ word ∷ [])
words_of (NoFile path) = no_file_words path
words_of (Program said) = joined (said ∷ [])
words_of (NoModule path line code) =
    joined (path ∷ codes ":" ∷ decimal line ∷ codes ": the file is no module (code " ∷ decimal code ∷ codes ")\n" ∷ [])
words_of (HunkCount path count) = hunk_count_words path count
words_of (NoRoom path store) = no_room_words path store
words_of (NotRead line code) =
    joined (codes "the session would not be read: line " ∷ decimal line ∷ codes " code " ∷ decimal code ∷ [])
words_of (NoItem word) = no_item_words word
words_of TaskWords = joined (codes "a task has a number, a priority, a stack and a program: task ID PRI STACK FILE.asm" ∷ [])
words_of (TaskNumber last word) = joined (codes "a task has a number from 5 to " ∷ decimal last ∷ codes ", and not " ∷ word ∷ [])
words_of (Priority word) = joined (codes "a priority is from 1 to 10000, and not " ∷ word ∷ [])
words_of (Stack word) = joined (codes "the highest index of a stack is from 20 to 100000, and not " ∷ word ∷ [])
words_of (NumberTaken item number) = number_taken_words item number
words_of (PriorityReserved priority) = joined (codes "a task of the system has the priority " ∷ decimal priority ∷ [])
words_of (PriorityTaken item priority) = priority_taken_words item priority
words_of (TaskProgram word) =
    joined (codes "a task's program is a file of assembly, FILE.asm or FILE.s, or a module, FILE.module, and not " ∷ word ∷ [])
words_of (TaskFiles count) = joined (codes "a task of version 2 has at most 8 files, and not " ∷ decimal count ∷ [])
words_of NoShell =
    joined (codes "a program is started by the shell, which guests has not; take shell, or task for a task of its own" ∷ help ∷ [])
words_of ProgramWords = joined (codes "a program has a file of assembly, or a module: program FILE.asm" ∷ help ∷ [])
words_of (ProgramName name) = joined (codes "a program's name is 1 to 12 letters, digits, '-', '.' and '_', and not " ∷ name ∷ [])
words_of (NameTaken name known item paths) = name_taken_words name known item paths
words_of (FileTaken item name) =
    joined (codes "a file of item " ∷ decimal item ∷ codes " has the name " ∷ name ∷ codes " already" ∷ [])
words_of (FileCount name) = file_count_words name
words_of FileWords = joined (codes "a file has a name and a path: file NAME PATH" ∷ help ∷ [])
words_of TypeWords = joined (codes "what is typed has a step and a text: type STEP TEXT" ∷ help ∷ [])
words_of KeyWords = joined (codes "a key has a step and two hex digits: key STEP HH" ∷ help ∷ [])
words_of (FileName name) = joined (codes "a file's name is 1 to 12 letters, digits, '-', '.' and '_', and not " ∷ name ∷ [])
words_of (FileByte path line column byte) = file_byte_words path line column (byte_name byte)
words_of (Step word) = joined (codes "a step is a number from 0 to 4000000000, and not " ∷ word ∷ [])
words_of (TypedByte column byte) = typed_byte_words column (byte_name byte)
words_of (KeyDigits word) = joined (codes "a key is two hex digits, and not " ∷ word ∷ [])
