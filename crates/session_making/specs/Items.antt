-- The items of a machine with a kernel.
use Rattle.std.specs.Prelude.{ℕ, get_or, ◌+◌, ◌==◌, ◌||◌, if◌then◌else◌, Bool, List, [], ◌∷◌, take, drop, codes, Option, Some, None, option_map, Result, Ok, Err, nat_eq}
use Rattle.std.specs.List.{ends_with}
use Rattle.std.specs.Option.{ok_or}
use Rattle.std.specs.Str.{bytes_eq}
use Rattle.hex.specs.Hex.{decode_of}
use Rattle.module_text.specs.TextReader.Steps.{◌>>=◌}
use Rattle.session_text.specs.Ranges.{highest_task}
use Rattle.session_text.specs.Statements.{one_byte}
use Rattle.session_making.specs.Numbers.{priority_in, stack_in, steps_in, task_in}
use Rattle.session_making.specs.Texts.{bad_byte}
use Rattle.tool_bundles.specs.declared.bundles.Entry.{Entry}
use Rattle.session_making.specs.declared.items.Item.{Item}
use Rattle.session_making.specs.declared.items.Item.TheVariants.{Task, Program, File, Text, Key}
use Rattle.session_making.specs.declared.requests.Kind.{Kind}
use Rattle.session_making.specs.declared.requests.Kind.TheVariants.{Bare, Guests, Shell}
use Rattle.session_making.specs.declared.wrongs.Wrong.{Wrong}
use Rattle.session_making.specs.declared.wrongs.Wrong.TheVariants.{FileWords, KeyDigits, KeyWords, NoItem, NoShell, Priority, ProgramWords, Stack, Step, TaskNumber, TaskProgram, TaskWords, TypeWords, TypedByte}

-- whether a path is that of a program
abbrev pub is_program : List ℕ → Bool
is_program path =
    ends_with nat_eq path (codes ".asm") || ends_with nat_eq path (codes ".s") || ends_with nat_eq path (codes ".module")

-- how many files of programs words begin with
abbrev pub own_count : List Entry → ℕ
own_count [] = 0
own_count (entry ∷ entries) = if is_program entry.word then 1 + own_count entries else 0

-- these files
abbrev pub own_files : List Entry → List Entry
own_files entries = take (own_count entries) entries

-- the words after them
abbrev pub after_files : List Entry → List Entry
after_files entries = drop (own_count entries) entries

-- ---- a task

-- the first word of a task, and those after it
abbrev pub task_word : List Entry → Result (List ℕ × List Entry) Wrong
task_word [] = Err TaskWords
task_word (entry ∷ entries) = Ok (entry.word, entries)

-- the number of a task
abbrev pub task_number : ℕ → List ℕ → Result ℕ Wrong
task_number version word = ok_or (task_in version word) (TaskNumber (highest_task version) word)

-- its priority
abbrev pub priority_of : List ℕ → Result ℕ Wrong
priority_of word = ok_or (priority_in word) (Priority word)

-- the highest index of its stack
abbrev pub stack_of : List ℕ → Result ℕ Wrong
stack_of word = ok_or (stack_in word) (Stack word)

-- it has a file at least
abbrev pub check_files : List ℕ → List Entry → Result (Unit {0}) Wrong
check_files program [] = Err (TaskProgram program)
check_files program (file ∷ files) = Ok tt

-- a task: its number, its priority, its stack and its files; and the words after it
abbrev pub task_item : ℕ → List Entry → Result (Item × List Entry) Wrong
task_item version entries = do
  id ← task_word entries
  priority ← task_word id.1
  stack ← task_word priority.1
  program ← task_word stack.1
  id_is ← task_number version id.0
  priority_is ← priority_of priority.0
  stack_is ← stack_of stack.0
  some ← check_files program.0 (own_files stack.1)
  Ok (Task id_is priority_is stack_is (own_files stack.1), after_files stack.1)

-- ---- a program

-- the files of a program, or the first word whatever its name is; and the words after them
abbrev pub program_files : List Entry → List Entry × List Entry
program_files entries =
    if own_count entries == 0 then (take 1 entries, drop 1 entries) else (own_files entries, after_files entries)

-- a program of the shell
abbrev pub program_item : Kind → List Entry → Result (Item × List Entry) Wrong
program_item Bare entries = Err NoShell
program_item Guests entries = Err NoShell
program_item Shell [] = Err ProgramWords
program_item Shell (entry ∷ entries) =
    Ok (Program (program_files (entry ∷ entries)).0, (program_files (entry ∷ entries)).1)

-- ---- a file, a text and a key

-- the first two words, and those after them
abbrev pub two_words : List Entry → Option (Entry × Entry × List Entry)
two_words (first ∷ second ∷ entries) = Some (first, second, entries)
two_words _ = None

-- a file: its name, and its path
abbrev pub file_item : List Entry → Result (Item × List Entry) Wrong
file_item entries = do
  words ← ok_or (two_words entries) FileWords
  Ok (File words.0.word words.1, words.2)

-- the step at which something is typed
abbrev pub step_of : List ℕ → Result ℕ Wrong
step_of word = ok_or (steps_in word) (Step word)

-- what is wrong in a typed text, if something is: its first byte that no session may have
abbrev pub text_flaw : List ℕ → Option Wrong
text_flaw text = option_map (λ at. TypedByte (at + 1) (get_or text at 0)) (bad_byte text)

-- a typed text, where nothing is wrong in it
abbrev pub sound_text : List ℕ → Option Wrong → Result (List ℕ) Wrong
sound_text text None = Ok text
sound_text text (Some wrong) = Err wrong

-- a typed text: its step, and the text
abbrev pub text_item : List Entry → Result (Item × List Entry) Wrong
text_item entries = do
  words ← ok_or (two_words entries) TypeWords
  step ← step_of words.0.word
  text ← sound_text words.1.word (text_flaw words.1.word)
  Ok (Text step text, words.2)

-- the byte that two hex digits are
abbrev pub byte_in : List ℕ → Option ℕ
byte_in digits = one_byte (decode_of digits)

-- the byte of a key
abbrev pub key_byte : List ℕ → Result ℕ Wrong
key_byte word = ok_or (byte_in word) (KeyDigits word)

-- a key: its step, and its two hex digits
abbrev pub key_item : List Entry → Result (Item × List Entry) Wrong
key_item entries = do
  words ← ok_or (two_words entries) KeyWords
  step ← step_of words.0.word
  byte ← key_byte words.1.word
  Ok (Key step byte, words.2)

-- ---- any item

-- the item that begins with a word, and the words after the item
abbrev pub item_of : Kind → ℕ → List ℕ → List Entry → Result (Item × List Entry) Wrong
item_of kind version word entries =
    if bytes_eq word (codes "task") then task_item version entries else
    if bytes_eq word (codes "program") then program_item kind entries else
    if bytes_eq word (codes "file") then file_item entries else
    if bytes_eq word (codes "type") then text_item entries else
    if bytes_eq word (codes "key") then key_item entries else
    Err (NoItem word)
