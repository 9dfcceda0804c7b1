-- What the lines of the debugger ask for.
use Rattle.std.specs.Prelude.{ℕ, ◌≡◌, ◌-◌, ◌^◌, ◌&&◌, Bool, true, if◌then◌else◌, List, ◌∷◌, ◌++◌, Option, Result, Ok, Err, codes, nat_le, nat_lt}
use Rattle.std.specs.Option.{ok_or, option_map_or}
use Rattle.std.specs.Str.{bytes_eq}
use Rattle.module_text.specs.TextReader.Fields.{IsNumberLine, after_word}
use Rattle.module_text.specs.TextReader.Numbers.{IsNumber, number_of}
use Rattle.module_text.specs.TextReader.Steps.{◌>>=◌}
use Rattle.session_text.specs.Statements.{number_field}
use Rattle.debugger.specs.declared.orders.BadLine.{BadLine}
use Rattle.debugger.specs.declared.orders.Order.{Order}
use Rattle.debugger.specs.declared.orders.Order.TheVariants.{Back, Blocks, Break, Continue, DeviceQueue, Instructions, Registers, Step, TaskQueue, Tasks, Unbreak, Words}

-- ---- which lines ask for what

-- a line is this word and two numbers
abbrev pub IsSpanLine : List ℕ → ℕ → ℕ → List ℕ → Type 0
IsSpanLine word a n line = (x y : List ℕ) × IsNumber x a × IsNumber y n × (line ≡ word ++ (x ++ (32 ∷ y)))

-- the line asks for this, whatever its numbers are
abbrev pub Asks : Order → List ℕ → Type 0
Asks (Break a) line = IsNumberLine (codes "BP ") a line
Asks (Unbreak a) line = IsNumberLine (codes "UNBP ") a line
Asks (Step n) line = IsNumberLine (codes "STEP ") n line
Asks (Back n) line = IsNumberLine (codes "BACK ") n line
Asks Continue line = line ≡ codes "CONT"
Asks Registers line = line ≡ codes "REGS"
Asks (Words a n) line = IsSpanLine (codes "MEM ") a n line
Asks Tasks line = line ≡ codes "TASKS"
Asks (TaskQueue id) line = IsNumberLine (codes "QUEUE ") id line
Asks (DeviceQueue n) line = IsNumberLine (codes "QUEUE -") n line
Asks Blocks line = line ≡ codes "BLOCKS"
Asks (Instructions a n) line = IsSpanLine (codes "DIS ") a n line

-- the most words, or lines of a listing, that a line may ask for
abbrev pub most_shown : ℕ
most_shown = 4096

-- the number of a device, without its sign, is at most this one
abbrev pub most_device : ℕ
most_device = 2 ^ 31

-- whether it is a word, and so many may be asked for from there on
abbrev pub is_span : ℕ → ℕ → Bool
is_span a n = nat_lt a (2 ^ 32) && nat_le n most_shown

-- whether its numbers are in their ranges
abbrev pub is_in_range : Order → Bool
is_in_range (Break a) = nat_lt a (2 ^ 32)
is_in_range (Unbreak a) = nat_lt a (2 ^ 32)
is_in_range (Step n) = nat_lt n (2 ^ 32)
is_in_range (Back n) = nat_lt n (2 ^ 32)
is_in_range Continue = true
is_in_range Registers = true
is_in_range (Words a n) = is_span a n
is_in_range Tasks = true
is_in_range (TaskQueue id) = nat_lt id (2 ^ 32)
is_in_range (DeviceQueue n) = nat_le n most_device
is_in_range Blocks = true
is_in_range (Instructions a n) = is_span a n

-- ---- what a line asks for

-- a line of the debugger, counted from 1, asks for nothing, with a code that says why
abbrev pub bad : ℕ → ℕ → BadLine
bad line code = record { line = line; code = code }

-- a number that line n has to have, where it is there (code 1)
abbrev pub given : {X : Type 0} → ℕ → Option X → Result X BadLine
given n value = ok_or value (bad n 1)

-- a number of line n, where it is in its range (code 2)
abbrev pub at_most : ℕ → ℕ → ℕ → Result ℕ BadLine
at_most most n value = if nat_le value most then Ok value else Err (bad n 2)

-- a word that a line asks about
abbrev pub word_field : ℕ → List ℕ → Result ℕ BadLine
word_field n digits = do
  value ← given n (number_of digits)
  at_most (2 ^ 32 - 1) n value

-- a word, and how many are asked for from there on
abbrev pub span_fields : ℕ → List ℕ → Result (ℕ × ℕ) BadLine
span_fields n text = do
  first ← given n (number_field text)
  second ← given n (number_of first.1)
  from ← at_most (2 ^ 32 - 1) n first.0
  count ← at_most most_shown n second
  Ok (from, count)

-- the address of a breakpoint that comes
abbrev pub break_order : ℕ → List ℕ → Result Order BadLine
break_order n text = do
  a ← word_field n text
  Ok (Break a)

-- the address of a breakpoint that goes
abbrev pub unbreak_order : ℕ → List ℕ → Result Order BadLine
unbreak_order n text = do
  a ← word_field n text
  Ok (Unbreak a)

-- how many steps are to be taken
abbrev pub step_order : ℕ → List ℕ → Result Order BadLine
step_order n text = do
  steps ← word_field n text
  Ok (Step steps)

-- how many steps are to be undone
abbrev pub back_order : ℕ → List ℕ → Result Order BadLine
back_order n text = do
  steps ← word_field n text
  Ok (Back steps)

-- the words that are to be shown
abbrev pub words_order : ℕ → List ℕ → Result Order BadLine
words_order n text = do
  span ← span_fields n text
  Ok (Words span.0 span.1)

-- the instructions that are to be shown
abbrev pub instructions_order : ℕ → List ℕ → Result Order BadLine
instructions_order n text = do
  span ← span_fields n text
  Ok (Instructions span.0 span.1)

-- the number of the task whose queue is to be shown
abbrev pub task_queue_order : ℕ → List ℕ → Result Order BadLine
task_queue_order n text = do
  id ← word_field n text
  Ok (TaskQueue id)

-- the number of the device whose queue is to be shown, without its sign
abbrev pub device_queue_order : ℕ → List ℕ → Result Order BadLine
device_queue_order n text = do
  value ← given n (number_of text)
  number ← at_most most_device n value
  Ok (DeviceQueue number)

-- the queue that is to be shown: with a sign before the number it is that of a device, else that of a task
abbrev pub queue_order : ℕ → List ℕ → Result Order BadLine
queue_order n text = option_map_or (device_queue_order n) (after_word (codes "-") text) (task_queue_order n text)

-- a line that is one word
abbrev pub order_alone : ℕ → List ℕ → Result Order BadLine
order_alone n line =
    if bytes_eq line (codes "CONT") then Ok Continue else
    if bytes_eq line (codes "REGS") then Ok Registers else
    if bytes_eq line (codes "TASKS") then Ok Tasks else
    if bytes_eq line (codes "BLOCKS") then Ok Blocks else
    Err (bad n 1)

-- what line n asks for
unfoldable pub order_of : ℕ → List ℕ → Result Order BadLine
order_of n line =
    option_map_or (break_order n) (after_word (codes "BP ") line)
    (option_map_or (unbreak_order n) (after_word (codes "UNBP ") line)
    (option_map_or (step_order n) (after_word (codes "STEP ") line)
    (option_map_or (back_order n) (after_word (codes "BACK ") line)
    (option_map_or (words_order n) (after_word (codes "MEM ") line)
    (option_map_or (queue_order n) (after_word (codes "QUEUE ") line)
    (option_map_or (instructions_order n) (after_word (codes "DIS ") line)
    (order_alone n line)))))))
