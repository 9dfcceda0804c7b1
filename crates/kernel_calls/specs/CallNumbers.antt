-- The call that a guest makes: its number is the word P!3, and its arguments follow.
use Rattle.std.specs.Prelude.{ℕ, ◌+◌, ◌==◌, ◌&&◌, if◌then◌else◌, List, Option, Some, None, Result, Ok, Err, slice_get, slice_index}
use Rattle.word_store.specs.Arithmetic.{add}
use Rattle.word_store.specs.declared.registers.Regs.{Regs}
use Rattle.module_text.specs.TextReader.Steps.{◌>>=◌}
use Rattle.kernel_lists.specs.TaskBlock.RootWords.{root_address}
use Rattle.kernel_lists.specs.declared.task_block.roots.RootField.TheVariants.{Version}
use Rattle.kernel_calls.specs.declared.call_numbers.CallOutcome.{CallOutcome}
use Rattle.kernel_calls.specs.declared.call_numbers.CallOutcome.TheVariants.{Outside, Unknown}
use Rattle.kernel_calls.specs.declared.call_numbers.KernelCall.{KernelCall}
use Rattle.kernel_calls.specs.declared.call_numbers.KernelCall.TheVariants.{AddModule, CallCo, ChangePri, CoWait, CreateCo, CreateTask, DeleteCo, DeleteTask, Dqpkt, Freevec, Getvec, Hold, MulDiv, Qpkt, Quit, Release, ResumeCo, SetFlags, TaskWait, TestFlags, Unload, Wrch}

-- the word at an address, which is told where it is outside the store
abbrev pub word_or_outside : ℕ → Option ℕ → Result ℕ CallOutcome
word_or_outside a None = Err (Outside a)
word_or_outside a (Some w) = Ok w

-- argument i is the word P!(3 + i); argument 0 is the call's number
abbrev pub argument : List ℕ → Regs → ℕ → Result ℕ CallOutcome
argument words r i = word_or_outside (add r.p (3 + i)) (slice_get words (add r.p (3 + i)))

-- a call with one argument
abbrev pub one : List ℕ → Regs → (ℕ → KernelCall) → Result KernelCall CallOutcome
one words r call = do
  a ← argument words r 1
  Ok (call a)

-- a call with two arguments, read in their order
abbrev pub two : List ℕ → Regs → (ℕ → ℕ → KernelCall) → Result KernelCall CallOutcome
two words r call = do
  a ← argument words r 1
  b ← argument words r 2
  Ok (call a b)

-- a call with three arguments, read in their order
abbrev pub three : List ℕ → Regs → (ℕ → ℕ → ℕ → KernelCall) → Result KernelCall CallOutcome
three words r call = do
  a ← argument words r 1
  b ← argument words r 2
  c ← argument words r 3
  Ok (call a b c)

-- The calls by their numbers; call 21 is one of version 2, and there is no other.
abbrev pub call_numbered : List ℕ → Regs → ℕ → Result KernelCall CallOutcome
call_numbered words r number =
    if number == 0 then one words r Quit else
    if number == 1 then one words r Getvec else
    if number == 2 then one words r Freevec else
    if number == 3 then three words r CreateTask else
    if number == 4 then one words r DeleteTask else
    if number == 5 then two words r ChangePri else
    if number == 6 then two words r SetFlags else
    if number == 7 then one words r TestFlags else
    if number == 8 then one words r Hold else
    if number == 9 then one words r Release else
    if number == 10 then Ok TaskWait else
    if number == 11 then one words r Qpkt else
    if number == 12 then two words r Dqpkt else
    if number == 13 then one words r Unload else
    if number == 14 then two words r CreateCo else
    if number == 15 then one words r DeleteCo else
    if number == 16 then two words r CallCo else
    if number == 17 then two words r ResumeCo else
    if number == 18 then one words r CoWait else
    if number == 19 then one words r Wrch else
    if number == 20 then three words r MulDiv else
    if (number == 21) && (slice_index words (root_address Version) == 2) then two words r AddModule else
    Err Unknown

-- the call that the words from P!3 on ask for; an argument outside the store is the first reason that there is none
abbrev pub call_of : List ℕ → Regs → Result KernelCall CallOutcome
call_of words r = do
  number ← argument words r 0
  call_numbered words r number
