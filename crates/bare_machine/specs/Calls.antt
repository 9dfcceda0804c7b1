-- The calls that a bare machine knows: quit, write a character, and multiply and divide.
use Rattle.std.specs.Prelude.{ℕ, ◌+◌, ◌-◌, ◌%◌, ◌^◌, List, Some, None, Result, Ok, Err, ◌==◌, if◌then◌else◌}
use Rattle.word_store.specs.Arithmetic.{add, mul_div}
use Rattle.word_store.specs.declared.registers.Regs.{Regs}
use Rattle.instruction_set.specs.OperandForms.Steps.{◌>>=◌}
use Rattle.instruction_set.specs.declared.Fault.{Fault}
use Rattle.instruction_set.specs.Change.{fault, read}
use Rattle.kernel_model.specs.declared.kernel_record.stops.Stop.TheVariants.{Quit}
use Rattle.bare_machine.specs.declared.calls.CallAnswer.{CallAnswer}

-- argument i of a call is the word P!(3 + i); argument 0 is the call's number
abbrev pub argument : List ℕ → Regs → ℕ → Result ℕ Fault
argument words r i = read words (add r.p (3 + i))

-- A and B get the answer, and PC is past the call, which has one byte
abbrev pub regs_after : Regs → ℕ → ℕ → Regs
regs_after r a b = record r { a = a; b = b; pc = add r.pc 1 }

-- call 0 stops the machine with its argument
abbrev pub quit : List ℕ → Regs → Result CallAnswer Fault
quit words r = do
  code ← argument words r 1
  Ok (record { regs = regs_after r (2 ^ 32 - 1) 0; byte = None; stop = Some (Quit code) })

-- call 19 writes its argument modulo 256 to the console, and answers it
abbrev pub write_character : List ℕ → Regs → Result CallAnswer Fault
write_character words r = do
  ch ← argument words r 1
  Ok (record { regs = regs_after r ch 0; byte = Some (ch % 256); stop = None })

-- call 20 answers the signed product of two arguments, divided by the third; B is the remainder
abbrev pub multiply_divide : List ℕ → Regs → Result CallAnswer Fault
multiply_divide words r = do
  a ← argument words r 1
  b ← argument words r 2
  c ← argument words r 3
  Ok (record { regs = regs_after r (mul_div a b c).0 (mul_div a b c).1; byte = None; stop = None })

-- any other number is fault 7 at the call
abbrev pub call_answer : List ℕ → Regs → Result CallAnswer Fault
call_answer words r = do
  number ← argument words r 0
  if number == 0 then quit words r else
      if number == 19 then write_character words r else
      if number == 20 then multiply_divide words r else
      Err (fault 7 r.pc)
