-- What an instruction changes: new registers and the writes to make, or a fault. The registers are given with PC at the
-- next instruction, and every read sees the words before the instruction.
use Rattle.std.specs.Prelude.{ℕ, ◌/◌, ◌%◌, Bool, not, List, [], ◌∷◌, Option, Some, None, Result, Ok, Err, ◌==◌, int_lt, slice_get, if◌then◌else◌}
use Rattle.std.specs.Option.{ok_or}
use Rattle.word_store.specs.Arithmetic.{add, mul, signed}
use Rattle.word_store.specs.Bytes.{byte_of, with_byte}
use Rattle.word_store.specs.declared.registers.Regs.{Regs}
use Rattle.instruction_set.specs.declared.instruction_table.effects.Test.{Test}
use Rattle.instruction_set.specs.declared.instruction_table.effects.Test.TheVariants.{Eq, Ne, Ls, Gr, Le, Ge}
use Rattle.instruction_set.specs.OperandForms.Steps.{◌>>=◌}
use Rattle.instruction_set.specs.declared.Fault.{Fault}

-- the writes are pairs of an address and a word, in the order in which they are tried
pub record Change : Type 0 where
  -- the registers
  pub regs : Regs
  -- the addresses and words that are written
  pub writes : List (ℕ × ℕ)

-- the fault with a code, at an address
abbrev pub fault : ℕ → ℕ → Fault
fault code address = record { code = code; address = address }

-- a read outside the store is fault 3
abbrev pub read : List ℕ → ℕ → Result ℕ Fault
read words a = ok_or (slice_get words a) (fault 3 a)

-- nothing is written
abbrev pub keep : Regs → Result Change Fault
keep r = Ok (record { regs = r; writes = [] })

-- B := A and A := e
abbrev pub load : Regs → ℕ → Result Change Fault
load r e = keep (record r { b = r.a; a = e })

-- A := e
abbrev pub set_a : Regs → ℕ → Result Change Fault
set_a r e = keep (record r { a = e })

-- PC := to
abbrev pub jump : Regs → ℕ → Result Change Fault
jump r to = keep (record r { pc = to })

-- the word at a := w
abbrev pub write : Regs → ℕ → ℕ → Result Change Fault
write r a w = Ok (record { regs = r; writes = (a, w) ∷ [] })

-- B := A and A := the word at a
abbrev pub load_at : List ℕ → Regs → ℕ → Result Change Fault
load_at words r a = do
  w ← read words a
  load r w

-- B := A and A := word k from where the word at a points
abbrev pub load_through : List ℕ → Regs → ℕ → ℕ → Result Change Fault
load_through words r a k = do
  x ← read words a
  load_at words r (add x k)

-- A := A + the word at a
abbrev pub add_at : List ℕ → Regs → ℕ → Result Change Fault
add_at words r a = do
  w ← read words a
  set_a r (add r.a w)

-- A := the word at a
abbrev pub set_a_at : List ℕ → Regs → ℕ → Result Change Fault
set_a_at words r a = do
  w ← read words a
  set_a r w

-- A := word k from where the word at a points
abbrev pub set_a_through : List ℕ → Regs → ℕ → ℕ → Result Change Fault
set_a_through words r a k = do
  x ← read words a
  set_a_at words r (add x k)

-- word k from where the word at a points := w
abbrev pub write_through : List ℕ → Regs → ℕ → ℕ → ℕ → Result Change Fault
write_through words r a k w = do
  x ← read words a
  write r (add x k) w

-- the byte address of byte i of the words from x on
abbrev pub byte_place : ℕ → ℕ → ℕ
byte_place x i = add (mul 4 x) i

-- A := byte i of the words from x on
abbrev pub get_byte : List ℕ → Regs → ℕ → ℕ → Result Change Fault
get_byte words r x i = do
  w ← read words (byte_place x i / 4)
  set_a r (byte_of w (byte_place x i % 4))

-- Byte i of the words from x on := c. The word that has it is read and written; where it is outside the write faults.
abbrev pub put_byte : List ℕ → Regs → ℕ → ℕ → ℕ → Result Change Fault
put_byte words r x i c = do
  w ← ok_or (slice_get words (byte_place x i / 4)) (fault 4 (byte_place x i / 4))
  write r (byte_place x i / 4) (with_byte w (byte_place x i % 4) c)

-- A := a quotient or a remainder; where there is none, fault 5 at the instruction
abbrev pub divide : Option ℕ → Regs → ℕ → Result Change Fault
divide None r place = Err (fault 5 place)
divide (Some q) r place = set_a r q

-- x is to y as the test asks, both signed
abbrev pub holds : Test → ℕ → ℕ → Bool
holds Eq x y = x == y
holds Ne x y = not (x == y)
holds Ls x y = int_lt (signed x) (signed y)
holds Gr x y = int_lt (signed y) (signed x)
holds Le x y = not (int_lt (signed y) (signed x))
holds Ge x y = not (int_lt (signed x) (signed y))

-- PC goes to an address where the test holds; else it stays at the next instruction
abbrev pub jump_if : Bool → Regs → ℕ → Result Change Fault
jump_if b r to = if b then jump r to else keep r

-- A stack frame at f has four words: the caller's P, the address to return to, the function e and its argument v. Then
-- P := f, PC := e and A := v.
abbrev pub enter : Regs → ℕ → ℕ → ℕ → ℕ → Result Change Fault
enter r f e v next = Ok (record {
  regs = record r { p = f; pc = e; a = v };
  writes = (f, r.p) ∷ (add f 1, next) ∷ (add f 2, e) ∷ (add f 3, v) ∷ [];
})

-- the function is the word at a, and A stays
abbrev pub enter_global : List ℕ → Regs → ℕ → ℕ → ℕ → Result Change Fault
enter_global words r a n next = do
  e ← read words a
  enter r (add r.p n) e r.a next

-- PC := P!1 and P := P!0, read in this order
abbrev pub leave : List ℕ → Regs → Result Change Fault
leave words r = do
  pc ← read words (add r.p 1)
  p ← read words r.p
  keep (record r { pc = pc; p = p })
