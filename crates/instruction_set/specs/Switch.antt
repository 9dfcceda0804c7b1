-- The two switches, by label and by key. A table of halfwords, the lower byte first, begins at an even byte address t.
use Rattle.std.specs.Prelude.{ℕ, zero, suc, ◌+◌, ◌*◌, ◌/◌, List, [], ◌∷◌, Result, Ok, ◌==◌, nat_lt, if◌then◌else◌}
use Rattle.std.specs.Int.{w16, from_le_bytes}
use Rattle.std.specs.Option.{ok_or}
use Rattle.word_store.specs.Arithmetic.{add}
use Rattle.word_store.specs.Bytes.{byte_at}
use Rattle.word_store.specs.declared.registers.Regs.{Regs}
use Rattle.instruction_set.specs.OperandForms.Offset.{half_offset}
use Rattle.instruction_set.specs.OperandForms.Steps.{◌>>=◌}
use Rattle.instruction_set.specs.declared.Fault.{Fault}
use Rattle.instruction_set.specs.Change.{Change, fault, jump}

-- a byte outside the store is fault 3 at its word
abbrev pub table_byte : List ℕ → ℕ → Result ℕ Fault
table_byte words a = ok_or (byte_at words a) (fault 3 (a / 4))

-- the halfword at a byte address
abbrev pub halfword : List ℕ → ℕ → Result ℕ Fault
halfword words a = do
  low ← table_byte words a
  high ← table_byte words (add a 1)
  Ok (from_le_bytes w16 (low ∷ high ∷ []))

-- PC := the address of a halfword plus its signed value
abbrev pub jump_by : List ℕ → Regs → ℕ → Result Change Fault
jump_by words r a = do
  h ← halfword words a
  jump r (add a (half_offset h))

-- A count, a default, and labels. Label A is used where A is below the count, else the default.
abbrev pub switch_by_label : List ℕ → Regs → ℕ → Result Change Fault
switch_by_label words r t = do
  count ← halfword words t
  jump_by words r (if nat_lt r.a count then add (add t 4) (2 * r.a) else add t 2)

-- what follows from key i
abbrev pub compared : (ℕ → Result Change Fault) → List ℕ → Regs → ℕ → ℕ → ℕ → Result Change Fault
compared go_on words r t i key =
    if r.a == key then jump_by words r (add t (4 * i + 2)) else
    if nat_lt r.a key then go_on (2 * i) else go_on (2 * i + 1)

-- A count, a default, and pairs of a key and a label, numbered from 1. Where A is key i label i is used, where A is below
-- key i the search goes on at pair 2i, else at pair 2i + 1, and past the last pair the default is used. At most as many
-- keys are compared as there are pairs.
unfoldable pub search_from : ℕ → List ℕ → Regs → ℕ → ℕ → ℕ → Result Change Fault
search_from zero words r t count i = jump_by words r (add t 2)
search_from (suc k) words r t count i =
    if nat_lt count i then jump_by words r (add t 2) else
    (halfword words (add t (4 * i)) >>= λ key. compared (search_from k words r t count) words r t i key)

-- the table begins with the count of its pairs, a halfword
abbrev pub switch_by_key : List ℕ → Regs → ℕ → Result Change Fault
switch_by_key words r t = do
  count ← halfword words t
  search_from count words r t count 1
