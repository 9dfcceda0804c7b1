-- C stays a byte.
use Rattle.std.proofs.Common.{ℕ, zero, suc, ◌<◌, ◌%◌, ◌/◌, slice_get, ◌*◌, ◌+◌, ◌==◌, Bool, true, false, cond, List, Option, Some, None, Result, Ok, Err, IfOk, arith, nat_lt}
use Rattle.std.specs.Option.{ok_or}
use Rattle.word_store.specs.Arithmetic.{add, div, rem}
use Rattle.word_store.specs.Bytes.{byte_of, with_byte}
use Rattle.word_store.specs.declared.registers.Regs.{Regs}
use Rattle.instruction_set.specs.declared.instruction_table.effects.Effect.{Effect}
use Rattle.instruction_set.specs.declared.instruction_table.effects.Effect.TheVariants.{LoadP, LoadG, LoadGk, LoadPk, LoadAtTarget, StoreG0, StorePk, AddP, AddG, Rv, RvP, StP, Gbyt, Pbyt, Xpbyt, Div, Rem, Atc, Btc, JumpIf, JumpIfZero, CallG, Rtn, Swl, Swb, Brk}
use Rattle.instruction_set.specs.declared.operand_forms.instructions.DecodeEnd.{DecodeEnd}
use Rattle.instruction_set.specs.declared.operand_forms.instructions.Instr.{Instr}
use Rattle.instruction_set.specs.OperandForms.Offset.{half_offset}
use Rattle.instruction_set.specs.OperandForms.Steps.{◌>>=◌}
use Rattle.instruction_set.specs.declared.Fault.{Fault}
use Rattle.instruction_set.specs.declared.Outcome.TheVariants.{Sys as Call}
use Rattle.instruction_set.specs.Change.{Change, fault, read, keep, load, set_a, jump, write, load_at, load_through, add_at, set_a_at, set_a_through, write_through, byte_place, get_byte, put_byte, divide, holds, jump_if, enter, enter_global, leave}
use Rattle.instruction_set.specs.Effect.{change_of}
use Rattle.instruction_set.specs.Instruction.{After, after, decided, effected, is_call, made, settled, write_fault}
use Rattle.instruction_set.specs.Switch.{compared, halfword, jump_by, search_from, switch_by_key, switch_by_label}

abbrev KeepsByte : Result Change Fault → Type 0
KeepsByte o = IfOk o (λ x. x.regs.c < 256)

after_step : {A : Type 0} (o : Result A Fault) (f : A → Result Change Fault) → ((x : A) → KeepsByte (f x)) → KeepsByte (o >>= f)
after_step (Ok x) f h = h x
after_step (Err e) f h = tt

either : (b : Bool) (x y : Result Change Fault) → KeepsByte x → KeepsByte y → KeepsByte (cond b x y)
either true x y p q = p
either false x y p q = q

-- each form that reads the store, or chooses
module _ (words : List ℕ) (r : Regs) (h : r.c < 256) where
  load_at-byte : (a : ℕ) → KeepsByte (load_at words r a)
  load_at-byte a = after_step (read words a) (load r) (λ _. h)

  load_through-byte : (a k : ℕ) → KeepsByte (load_through words r a k)
  load_through-byte a k = after_step (read words a) (λ x. load_at words r (add x k)) (λ x. load_at-byte (add x k))

  add_at-byte : (a : ℕ) → KeepsByte (add_at words r a)
  add_at-byte a = after_step (read words a) (λ w. set_a r (add r.a w)) (λ _. h)

  set_a_at-byte : (a : ℕ) → KeepsByte (set_a_at words r a)
  set_a_at-byte a = after_step (read words a) (set_a r) (λ _. h)

  set_a_through-byte : (a k : ℕ) → KeepsByte (set_a_through words r a k)
  set_a_through-byte a k = after_step (read words a) (λ x. set_a_at words r (add x k)) (λ x. set_a_at-byte (add x k))

  write_through-byte : (a k w : ℕ) → KeepsByte (write_through words r a k w)
  write_through-byte a k w = after_step (read words a) (λ x. write r (add x k) w) (λ _. h)

  get_byte-byte : (x i : ℕ) → KeepsByte (get_byte words r x i)
  get_byte-byte x i = after_step (read words (byte_place x i / 4)) (λ w. set_a r (byte_of w (byte_place x i % 4))) (λ _. h)

  put_byte-byte : (x i c : ℕ) → KeepsByte (put_byte words r x i c)
  put_byte-byte x i c =
      let place : ℕ = byte_place x i in
      after_step (ok_or (slice_get words (place / 4)) (fault 4 (place / 4))) (λ w. write r (place / 4) (with_byte w (place % 4) c)) (λ _. h)

  divide-byte : (quotient : Option ℕ) (place : ℕ) → KeepsByte (divide quotient r place)
  divide-byte (Some q) place = h
  divide-byte None place = tt

  jump_if-byte : (b : Bool) (to : ℕ) → KeepsByte (jump_if b r to)
  jump_if-byte b to = either b (jump r to) (keep r) h h

  enter_global-byte : (a n next : ℕ) → KeepsByte (enter_global words r a n next)
  enter_global-byte a n next = after_step (read words a) (λ e. enter r (add r.p n) e r.a next) (λ _. h)

  leave-byte : KeepsByte (leave words r)
  leave-byte =
      after_step (read words (add r.p 1)) (λ pc. read words r.p >>= λ p. keep (record r { pc = pc; p = p }))
      (λ pc. after_step (read words r.p) (λ p. keep (record r { pc = pc; p = p })) (λ _. h))

  jump_by-byte : (a : ℕ) → KeepsByte (jump_by words r a)
  jump_by-byte a = after_step (halfword words a) (λ offset. jump r (add a (half_offset offset))) (λ _. h)

  switch_by_label-byte : (t : ℕ) → KeepsByte (switch_by_label words r t)
  switch_by_label-byte t =
      after_step (halfword words t) (λ count. jump_by words r (cond (nat_lt r.a count) (add (add t 4) (2 * r.a)) (add t 2))) (λ _. jump_by-byte _)

  search_from-byte : (k t count i : ℕ) → KeepsByte (search_from k words r t count i)
  unfolding search_from
  search_from-byte zero t count i = jump_by-byte (add t 2)
  search_from-byte (suc k) t count i =
      let go_on : ℕ → Result Change Fault = search_from k words r t count in
      let after_key : (key : ℕ) → KeepsByte (compared go_on words r t i key) = λ key.
      either (r.a == key) (jump_by words r (add t (4 * i + 2))) (cond (nat_lt r.a key) (go_on (2 * i)) (go_on (2 * i + 1))) (jump_by-byte (add t (4 * i + 2)))
      (either (nat_lt r.a key) (go_on (2 * i)) (go_on (2 * i + 1)) (search_from-byte k t count (2 * i)) (search_from-byte k t count (2 * i + 1))) in
      either (nat_lt count i) (jump_by words r (add t 2)) (halfword words (add t (4 * i)) >>= λ key. compared go_on words r t i key) (jump_by-byte (add t 2))
      (after_step (halfword words (add t (4 * i))) (compared go_on words r t i) after_key)

  switch_by_key-byte : (t : ℕ) → KeepsByte (switch_by_key words r t)
  switch_by_key-byte t = after_step (halfword words t) (λ count. search_from count words r t count 1) (λ count. search_from-byte count t count 1)

  change_of-byte : (effect : Effect) (n t place : ℕ) → KeepsByte (change_of effect words r n t place)
  change_of-byte LoadP n t place = load_at-byte _
  change_of-byte LoadG n t place = load_at-byte _
  change_of-byte (LoadGk k) n t place = load_through-byte _ k
  change_of-byte (LoadPk k) n t place = load_through-byte _ k
  change_of-byte LoadAtTarget n t place = load_at-byte _
  change_of-byte StoreG0 n t place = write_through-byte _ 0 _
  change_of-byte (StorePk k) n t place = write_through-byte _ k _
  change_of-byte AddP n t place = add_at-byte _
  change_of-byte AddG n t place = add_at-byte _
  change_of-byte Rv n t place = set_a_at-byte _
  change_of-byte RvP n t place = set_a_through-byte _ r.a
  change_of-byte StP n t place = write_through-byte _ r.a r.b
  change_of-byte Gbyt n t place = get_byte-byte r.b r.a
  change_of-byte Pbyt n t place = put_byte-byte r.b r.a r.c
  change_of-byte Xpbyt n t place = put_byte-byte r.a r.b r.c
  change_of-byte Div n t place = divide-byte (div r.b r.a) place
  change_of-byte Rem n t place = divide-byte (rem r.b r.a) place
  change_of-byte Atc n t place = omega arith
  change_of-byte Btc n t place = omega arith
  change_of-byte (JumpIf test) n t place = jump_if-byte (holds test r.b r.a) t
  change_of-byte (JumpIfZero test) n t place = jump_if-byte (holds test r.a 0) t
  change_of-byte (CallG k) n t place = enter_global-byte _ k _
  change_of-byte Rtn n t place = leave-byte
  change_of-byte Swl n t place = switch_by_label-byte _
  change_of-byte Swb n t place = switch_by_key-byte _
  change_of-byte Brk n t place = tt
  change_of-byte _ n t place = h

module _ (marks : ℕ → Bool) (words : List ℕ) (r : Regs) (h : r.c < 256) where
  made-byte : (fault : Option Fault) (change : Change) → change.regs.c < 256 → (made fault words r change).regs.c < 256
  made-byte None change k = k
  made-byte (Some f) change k = h

  settled-byte : (o : Result Change Fault) → KeepsByte o → (settled marks words r o).regs.c < 256
  settled-byte (Ok change) k = made-byte (write_fault marks words change.writes) change k
  settled-byte (Err f) k = h

  either-byte : (b : Bool) (x y : After) → x.regs.c < 256 → y.regs.c < 256 → (cond b x y).regs.c < 256
  either-byte true x y p q = p
  either-byte false x y p q = q

  pub effected-byte : (i : Instr) → (effected marks words r i).regs.c < 256
  unfolding effected
  effected-byte i =
      either-byte (is_call i.effect) (after Call words r) (settled marks words r (change_of i.effect words (record r { pc = add r.pc i.length }) i.operand i.target r.pc)) h
      (settled-byte _ (change_of-byte words (record r { pc = add r.pc i.length }) h i.effect i.operand i.target r.pc))

  pub decided-byte : (d : Result Instr DecodeEnd) → (decided marks words r d).regs.c < 256
  decided-byte (Ok i) = effected-byte i
  decided-byte (Err end) = h
