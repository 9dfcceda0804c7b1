-- The code of a fault is one from 1 to 8.
use Rattle.std.proofs.Common.{◌≡◌, ℕ, zero, suc, ◌≤◌, ◌%◌, ◌/◌, slice_get, ◌*◌, ◌+◌, ◌==◌, Bool, true, false, cond, eqb, List, [], ◌∷◌, Option, Some, None, Result, Ok, Err, arith, leb, length, nat_lt, subst}
use Rattle.std.specs.Int.{w16, from_le_bytes}
use Rattle.std.specs.Option.{ok_or}
use Rattle.word_store.specs.Arithmetic.{add, div, rem}
use Rattle.word_store.specs.Bytes.{byte_at, byte_of, with_byte}
use Rattle.word_store.specs.declared.registers.Regs.{Regs}
use Rattle.instruction_set.specs.declared.instruction_table.effects.Effect.{Effect}
use Rattle.instruction_set.specs.declared.instruction_table.effects.Effect.TheVariants.{LoadP, LoadG, LoadGk, LoadPk, LoadAtTarget, StoreG0, StorePk, AddP, AddG, Rv, RvP, StP, Gbyt, Pbyt, Xpbyt, Div, Rem, JumpIf, JumpIfZero, CallG, Rtn, Swl, Swb, Brk}
use Rattle.instruction_set.specs.OperandForms.Decoded.{decoded}
use Rattle.instruction_set.specs.declared.operand_forms.instructions.DecodeEnd.{DecodeEnd}
use Rattle.instruction_set.specs.declared.operand_forms.instructions.DecodeEnd.TheVariants.{Halfword, Outside, Undefined}
use Rattle.instruction_set.specs.declared.operand_forms.instructions.Instr.{Instr}
use Rattle.instruction_set.specs.OperandForms.Offset.{half_offset}
use Rattle.module_text.specs.TextReader.Steps.{◌>>=◌}
use Rattle.instruction_set.specs.declared.Fault.{Fault}
use Rattle.instruction_set.specs.declared.Outcome.{Outcome}
use Rattle.instruction_set.specs.declared.Outcome.TheVariants.{Next, Sys as Call, Returned, Fault as Faulted}
use Rattle.instruction_set.specs.Change.{Change, fault, read, keep, load, set_a, jump, write, load_at, load_through, add_at, set_a_at, set_a_through, write_through, byte_place, get_byte, put_byte, divide, holds, jump_if, enter, enter_global, leave}
use Rattle.instruction_set.specs.Effect.{change_of}
use Rattle.instruction_set.specs.Instruction.{After, after, decided, decode_fault, effected, instruction, is_call, made, settled, write_fault}
use Rattle.instruction_set.specs.Switch.{compared, halfword, jump_by, search_from, switch_by_key, switch_by_label, table_byte}
use Rattle.kernel_model.specs.KernelRecord.Lists.{Lists}
use Rattle.kernel_calls.specs.Calls.{kernel_call}
use Rattle.kernel_calls.specs.declared.call_numbers.CallOutcome.{CallOutcome}
use Rattle.kernel_calls.specs.declared.call_numbers.CallOutcome.TheVariants.{Done, Outside as OutsideStore, Quit, Unknown, Waits}
use Rattle.guest_turns.specs.Guarded.{is_owned}
use Rattle.guest_turns.specs.GuestTurn.{after_instruction, end_of_call, turn_without_reporter}
use Rattle.guest_turns.specs.declared.turns.TurnEnd.{TurnEnd}
use Rattle.guest_turns.specs.declared.turns.TurnEnd.TheVariants.{Faults, Goes, Quits}

-- the code of a fault
pub record IsCode (n : ℕ) : Type 0 where
  pub low : 1 ≤ n
  pub high : n ≤ 8

code : (n : ℕ) → 1 ≤ n → n ≤ 8 → IsCode n
code n low high = record { low = low; high = high }

-- what ends with a fault ends with such a code
abbrev HasCode : {A : Type 0} → Result A Fault → Type 0
HasCode (Ok x) = Unit {0}
HasCode (Err f) = IsCode f.code

after_step : {A B : Type 0} (o : Result A Fault) (f : A → Result B Fault) → HasCode o → ((x : A) → HasCode (f x)) → HasCode (o >>= f)
after_step (Ok x) f one two = two x
after_step (Err e) f one two = one

either : {A : Type 0} (b : Bool) (x y : Result A Fault) → HasCode x → HasCode y → HasCode (cond b x y)
either true x y p q = p
either false x y p q = q

there : {A : Type 0} (o : Option A) (n a : ℕ) → IsCode n → HasCode (ok_or o (fault n a))
there (Some x) n a is = tt
there None n a is = is

-- each form that reads the store, or chooses
module _ (words : List ℕ) (r : Regs) where
  read-code : (a : ℕ) → HasCode (read words a)
  read-code a = there (slice_get words a) 3 a (code 3 (omega arith) (omega arith))

  load_at-code : (a : ℕ) → HasCode (load_at words r a)
  load_at-code a = after_step (read words a) (load r) (read-code a) (λ _. tt)

  load_through-code : (a k : ℕ) → HasCode (load_through words r a k)
  load_through-code a k = after_step (read words a) (λ x. load_at words r (add x k)) (read-code a) (λ x. load_at-code (add x k))

  add_at-code : (a : ℕ) → HasCode (add_at words r a)
  add_at-code a = after_step (read words a) (λ w. set_a r (add r.a w)) (read-code a) (λ _. tt)

  set_a_at-code : (a : ℕ) → HasCode (set_a_at words r a)
  set_a_at-code a = after_step (read words a) (set_a r) (read-code a) (λ _. tt)

  set_a_through-code : (a k : ℕ) → HasCode (set_a_through words r a k)
  set_a_through-code a k = after_step (read words a) (λ x. set_a_at words r (add x k)) (read-code a) (λ x. set_a_at-code (add x k))

  write_through-code : (a k w : ℕ) → HasCode (write_through words r a k w)
  write_through-code a k w = after_step (read words a) (λ x. write r (add x k) w) (read-code a) (λ _. tt)

  get_byte-code : (x i : ℕ) → HasCode (get_byte words r x i)
  get_byte-code x i = after_step (read words (byte_place x i / 4)) (λ w. set_a r (byte_of w (byte_place x i % 4))) (read-code (byte_place x i / 4)) (λ _. tt)

  put_byte-code : (x i c : ℕ) → HasCode (put_byte words r x i c)
  put_byte-code x i c =
      let place : ℕ = byte_place x i in
      after_step (ok_or (slice_get words (place / 4)) (fault 4 (place / 4))) (λ w. write r (place / 4) (with_byte w (place % 4) c))
      (there (slice_get words (place / 4)) 4 (place / 4) (code 4 (omega arith) (omega arith))) (λ _. tt)

  divide-code : (quotient : Option ℕ) (place : ℕ) → HasCode (divide quotient r place)
  divide-code (Some q) place = tt
  divide-code None place = code 5 (omega arith) (omega arith)

  jump_if-code : (b : Bool) (to : ℕ) → HasCode (jump_if b r to)
  jump_if-code b to = either b (jump r to) (keep r) tt tt

  enter_global-code : (a n next : ℕ) → HasCode (enter_global words r a n next)
  enter_global-code a n next = after_step (read words a) (λ e. enter r (add r.p n) e r.a next) (read-code a) (λ _. tt)

  leave-code : HasCode (leave words r)
  leave-code =
      after_step (read words (add r.p 1)) (λ pc. read words r.p >>= λ p. keep (record r { pc = pc; p = p })) (read-code (add r.p 1))
      (λ pc. after_step (read words r.p) (λ p. keep (record r { pc = pc; p = p })) (read-code r.p) (λ _. tt))

  halfword-code : (a : ℕ) → HasCode (halfword words a)
  halfword-code a =
      after_step (table_byte words a) (λ low. table_byte words (add a 1) >>= λ high. Ok (from_le_bytes w16 (low ∷ high ∷ [])))
      (there (byte_at words a) 3 (a / 4) (code 3 (omega arith) (omega arith)))
      (λ low. after_step (table_byte words (add a 1)) (λ high. Ok (from_le_bytes w16 (low ∷ high ∷ []))) (there (byte_at words (add a 1)) 3 (add a 1 / 4) (code 3 (omega arith) (omega arith))) (λ _. tt))

  jump_by-code : (a : ℕ) → HasCode (jump_by words r a)
  jump_by-code a = after_step (halfword words a) (λ offset. jump r (add a (half_offset offset))) (halfword-code a) (λ _. tt)

  switch_by_label-code : (t : ℕ) → HasCode (switch_by_label words r t)
  switch_by_label-code t =
      after_step (halfword words t) (λ count. jump_by words r (cond (nat_lt r.a count) (add (add t 4) (2 * r.a)) (add t 2))) (halfword-code t) (λ _. jump_by-code _)

  search_from-code : (k t count i : ℕ) → HasCode (search_from k words r t count i)
  unfolding search_from
  search_from-code zero t count i = jump_by-code (add t 2)
  search_from-code (suc k) t count i =
      let go_on : ℕ → Result Change Fault = search_from k words r t count in
      let after_key : (key : ℕ) → HasCode (compared go_on words r t i key) = λ key.
      either (r.a == key) (jump_by words r (add t (4 * i + 2))) (cond (nat_lt r.a key) (go_on (2 * i)) (go_on (2 * i + 1))) (jump_by-code (add t (4 * i + 2)))
      (either (nat_lt r.a key) (go_on (2 * i)) (go_on (2 * i + 1)) (search_from-code k t count (2 * i)) (search_from-code k t count (2 * i + 1))) in
      either (nat_lt count i) (jump_by words r (add t 2)) (halfword words (add t (4 * i)) >>= λ key. compared go_on words r t i key) (jump_by-code (add t 2))
      (after_step (halfword words (add t (4 * i))) (compared go_on words r t i) (halfword-code (add t (4 * i))) after_key)

  switch_by_key-code : (t : ℕ) → HasCode (switch_by_key words r t)
  switch_by_key-code t = after_step (halfword words t) (λ count. search_from count words r t count 1) (halfword-code t) (λ count. search_from-code count t count 1)

  change_of-code : (effect : Effect) (n t place : ℕ) → HasCode (change_of effect words r n t place)
  change_of-code LoadP n t place = load_at-code _
  change_of-code LoadG n t place = load_at-code _
  change_of-code (LoadGk k) n t place = load_through-code _ k
  change_of-code (LoadPk k) n t place = load_through-code _ k
  change_of-code LoadAtTarget n t place = load_at-code _
  change_of-code StoreG0 n t place = write_through-code _ 0 _
  change_of-code (StorePk k) n t place = write_through-code _ k _
  change_of-code AddP n t place = add_at-code _
  change_of-code AddG n t place = add_at-code _
  change_of-code Rv n t place = set_a_at-code _
  change_of-code RvP n t place = set_a_through-code _ r.a
  change_of-code StP n t place = write_through-code _ r.a r.b
  change_of-code Gbyt n t place = get_byte-code r.b r.a
  change_of-code Pbyt n t place = put_byte-code r.b r.a r.c
  change_of-code Xpbyt n t place = put_byte-code r.a r.b r.c
  change_of-code Div n t place = divide-code (div r.b r.a) place
  change_of-code Rem n t place = divide-code (rem r.b r.a) place
  change_of-code (JumpIf test) n t place = jump_if-code (holds test r.b r.a) t
  change_of-code (JumpIfZero test) n t place = jump_if-code (holds test r.a 0) t
  change_of-code (CallG k) n t place = enter_global-code _ k _
  change_of-code Rtn n t place = leave-code
  change_of-code Swl n t place = switch_by_label-code _
  change_of-code Swb n t place = switch_by_key-code _
  change_of-code Brk n t place = code 2 (omega arith) (omega arith)
  change_of-code _ n t place = tt

-- ---- an instruction

abbrev EndsWithCode : Outcome → Type 0
EndsWithCode Next = Unit {0}
EndsWithCode Call = Unit {0}
EndsWithCode Returned = Unit {0}
EndsWithCode (Faulted f) = IsCode f.code

abbrev IsSomeCode : Option Fault → Type 0
IsSomeCode None = Unit {0}
IsSomeCode (Some f) = IsCode f.code

module _ (marks : ℕ → Bool) (words : List ℕ) (r : Regs) where
  write-code : (ws : List (ℕ × ℕ)) → IsSomeCode (write_fault marks words ws)
  write-code [] = tt
  write-code (w ∷ ws) = on (leb (length words) w.0) (marks w.0) (write-code ws)
    where
      on : (b d : Bool) → IsSomeCode (write_fault marks words ws) → IsSomeCode (cond b (Some (fault 4 w.0)) (cond d (Some (fault 6 w.0)) (write_fault marks words ws)))
      on true d more = code 4 (omega arith) (omega arith)
      on false true more = code 6 (omega arith) (omega arith)
      on false false more = more

  made-code : (o : Option Fault) (change : Change) → IsSomeCode o → EndsWithCode (made o words r change).outcome
  made-code None change is = tt
  made-code (Some f) change is = is

  settled-code : (o : Result Change Fault) → HasCode o → EndsWithCode (settled marks words r o).outcome
  settled-code (Ok change) is = made-code (write_fault marks words change.writes) change (write-code change.writes)
  settled-code (Err f) is = is

  either-code : (b : Bool) (x y : After) → EndsWithCode x.outcome → EndsWithCode y.outcome → EndsWithCode (cond b x y).outcome
  either-code true x y p q = p
  either-code false x y p q = q

  effected-code : (i : Instr) → EndsWithCode (effected marks words r i).outcome
  unfolding effected
  effected-code i =
      let o : Result Change Fault = change_of i.effect words (record r { pc = add r.pc i.length }) i.operand i.target r.pc in
      either-code (is_call i.effect) (after Call words r) (settled marks words r o) tt
      (settled-code o (change_of-code words (record r { pc = add r.pc i.length }) i.effect i.operand i.target r.pc))

  decode-code : (e : DecodeEnd) → IsCode (decode_fault e).code
  decode-code (Outside a) = code 8 (omega arith) (omega arith)
  decode-code (Undefined a) = code 1 (omega arith) (omega arith)
  decode-code (Halfword a) = code 3 (omega arith) (omega arith)

  decided-code : (d : Result Instr DecodeEnd) → EndsWithCode (decided marks words r d).outcome
  decided-code (Ok i) = effected-code i
  decided-code (Err e) = decode-code e

  instruction-code : EndsWithCode (instruction marks words r).outcome
  instruction-code = either-code (eqb r.pc 0) (after Returned words r) (decided marks words r (decoded (byte_at words) r.pc)) tt (decided-code (decoded (byte_at words) r.pc))

-- ---- a turn

abbrev TurnsWithCode : TurnEnd → Type 0
TurnsWithCode Goes = Unit {0}
TurnsWithCode (Quits result) = Unit {0}
TurnsWithCode (Faults f) = IsCode f.code

call-code : (place : ℕ) (o : CallOutcome) → TurnsWithCode (end_of_call place o)
call-code place Done = tt
call-code place Waits = tt
call-code place (Quit result) = tt
call-code place Unknown = code 7 (omega arith) (omega arith)
call-code place (OutsideStore a) = code 3 (omega arith) (omega arith)

after-code : (l : Lists) (s : List ℕ) (r : Regs) (o : Outcome) → EndsWithCode o → TurnsWithCode (after_instruction l s r o).ends
after-code l s r Next is = tt
after-code l s r Call is = call-code r.pc (kernel_call s l r).outcome
after-code l s r Returned is = tt
after-code l s r (Faulted f) is = is

turn-ends : (s : List ℕ) (l : Lists) (r : Regs) → TurnsWithCode (turn_without_reporter s l r).ends
unfolding turn_without_reporter
turn-ends s l r = (let x : After = instruction (is_owned l) s r in after-code l x.words x.regs x.outcome (instruction-code (is_owned l) s r))

pub fault-code : (s : List ℕ) (l : Lists) (r : Regs) (f : Fault) → (turn_without_reporter s l r).ends ≡ Faults f → IsCode f.code
fault-code s l r f is = subst TurnsWithCode is (turn-ends s l r)
