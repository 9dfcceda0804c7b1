-- An instruction writes where it says that it does.
use Rattle.std.proofs.Common.{◌≡◌, ◌∙◌, inl, inr, refl, sym, subst, ℕ, zero, suc, ◌%◌, ◌/◌, slice_get, ◌*◌, ◌+◌, ◌==◌, ◌∷◌, [], Bool, true, false, cond, List, Option, Some, None, Result, Ok, Err, IfOk, arith, nat_lt, map, slice_set}
use Rattle.std.proofs.lemmas.Bool.{cases_eq}
use Rattle.std.proofs.lemmas.List.{get_or-set_other}
use Rattle.std.specs.List.{Contains}
use Rattle.std.specs.Option.{ok_or}
use Rattle.word_store.specs.Arithmetic.{add, div, rem}
use Rattle.word_store.specs.Bytes.{byte_at, byte_of, with_byte}
use Rattle.word_store.specs.declared.registers.Regs.{Regs}
use Rattle.instruction_set.specs.declared.instruction_table.effects.Effect.{Effect}
use Rattle.instruction_set.specs.declared.instruction_table.effects.Effect.TheVariants.{LoadP, LoadG, LoadGk, LoadPk, LoadAtTarget, StoreG0, StorePk, AddP, AddG, Rv, RvP, StP, Gbyt, Pbyt, Xpbyt, Div, Rem, JumpIf, JumpIfZero, CallG, Rtn, Swl, Swb, Brk}
use Rattle.instruction_set.specs.OperandForms.Decoded.{decoded}
use Rattle.instruction_set.specs.declared.operand_forms.instructions.DecodeEnd.{DecodeEnd}
use Rattle.instruction_set.specs.declared.operand_forms.instructions.Instr.{Instr}
use Rattle.instruction_set.specs.OperandForms.Offset.{half_offset}
use Rattle.instruction_set.specs.OperandForms.Steps.{◌>>=◌}
use Rattle.instruction_set.specs.declared.Fault.{Fault}
use Rattle.instruction_set.specs.declared.Outcome.TheVariants.{Sys, Returned}
use Rattle.instruction_set.specs.declared.places.Places.TheVariants.{Frame}
use Rattle.instruction_set.specs.Change.{Change, fault, read, keep, load, set_a, jump, write, load_at, load_through, add_at, set_a_at, set_a_through, write_through, byte_place, get_byte, put_byte, divide, holds, jump_if, enter, enter_global, leave}
use Rattle.instruction_set.specs.Effect.{change_of}
use Rattle.instruction_set.specs.Instruction.{After, after, decided, effected, instruction, is_call, made, settled, write_fault, written}
use Rattle.instruction_set.specs.Places.{DifferAt, addresses, place_from, places_by}
use Rattle.instruction_set.specs.Switch.{compared, halfword, jump_by, search_from, switch_by_key, switch_by_label}

-- ---- what is written differs at the addresses of the writes alone

abbrev pub address_of : ℕ × ℕ → ℕ
address_of w = w.0

first-contained : (a : ℕ) (at : List ℕ) → Contains (a ∷ at) a
first-contained a at = (zero, omega arith, refl)

pub rest-contained : (a b : ℕ) (at : List ℕ) → Contains at b → Contains (a ∷ at) b
rest-contained a b at (i, inside, is) = (suc i, omega arith, is)

written-differ : (ws : List (ℕ × ℕ)) (words : List ℕ) → DifferAt (map address_of ws) words (written words ws)
written-differ [] words a other = absurd (other refl)
written-differ (w ∷ ws) words a other = elim (cases_eq a w.0) [
  | inl same ↦ subst (Contains (map address_of (w ∷ ws))) (sym same) (first-contained w.0 (map address_of ws))
  | inr ne ↦
      rest-contained w.0 a (map address_of ws)
      (written-differ ws (slice_set words w.0 w.1) a (λ same. other (sym (get_or-set_other words w.0 a w.1 0 ne) ∙ same)))
]

-- ---- each change writes at these addresses

abbrev pub WritesAt : List ℕ → Result Change Fault → Type 0
WritesAt at o = IfOk o (λ x. map address_of x.writes ≡ at)

after_step : {A : Type 0} (at : List ℕ) (o : Result A Fault) (f : A → Result Change Fault) → ((x : A) → WritesAt at (f x)) → WritesAt at (o >>= f)
after_step at (Ok x) f h = h x
after_step at (Err e) f h = tt

either : (at : List ℕ) (b : Bool) (x y : Result Change Fault) → WritesAt at x → WritesAt at y → WritesAt at (cond b x y)
either at true x y p q = p
either at false x y p q = q

-- each form that reads the store, or chooses
module _ (words : List ℕ) (r : Regs) where
  load_at-writes : (a : ℕ) → WritesAt [] (load_at words r a)
  load_at-writes a = after_step [] (read words a) (load r) (λ _. refl)

  load_through-writes : (a k : ℕ) → WritesAt [] (load_through words r a k)
  load_through-writes a k = after_step [] (read words a) (λ x. load_at words r (add x k)) (λ x. load_at-writes (add x k))

  add_at-writes : (a : ℕ) → WritesAt [] (add_at words r a)
  add_at-writes a = after_step [] (read words a) (λ w. set_a r (add r.a w)) (λ _. refl)

  set_a_at-writes : (a : ℕ) → WritesAt [] (set_a_at words r a)
  set_a_at-writes a = after_step [] (read words a) (set_a r) (λ _. refl)

  set_a_through-writes : (a k : ℕ) → WritesAt [] (set_a_through words r a k)
  set_a_through-writes a k = after_step [] (read words a) (λ x. set_a_at words r (add x k)) (λ x. set_a_at-writes (add x k))

  from-pointer : (o : Option ℕ) (f : Fault) (k w : ℕ) → WritesAt (addresses (place_from o k)) (ok_or o f >>= λ x. write r (add x k) w)
  from-pointer (Some x) f k w = refl
  from-pointer None f k w = tt

  write_through-writes : (a k w : ℕ) → WritesAt (addresses (place_from (slice_get words a) k)) (write_through words r a k w)
  write_through-writes a k w = from-pointer (slice_get words a) (fault 3 a) k w

  get_byte-writes : (x i : ℕ) → WritesAt [] (get_byte words r x i)
  get_byte-writes x i = after_step [] (read words (byte_place x i / 4)) (λ w. set_a r (byte_of w (byte_place x i % 4))) (λ _. refl)

  put_byte-writes : (x i c : ℕ) → WritesAt (byte_place x i / 4 ∷ []) (put_byte words r x i c)
  put_byte-writes x i c =
      let place : ℕ = byte_place x i in
      after_step (place / 4 ∷ []) (ok_or (slice_get words (place / 4)) (fault 4 (place / 4))) (λ w. write r (place / 4) (with_byte w (place % 4) c)) (λ _. refl)

  divide-writes : (quotient : Option ℕ) (place : ℕ) → WritesAt [] (divide quotient r place)
  divide-writes (Some q) place = refl
  divide-writes None place = tt

  jump_if-writes : (b : Bool) (to : ℕ) → WritesAt [] (jump_if b r to)
  jump_if-writes b to = either [] b (jump r to) (keep r) refl refl

  enter_global-writes : (a n next : ℕ) → WritesAt (addresses (Frame (add r.p n))) (enter_global words r a n next)
  enter_global-writes a n next = after_step (addresses (Frame (add r.p n))) (read words a) (λ e. enter r (add r.p n) e r.a next) (λ _. refl)

  leave-writes : WritesAt [] (leave words r)
  leave-writes =
      after_step [] (read words (add r.p 1)) (λ pc. read words r.p >>= λ p. keep (record r { pc = pc; p = p }))
      (λ pc. after_step [] (read words r.p) (λ p. keep (record r { pc = pc; p = p })) (λ _. refl))

  jump_by-writes : (a : ℕ) → WritesAt [] (jump_by words r a)
  jump_by-writes a = after_step [] (halfword words a) (λ offset. jump r (add a (half_offset offset))) (λ _. refl)

  switch_by_label-writes : (t : ℕ) → WritesAt [] (switch_by_label words r t)
  switch_by_label-writes t =
      after_step [] (halfword words t) (λ count. jump_by words r (cond (nat_lt r.a count) (add (add t 4) (2 * r.a)) (add t 2))) (λ _. jump_by-writes _)

  search_from-writes : (k t count i : ℕ) → WritesAt [] (search_from k words r t count i)
  unfolding search_from
  search_from-writes zero t count i = jump_by-writes (add t 2)
  search_from-writes (suc k) t count i =
      let go_on : ℕ → Result Change Fault = search_from k words r t count in
      let after_key : (key : ℕ) → WritesAt [] (compared go_on words r t i key) = λ key.
      either [] (r.a == key) (jump_by words r (add t (4 * i + 2))) (cond (nat_lt r.a key) (go_on (2 * i)) (go_on (2 * i + 1))) (jump_by-writes (add t (4 * i + 2)))
      (either [] (nat_lt r.a key) (go_on (2 * i)) (go_on (2 * i + 1)) (search_from-writes k t count (2 * i)) (search_from-writes k t count (2 * i + 1))) in
      either [] (nat_lt count i) (jump_by words r (add t 2)) (halfword words (add t (4 * i)) >>= λ key. compared go_on words r t i key) (jump_by-writes (add t 2))
      (after_step [] (halfword words (add t (4 * i))) (compared go_on words r t i) after_key)

  switch_by_key-writes : (t : ℕ) → WritesAt [] (switch_by_key words r t)
  switch_by_key-writes t = after_step [] (halfword words t) (λ count. search_from count words r t count 1) (λ count. search_from-writes count t count 1)

-- each effect; its registers have PC at the next instruction
module _ (words : List ℕ) (r : Regs) (next : ℕ) where
  abbrev q : Regs
  q = record r { pc = next }

  pub change_of-writes : (effect : Effect) (n t place : ℕ) → WritesAt (addresses (places_by effect words r n t)) (change_of effect words q n t place)
  change_of-writes LoadP n t place = load_at-writes words q _
  change_of-writes LoadG n t place = load_at-writes words q _
  change_of-writes (LoadGk k) n t place = load_through-writes words q _ k
  change_of-writes (LoadPk k) n t place = load_through-writes words q _ k
  change_of-writes LoadAtTarget n t place = load_at-writes words q _
  change_of-writes StoreG0 n t place = write_through-writes words q _ 0 _
  change_of-writes (StorePk k) n t place = write_through-writes words q _ k _
  change_of-writes AddP n t place = add_at-writes words q _
  change_of-writes AddG n t place = add_at-writes words q _
  change_of-writes Rv n t place = set_a_at-writes words q _
  change_of-writes RvP n t place = set_a_through-writes words q _ q.a
  change_of-writes StP n t place = write_through-writes words q _ q.a q.b
  change_of-writes Gbyt n t place = get_byte-writes words q q.b q.a
  change_of-writes Pbyt n t place = put_byte-writes words q q.b q.a q.c
  change_of-writes Xpbyt n t place = put_byte-writes words q q.a q.b q.c
  change_of-writes Div n t place = divide-writes words q (div q.b q.a) place
  change_of-writes Rem n t place = divide-writes words q (rem q.b q.a) place
  change_of-writes (JumpIf test) n t place = jump_if-writes words q (holds test q.b q.a) t
  change_of-writes (JumpIfZero test) n t place = jump_if-writes words q (holds test q.a 0) t
  change_of-writes (CallG k) n t place = enter_global-writes words q _ k _
  change_of-writes Rtn n t place = leave-writes words q
  change_of-writes Swl n t place = switch_by_label-writes words q _
  change_of-writes Swb n t place = switch_by_key-writes words q _
  change_of-writes Brk n t place = tt
  change_of-writes _ n t place = refl

-- ---- and an instruction likewise

module _ (marks : ℕ → Bool) (words : List ℕ) (r : Regs) where
  same-differ : (at : List ℕ) → DifferAt at words words
  same-differ at a other = absurd (other refl)

  made-differ : (fault : Option Fault) (change : Change) → DifferAt (map address_of change.writes) words (made fault words r change).words
  made-differ None change = written-differ change.writes words
  made-differ (Some f) change = same-differ (map address_of change.writes)

  settled-differ : (at : List ℕ) (o : Result Change Fault) → WritesAt at o → DifferAt at words (settled marks words r o).words
  settled-differ at (Ok change) is = subst (λ ats. DifferAt ats words (made (write_fault marks words change.writes) words r change).words) is (made-differ (write_fault marks words change.writes) change)
  settled-differ at (Err f) is = same-differ at

  either-differ : (at : List ℕ) (b : Bool) (x y : After) → DifferAt at words x.words → DifferAt at words y.words → DifferAt at words (cond b x y).words
  either-differ at true x y p q = p
  either-differ at false x y p q = q

  effected-differ : (i : Instr) → DifferAt (addresses (places_by i.effect words r i.operand i.target)) words (effected marks words r i).words
  unfolding effected
  effected-differ i =
      let at : List ℕ = addresses (places_by i.effect words r i.operand i.target) in
      either-differ at (is_call i.effect) (after Sys words r) (settled marks words r (change_of i.effect words (record r { pc = add r.pc i.length }) i.operand i.target r.pc)) (same-differ at)
      (settled-differ at (change_of i.effect words (record r { pc = add r.pc i.length }) i.operand i.target r.pc) (change_of-writes words r (add r.pc i.length) i.effect i.operand i.target r.pc))

  pub executed-differ : (i : Instr) → decoded (byte_at words) r.pc ≡ Ok i → DifferAt (addresses (places_by i.effect words r i.operand i.target)) words (instruction marks words r).words
  executed-differ i is =
      let at : List ℕ = addresses (places_by i.effect words r i.operand i.target) in
      either-differ at (r.pc == 0) (after Returned words r) (decided marks words r (decoded (byte_at words) r.pc)) (same-differ at)
      (subst (λ (x : Result Instr DecodeEnd). DifferAt at words (decided marks words r x).words) (sym is) (effected-differ i))
