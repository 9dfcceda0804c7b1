-- A step leaves as many words as there were.
use Rattle.std.proofs.Common.{◌≡◌, arith, ℕ, zero, suc, ◌+◌, ◌%◌, ◌≤◌, ◌&&◌, List, [], ◌∷◌, Bool, true, false, Option, Some, None, Result, Ok, Err, cond, eqb, leb, leb-true, length, set, length-set, refl, sym, subst, ap, ◌∙◌}
use Rattle.std.specs.Prelude.{IsTrue, is_some}
use Rattle.std.proofs.lemmas.Bool.{and_from, and_parts, le-leb}
use Rattle.word_store.specs.Arithmetic.{add}
use Rattle.word_store.specs.Bytes.{byte_at}
use Rattle.word_store.specs.declared.registers.Regs.{Regs}
use Rattle.instruction_set.specs.Change.{Change}
use Rattle.instruction_set.specs.OperandForms.Decoded.{decoded}
use Rattle.instruction_set.specs.declared.operand_forms.instructions.DecodeEnd.{DecodeEnd}
use Rattle.instruction_set.specs.declared.operand_forms.instructions.Instr.{Instr}
use Rattle.instruction_set.specs.Effect.{change_of}
use Rattle.instruction_set.specs.Instruction.{After, after, decided, effected, instruction, is_call, made, settled, write_fault, written}
use Rattle.instruction_set.specs.declared.Fault.{Fault}
use Rattle.instruction_set.specs.declared.Outcome.{Outcome}
use Rattle.instruction_set.specs.declared.Outcome.TheVariants.{Next, Returned, Sys, Fault as Faulted}
use Rattle.kernel_model.specs.KernelRecord.Ranges.{is_store_size, most_words}
use Rattle.bare_machine.specs.Calls.{call_answer}
use Rattle.bare_machine.specs.Run.{Executes}
use Rattle.bare_machine.specs.State.{BareState}
use Rattle.bare_machine.specs.Step.{after_call, after_outcome, instruction_of, step, turn, unmarked}
use Rattle.bare_machine.specs.declared.calls.CallAnswer.{CallAnswer}

written-count : (words : List ℕ) (ws : List (ℕ × ℕ)) → length (written words ws) ≡ length words
written-count words [] = refl
written-count words (w ∷ ws) = written-count (set words w.0 w.1) ws ∙ length-set words w.0 w.1

module _ (marks : ℕ → Bool) (words : List ℕ) (r : Regs) where
  abbrev Counts : After → Type 0
  Counts x = length x.words ≡ length words

  either-counts : (b : Bool) (x y : After) → Counts x → Counts y → Counts (cond b x y)
  either-counts true x y one two = one
  either-counts false x y one two = two

  made-counts : (f : Option Fault) (c : Change) → Counts (made f words r c)
  made-counts None c = written-count words c.writes
  made-counts (Some f) c = refl

  settled-counts : (c : Result Change Fault) → Counts (settled marks words r c)
  settled-counts (Err f) = refl
  settled-counts (Ok c) = made-counts (write_fault marks words c.writes) c

  effected-counts : (i : Instr) → Counts (effected marks words r i)
  unfolding effected
  effected-counts i =
      let c : Result Change Fault = change_of i.effect words (record r { pc = add r.pc i.length }) i.operand i.target r.pc in
      either-counts (is_call i.effect) (after Sys words r) (settled marks words r c) refl (settled-counts c)

  decided-counts : (d : Result Instr DecodeEnd) → Counts (decided marks words r d)
  decided-counts (Err e) = refl
  decided-counts (Ok i) = effected-counts i

  pub instruction-counts : Counts (instruction marks words r)
  instruction-counts = either-counts (eqb r.pc 0) (after Returned words r) (decided marks words r (decoded (byte_at words) r.pc)) refl (decided-counts (decoded (byte_at words) r.pc))

call-words : (c : Result CallAnswer Fault) (m : BareState) → (after_call c m).state.words ≡ m.words
call-words (Ok c) m = refl
call-words (Err f) m = refl

outcome-words : (o : Outcome) (m : BareState) → (after_outcome o m).state.words ≡ m.words
outcome-words Next m = refl
outcome-words Sys m = call-words (call_answer m.words m.regs) m
outcome-words Returned m = refl
outcome-words (Faulted f) m = refl

turn-count : (m : BareState) → length (turn m).state.words ≡ length m.words
turn-count m =
    let j : BareState = record m { words = (instruction_of m).words; regs = (instruction_of m).regs } in
    ap length (outcome-words (instruction_of m).outcome j) ∙ instruction-counts unmarked m.words m.regs

pub step-count : (m : BareState) → length (step m).state.words ≡ length m.words
unfolding step
step-count m = on (is_some m.stop)
  where
    on : (b : Bool) → length (cond b (record { state = m; bytes = [] }) (turn (record m { steps = m.steps + 1 }))).state.words ≡ length m.words
    on true = refl
    on false = turn-count (record m { steps = m.steps + 1 })

-- ---- a store of a size that some version may have

pub instruction_sized : (words left : List ℕ) (r : Regs) → left ≡ (instruction unmarked words r).words → IsTrue (is_store_size 2 (length words)) → IsTrue (is_store_size 2 (length left))
instruction_sized words left r is sized = subst (λ n. IsTrue (is_store_size 2 n)) (sym (ap length is ∙ instruction-counts unmarked words r)) sized

executed-counts : (n : ℕ) (words left : List ℕ) (r q : Regs) → Executes n words r left q → length left ≡ length words
executed-counts zero words left r q e = ap length e.0
executed-counts (suc n) words left r q e = executed-counts n (instruction unmarked words r).words left (instruction unmarked words r).regs q e.1 ∙ instruction-counts unmarked words r

pub executed_sized : (n : ℕ) (words left : List ℕ) (r q : Regs) → Executes n words r left q → IsTrue (is_store_size 2 (length words)) → IsTrue (is_store_size 2 (length left))
executed_sized n words left r q e sized = subst (λ m. IsTrue (is_store_size 2 m)) (sym (executed-counts n words left r q e)) sized

-- it is at most the largest store
pub sized-most : (size : ℕ) → IsTrue (is_store_size 2 size) → size ≤ 4194304
sized-most size sized = leb-true size 4194304 (and_parts (leb 1024 size) (leb size 4194304) (and_parts (leb 1024 size && leb size 4194304) (eqb (size % 2) 0) sized).0).1

-- what one version may have, version 2 may have
pub any-size : (version size : ℕ) → IsTrue (is_store_size version size) → IsTrue (is_store_size 2 size)
any-size version size sized =
    let even = and_parts (leb 1024 size && leb size (most_words version)) (eqb (size % 2) 0) sized in
    let parts = and_parts (leb 1024 size) (leb size (most_words version)) even.0 in
    let most : size ≤ 4194304 = on (eqb version 1) (leb-true size (most_words version) parts.1) in
    and_from (leb 1024 size && leb size 4194304) (eqb (size % 2) 0) (and_from (leb 1024 size) (leb size 4194304) parts.0 (le-leb size 4194304 most)) even.1
  where
    on : (b : Bool) → size ≤ cond b 262144 4194304 → size ≤ 4194304
    on true le = omega (arith, le)
    on false le = le
