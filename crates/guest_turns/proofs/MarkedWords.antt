-- An instruction writes no word that is marked, whatever it is.
use Rattle.std.proofs.Common.{◌≡◌, ℕ, Bool, true, false, List, [], ◌∷◌, length, get_or, set, cond, eqb, Option, Some, None, Result, Ok, Err, refl, ap, ◌∙◌, get_or-set_other, length-set}
use Rattle.std.specs.Prelude.{nat_le}
use Rattle.std.specs.List.{AllByRecursion}
use Rattle.word_store.specs.declared.registers.Regs.{Regs}
use Rattle.instruction_set.specs.declared.operand_forms.instructions.Instr.{Instr}
use Rattle.instruction_set.specs.declared.operand_forms.instructions.DecodeEnd.{DecodeEnd}
use Rattle.instruction_set.specs.OperandForms.Decoded.{decoded}
use Rattle.instruction_set.specs.Change.{Change}
use Rattle.instruction_set.specs.Effect.{change_of}
use Rattle.instruction_set.specs.Instruction.{After, after, decided, effected, instruction, is_call, made, settled, write_fault, written}
use Rattle.instruction_set.specs.declared.Fault.{Fault}
use Rattle.instruction_set.specs.declared.Outcome.TheVariants.{Returned, Sys as Call}
use Rattle.word_store.specs.Arithmetic.{add}
use Rattle.word_store.specs.Bytes.{byte_at}

-- as many words, and the marked ones are as they were
pub record KeepsMarked (marks : ℕ → Bool) (s t : List ℕ) : Type 0 where
  pub size : length t ≡ length s
  pub same : (a : ℕ) → marks a ≡ true → get_or t a 0 ≡ get_or s a 0

module _ (marks : ℕ → Bool) (s : List ℕ) (r : Regs) where
  keeps-none : KeepsMarked marks s s
  keeps-none = record { size = refl; same = λ a e. refl }

  keeps-either : (b : Bool) (x y : After) → KeepsMarked marks s x.words → KeepsMarked marks s y.words → KeepsMarked marks s (cond b x y).words
  keeps-either true x y h k = h
  keeps-either false x y h k = k

  -- writes without a fault go to words that are not marked
  unmarked : (ws : List (ℕ × ℕ)) → write_fault marks s ws ≡ None → AllByRecursion (λ w. marks w.0 ≡ false) ws
  unmarked [] e = tt
  unmarked (w ∷ ws) e = on (nat_le (length s) w.0) (marks w.0) refl e (unmarked ws)
    where
      on : (b c : Bool) → marks w.0 ≡ c → ◌≡◌ {A = Option Fault} (cond b (Some (record { code = 4; address = w.0 })) (cond c (Some (record { code = 6; address = w.0 })) (write_fault marks s ws))) None
          → (write_fault marks s ws ≡ None → AllByRecursion (λ w. marks w.0 ≡ false) ws) → AllByRecursion (λ w. marks w.0 ≡ false) (w ∷ ws)
      on true c m e more = cc
      on false true m e more = cc
      on false false m e more = (m, more e)

  keeps-written : (ws : List (ℕ × ℕ)) (t : List ℕ) → KeepsMarked marks s t → AllByRecursion (λ w. marks w.0 ≡ false) ws → KeepsMarked marks s (written t ws)
  keeps-written [] t k all = k
  keeps-written (w ∷ ws) t k all =
      keeps-written ws (set t w.0 w.1)
      (record {
        size = length-set t w.0 w.1 ∙ k.size;
        same = λ a e. get_or-set_other t w.0 a w.1 0 (λ at. cc (e, all.0, ap marks at)) ∙ k.same a e;
      })
      all.1

  keeps-made : (f : Option Fault) (c : Change) → write_fault marks s c.writes ≡ f → KeepsMarked marks s (made f s r c).words
  keeps-made None c e = keeps-written c.writes s keeps-none (unmarked c.writes e)
  keeps-made (Some f) c e = keeps-none

  keeps-settled : (c : Result Change Fault) → KeepsMarked marks s (settled marks s r c).words
  keeps-settled (Err f) = keeps-none
  keeps-settled (Ok c) = keeps-made (write_fault marks s c.writes) c refl

  keeps-effected : (i : Instr) → KeepsMarked marks s (effected marks s r i).words
  unfolding effected
  keeps-effected i =
      let c : Result Change Fault = change_of i.effect s (record r { pc = add r.pc i.length }) i.operand i.target r.pc in
      keeps-either (is_call i.effect) (after Call s r) (settled marks s r c) keeps-none (keeps-settled c)

  keeps-decided : (d : Result Instr DecodeEnd) → KeepsMarked marks s (decided marks s r d).words
  keeps-decided (Err e) = keeps-none
  keeps-decided (Ok i) = keeps-effected i

  pub keeps-marked : KeepsMarked marks s (instruction marks s r).words
  keeps-marked = keeps-either (eqb r.pc 0) (after Returned s r) (decided marks s r (decoded (byte_at s) r.pc)) keeps-none (keeps-decided (decoded (byte_at s) r.pc))
