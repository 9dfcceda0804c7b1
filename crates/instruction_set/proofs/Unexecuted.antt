-- An instruction that was not executed leaves the words and the registers.
use Rattle.std.proofs.Common.{◌≡◌, ◌⊎◌, inl, inr, ℕ, List, Bool, true, false, Option, Some, None, Result, Ok, Err, cond, eqb, refl}
use Rattle.word_store.specs.Arithmetic.{add}
use Rattle.word_store.specs.Bytes.{byte_at}
use Rattle.word_store.specs.declared.registers.Regs.{Regs}
use Rattle.instruction_set.specs.OperandForms.Decoded.{decoded}
use Rattle.instruction_set.specs.declared.operand_forms.instructions.DecodeEnd.{DecodeEnd}
use Rattle.instruction_set.specs.declared.operand_forms.instructions.Instr.{Instr}
use Rattle.instruction_set.specs.Change.{Change}
use Rattle.instruction_set.specs.Effect.{change_of}
use Rattle.instruction_set.specs.Instruction.{After, after, decided, effected, instruction, is_call, made, settled, write_fault}
use Rattle.instruction_set.specs.declared.Fault.{Fault}
use Rattle.instruction_set.specs.declared.Outcome.{Outcome}
use Rattle.instruction_set.specs.declared.Outcome.TheVariants.{Next, Sys, Returned, Fault as Faulted}

-- words and registers are as they were, unless it was executed
pub record StaysOrRuns (s : List ℕ) (r : Regs) (x : After) : Type 0 where
  pub stays : (x.outcome ≡ Next → ⊥) → (x.words ≡ s) × (x.regs ≡ r)

module _ (marks : ℕ → Bool) (s : List ℕ) (r : Regs) where
  stays-as : (o : Outcome) → StaysOrRuns s r (after o s r)
  stays-as o = record { stays = λ other. (refl, refl) }

  stays-either : (b : Bool) (x y : After) → StaysOrRuns s r x → StaysOrRuns s r y → StaysOrRuns s r (cond b x y)
  stays-either true x y h k = h
  stays-either false x y h k = k

  stays-made : (f : Option Fault) (c : Change) → StaysOrRuns s r (made f s r c)
  stays-made None c = record { stays = λ other. absurd (other refl) }
  stays-made (Some f) c = stays-as (Faulted f)

  stays-settled : (c : Result Change Fault) → StaysOrRuns s r (settled marks s r c)
  stays-settled (Err f) = stays-as (Faulted f)
  stays-settled (Ok c) = stays-made (write_fault marks s c.writes) c

  stays-effected : (i : Instr) → StaysOrRuns s r (effected marks s r i)
  unfolding effected
  stays-effected i =
      let c : Result Change Fault = change_of i.effect s (record r { pc = add r.pc i.length }) i.operand i.target r.pc in
      stays-either (is_call i.effect) (after Sys s r) (settled marks s r c) (stays-as Sys) (stays-settled c)

  pub stays-decided : (d : Result Instr DecodeEnd) → StaysOrRuns s r (decided marks s r d)
  stays-decided (Err e) = stays-as _
  stays-decided (Ok i) = stays-effected i

  pub stays-instruction : StaysOrRuns s r (instruction marks s r)
  stays-instruction = stays-either (eqb r.pc 0) (after Returned s r) (decided marks s r (decoded (byte_at s) r.pc)) (stays-as Returned) (stays-decided (decoded (byte_at s) r.pc))

-- an outcome that is another one
pub not-next : (o : Outcome) → (o ≡ Sys) ⊎ (o ≡ Returned) ⊎ ((f : Fault) × (o ≡ Faulted f)) → o ≡ Next → ⊥
not-next o (inl e) next = cc
not-next o (inr (inl e)) next = cc
not-next o (inr (inr (f, e))) next = cc
