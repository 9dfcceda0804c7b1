-- What the next instruction writes is what it leaves in the words.
use Rattle.std.proofs.Common.{◌≡◌, ◌≢◌, refl, sym, subst, ℕ, ◌==◌, Bool, true, false, cond, List, [], ◌∷◌, Option, Some, None, Result, Ok, Err, map}
use Rattle.word_store.specs.Arithmetic.{add}
use Rattle.word_store.specs.Bytes.{byte_at}
use Rattle.word_store.specs.declared.registers.Regs.{Regs}
use Rattle.instruction_set.specs.declared.instruction_table.effects.Effect.{Effect}
use Rattle.instruction_set.specs.declared.instruction_table.effects.Effect.TheVariants.{StoreP, StoreG, StoreG0, StorePk, StoreTarget, St, StP, Pbyt, Xpbyt, Call, CallG}
use Rattle.instruction_set.specs.OperandForms.Decoded.{decoded}
use Rattle.instruction_set.specs.declared.operand_forms.instructions.DecodeEnd.{DecodeEnd}
use Rattle.instruction_set.specs.declared.operand_forms.instructions.Instr.{Instr}
use Rattle.instruction_set.specs.declared.Fault.{Fault}
use Rattle.instruction_set.specs.declared.Outcome.TheVariants.{Sys, Returned}
use Rattle.instruction_set.specs.declared.places.Places.{Places}
use Rattle.instruction_set.specs.declared.places.Places.TheVariants.{Nowhere}
use Rattle.instruction_set.specs.Change.{Change}
use Rattle.instruction_set.specs.Effect.{change_of}
use Rattle.instruction_set.specs.Instruction.{After, after, decided, effected, instruction, is_call, made, settled, write_fault, written}
use Rattle.instruction_set.specs.NextWrites.{decoded_writes, effect_writes, next_writes, unless_fault, writes_made}
use Rattle.instruction_set.specs.Places.{addresses, places_by}
use Rattle.instruction_set.proofs.PlacesWritten.{WritesAt, address_of, change_of-writes}

-- every effect but these eleven writes at no place
module _ (words : List ℕ) (r : Regs) (n t : ℕ) where
  pub no-place : (effect : Effect) → effect ≢ StoreP → effect ≢ StoreG → effect ≢ StoreG0 → ((k : ℕ) → effect ≢ StorePk k) → effect ≢ StoreTarget → effect ≢ St → effect ≢ StP
      → effect ≢ Pbyt → effect ≢ Xpbyt → effect ≢ Call → ((k : ℕ) → effect ≢ CallG k) → places_by effect words r n t ≡ Nowhere
  no-place StoreP a b c d e f g h i j k = absurd (a refl)
  no-place StoreG a b c d e f g h i j k = absurd (b refl)
  no-place StoreG0 a b c d e f g h i j k = absurd (c refl)
  no-place (StorePk m) a b c d e f g h i j k = absurd (d m refl)
  no-place StoreTarget a b c d e f g h i j k = absurd (e refl)
  no-place St a b c d e f g h i j k = absurd (f refl)
  no-place StP a b c d e f g h i j k = absurd (g refl)
  no-place Pbyt a b c d e f g h i j k = absurd (h refl)
  no-place Xpbyt a b c d e f g h i j k = absurd (i refl)
  no-place Call a b c d e f g h i j k = absurd (j refl)
  no-place (CallG m) a b c d e f g h i j k = absurd (k m refl)
  no-place _ a b c d e f g h i j k = refl

module _ (marks : ℕ → Bool) (words : List ℕ) where
  -- ---- an effect that writes at no place writes nothing

  none-written : (ws : List (ℕ × ℕ)) → map address_of ws ≡ [] → unless_fault (write_fault marks words ws) ws ≡ []
  none-written [] is = refl
  none-written (w ∷ ws) is = cc is

  none-made : (o : Result Change Fault) → WritesAt [] o → writes_made marks words o ≡ []
  none-made (Ok change) is = none-written change.writes is
  none-made (Err f) is = refl

  either-none : (b : Bool) (ws : List (ℕ × ℕ)) → ws ≡ [] → cond b [] ws ≡ []
  either-none true ws is = refl
  either-none false ws is = is

  pub nowhere-none : (r : Regs) (i : Instr) → places_by i.effect words r i.operand i.target ≡ Nowhere → effect_writes marks words r i ≡ []
  unfolding effect_writes
  nowhere-none r i is =
      let o : Result Change Fault = change_of i.effect words (record r { pc = add r.pc i.length }) i.operand i.target r.pc in
      either-none (is_call i.effect) (writes_made marks words o)
      (none-made o (subst (λ p. WritesAt (addresses p) o) is (change_of-writes words r (add r.pc i.length) i.effect i.operand i.target r.pc)))

  -- ---- the words after an instruction

  module _ (r : Regs) where
    leaves-made : (f : Option Fault) (change : Change) → written words (unless_fault f change.writes) ≡ (made f words r change).words
    leaves-made None change = refl
    leaves-made (Some f) change = refl

    leaves-settled : (o : Result Change Fault) → written words (writes_made marks words o) ≡ (settled marks words r o).words
    leaves-settled (Ok change) = leaves-made (write_fault marks words change.writes) change
    leaves-settled (Err f) = refl

    leaves-either : (b : Bool) (ws : List (ℕ × ℕ)) (x y : After) → x.words ≡ words → written words ws ≡ y.words → written words (cond b [] ws) ≡ (cond b x y).words
    leaves-either true ws x y same is = sym same
    leaves-either false ws x y same is = is

    leaves-effected : (i : Instr) → written words (effect_writes marks words r i) ≡ (effected marks words r i).words
    unfolding effect_writes effected
    leaves-effected i =
        let o : Result Change Fault = change_of i.effect words (record r { pc = add r.pc i.length }) i.operand i.target r.pc in
        leaves-either (is_call i.effect) (writes_made marks words o) (after Sys words r) (settled marks words r o) refl (leaves-settled o)

    leaves-decided : (d : Result Instr DecodeEnd) → written words (decoded_writes marks words r d) ≡ (decided marks words r d).words
    leaves-decided (Ok i) = leaves-effected i
    leaves-decided (Err end) = refl

    pub leaves-written : written words (next_writes marks words r) ≡ (instruction marks words r).words
    leaves-written =
        let d : Result Instr DecodeEnd = decoded (byte_at words) r.pc in
        leaves-either (r.pc == 0) (decoded_writes marks words r d) (after Returned words r) (decided marks words r d) refl (leaves-decided d)
