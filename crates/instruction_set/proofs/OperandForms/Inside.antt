-- What is decoded lies in the code.
use Rattle.std.proofs.Common.{◌≡◌, ℕ, ◌+◌, ◌^◌, ◌<◌, ◌≤◌, Some, None, Option, [], ◌∷◌, Result, Ok, Err, refl, subst, arith}
use Rattle.std.specs.Int.{w16, w32, from_le_bytes}
use Rattle.std.specs.Option.{ok_or}
use Rattle.word_store.specs.Arithmetic.{add}
use Rattle.instruction_set.specs.declared.instruction_table.forms.Form.{Form}
use Rattle.instruction_set.specs.declared.instruction_table.forms.Form.TheVariants.{Plain, Byte, BytePlus, Half, Word, Relative, Indirect, Switch}
use Rattle.instruction_set.specs.InstructionTable.Table.{Entry, entry}
use Rattle.instruction_set.specs.OperandForms.Decoded.{byte_or_outside, decoded, half_at, halfword_offset, halfword_place, number_operand, operand_at, target_operand, word_at}
use Rattle.instruction_set.specs.OperandForms.Steps.{◌>>=◌}
use Rattle.instruction_set.specs.declared.operand_forms.fetch.Operand.{Operand}
use Rattle.instruction_set.specs.declared.operand_forms.instructions.DecodeEnd.{DecodeEnd}
use Rattle.instruction_set.specs.declared.operand_forms.instructions.DecodeEnd.TheVariants.{Outside, Undefined}
use Rattle.instruction_set.specs.declared.operand_forms.instructions.Instr.{Instr}

pub first_ok : {A B E : Type 0} (x : Result A E) (f : A → Result B E) (y : B) → (x >>= f) ≡ Ok y → (v : A) × (x ≡ Ok v) × (f v ≡ Ok y)
first_ok (Ok v) f y h = (v, refl, h)
first_ok (Err e) f y h = absurd (cc)

pub some_from : {A E : Type 0} (o : Option A) (e : E) (v : A) → ok_or o e ≡ Ok v → o ≡ Some v
some_from (Some x) e v h = cc
some_from None e v h = absurd (cc)

-- code whose bytes end before the last addresses
module _ (code : ℕ → Option ℕ) (end : ℕ) (ends : (a b : ℕ) → code a ≡ Some b → a < end) (short : end + 4 ≤ 2 ^ 32) where
  byte_inside : (a b : ℕ) → byte_or_outside code a ≡ Ok b → a < end
  byte_inside a b h = ends a b (some_from (code a) (Outside a) b h)

  word_inside : (a n : ℕ) → word_at code a ≡ Ok n → add a 3 < end
  word_inside a n h =
      let last : ℕ → ℕ → ℕ → Result ℕ DecodeEnd = λ x y z. byte_or_outside code (add a 3) >>= λ w. Ok (from_le_bytes w32 (x ∷ y ∷ z ∷ w ∷ [])) in
      let third : ℕ → ℕ → Result ℕ DecodeEnd = λ x y. byte_or_outside code (add a 2) >>= last x y in
      let second : ℕ → Result ℕ DecodeEnd = λ x. byte_or_outside code (add a 1) >>= third x in
      let b0 = first_ok (byte_or_outside code a) second n h in
      let b1 = first_ok (byte_or_outside code (add a 1)) (third b0.0) n b0.2 in
      let b2 = first_ok (byte_or_outside code (add a 2)) (last b0.0 b1.0) n b1.2 in
      let b3 = first_ok (byte_or_outside code (add a 3)) (λ w. Ok (from_le_bytes w32 (b0.0 ∷ b1.0 ∷ b2.0 ∷ w ∷ []))) n b2.2 in
      byte_inside (add a 3) b3.0 b3.1

  operand_inside : (a : ℕ) (form : Form) (o : Operand) → a < end → operand_at code a form ≡ Ok o → (1 ≤ o.length) × (a + o.length ≤ end)
  operand_inside a (Plain k) o lt h = let e : 1 ≡ o.length = cc in (omega arith, omega arith)
  operand_inside a Byte o lt h =
      let p = first_ok _ _ o h in let at = byte_inside (add a 1) p.0 p.1 in
      let e : 2 ≡ o.length = let q = p.2 in cc in (omega arith, omega arith)
  operand_inside a BytePlus o lt h =
      let p = first_ok _ _ o h in let at = byte_inside (add a 1) p.0 p.1 in
      let e : 2 ≡ o.length = let q = p.2 in cc in (omega arith, omega arith)
  operand_inside a Half o lt h =
      let p = first_ok (half_at code (add a 1)) (λ n. Ok (number_operand n 3)) o h in
      let low = first_ok (byte_or_outside code (add a 1)) (λ low. byte_or_outside code (add (add a 1) 1) >>= λ high. Ok (from_le_bytes w16 (low ∷ high ∷ []))) p.0 p.1 in
      let high = first_ok (byte_or_outside code (add (add a 1) 1)) (λ high. Ok (from_le_bytes w16 (low.0 ∷ high ∷ []))) p.0 low.2 in
      let at = byte_inside (add (add a 1) 1) high.0 high.1 in
      let made = p.2 in
      let e : 3 ≡ o.length = cc in (omega arith, omega arith)
  operand_inside a Word o lt h =
      let p = first_ok (word_at code (add a 1)) (λ n. Ok (number_operand n 5)) o h in
      let at = word_inside (add a 1) p.0 p.1 in
      let made = p.2 in
      let e : 5 ≡ o.length = cc in (omega arith, omega arith)
  operand_inside a Relative o lt h =
      let p = first_ok _ _ o h in let at = byte_inside (add a 1) p.0 p.1 in
      let e : 2 ≡ o.length = let q = p.2 in cc in (omega arith, omega arith)
  operand_inside a Indirect o lt h =
      let p = first_ok _ _ o h in let at = byte_inside (add a 1) p.0 p.1 in
      let q = first_ok (halfword_offset code (halfword_place a p.0)) (λ offset. Ok (target_operand (add (halfword_place a p.0) offset))) o p.2 in
      let made = q.2 in
      let e : 2 ≡ o.length = cc in (omega arith, omega arith)
  operand_inside a Switch o lt h = let e : 1 ≡ o.length = cc in (omega arith, omega arith)

  pub decoded_inside : (a : ℕ) (i : Instr) → a < end → decoded code a ≡ Ok i → (1 ≤ i.length) × (a + i.length ≤ end)
  decoded_inside a i lt h =
      let instruction : ℕ → Entry → Operand → Instr = λ byte row o. record { byte = byte; effect = row.effect; operand = o.number; length = o.length; target = o.target } in
      let with_row : ℕ → Entry → Result Instr DecodeEnd = λ byte row. operand_at code a row.form >>= λ o. Ok (instruction byte row o) in
      let with_byte : ℕ → Result Instr DecodeEnd = λ byte. ok_or (entry byte) (Undefined a) >>= with_row byte in
      let byte = first_ok (byte_or_outside code a) with_byte i h in
      let row = first_ok (ok_or (entry byte.0) (Undefined a)) (with_row byte.0) i byte.2 in
      let operand = first_ok (operand_at code a row.0.form) (λ o. Ok (instruction byte.0 row.0 o)) i row.2 in
      let made = operand.2 in
      let same : operand.0.length ≡ i.length = cc in
      subst (λ (n : ℕ). (1 ≤ n) × (a + n ≤ end)) same (operand_inside a row.0.form operand.0 lt operand.1)
