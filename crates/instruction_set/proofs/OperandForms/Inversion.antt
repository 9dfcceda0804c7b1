-- What is decoded with a number or a relative target is in the code.
use Rattle.std.proofs.Common.{◌≡◌, ◌∙◌, ap, sym, subst, ℕ, ◌+◌, ◌*◌, ◌/◌, ◌%◌, ◌^◌, ◌<◌, ◌≤◌, Some, Option, List, [], ◌∷◌, Result, Ok, refl, arith}
use Rattle.std.specs.Int.{w16, w32, from_le_bytes}
use Rattle.std.specs.Option.{ok_or}
use Rattle.word_store.specs.Arithmetic.{add}
use Rattle.instruction_set.specs.InstructionTable.Operand.{HasRoom, operand_bytes, operand_size}
use Rattle.instruction_set.specs.InstructionTable.Table.{Entry, entry}
use Rattle.instruction_set.specs.declared.instruction_table.forms.Form.{Form}
use Rattle.instruction_set.specs.declared.instruction_table.forms.Form.TheVariants.{Plain, Byte, BytePlus, Half, Word, Relative, Indirect, Switch}
use Rattle.instruction_set.specs.OperandForms.Decoded.{byte_or_outside, decoded, half_at, number_operand, operand_at, target_operand, word_at}
use Rattle.instruction_set.specs.OperandForms.Offset.{byte_offset}
use Rattle.instruction_set.specs.OperandForms.BytesAt.{HasBytesAt}
use Rattle.instruction_set.specs.OperandForms.Steps.{◌>>=◌}
use Rattle.instruction_set.specs.declared.operand_forms.fetch.Operand.{Operand}
use Rattle.instruction_set.specs.declared.operand_forms.instructions.DecodeEnd.{DecodeEnd}
use Rattle.instruction_set.specs.declared.operand_forms.instructions.DecodeEnd.TheVariants.{Outside, Undefined}
use Rattle.instruction_set.specs.declared.operand_forms.instructions.Instr.{Instr}
use Rattle.instruction_set.proofs.OperandForms.Encoding.{add_add}
use Rattle.instruction_set.proofs.OperandForms.Inside.{first_ok, some_from}

-- the row and the operand that an instruction was decoded from
pub record IsDecoded (code : ℕ → Option ℕ) (pc : ℕ) (i : Instr) : Type 0 where
  pub row : Entry
  pub operand : Operand
  pub byte_found : code pc ≡ Some i.byte
  pub has_row : entry i.byte ≡ Some row
  pub reads : operand_at code pc row.form ≡ Ok operand
  pub number : i.operand ≡ operand.number
  pub length : i.length ≡ operand.length
  pub target : i.target ≡ operand.target

pub parts_of : (code : ℕ → Option ℕ) (pc : ℕ) (i : Instr) → decoded code pc ≡ Ok i → IsDecoded code pc i
parts_of code pc i h =
    let instruction : ℕ → Entry → Operand → Instr = λ byte row o. record { byte = byte; effect = row.effect; operand = o.number; length = o.length; target = o.target } in
    let with_row : ℕ → Entry → Result Instr DecodeEnd = λ byte row. operand_at code pc row.form >>= λ o. Ok (instruction byte row o) in
    let with_byte : ℕ → Result Instr DecodeEnd = λ byte. ok_or (entry byte) (Undefined pc) >>= with_row byte in
    let byte = first_ok (byte_or_outside code pc) with_byte i h in
    let row = first_ok (ok_or (entry byte.0) (Undefined pc)) (with_row byte.0) i byte.2 in
    let operand = first_ok (operand_at code pc row.0.form) (λ o. Ok (instruction byte.0 row.0 o)) i row.2 in
    let made = operand.2 in
    let same : byte.0 ≡ i.byte = cc in
    record {
      row = row.0;
      operand = operand.0;
      byte_found = some_from (code pc) (Outside pc) byte.0 byte.1 ∙ ap Some same;
      has_row = ap entry (sym same) ∙ some_from (entry byte.0) (Undefined pc) row.0 row.1;
      reads = operand.1;
      number = let n : operand.0.number ≡ i.operand = cc in sym n;
      length = let n : operand.0.length ≡ i.length = cc in sym n;
      target = let n : operand.0.target ≡ i.target = cc in sym n;
    }

-- code of bytes
module _ (code : ℕ → Option ℕ) (are_bytes : (a b : ℕ) → code a ≡ Some b → b < 256) where
  byte_read : (a b : ℕ) → byte_or_outside code a ≡ Ok b → (code a ≡ Some b) × (b < 256)
  byte_read a b h = let s = some_from (code a) (Outside a) b h in (s, are_bytes a b s)

  half_read : (a n : ℕ) → half_at code a ≡ Ok n → (n < 2 ^ 16) × (code a ≡ Some (n % 256)) × (code (add a 1) ≡ Some (n / 256 % 256))
  half_read a n h =
      let low = first_ok (byte_or_outside code a) (λ low. byte_or_outside code (add a 1) >>= λ high. Ok (from_le_bytes w16 (low ∷ high ∷ []))) n h in
      let high = first_ok (byte_or_outside code (add a 1)) (λ high. Ok (from_le_bytes w16 (low.0 ∷ high ∷ []))) n low.2 in
      let b0 = byte_read a low.0 low.1 in
      let b1 = byte_read (add a 1) high.0 high.1 in
      let made = high.2 in
      let value : from_le_bytes w16 (low.0 ∷ high.0 ∷ []) ≡ n = cc in
      let e0 : n % 256 ≡ low.0 = omega arith in
      let e1 : n / 256 % 256 ≡ high.0 = omega arith in
      (omega arith, rw e0 b0.0, rw e1 b1.0)

  pub record IsWordAt (a n : ℕ) : Type 0 where
    pub below : n < 2 ^ 32
    pub b0 : code a ≡ Some (n % 256)
    pub b1 : code (add a 1) ≡ Some (n / 256 % 256)
    pub b2 : code (add a 2) ≡ Some (n / 65536 % 256)
    pub b3 : code (add a 3) ≡ Some (n / 16777216 % 256)

  word_read : (a n : ℕ) → word_at code a ≡ Ok n → IsWordAt a n
  word_read a n h =
      let last : ℕ → ℕ → ℕ → Result ℕ DecodeEnd = λ x y z. byte_or_outside code (add a 3) >>= λ w. Ok (from_le_bytes w32 (x ∷ y ∷ z ∷ w ∷ [])) in
      let third : ℕ → ℕ → Result ℕ DecodeEnd = λ x y. byte_or_outside code (add a 2) >>= last x y in
      let second : ℕ → Result ℕ DecodeEnd = λ x. byte_or_outside code (add a 1) >>= third x in
      let p0 = first_ok (byte_or_outside code a) second n h in
      let p1 = first_ok (byte_or_outside code (add a 1)) (third p0.0) n p0.2 in
      let p2 = first_ok (byte_or_outside code (add a 2)) (last p0.0 p1.0) n p1.2 in
      let p3 = first_ok (byte_or_outside code (add a 3)) (λ w. Ok (from_le_bytes w32 (p0.0 ∷ p1.0 ∷ p2.0 ∷ w ∷ []))) n p2.2 in
      let b0 = byte_read a p0.0 p0.1 in
      let b1 = byte_read (add a 1) p1.0 p1.1 in
      let b2 = byte_read (add a 2) p2.0 p2.1 in
      let b3 = byte_read (add a 3) p3.0 p3.1 in
      let made = p3.2 in
      let value : from_le_bytes w32 (p0.0 ∷ p1.0 ∷ p2.0 ∷ p3.0 ∷ []) ≡ n = cc in
      let e0 : n % 256 ≡ p0.0 = omega arith in
      let e1 : n / 256 % 256 ≡ p1.0 = omega arith in
      let e2 : n / 65536 % 256 ≡ p2.0 = omega arith in
      let e3 : n / 16777216 % 256 ≡ p3.0 = omega arith in
      record { below = omega arith; b0 = rw e0 b0.0; b1 = rw e1 b1.0; b2 = rw e2 b2.0; b3 = rw e3 b3.0 }

  -- an operand that is a number
  pub record IsNumberAt (pc : ℕ) (form : Form) (o : Operand) : Type 0 where
    pub room : HasRoom form o.number
    pub found : HasBytesAt code (add pc 1) (operand_bytes form o.number)
    pub length : o.length ≡ 1 + operand_size form

  number_found : (pc : ℕ) (form : Form) (o : Operand) → (form ≡ Relative → ⊥) → (form ≡ Indirect → ⊥) → operand_at code pc form ≡ Ok o → IsNumberAt pc form o
  number_found pc (Plain k) o r i h =
      let n : k ≡ o.number = cc in let l : 1 ≡ o.length = cc in
      record { room = sym n; found = tt; length = sym l }
  number_found pc Byte o r i h =
      let p = first_ok (byte_or_outside code (add pc 1)) (λ n. Ok (number_operand n 2)) o h in
      let b = byte_read (add pc 1) p.0 p.1 in
      let made = p.2 in
      let n : p.0 ≡ o.number = cc in let l : 2 ≡ o.length = cc in
      let low : o.number % 256 ≡ p.0 = omega arith in
      record { room = omega arith; found = (rw low b.0, tt); length = sym l }
  number_found pc BytePlus o r i h =
      let p = first_ok (byte_or_outside code (add pc 1)) (λ n. Ok (number_operand (n + 256) 2)) o h in
      let b = byte_read (add pc 1) p.0 p.1 in
      let made = p.2 in
      let n : p.0 + 256 ≡ o.number = cc in let l : 2 ≡ o.length = cc in
      let low : o.number % 256 ≡ p.0 = omega arith in
      record { room = (omega arith, omega arith); found = (rw low b.0, tt); length = sym l }
  number_found pc Half o r i h =
      let p = first_ok (half_at code (add pc 1)) (λ n. Ok (number_operand n 3)) o h in
      let made = p.2 in
      let n : p.0 ≡ o.number = cc in let l : 3 ≡ o.length = cc in
      let s = half_read (add pc 1) o.number (p.1 ∙ ap Ok n) in
      record { room = s.0; found = (s.1, (s.2, tt)); length = sym l }
  number_found pc Word o r i h =
      let p = first_ok (word_at code (add pc 1)) (λ n. Ok (number_operand n 5)) o h in
      let made = p.2 in
      let n : p.0 ≡ o.number = cc in let l : 5 ≡ o.length = cc in
      let s = word_read (add pc 1) o.number (p.1 ∙ ap Ok n) in
      let third = ap code (add_add (add pc 1) 1) ∙ s.b2 in
      let fourth = ap code (ap (λ b. add b 1) (add_add (add pc 1) 1) ∙ add_add (add pc 1) 2) ∙ s.b3 in
      record { room = s.below; found = (s.b0, (s.b1, (third, (fourth, tt)))); length = sym l }
  number_found pc Relative o r i h = absurd (r refl)
  number_found pc Indirect o r i h = absurd (i refl)
  number_found pc Switch o r i h =
      let n : 0 ≡ o.number = cc in let l : 1 ≡ o.length = cc in
      record { room = sym n; found = tt; length = sym l }

  -- a relative target
  pub record IsRelativeAt (pc : ℕ) (o : Operand) : Type 0 where
    pub byte : ℕ
    pub below : byte < 256
    pub found : code (add pc 1) ≡ Some byte
    pub target : o.target ≡ add (add pc 1) (byte_offset byte)
    pub length : o.length ≡ 2

  relative_found : (pc : ℕ) (o : Operand) → operand_at code pc Relative ≡ Ok o → IsRelativeAt pc o
  relative_found pc o h =
      let p = first_ok (byte_or_outside code (add pc 1)) (λ b. Ok (target_operand (add (add pc 1) (byte_offset b)))) o h in
      let b = byte_read (add pc 1) p.0 p.1 in
      let made = p.2 in
      let t : add (add pc 1) (byte_offset p.0) ≡ o.target = cc in
      let l : 2 ≡ o.length = cc in
      record { byte = p.0; below = b.1; found = b.0; target = sym t; length = sym l }

  -- ---- of instructions

  pub number_back : (pc : ℕ) (i : Instr) (row : Entry) → decoded code pc ≡ Ok i → entry i.byte ≡ Some row → (row.form ≡ Relative → ⊥) → (row.form ≡ Indirect → ⊥)
      → HasRoom row.form i.operand × HasBytesAt code pc (i.byte ∷ operand_bytes row.form i.operand) × (i.length ≡ 1 + operand_size row.form)
  number_back pc i row h e r x =
      let d = parts_of code pc i h in
      let has = d.has_row in
      let same : d.row ≡ row = cc in
      let reads : operand_at code pc row.form ≡ Ok d.operand = ap (λ (s : Entry). operand_at code pc s.form) (sym same) ∙ d.reads in
      let n = number_found pc row.form d.operand r x reads in (
        subst (HasRoom row.form) (sym d.number) n.room,
        (d.byte_found, subst (λ (m : ℕ). HasBytesAt code (add pc 1) (operand_bytes row.form m)) (sym d.number) n.found),
        d.length ∙ n.length,
      )

  pub relative_back : (pc : ℕ) (i : Instr) (row : Entry) → decoded code pc ≡ Ok i → entry i.byte ≡ Some row → row.form ≡ Relative
      → (b : ℕ) × (b < 256) × HasBytesAt code pc (i.byte ∷ b ∷ []) × (i.target ≡ add (add pc 1) (byte_offset b)) × (i.length ≡ 2)
  relative_back pc i row h e f =
      let d = parts_of code pc i h in
      let has = d.has_row in
      let same : d.row ≡ row = cc in
      let reads : operand_at code pc Relative ≡ Ok d.operand = ap (operand_at code pc) (sym (ap (λ (s : Entry). s.form) same ∙ f)) ∙ d.reads in
      let s = relative_found pc d.operand reads in
      (s.byte, s.below, (d.byte_found, (s.found, tt)), d.target ∙ s.target, d.length ∙ s.length)
