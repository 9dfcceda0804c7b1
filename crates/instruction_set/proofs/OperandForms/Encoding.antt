-- What is decoded is what was written.
use Rattle.std.proofs.Common.{◌≡◌, ◌∙◌, refl, sym, ap, ℕ, ℤ, ◌+◌, ◌%◌, ◌^◌, ◌<◌, [], ◌∷◌, length, Option, Some, Ok, FitsSigned, arith}
use Rattle.std.specs.Int.{w8, w16, w32, cast_signed, cast_unsigned, to_le_bytes}
use Rattle.std.proofs.Math.Facts.{Fits-lt-pow, Fits-of_z}
use Rattle.std.proofs.Math.Nat.{mod-add-mod}
use Rattle.std.proofs.lemmas.Int.{to_z-of_z}
use Rattle.std.proofs.lemmas.Nat.{from_le_bytes-to_le_bytes_2, from_le_bytes-to_le_bytes_4}
use Rattle.word_store.specs.Arithmetic.{add, word_of}
use Rattle.instruction_set.specs.declared.instruction_table.forms.Form.{Form}
use Rattle.instruction_set.specs.declared.instruction_table.forms.Form.TheVariants.{Plain, Byte, BytePlus, Half, Word, Relative, Indirect, Switch}
use Rattle.instruction_set.specs.InstructionTable.Operand.{HasRoom, operand_bytes}
use Rattle.instruction_set.specs.InstructionTable.Table.{Entry, entry}
use Rattle.instruction_set.specs.declared.operand_forms.fetch.Operand.{Operand}
use Rattle.instruction_set.specs.OperandForms.Decoded.{decoded, halfword_offset, halfword_place, half_at, number_operand, operand_at, target_operand, word_at}
use Rattle.instruction_set.specs.OperandForms.BytesAt.{HasBytesAt, with_number, with_target}

-- one address on from k addresses on
pub add_add : (a k : ℕ) → add (add a k) 1 ≡ add a (k + 1)
add_add a k = mod-add-mod (a + k) (2 ^ 32) 1 ∙ ap (λ n. n % 2 ^ 32) (omega arith)

-- bytes that are in the code are read
half_of_bytes : (code : ℕ → Option ℕ) (a n : ℕ) → n < 2 ^ 16 → HasBytesAt code a (to_le_bytes w16 n) → half_at code a ≡ Ok n
half_of_bytes code a n lt s = rw (s.0, s.1.0) (ap Ok (from_le_bytes-to_le_bytes_2 n lt))

word_of_bytes : (code : ℕ → Option ℕ) (a n : ℕ) → n < 2 ^ 32 → HasBytesAt code a (to_le_bytes w32 n) → word_at code a ≡ Ok n
word_of_bytes code a n lt s =
    let third = ap code (sym (add_add a 1)) ∙ s.1.1.0 in
    let fourth = ap code (sym (ap (λ b. add b 1) (add_add a 1) ∙ add_add a 2)) ∙ s.1.1.1.0 in
    rw (s.0, s.1.0, third, fourth) (ap Ok (from_le_bytes-to_le_bytes_4 n lt))

offset_of_bytes : (code : ℕ → Option ℕ) (a : ℕ) (z : ℤ) → FitsSigned w16 z → HasBytesAt code a (to_le_bytes w16 (cast_unsigned w16 z)) → halfword_offset code a ≡ Ok (word_of z)
offset_of_bytes code a z fits s =
    rw (s.0, s.1.0) (ap (λ h. Ok (word_of (cast_signed w16 h))) (from_le_bytes-to_le_bytes_2 (cast_unsigned w16 z) (Fits-lt-pow (Fits-of_z fits))) ∙ ap (λ y. Ok (word_of y)) (to_z-of_z w16 z fits))

-- so is an operand, by its form
number_of_bytes : (code : ℕ → Option ℕ) (pc n : ℕ) (form : Form) → HasRoom form n → HasBytesAt code (add pc 1) (operand_bytes form n) → operand_at code pc form ≡ Ok (number_operand n (1 + length (operand_bytes form n)))
number_of_bytes code pc n (Plain k) h s = rw h refl
number_of_bytes code pc n Byte h s = let e : n % 256 ≡ n = omega arith in rw (s.0, e) refl
number_of_bytes code pc n BytePlus h s = let e : n % 256 + 256 ≡ n = omega arith in rw (s.0, e) refl
number_of_bytes code pc n Half h s = rw (half_of_bytes code (add pc 1) n h s) refl
number_of_bytes code pc n Word h s = rw (word_of_bytes code (add pc 1) n h s) refl
number_of_bytes code pc n Relative h s = absurd h
number_of_bytes code pc n Indirect h s = absurd h
number_of_bytes code pc n Switch h s = rw h refl

relative_of_bytes : (code : ℕ → Option ℕ) (pc : ℕ) (z : ℤ) → FitsSigned w8 z → HasBytesAt code (add pc 1) (cast_unsigned w8 z ∷ []) → operand_at code pc Relative ≡ Ok (target_operand (add (add pc 1) (word_of z)))
relative_of_bytes code pc z fits s = rw s.0 (ap (λ y. Ok (target_operand (add (add pc 1) (word_of y)))) (to_z-of_z w8 z fits))

indirect_of_bytes : (code : ℕ → Option ℕ) (pc b : ℕ) (z : ℤ) → FitsSigned w16 z → HasBytesAt code (add pc 1) (b ∷ []) → HasBytesAt code (halfword_place pc b) (to_le_bytes w16 (cast_unsigned w16 z)) → operand_at code pc Indirect ≡ Ok (target_operand (add (halfword_place pc b) (word_of z)))
indirect_of_bytes code pc b z fits s t = rw (s.0, offset_of_bytes code (halfword_place pc b) z fits t) refl

-- what a form reads is what is decoded
decoded_of : (code : ℕ → Option ℕ) (pc byte : ℕ) (row : Entry) (form : Form) (operand : Operand) → code pc ≡ Some byte → entry byte ≡ Some row → row.form ≡ form → operand_at code pc form ≡ Ok operand → decoded code pc ≡ Ok (record { byte = byte; effect = row.effect; operand = operand.number; length = operand.length; target = operand.target })
decoded_of code pc byte row form operand c e f o = rw (c, e, f, o) refl

-- each clause of the law
pub number_decoded : (code : ℕ → Option ℕ) (pc byte n : ℕ) (row : Entry) → entry byte ≡ Some row → HasRoom row.form n → HasBytesAt code pc (byte ∷ operand_bytes row.form n) → decoded code pc ≡ Ok (with_number byte row n)
number_decoded code pc byte n row e h s = decoded_of code pc byte row row.form _ s.0 e refl (number_of_bytes code pc n row.form h s.1)

pub relative_decoded : (code : ℕ → Option ℕ) (pc byte : ℕ) (z : ℤ) (row : Entry) → entry byte ≡ Some row → row.form ≡ Relative → FitsSigned w8 z → HasBytesAt code pc (byte ∷ cast_unsigned w8 z ∷ []) → decoded code pc ≡ Ok (with_target byte row (add (add pc 1) (word_of z)))
relative_decoded code pc byte z row e f fits s = decoded_of code pc byte row Relative _ s.0 e f (relative_of_bytes code pc z fits s.1)

pub indirect_decoded : (code : ℕ → Option ℕ) (pc byte b : ℕ) (z : ℤ) (row : Entry) → entry byte ≡ Some row → row.form ≡ Indirect → FitsSigned w16 z → HasBytesAt code pc (byte ∷ b ∷ []) → HasBytesAt code (halfword_place pc b) (to_le_bytes w16 (cast_unsigned w16 z)) → decoded code pc ≡ Ok (with_target byte row (add (halfword_place pc b) (word_of z)))
indirect_decoded code pc byte b z row e f fits s t = decoded_of code pc byte row Indirect _ s.0 e f (indirect_of_bytes code pc b z fits s.1 t)
