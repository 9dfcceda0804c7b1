-- The lines of a hunk cover it.
use Rattle.std.proofs.Common.{◌≡◌, ℕ, zero, suc, ◌+◌, ◌*◌, ◌/◌, ◌%◌, ◌^◌, ◌<◌, ◌≤◌, Bool, true, false, cond, inl, inr, Some, None, Option, List, [], ◌∷◌, ◌++◌, length, Result, Ok, Err, refl, ap, arith, nat_lt}
use Rattle.std.specs.Prelude.{filter, slice_get}
use Rattle.std.specs.List.{flat_map}
use Rattle.std.specs.Option.{option_map}
use Rattle.std.proofs.lemmas.Bool.{cases_lt}
use Rattle.std.proofs.lemmas.Bool.Decides.{nat_tests}
use Rattle.word_store.specs.Bytes.{byte_at, byte_of}
use Rattle.instruction_set.specs.InstructionTable.Table.{Entry}
use Rattle.instruction_set.specs.OperandForms.Decoded.{decoded}
use Rattle.instruction_set.proofs.OperandForms.Inside.{decoded_inside}
use Rattle.instruction_set.specs.declared.operand_forms.instructions.DecodeEnd.{DecodeEnd}
use Rattle.instruction_set.specs.declared.operand_forms.instructions.Instr.{Instr}
use Rattle.assembly.specs.ModuleListing.Cover.{Follow, ListedLine, covers, hunk_lines, line_at, lines_between}
use Rattle.assembly.specs.ModuleListing.HunkListing.{lines_from, lines_of_words}
use Rattle.assembly.specs.ModuleListing.Listing.{listed, listed_as}

get_inside : (words : List ℕ) (i w : ℕ) (f : ℕ → ℕ) → option_map f (slice_get words i) ≡ Some w → i < length words
get_inside [] i w f h = absurd (cc)
get_inside (x ∷ xs) zero w f h = omega arith
get_inside (x ∷ xs) (suc i) w f h = let p = get_inside xs i w f h in omega arith

module _ (words : List ℕ) (short : length words < 2 ^ 30) where
  byte_inside : (a b : ℕ) → byte_at words a ≡ Some b → a < 4 * length words
  byte_inside a b h = let p = get_inside words (a / 4) b (λ w. byte_of w (a % 4)) h in omega arith

  listed_inside : (a byte : ℕ) (o : Option Entry) (d : Result Instr DecodeEnd) → a < 4 * length words → ((i : Instr) → d ≡ Ok i → (1 ≤ i.length) × (a + i.length ≤ 4 * length words))
      → (1 ≤ (listed_as o d a byte).length) × (a + (listed_as o d a byte).length ≤ 4 * length words)
  listed_inside a byte (Some row) (Ok i) lt h = h i refl
  listed_inside a byte (Some row) (Err e) lt h = (omega arith, omega arith)
  listed_inside a byte None (Ok i) lt h = (omega arith, omega arith)
  listed_inside a byte None (Err e) lt h = (omega arith, omega arith)

  line_inside : (a : ℕ) → a < 4 * length words → (1 ≤ (listed (byte_at words) a).length) × (a + (listed (byte_at words) a).length ≤ 4 * length words)
  line_inside a lt = listed_inside a _ _ (decoded (byte_at words) a) lt (λ i e. decoded_inside (byte_at words) (4 * length words) byte_inside (omega arith) a i lt e)

  -- a line more, or none
  one_more : (b : Bool) (most a : ℕ) → nat_lt a (4 * length words) ≡ b → a ≤ 4 * length words → 4 * length words ≤ a + suc most
      → ((c : ℕ) → c ≤ 4 * length words → 4 * length words ≤ c + most → Follow c (4 * length words) (lines_between (byte_at words) (4 * length words) most c))
      → Follow a (4 * length words) (cond b (line_at (byte_at words) a ∷ lines_between (byte_at words) (4 * length words) most (a + (listed (byte_at words) a).length)) [])
  one_more true most a e le enough rest =
      let lt : a < 4 * length words = grind (arith, nat_tests) in
      let inside = line_inside a lt in
      (refl, inside.0, rest (a + (listed (byte_at words) a).length) inside.1 (omega arith))
  one_more false most a e le enough rest = grind (arith, nat_tests)

  lines_follow : (most a : ℕ) → a ≤ 4 * length words → 4 * length words ≤ a + most → Follow a (4 * length words) (lines_between (byte_at words) (4 * length words) most a)
  lines_follow zero a le enough = omega arith
  lines_follow (suc most) a le enough = one_more (nat_lt a (4 * length words)) most a refl le enough (lines_follow most)

  pub hunk_follow : Follow 0 (4 * length words) (hunk_lines words)
  hunk_follow = lines_follow (4 * length words) 0 (omega arith) (omega arith)

-- ---- each byte is in one line

before : (b a end : ℕ) (lines : List ListedLine) → b < a → Follow a end lines → length (filter (covers b) lines) ≡ 0
before b a end [] lt f = refl
before b a end (line ∷ lines) lt f =
    let at = f.0 in
    let none : covers b line ≡ false = grind (arith, nat_tests) in
    let rest = before b (a + line.length) end lines (omega arith) f.2 in
    rw (none) rest

covered : (b a end : ℕ) (lines : List ListedLine) → a ≤ b → b < end → Follow a end lines → length (filter (covers b) lines) ≡ 1
covered b a end [] le lt f = absurd (omega arith)
covered b a end (line ∷ lines) le lt f =
    let at = f.0 in
    elim (cases_lt b (a + line.length)) [
      | inl here ↦
          let yes : covers b line ≡ true = grind (arith, nat_tests) in
          let rest = before b (a + line.length) end lines here f.2 in
          rw (yes, rest) refl
      | inr after ↦
          let no : covers b line ≡ false = grind (arith, nat_tests) in
          rw no (covered b (a + line.length) end lines after lt f.2)
    ]

pub once : (words : List ℕ) (b : ℕ) → length words < 2 ^ 30 → b < 4 * length words → length (filter (covers b) (hunk_lines words)) ≡ 1
once words b short lt = covered b 0 (4 * length words) (hunk_lines words) (omega arith) lt (hunk_follow words short)

-- ---- their texts are the listing

texts_of : (code : ℕ → Option ℕ) (end most a : ℕ) → lines_from code end most a ≡ flat_map (λ line. line.text) (lines_between code end most a)
texts_of code end zero a = refl
texts_of code end (suc most) a = by_place (nat_lt a end) (texts_of code end most (a + (listed code a).length))
  where
    by_place : (b : Bool) → lines_from code end most (a + (listed code a).length) ≡ flat_map (λ line. line.text) (lines_between code end most (a + (listed code a).length))
        → cond b ((listed code a).text ++ lines_from code end most (a + (listed code a).length)) [] ≡ flat_map (λ line. line.text) (cond b (line_at code a ∷ lines_between code end most (a + (listed code a).length)) [])
    by_place true e = ap (λ (t : List ℕ). (listed code a).text ++ t) e
    by_place false e = refl

pub texts : (words : List ℕ) → lines_of_words words ≡ flat_map (λ line. line.text) (hunk_lines words)
texts words = texts_of (byte_at words) (4 * length words) (4 * length words) 0
