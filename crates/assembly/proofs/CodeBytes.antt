-- The bytes that are in code, and the words that they are.
use Rattle.std.proofs.Common.{◌≡◌, ◌∙◌, ℕ, zero, suc, ◌+◌, ◌*◌, ◌/◌, ◌%◌, ◌^◌, ◌<◌, Option, Some, None, List, [], ◌∷◌, ◌++◌, length, refl, ap, arith}
use Rattle.std.specs.Prelude.{slice_get, unwrap_or}
use Rattle.std.specs.List.{AllByRecursion}
use Rattle.std.specs.Option.{option_map}
use Rattle.std.proofs.lemmas.Nat.{from_le_bytes-to_le_bytes_4}
use Rattle.word_store.specs.Arithmetic.{add}
use Rattle.word_store.specs.Bytes.{byte_at, byte_of}
use Rattle.word_store.proofs.ByteOf.{byte_of_by_shift}
use Rattle.instruction_set.specs.OperandForms.BytesAt.{HasBytesAt}
use Rattle.assembly.specs.AssemblyText.HunkWords.{words_of}

-- so many bytes of the code from an offset on
abbrev pub bytes_from : (ℕ → Option ℕ) → ℕ → ℕ → List ℕ
bytes_from code zero a = []
bytes_from code (suc n) a = unwrap_or (code a) 0 ∷ bytes_from code n (a + 1)

-- bytes that are there are these
pub bytes_from_place : (code : ℕ → Option ℕ) (a : ℕ) (bytes : List ℕ) → a + length bytes < 2 ^ 32 → HasBytesAt code a bytes → bytes ≡ bytes_from code (length bytes) a
bytes_from_place code a [] lt h = refl
bytes_from_place code a (b ∷ bs) lt h =
    let next : add a 1 ≡ a + 1 = omega arith in
    let rest = bytes_from_place code (add a 1) bs (omega arith) h.1 in
    rw h.0 (ap (λ (l : List ℕ). b ∷ l) (rest ∙ ap (bytes_from code (length bs)) next))

-- bytes, and then more
pub bytes_more : (code : ℕ → Option ℕ) (m n a : ℕ) → bytes_from code m a ++ bytes_from code n (a + m) ≡ bytes_from code (m + n) a
bytes_more code zero n a = let z : a + 0 ≡ a = omega arith in let e : 0 + n ≡ n = omega arith in rw (z, e) refl
bytes_more code (suc m) n a =
    let e : suc m + n ≡ suc (m + n) = omega arith in
    let at : a + suc m ≡ a + 1 + m = omega arith in
    rw (e, at) (ap (λ (l : List ℕ). unwrap_or (code a) 0 ∷ l) (bytes_more code m n (a + 1)))

-- ---- code of words

-- behind a word are the bytes of the words after it
behind_word : (w : ℕ) (ws : List ℕ) (a : ℕ) → byte_at (w ∷ ws) (a + 4) ≡ byte_at ws a
behind_word w ws a =
    let place : (a + 4) / 4 ≡ suc (a / 4) = omega arith in
    let byte : (a + 4) % 4 ≡ a % 4 = omega arith in
    rw (place, byte) refl

pub bytes_behind : (w : ℕ) (ws : List ℕ) (n a : ℕ) → bytes_from (byte_at (w ∷ ws)) n (a + 4) ≡ bytes_from (byte_at ws) n a
bytes_behind w ws zero a = refl
bytes_behind w ws (suc n) a =
    let next : a + 4 + 1 ≡ a + 1 + 4 = omega arith in
    rw (behind_word w ws a, next) (ap (λ (l : List ℕ). unwrap_or (byte_at ws a) 0 ∷ l) (bytes_behind w ws n (a + 1)))

-- the bytes of words are those words
pub words_again : (ws rest : List ℕ) → AllByRecursion (λ w. w < 2 ^ 32) ws → words_of (bytes_from (byte_at (ws ++ rest)) (4 * length ws) 0) ≡ ws
words_again [] rest h = refl
words_again (w ∷ ws) rest h =
    let size : 4 * length (w ∷ ws) ≡ suc (suc (suc (suc (4 * length ws)))) = omega arith in
    let more : bytes_from (byte_at (w ∷ (ws ++ rest))) (4 * length ws) 4 ≡ bytes_from (byte_at (ws ++ rest)) (4 * length ws) 0 = bytes_behind w (ws ++ rest) (4 * length ws) 0 in
    rw (size, more, from_le_bytes-to_le_bytes_4 w h.0) (ap (λ (l : List ℕ). w ∷ l) (words_again ws rest h.1))

-- each of them is a byte
low : (w i : ℕ) → i < 4 → byte_of w i < 256
low w i lt = rw (byte_of_by_shift w i lt) (omega arith)

pub are_bytes : (words : List ℕ) (a b : ℕ) → byte_at words a ≡ Some b → b < 256
are_bytes words a b h = by_word (slice_get words (a / 4)) h
  where
    by_word : (o : Option ℕ) → option_map (λ w. byte_of w (a % 4)) o ≡ Some b → b < 256
    by_word None e = absurd (cc)
    by_word (Some w) e = let same : byte_of w (a % 4) ≡ b = cc in let lt = low w (a % 4) (omega arith) in omega arith
