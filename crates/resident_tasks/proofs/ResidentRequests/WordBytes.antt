-- The bytes of a buffer, word after word.
use Rattle.std.proofs.Common.{◌≡◌, ℕ, ◌+◌, ◌*◌, ◌/◌, ◌%◌, ◌≤◌, List, [], ◌∷◌, ◌++◌, get_or, take, refl, ap, ◌∙◌, arith, append_assoc}
use Rattle.std.specs.Int.{w32, to_le_bytes}
use Rattle.std.proofs.lemmas.List.FromFn.{map-range_with_len_more, take-map-range_with_len}
use Rattle.resident_tasks.specs.ResidentRequests.Buffers.{byte_in, bytes_in}

module _ (s : List ℕ) (a : ℕ) where
  abbrev word : ℕ → List ℕ
  word k = to_le_bytes w32 (get_or s (a + k) 0)

  -- one byte more, which is byte j of word k
  byte-more : (k j n : ℕ) → (4 * k + j) / 4 ≡ k → (4 * k + j) % 4 ≡ j → n ≡ 4 * k + j → bytes_in s a 0 (n + 1) ≡ bytes_in s a 0 n ++ get_or (word k) j 0 ∷ []
  byte-more k j n row column is =
      let byte : byte_in s a n ≡ get_or (word k) j 0 = ap (byte_in s a) is ∙ (λ i. get_or (word (row i)) (column i) 0) in
      map-range_with_len_more (byte_in s a) 0 n n (omega arith) ∙ ap (λ b. bytes_in s a 0 n ++ b ∷ []) byte

  -- a word has four bytes
  four : (k : ℕ) → get_or (word k) 0 0 ∷ get_or (word k) 1 0 ∷ get_or (word k) 2 0 ∷ get_or (word k) 3 0 ∷ [] ≡ word k
  four k = refl

  -- one word more
  pub word-more : (k n : ℕ) → n ≡ 4 * (k + 1) → bytes_in s a 0 n ≡ bytes_in s a 0 (4 * k) ++ word k
  word-more k n is =
      let m = 4 * k in
      let b0 = get_or (word k) 0 0 in
      let b1 = get_or (word k) 1 0 in
      let b2 = get_or (word k) 2 0 in
      let b3 = get_or (word k) 3 0 in
      let front = bytes_in s a 0 m in
      let one : bytes_in s a 0 (m + 1) ≡ front ++ b0 ∷ [] = byte-more k 0 m (omega arith) (omega arith) (omega arith) in
      let two : bytes_in s a 0 (m + 1 + 1) ≡ front ++ b0 ∷ b1 ∷ [] =
      byte-more k 1 (m + 1) (omega arith) (omega arith) (omega arith) ∙ ap (λ l. l ++ b1 ∷ []) one ∙ append_assoc front (b0 ∷ []) (b1 ∷ []) in
      let three : bytes_in s a 0 (m + 1 + 1 + 1) ≡ front ++ b0 ∷ b1 ∷ b2 ∷ [] =
      byte-more k 2 (m + 1 + 1) (omega arith) (omega arith) (omega arith) ∙ ap (λ l. l ++ b2 ∷ []) two ∙ append_assoc front (b0 ∷ b1 ∷ []) (b2 ∷ []) in
      let all : bytes_in s a 0 (m + 1 + 1 + 1 + 1) ≡ front ++ b0 ∷ b1 ∷ b2 ∷ b3 ∷ [] =
      byte-more k 3 (m + 1 + 1 + 1) (omega arith) (omega arith) (omega arith) ∙ ap (λ l. l ++ b3 ∷ []) three ∙ append_assoc front (b0 ∷ b1 ∷ b2 ∷ []) (b3 ∷ []) in
      let size : n ≡ m + 1 + 1 + 1 + 1 = omega (arith, is) in
      ap (bytes_in s a 0) size ∙ all ∙ ap (λ w. front ++ w) (four k)

  -- the front of more bytes
  pub front-bytes : (n m : ℕ) → n ≤ m → take n (bytes_in s a 0 m) ≡ bytes_in s a 0 n
  front-bytes n m h = take-map-range_with_len (byte_in s a) 0 m n h
