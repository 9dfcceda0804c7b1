-- The words of a new task, as they are written over zeros.
use Rattle.std.proofs.Common.{◌≡◌, ℕ, ◌+◌, ◌-◌, ◌<◌, ◌≤◌, List, ◌∷◌, ◌++◌, cond, drop, eqb, get_or, length, replicate, true, false, set, sym, ap, ◌∙◌, arith}
use Rattle.std.proofs.lemmas.List.{append_assoc, length-append, length-drop, length-set, replicate-append-replicate}
use Rattle.word_store.specs.Row.{with_words}
use Rattle.word_store.proofs.Rows.{set-with_words}
use Rattle.kernel_lists.specs.OwnedWords.LinkedWords.{first_of}
use Rattle.kernel_lists.specs.TaskBlock.Versions.{head_words, most_modules}
use Rattle.kernel_model.specs.KernelRecord.Task.{filled}
use Rattle.kernel_model.proofs.KernelRecord.RootCounts.{length-filled}
use Rattle.kernel_calls.specs.TaskCalls.Private.NewTasks.{first_words, head_row}
use Rattle.kernel_calls.proofs.TaskCalls.RowsInRows.{set-row_behind, words-over_zeros}

-- the versions have room for the modules in the task block
pub modules-room : (s : List ℕ) → (most_modules s + 22 ≤ head_words s) × (23 ≤ head_words s)
modules-room s =
    elim (eqb (get_or s 111 0) 2) as (λ b. (cond b 8 1 + 22 ≤ cond b 30 23) × (23 ≤ cond b 30 23)) [ true ↦ (omega arith, omega arith) | false ↦ (omega arith, omega arith) ]

module _ (s : List ℕ) (t head number : ℕ) (modules : List ℕ) (u pri maker : ℕ) (rest : List ℕ) (high : 23 ≤ head) (few : length modules + 22 ≤ head) where
  abbrev row : List ℕ
  row = head_row head t number modules u pri maker

  abbrev zeros : List ℕ
  zeros = replicate (head - 23) 0

  pub length-row : length row ≡ head
  length-row =
      let fixed : List ℕ = first_words head t number modules u pri maker in
      omega (arith, length-append fixed (filled (head - 23) (drop 1 modules)), length-filled (head - 23) (drop 1 modules), high)

  -- a store with a row at t that has the words 0 to 22 at least
  record IsRow (z W : List ℕ) : Type 0 where
    is : z ≡ with_words s t W
    long : 23 ≤ length W

  put : {z W : List ℕ} (j w : ℕ) → j < 23 → IsRow z W → IsRow (set z (t + j) w) (set W j w)
  put {z} {W} j w lt r =
      record {
        is = ap (λ v. set v (t + j) w) r.is ∙ set-with_words s t W j w (omega (arith, lt, r.long));
        long = omega (arith, r.long, length-set W j w);
      }

  pub row-written : (a : List ℕ) → a ≡ with_words s t (replicate head 0 ++ 0 ∷ rest)
      → set (with_words (set (set (set (set (set (set (set (set a (t + 1) number) (t + 2) pri) (t + 4) 12) (t + 6) (t + head + 1001)) (t + 7) u) (t + 8) (t + head)) (t + 9) maker) (t + 10) (first_of (λ m. m) modules 0)) (t + 23) (drop 1 modules)) (t + head) 1000
      ≡ with_words s t (row ++ 1000 ∷ rest)
  row-written a is =
      let whole : 23 + (head - 23) ≡ head = omega (arith, high) in
      let start : IsRow a (replicate 23 0 ++ (zeros ++ 0 ∷ rest)) =
      record {
        is =
            is ∙ ap (λ z. with_words s t (z ++ 0 ∷ rest)) (sym (replicate-append-replicate 23 (head - 23) 0 ∙ ap (λ n. replicate n 0) whole))
            ∙ ap (with_words s t) (append_assoc (replicate 23 0) zeros (0 ∷ rest));
        long = omega (arith, length-append (replicate 23 0) (zeros ++ 0 ∷ rest));
      }
      in
      let three = put 4 12 (omega arith) (put 2 pri (omega arith) (put 1 number (omega arith) start)) in
      let six = put 8 (t + head) (omega arith) (put 7 u (omega arith) (put 6 (t + head + 1001) (omega arith) three)) in
      let eight = put 10 (first_of (λ m. m) modules 0) (omega arith) (put 9 maker (omega arith) six) in
      let fixed : List ℕ = first_words head t number modules u pri maker in
      let fits : length (drop 1 modules) ≤ head - 23 = omega (arith, few, length-drop 1 modules) in
      let end : t + length row + 0 ≡ t + head = omega (arith, length-row) in
      ap (λ z. set (with_words z (t + 23) (drop 1 modules)) (t + head) 1000) eight.is
      ∙ ap (λ z. set z (t + head) 1000) (words-over_zeros s t fixed (head - 23) (drop 1 modules) (0 ∷ rest) fits)
      ∙ ap (λ z. set (with_words s t (row ++ 0 ∷ rest)) z 1000) (sym end)
      ∙ set-row_behind s t row (0 ∷ rest) 0 1000 (omega arith)
