-- Rings that keep the last of what comes, and the last item of a list.
use Rattle.std.proofs.Common.{◌≡◌, ℕ, ◌+◌, ◌-◌, ◌≤◌, Some, List, [], ◌∷◌, ◌++◌, length, take, drop, sym, ap, ◌∙◌, arith, append-nil, length-append, length-drop}
use Rattle.std.proofs.lemmas.List.{drop-append-le, drop-drop, take_at}
use Rattle.std.proofs.lemmas.Option.{MatchOption-at_some}
use Rattle.circular_buffer.specs.Buffer.{Buffer, buffer, keep_last, last_item}
use Rattle.circular_buffer.proofs.Items.{pops_last}
use Rattle.circular_buffer.proofs.Places.{slice_get-last}
use Rattle.debugger.specs.UndoJournal.Private.Rings.{ring_with}

module _ {X : Type 0} where
  -- ---- what a ring keeps

  pub keep_last_all : (n : ℕ) (xs : List X) → length xs ≤ n → keep_last n xs ≡ xs
  keep_last_all n xs h = let none : length xs - n ≡ 0 = omega arith in ap (λ k. drop k xs) none

  pub ring_with-none : (ring : Buffer X) → length ring.items ≤ ring.capacity → ring_with ring [] ≡ ring
  ring_with-none ring h =
      ap (λ l. buffer (keep_last ring.capacity l) ring.capacity) (append-nil ring.items) ∙ ap (λ l. buffer l ring.capacity) (keep_last_all ring.capacity ring.items h)

  pub length-keep_last-le : (n : ℕ) (xs : List X) → length (keep_last n xs) ≤ n
  length-keep_last-le n xs = omega (arith, length-drop (length xs - n) xs)

  pub keep_last-keep_last : (m n : ℕ) (xs : List X) → m ≤ n → keep_last m (keep_last n xs) ≡ keep_last m xs
  keep_last-keep_last m n xs h =
      let long = length-drop (length xs - n) xs in
      let at : length xs - n + (length (keep_last n xs) - m) ≡ length xs - m = omega arith in
      drop-drop (length (keep_last n xs) - m) (length xs - n) xs ∙ ap (λ k. drop k xs) at

  -- more comes to what is kept
  pub keep_last-append_kept : (n : ℕ) (xs ys : List X) → keep_last n (keep_last n xs ++ ys) ≡ keep_last n (xs ++ ys)
  keep_last-append_kept n xs ys =
      let long = length-drop (length xs - n) xs in
      let whole = length-append xs ys in
      let part = length-append (keep_last n xs) ys in
      let low : length xs - n ≤ length xs = omega arith in
      let at : length xs - n + (length (keep_last n xs ++ ys) - n) ≡ length (xs ++ ys) - n = omega arith in
      ap (λ l. drop (length (keep_last n xs ++ ys) - n) l) (sym (drop-append-le (length xs - n) xs ys low))
      ∙ (drop-drop (length (keep_last n xs ++ ys) - n) (length xs - n) (xs ++ ys) ∙ ap (λ m. drop m (xs ++ ys)) at)

  -- ---- the last item

  pub last_item-push : (xs : List X) (x : X) → last_item (xs ++ x ∷ []) ≡ Some x
  last_item-push xs x = slice_get-last xs x (length (xs ++ x ∷ []) - 1) (omega (arith, length-append xs (x ∷ [])))

  -- the items before it
  pub take-push : (xs : List X) (x : X) → take (length (xs ++ x ∷ []) - 1) (xs ++ x ∷ []) ≡ xs
  take-push xs x = take_at xs (x ∷ []) (length (xs ++ x ∷ []) - 1) (omega (arith, length-append xs (x ∷ [])))

  pub split_at_last : (xs : List X) (x : X) → last_item xs ≡ Some x → xs ≡ take (length xs - 1) xs ++ x ∷ []
  split_at_last xs x e =
      MatchOption-at_some ((xs ≡ []) × (take (length xs - 1) xs ≡ [])) (λ y. xs ≡ take (length xs - 1) xs ++ y ∷ []) x e (pops_last xs)
