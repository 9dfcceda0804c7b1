-- The things at the places of a list, numbered and placed again.
use Rattle.std.proofs.Common.{◌≡◌, ◌∙◌, ℕ, zero, suc, ◌+◌, ◌<◌, ◌==◌, cond, Option, Some, None, List, [], ◌∷◌, length, map, refl, sym, ap, arith}
use Rattle.std.specs.List.{range_with_len}
use Rattle.std.specs.Option.{option_map}
use Rattle.std.specs.Prelude.{find, slice_index_or}
use Rattle.std.proofs.lemmas.Bool.{eq-eqb, ne_eqb}
use Rattle.ram_disc.specs.Disc.{Stream, most_streams}
use Rattle.kernel_model.specs.KernelRecord.Kernel.{Pipe}
use Rattle.kernel_model.specs.KernelRecord.Pipes.{most_pipes}
use Rattle.saved_text.specs.declared.images.SavedPipe.{SavedPipe}
use Rattle.saved_text.specs.declared.images.SavedStream.{SavedStream}
use Rattle.saved_machine.specs.MachineImage.Parts.{pipe_of, placed_pipes, placed_streams, stream_of}
use Rattle.saved_machine.specs.MachineImage.Placed.{placed, thing_numbered}
use Rattle.saved_machine.specs.ImagePrint.SavedImage.{with_places, numbered_pipes, numbered_streams, saved_pipe, saved_stream}

module _ {A B : Type 0} (f : ℕ → A → B) (number : B → ℕ) (thing : B → A) (told : (k : ℕ) (x : A) → number (f k x) ≡ k) (back : (k : ℕ) (x : A) → thing (f k x) ≡ x) where
  -- a number before the first one is nobody's
  none-before : (xs : List (Option A)) (j k : ℕ) → k < j → find (λ y. number y == k) (with_places f j xs) ≡ None
  none-before [] j k lt = refl
  none-before (None ∷ xs) j k lt = none-before xs (j + 1) k (omega (arith, lt))
  none-before (Some x ∷ xs) j k lt =
      ap (λ b. cond b (Some (f j x)) (find (λ y. number y == k) (with_places f (j + 1) xs))) (ap (λ (n : ℕ). n == k) (told j x) ∙ ne_eqb j k (λ e. omega (arith, lt, e)))
      ∙ none-before xs (j + 1) k (omega (arith, lt))

  -- the thing with a number is that of its place
  at-number : (xs : List (Option A)) (j i : ℕ) → thing_numbered number thing (with_places f j xs) (j + i) ≡ slice_index_or xs i None
  at-number [] j i = refl
  at-number (None ∷ xs) j zero = ap (option_map thing) (none-before xs (j + 1) (j + 0) (omega arith))
  at-number (None ∷ xs) j (suc i) = let next : j + suc i ≡ (j + 1) + i = omega arith in ap (thing_numbered number thing (with_places f (j + 1) xs)) next ∙ at-number xs (j + 1) i
  at-number (Some x ∷ xs) j zero =
      let same : j ≡ j + 0 = omega arith in
      ap (λ b. option_map thing (cond b (Some (f j x)) (find (λ y. number y == (j + 0)) (with_places f (j + 1) xs)))) (ap (λ (n : ℕ). n == (j + 0)) (told j x) ∙ eq-eqb j (j + 0) same)
      ∙ ap (λ (y : A). Some y) (back j x)
  at-number (Some x ∷ xs) j (suc i) =
      let next : j + suc i ≡ (j + 1) + i = omega arith in
      ap (λ b. option_map thing (cond b (Some (f j x)) (find (λ y. number y == (j + suc i)) (with_places f (j + 1) xs)))) (ap (λ (n : ℕ). n == (j + suc i)) (told j x) ∙ ne_eqb j (j + suc i) (λ e. omega (arith, e)))
      ∙ ap (thing_numbered number thing (with_places f (j + 1) xs)) next ∙ at-number xs (j + 1) i

  -- the elements of a list, by their places
  by-places : (ys : List (Option A)) (g : ℕ → Option A) (a : ℕ) → ((i : ℕ) → g (a + i) ≡ slice_index_or ys i None) → map g (range_with_len a (length ys)) ≡ ys
  by-places [] g a h = refl
  by-places (y ∷ ys) g a h =
      let first : a ≡ a + 0 = omega arith in
      ap (λ (z : Option A). z ∷ map g (range_with_len (a + 1) (length ys))) (ap g first ∙ h 0)
      ∙ ap (λ (zs : List (Option A)). y ∷ zs) (by-places ys g (a + 1) (λ i. let next : (a + 1) + i ≡ a + suc i = omega arith in ap g next ∙ h (suc i)))

  placed-again : (xs : List (Option A)) → placed number thing (length xs) (with_places f 1 xs) ≡ xs
  unfolding placed
  placed-again xs = by-places xs (λ i. thing_numbered number thing (with_places f 1 xs) (i + 1)) 0 (λ i. let next : 0 + i + 1 ≡ 1 + i = omega arith in ap (thing_numbered number thing (with_places f 1 xs)) next ∙ at-number xs 1 i)

-- streams and pipes, numbered and placed again, are as they were
pub streams-again : (ss : List (Option Stream)) → length ss ≡ most_streams → placed_streams (numbered_streams ss) ≡ ss
streams-again ss size = ap (λ (n : ℕ). placed (λ (s : SavedStream). s.k) stream_of n (numbered_streams ss)) (sym size) ∙ placed-again saved_stream (λ s. s.k) stream_of (λ k s. refl) (λ k s. refl) ss

pub pipes-again : (ps : List (Option Pipe)) → length ps ≡ most_pipes → placed_pipes (numbered_pipes ps) ≡ ps
pipes-again ps size = ap (λ (n : ℕ). placed (λ (p : SavedPipe). p.k) pipe_of n (numbered_pipes ps)) (sym size) ∙ placed-again saved_pipe (λ p. p.k) pipe_of (λ k p. refl) (λ k p. refl) ps
