-- Pipes that are restored, one after the other in the order of their numbers.
use Rattle.std.proofs.Common.{◌≡◌, ℕ, ◌+◌, ◌-◌, ◌<◌, ◌≤◌, List, [], ◌∷◌, ◌++◌, length, get_or, set, cond, leb, not, ◌&&◌, ◌||◌, Bool, true, false, Option, Some, None, refl, sym, ap, ◌∙◌, arith}
use Rattle.std.specs.List.{list_any}
use Rattle.std.specs.Option.{is_none}
use Rattle.std.proofs.lemmas.Bool.{and_from, false_from_ne_true, le-leb, ne_eqb, not_from_false}
use Rattle.std.proofs.lemmas.Slice.Eq.{bytes_eq-Decides}
use Rattle.kernel_model.specs.KernelRecord.Kernel.{Pipe}
use Rattle.kernel_model.specs.KernelRecord.Pipes.{ArePipes, IsPipe, most_held, most_pipes}
use Rattle.resident_tasks.specs.PipeHandler.Ends.{is_named}
use Rattle.resident_tasks.specs.PipeHandler.PipeCalls.{are_ends, can_restore, pipe_numbered, pipe_with}
use Rattle.saved_text.specs.declared.images.SavedPipe.{SavedPipe}
use Rattle.saved_machine.specs.MachineImage.Parts.{pipe_of, placed_pipes}
use Rattle.saved_machine.proofs.MachineImage.PlacedThings.{AreBelow, Holds, any-where, placed-below, placed-free, placed-more, placed-stays, placed-there}

-- its ends
abbrev pub ends_of : SavedPipe → Bool × Bool × Bool
ends_of p = (p.reading, p.writing, p.written)

-- its number
abbrev pub number : SavedPipe → ℕ
number p = p.k

module _ (xs : List SavedPipe) (a : SavedPipe) (below : AreBelow number pipe_of most_pipes a.k xs) (low : 1 ≤ a.k) (high : a.k ≤ most_pipes) where
  pub pipe-added : set (placed_pipes xs) (a.k - 1) (Some (pipe_with (ends_of a) a.name a.held)) ≡ placed_pipes (xs ++ a ∷ [])
  pipe-added = sym (placed-more number pipe_of most_pipes xs a below low high)

  module _ (ys : List SavedPipe) (good : ArePipes (placed_pipes (xs ++ a ∷ ys))) where
    abbrev Whole : List (Option Pipe)
    Whole = placed_pipes (xs ++ a ∷ ys)

    here : get_or Whole (a.k - 1) None ≡ Some (pipe_of a)
    here = placed-there number pipe_of most_pipes xs ys a below low high

    is-pipe : IsPipe (pipe_of a)
    is-pipe = good.each (a.k - 1) (pipe_of a) here

    free : is_none (pipe_numbered (placed_pipes xs) a.k) ≡ true
    free =
        ap is_none
        (ap (λ b. cond b None (get_or (placed_pipes xs) (a.k - 1) None)) (ne_eqb a.k 0 (λ e. omega (arith, e, low)))
        ∙ placed-free number pipe_of most_pipes xs a below low high)

    unnamed : list_any (is_named a.name) (placed_pipes xs) ≡ false
    unnamed = false_from_ne_true (list_any (is_named a.name) (placed_pipes xs)) (λ e.
        let found : Holds (is_named a.name) (placed_pipes xs) = any-where (is_named a.name) (placed_pipes xs) refl e in
        let there : get_or Whole found.0 None ≡ Some found.1 = placed-stays number pipe_of most_pipes xs (a ∷ ys) found.0 found.1 found.2 in
        let under : found.0 + 1 < a.k = placed-below number pipe_of most_pipes xs a.k found.0 found.1 below found.2 in
        let same : found.0 ≡ a.k - 1 = good.distinct found.0 (a.k - 1) found.1 (pipe_of a) there here ((bytes_eq-Decides found.1.name a.name).0 found.3) in
        omega (arith, same, under))

    right-ends : are_ends (ends_of a) ≡ true
    right-ends = and_from (a.reading || a.writing) (not a.writing || a.written) is-pipe.end_open (on a.writing is-pipe.ever)
      where
        on : (w : Bool) → (w ≡ true → a.written ≡ true) → (not w || a.written) ≡ true
        on true ever = ever refl
        on false ever = refl

    -- on the way to valid pipes each may be restored
    pub can-restore : can_restore (placed_pipes xs) a.k (ends_of a) a.name a.held ≡ true
    can-restore =
        let range : Bool = leb 1 a.k && leb a.k most_pipes in
        let open_place : Bool = is_none (pipe_numbered (placed_pipes xs) a.k) in
        let new_name : Bool = not (list_any (is_named a.name) (placed_pipes xs)) in
        and_from (range && open_place && new_name && are_ends (ends_of a)) (leb (length a.held) most_held)
        (and_from (range && open_place && new_name) (are_ends (ends_of a))
        (and_from (range && open_place) new_name
        (and_from range open_place (and_from (leb 1 a.k) (leb a.k most_pipes) (le-leb 1 a.k low) (le-leb a.k most_pipes high)) free)
        (not_from_false (list_any (is_named a.name) (placed_pipes xs)) unnamed))
        right-ends)
        (le-leb (length a.held) most_held is-pipe.room)
