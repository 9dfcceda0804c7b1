-- The pipes of a saved machine, restored one after the other.
use Rattle.std.proofs.Common.{◌≡◌, ℕ, ◌+◌, ◌-◌, ◌<◌, ◌≤◌, List, [], ◌∷◌, length, get_or, set, take, drop, suc, cond, leb, ◌&&◌, true, false, Option, Some, sym, ap, ◌∙◌, subst}
use Rattle.std.proofs.lemmas.Bool.{and_parts, both_ways, leb-true}
use Rattle.kernel_model.specs.KernelRecord.Kernel.{Pipe}
use Rattle.kernel_model.specs.KernelRecord.Pipes.{ArePipes, most_pipes, no_pipes}
use Rattle.resident_tasks.specs.PipeHandler.PipeCalls.{after_restore, can_restore, pipe_with}
use Rattle.saved_text.specs.ImageForm.{ArePipes as AreSavedPipes, flag}
use Rattle.saved_text.specs.Ranges.{is_flag}
use Rattle.saved_text.specs.declared.images.SavedPipe.{SavedPipe}
use Rattle.saved_machine.specs.MachineImage.Parts.{pipe_of, placed_pipes}
use Rattle.saved_machine.proofs.MachineImage.PlacedPipes.{can-restore, ends_of, number, pipe-added}
use Rattle.saved_machine.proofs.MachineImage.PlacedThings.{AreBelow, Rise, placed-none, rise-between, split-at, take-at}

-- the numbers of pipes rise
pub pipes-rise : (floor : ℕ) (ps : List SavedPipe) → AreSavedPipes floor ps → Rise number pipe_of most_pipes floor ps
pipes-rise floor [] are = tt
pipes-rise floor (p ∷ ps) are =
    let written = and_parts (leb 1 p.k && leb p.k 8 && is_flag (flag p.reading) && is_flag (flag p.writing)) (is_flag (flag p.written)) are.1.0 in
    let writing = and_parts (leb 1 p.k && leb p.k 8 && is_flag (flag p.reading)) (is_flag (flag p.writing)) written.0 in
    let reading = and_parts (leb 1 p.k && leb p.k 8) (is_flag (flag p.reading)) writing.0 in
    let range = and_parts (leb 1 p.k) (leb p.k 8) reading.0 in
    (are.0, leb-true 1 p.k range.0, leb-true p.k 8 range.1, pipes-rise (p.k + 1) ps are.2)

-- none was restored yet
pub none-restored : (ps : List (Option Pipe)) → ps ≡ no_pipes → ps ≡ placed_pipes []
none-restored ps none = none ∙ sym (placed-none number pipe_of most_pipes)

module _ (ps : List SavedPipe) (are : AreSavedPipes 0 ps) (i : ℕ) (p : SavedPipe) (low : i < length ps) (is : p ≡ get_or ps i p) where
  ranges : (0 ≤ p.k) × AreBelow number pipe_of most_pipes p.k (take i ps) × (1 ≤ p.k) × (p.k ≤ most_pipes)
  ranges =
      rise-between number pipe_of most_pipes 0 (take i ps) (drop (suc i) ps) p
      (subst (Rise number pipe_of most_pipes 0) (split-at ps i p low is) (pipes-rise 0 ps are))

  -- the next one was restored
  pub next-restored : (old new : List (Option Pipe)) (held : List ℕ) → old ≡ placed_pipes (take i ps) → held ≡ p.held
      → can_restore old p.k (ends_of p) p.name held ≡ true → new ≡ after_restore old p.k (ends_of p) p.name held → new ≡ placed_pipes (take (i + 1) ps)
  next-restored old new held before lent can after =
      after
      ∙ ap (λ t. cond t (set old (p.k - 1) (Some (pipe_with (ends_of p) p.name held))) old) can
      ∙ ap (λ xs. set xs (p.k - 1) (Some (pipe_with (ends_of p) p.name held))) before
      ∙ ap (λ bytes. set (placed_pipes (take i ps)) (p.k - 1) (Some (pipe_with (ends_of p) p.name bytes))) lent
      ∙ pipe-added (take i ps) p ranges.1 ranges.2 ranges.3
      ∙ ap placed_pipes (sym (take-at ps i p low is))

  -- where it may not be restored, all of them are no pipes
  pub next-refused : (old : List (Option Pipe)) (held : List ℕ) → old ≡ placed_pipes (take i ps) → held ≡ p.held
      → can_restore old p.k (ends_of p) p.name held ≡ false → ArePipes (placed_pipes ps) → ⊥
  next-refused old held before lent cannot whole =
      both_ways (can_restore (placed_pipes (take i ps)) p.k (ends_of p) p.name p.held)
      (ap (can_restore (placed_pipes (take i ps)) p.k (ends_of p) p.name) (sym lent) ∙ ap (λ xs. can_restore xs p.k (ends_of p) p.name held) (sym before) ∙ cannot)
      (can-restore (take i ps) p ranges.1 ranges.2 ranges.3 (drop (suc i) ps) (subst (λ xs. ArePipes (placed_pipes xs)) (split-at ps i p low is) whole))
