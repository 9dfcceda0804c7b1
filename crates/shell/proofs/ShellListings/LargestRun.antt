-- The largest run is the largest of the maximal runs.
use Rattle.std.proofs.Common.{◌≡◌, ℕ, ◌+◌, ◌-◌, ◌<◌, ◌≤◌, Bool, true, false, cond, Some, None, List, [], ◌∷◌, inl, inr, refl, sym, ap, ◌∙◌, arith}
use Rattle.std.proofs.lemmas.Bool.{and_from, cases_lt, le-leb}
use Rattle.std.specs.List.{AllByRecursion}
use Rattle.kernel_lists.specs.declared.getvec_chain.pieces.Block.{Block}
use Rattle.kernel_lists.specs.declared.getvec_chain.pieces.Run.{Run}
use Rattle.kernel_lists.specs.GetvecChain.Run.{IsFirstRun, IsMaximalRun, begins_run, first_run, run_size}
use Rattle.kernel_lists.specs.GetvecChain.Tiling.{IsTiled, blocks_in}
use Rattle.kernel_lists.proofs.GetvecChain.MaximalRuns.{first_run-first, first_run-none}
use Rattle.kernel_lists.proofs.GetvecChain.Runs.{begins_run-true, run_size-used}
use Rattle.shell.specs.ShellListings.BlockLine.{largest_run}

-- no run has more words
none-above : (n : ℕ) (bs : List Block) → largest_run bs < n → first_run n bs ≡ None
none-above n [] low = refl
none-above n (b ∷ bs) low = on (begins_run n (b ∷ bs)) refl (none-above n bs (omega (arith, low)))
  where
    on : (x : Bool) → begins_run n (b ∷ bs) ≡ x → first_run n bs ≡ None → first_run n (b ∷ bs) ≡ None
    on true is rest = absurd (omega (arith, low, (begins_run-true n b bs is).enough))
    on false is rest = ap (λ x. cond x (Some (record { start = b.start; end = b.start + run_size (b ∷ bs) })) (first_run n bs)) is ∙ rest

record Found (n : ℕ) (bs : List Block) : Type 0 where
  pub run : Run
  pub is : first_run n bs ≡ Some run

-- and some run has as many
some-reached : (n : ℕ) (bs : List Block) → 0 < n → n ≤ largest_run bs → Found n bs
some-reached n [] some low = absurd (omega (arith, some, low))
some-reached n (b ∷ bs) some low = on (begins_run n (b ∷ bs)) refl (λ less. some-reached n bs some (omega (arith, low, less)))
  where
    here : Run
    here = record { start = b.start; end = b.start + run_size (b ∷ bs) }

    begins : (free : Bool) → b.free ≡ free → n ≤ run_size (b ∷ bs) → begins_run n (b ∷ bs) ≡ true
    begins true is le = and_from _ _ is (le-leb n (run_size (b ∷ bs)) le)
    begins false is le = absurd (omega (arith, some, le, run_size-used b bs is))

    on : (x : Bool) → begins_run n (b ∷ bs) ≡ x → (run_size (b ∷ bs) < n → Found n bs) → Found n (b ∷ bs)
    on true is later = record { run = here; is = ap (λ x. cond x (Some here) (first_run n bs)) is }
    on false is later =
        elim (cases_lt (run_size (b ∷ bs)) n) [
          | inl less ↦ (let found : Found n bs = later less in record { run = found.run; is = ap (λ x. cond x (Some here) (first_run n bs)) is ∙ found.is })
          | inr le ↦ (let clash : false ≡ true = sym is ∙ begins b.free refl le in cc)
        ]

pub largest-most : (s : List ℕ) (run : Run) → IsTiled s → IsMaximalRun (blocks_in s) run → run.end - run.start ≤ largest_run (blocks_in s)
largest-most s run tiled m =
    let n : ℕ = largest_run (blocks_in s) + 1 in
    let less : run.end - run.start < n = first_run-none s n (omega arith) tiled (none-above n (blocks_in s) (omega arith)) run m in
    omega (arith, less)

pub largest-reached : (s : List ℕ) → IsTiled s → 0 < largest_run (blocks_in s) → (run : Run) × IsMaximalRun (blocks_in s) run × (run.end - run.start ≡ largest_run (blocks_in s))
largest-reached s tiled some =
    let n : ℕ = largest_run (blocks_in s) in
    let found : Found n (blocks_in s) = some-reached n (blocks_in s) some (omega arith) in
    let first : IsFirstRun n (blocks_in s) found.run = first_run-first s n found.run some tiled found.is in
    (found.run, first.maximal, omega (arith, first.enough, largest-most s found.run tiled first.maximal))

pub largest-none : (bs : List Block) → AllByRecursion (λ b. b.free ≡ false) bs → largest_run bs ≡ 0
largest-none [] all = refl
largest-none (b ∷ bs) all = omega (arith, run_size-used b bs all.0, largest-none bs all.1)
