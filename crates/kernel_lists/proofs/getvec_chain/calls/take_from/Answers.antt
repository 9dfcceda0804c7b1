use Rattle.std.proofs.Common.{◌≡◌, ℕ, ◌+◌, List, Some, refl, ap, ◌∙◌, arith}
use Rattle.kernel_lists.specs.declared.getvec_chain.pieces.Run.{Run}
use Rattle.kernel_lists.specs.GetvecChain.Run.{first_run, need}
use Rattle.kernel_lists.specs.GetvecChain.Take.{IsTaken, taken_store}
use Rattle.kernel_lists.specs.GetvecChain.Tiling.{IsTiled, blocks_in}
use Rattle.kernel_lists.proofs.GetvecChain.AfterTake.{after_take}
use Rattle.kernel_lists.proofs.GetvecChain.Runs.{FoundRun, first_run-found, need-even}
use Rattle.kernel_lists.proofs.getvec_chain.calls.take_from.Goals as goal

fits : (s : List ℕ) (u : ℕ) (run : Run) → IsTiled s → first_run (need u) (blocks_in s) ≡ Some run → FoundRun s (need u) 200 run
fits s u run tiled first = first_run-found s (need u) 200 (blocks_in s) run tiled first

is_taken : (s t : List ℕ) (u : ℕ) (run : Run) (n : ℕ) → first_run (need u) (blocks_in s) ≡ Some run → n ≡ need u → t ≡ taken_store s run n → IsTaken s t u (run.start + 1)
is_taken s t u run n first size words = record { run = run; first = first; front = refl; words = words ∙ ap (taken_store s run) size }

pub overflow_cast-words_needed : goal.overflow_cast-words_needed
overflow_cast-words_needed c =
    let f = fits _ c.args.u _ c.requires.tiled c.requires.first in
    omega (arith, f.enough, c.words_needed.ensures)

pub split-requires : goal.split-requires
split-requires c =
    let f = fits _ c.args.u _ c.requires.tiled c.requires.first in
    record { some = omega (arith, (need-even c.args.u).0, c.words_needed.ensures); fits = omega (arith, f.enough, c.words_needed.ensures) }

pub overflow_add-result : goal.overflow_add-result
overflow_add-result c =
    let f = fits _ c.args.u _ c.requires.tiled c.requires.first in
    omega (arith, f.enough, (need-even c.args.u).0)

pub returns-clause-taken : goal.returns-clause-taken
returns-clause-taken c = is_taken _ _ c.args.u _ _ c.requires.first c.words_needed.ensures c.split.ensures

pub returns-clause-blocks : goal.returns-clause-blocks
returns-clause-blocks c =
    (after_take _ _ _ _ c.requires.tiled (is_taken _ _ c.args.u _ _ c.requires.first c.words_needed.ensures c.split.ensures)).blocks

pub returns-clause-tiled : goal.returns-clause-tiled
returns-clause-tiled c =
    (after_take _ _ _ _ c.requires.tiled (is_taken _ _ c.args.u _ _ c.requires.first c.words_needed.ensures c.split.ensures)).tiled
