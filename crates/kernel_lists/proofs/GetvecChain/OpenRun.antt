-- The first large run as a walk finds it: it has passed some free blocks, and others are left.
use Rattle.std.proofs.Common.{◌≡◌, ℕ, ◌+◌, ◌-◌, ◌<◌, ◌≤◌, List, [], ◌∷◌, length, leb, cond, Bool, true, false, refl, sym, ap, ◌∙◌, arith, subst, Some, None, Option}
use Rattle.std.proofs.lemmas.Bool.Decides.{nat_tests}
use Rattle.kernel_lists.specs.declared.getvec_chain.pieces.Block.{Block}
use Rattle.kernel_lists.specs.declared.getvec_chain.pieces.Run.{Run}
use Rattle.kernel_lists.specs.GetvecChain.Block.{block_end}
use Rattle.kernel_lists.specs.GetvecChain.Tiling.{Tiles}
use Rattle.kernel_lists.specs.GetvecChain.Run.{after_run, first_run, run_size}
use Rattle.kernel_lists.proofs.GetvecChain.Runs.{after_run-used, first_run-small, first_run-used, run_here, run_size-used}
use Rattle.kernel_lists.proofs.GetvecChain.Tilings.{Tiles-inside}

-- the run from start to end where it has n words or more, else another
abbrev pub run_or : ℕ → ℕ → ℕ → Option Run → Option Run
run_or n start end other = cond (leb n (end - start)) (Some (record { start = start; end = end })) other

pub run_or-large : (n start end : ℕ) (other : Option Run) → n ≤ end - start → run_or n start end other ≡ Some (record { start = start; end = end })
run_or-large n start end other h = (let test : leb n (end - start) ≡ true = grind (arith, nat_tests) in ap (λ x. cond x (Some (record { start = start; end = end })) other) test)

pub run_or-small : (n start end : ℕ) (other : Option Run) → end - start < n → run_or n start end other ≡ other
run_or-small n start end other h = (let test : leb n (end - start) ≡ false = grind (arith, nat_tests) in ap (λ x. cond x (Some (record { start = start; end = end })) other) test)

-- the first run of n words or more, where a run was passed and these blocks are left
abbrev pub first_run_after : ℕ → Run → List Block → Option Run
first_run_after n run bs = run_or n run.start (run.end + run_size bs) (first_run n (after_run bs))

-- at first no free block was passed
pub open-none : (s : List ℕ) (n at : ℕ) (bs : List Block) → 0 < n → Tiles s at bs → first_run n bs ≡ first_run_after n (record { start = at; end = at }) bs
open-none s n at [] some t = sym (run_or-small n at (at + 0) None (omega (arith, some)))
open-none s n at (b ∷ bs) some t = on b.free refl
  where
    small : run_size (b ∷ bs) < n → first_run n (b ∷ bs) ≡ first_run_after n (record { start = at; end = at }) (b ∷ bs)
    small lt = first_run-small n (b ∷ bs) lt ∙ sym (run_or-small n at (at + run_size (b ∷ bs)) (first_run n (after_run (b ∷ bs))) (omega (arith, lt)))

    large : b.free ≡ true → n ≤ run_size (b ∷ bs) → first_run n (b ∷ bs) ≡ first_run_after n (record { start = at; end = at }) (b ∷ bs)
    large free le =
        run_here n b bs free le ∙ ap (λ z. Some (record { start = z; end = z + run_size (b ∷ bs) })) t.0
        ∙ sym (run_or-large n at (at + run_size (b ∷ bs)) (first_run n (after_run (b ∷ bs))) (omega (arith, le)))

    by_size : b.free ≡ true → (x : Bool) → leb n (run_size (b ∷ bs)) ≡ x → (r : ℕ) → run_size (b ∷ bs) ≡ r → first_run n (b ∷ bs) ≡ first_run_after n (record { start = at; end = at }) (b ∷ bs)
    by_size free true test r is = large free (let k : leb n r ≡ true = ap (leb n) (sym is) ∙ test in let le : n ≤ r = grind (arith, nat_tests) in omega (arith, le, is))
    by_size free false test r is = small (let k : leb n r ≡ false = ap (leb n) (sym is) ∙ test in let lt : r < n = grind (arith, nat_tests) in omega (arith, lt, is))

    on : (f : Bool) → b.free ≡ f → first_run n (b ∷ bs) ≡ first_run_after n (record { start = at; end = at }) (b ∷ bs)
    on true free = by_size free (leb n (run_size (b ∷ bs))) refl (run_size (b ∷ bs)) refl
    on false used = small (omega (arith, some, run_size-used b bs used))

pub open-small : (s : List ℕ) (n : ℕ) (run : Run) (b : Block) (bs : List Block) → 0 < n → Tiles s (block_end b) bs → b.free ≡ false → run.end - run.start < n
    → first_run_after n run (b ∷ bs) ≡ first_run_after n (record { start = block_end b; end = block_end b }) bs
open-small s n run b bs some t used lt =
    run_or-small n run.start (run.end + run_size (b ∷ bs)) (first_run n (after_run (b ∷ bs))) (omega (arith, lt, run_size-used b bs used))
    ∙ ap (first_run n) (after_run-used b bs used) ∙ first_run-used n b bs used ∙ open-none s n (block_end b) bs some t

-- where the walk is
pub record IsOpen (s : List ℕ) (n : ℕ) (all : Option Run) (run : Run) (bs : List Block) : Type 0 where
  pub tiles : Tiles s run.end bs
  pub order : run.start ≤ run.end
  pub answer : all ≡ first_run_after n run bs

pub opened : (s : List ℕ) (n at : ℕ) (bs items : List Block) → 0 < n → Tiles s at bs → items ≡ bs → IsOpen s n (first_run n bs) (record { start = at; end = at }) items
opened s n at bs items some t is =
    subst (IsOpen s n (first_run n bs) (record { start = at; end = at })) (sym is) (record { tiles = t; order = omega arith; answer = open-none s n at bs some t })

-- the same, with where the free blocks begin that it has passed last
abbrev pub IsOpenFrom : List ℕ → ℕ → Option Run → ℕ → List Block → Type 0
IsOpenFrom s n all start bs = (end : ℕ) × IsOpen s n all (record { start = start; end = end }) bs

-- the block that the walk is at
pub record AtBlock (s : List ℕ) (n : ℕ) (all : Option Run) (run : Run) (b : Block) (rest : List Block) : Type 0 where
  pub start : b.start ≡ run.end
  pub rest_tiles : Tiles s (block_end b) rest
  pub inside : block_end b + 2 ≤ length s
  pub some : 2 ≤ b.size
  pub answer : all ≡ first_run_after n run (b ∷ rest)

pub at_block : (s : List ℕ) (n : ℕ) (all : Option Run) (run : Run) (items : List Block) (b : Block) (rest : List Block) → IsOpen s n all run items → items ≡ b ∷ rest → AtBlock s n all run b rest
at_block s n all run items b rest here is =
    let t : Tiles s run.end (b ∷ rest) = subst (Tiles s run.end) is here.tiles in
    record { start = t.0; rest_tiles = t.2; inside = Tiles-inside s (block_end b) rest t.2; some = t.1.some; answer = here.answer ∙ ap (first_run_after n run) is }

pub step-used : (s : List ℕ) (n : ℕ) (all : Option Run) (run : Run) (b : Block) (rest : List Block) (end : ℕ) → 0 < n → AtBlock s n all run b rest → b.free ≡ false → run.end - run.start < n → end ≡ block_end b
    → IsOpen s n all (record { start = end; end = end }) rest
step-used s n all run b rest end some h used lt is =
    subst (λ z. IsOpen s n all (record { start = z; end = z }) rest) (sym is)
    (record { tiles = h.rest_tiles; order = omega arith; answer = h.answer ∙ open-small s n run b rest some h.rest_tiles used lt })
