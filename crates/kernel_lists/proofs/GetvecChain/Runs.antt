-- Runs of free blocks among the blocks of a store.
use Rattle.std.proofs.Common.{◌≡◌, ℕ, ◌+◌, ◌-◌, ◌%◌, ◌<◌, ◌≤◌, ◌&&◌, List, [], ◌∷◌, length, leb, cond, Bool, true, false, refl, sym, ap, ◌∙◌, subst, arith, Some, Option}
use Rattle.std.proofs.lemmas.Bool.Decides.{nat_tests}
use Rattle.kernel_lists.specs.declared.getvec_chain.pieces.Block.{Block}
use Rattle.kernel_lists.specs.declared.getvec_chain.pieces.Run.{Run}
use Rattle.kernel_lists.specs.GetvecChain.Block.{block_end}
use Rattle.kernel_lists.specs.GetvecChain.Tiling.{IsTiledFrom, Tiles}
use Rattle.kernel_lists.specs.GetvecChain.Run.{after_run, begins_run, first_run, need, run_size}
use Rattle.kernel_lists.proofs.GetvecChain.Tilings.{IsTiledFrom-by, Tiles-inside}

-- a need is even, and 2 or more
pub need-even : (u : ℕ) → (2 ≤ need u) × (need u % 2 ≡ 0)
need-even u = (omega arith, omega arith)

-- the run at the front of the blocks: those after it are from its end on, and its size is even
pub record FrontRun (s : List ℕ) (at : ℕ) (bs : List Block) : Type 0 where
  pub after : Tiles s (at + run_size bs) (after_run bs)
  pub even : run_size bs % 2 ≡ 0
  pub inside : at + run_size bs + 2 ≤ length s

pub run-Tiles : (s : List ℕ) (at : ℕ) (bs : List Block) → Tiles s at bs → FrontRun s at bs
run-Tiles s at bs t = (let r = runs at bs t in record { after = r.0; even = r.1; inside = Tiles-inside s (at + run_size bs) (after_run bs) r.0 })
  where
    runs : (at : ℕ) (bs : List Block) → Tiles s at bs → Tiles s (at + run_size bs) (after_run bs) × (run_size bs % 2 ≡ 0)
    runs at [] t = (subst (λ z. Tiles s z []) (omega arith) t, refl)
    runs at (b ∷ bs) t =
        let later = runs (block_end b) bs t.2 in
        let e : block_end b + run_size bs ≡ at + (b.size + run_size bs) = omega (arith, t.0) in
        elim b.free as (λ f. Tiles s (at + cond f (b.size + run_size bs) 0) (cond f (after_run bs) (b ∷ bs)) × (cond f (b.size + run_size bs) 0 % 2 ≡ 0)) [
          | true ↦ (subst (λ z. Tiles s z (after_run bs)) e later.0, omega (arith, t.1.even, later.1))
          | false ↦ (subst (λ z. Tiles s z (b ∷ bs)) (omega arith) t, refl)
        ]

pub run_size-free : (b : Block) (bs : List Block) → b.free ≡ true → run_size (b ∷ bs) ≡ b.size + run_size bs
run_size-free b bs free = ap (λ f. cond f (b.size + run_size bs) 0) free

pub run_size-used : (b : Block) (bs : List Block) → b.free ≡ false → run_size (b ∷ bs) ≡ 0
run_size-used b bs used = ap (λ f. cond f (b.size + run_size bs) 0) used

pub after_run-used : (b : Block) (bs : List Block) → b.free ≡ false → after_run (b ∷ bs) ≡ b ∷ bs
after_run-used b bs used = ap (λ f. cond f (after_run bs) (b ∷ bs)) used

-- a run that is large enough begins with a free block
pub record Begins (n : ℕ) (b : Block) (bs : List Block) : Type 0 where
  pub free : b.free ≡ true
  pub enough : n ≤ run_size (b ∷ bs)

pub begins_run-true : (n : ℕ) (b : Block) (bs : List Block) → begins_run n (b ∷ bs) ≡ true → Begins n b bs
begins_run-true n b bs h = record { free = left b.free _ h; enough = (let test : leb n (run_size (b ∷ bs)) ≡ true = right b.free _ h in large (run_size (b ∷ bs)) test) }
  where
    left : (f x : Bool) → (f && x) ≡ true → f ≡ true
    left true x h = refl
    left false x h = h

    right : (f x : Bool) → (f && x) ≡ true → x ≡ true
    right true x h = h
    right false x h = cc

    large : (r : ℕ) → leb n r ≡ true → n ≤ r
    large r test = grind (arith, nat_tests)

-- the first run that is large enough
pub record FoundRun (s : List ℕ) (n at : ℕ) (run : Run) : Type 0 where
  pub low : at ≤ run.start
  pub enough : run.start + n ≤ run.end
  pub even : (run.end - run.start) % 2 ≡ 0
  pub inside : run.end + 2 ≤ length s

pub first_run-found : (s : List ℕ) (n at : ℕ) (bs : List Block) (run : Run) → Tiles s at bs → first_run n bs ≡ Some run → FoundRun s n at run
first_run-found s n at [] run t e = cc
first_run-found s n at (b ∷ bs) run t e = on (begins_run n (b ∷ bs)) refl (λ k. first_run-found s n (block_end b) bs run t.2 k) e
  where
    on : (x : Bool) → begins_run n (b ∷ bs) ≡ x → (first_run n bs ≡ Some run → FoundRun s n (block_end b) run) → ◌≡◌ {A = Option Run} (cond x (Some (record { start = b.start; end = b.start + run_size (b ∷ bs) })) (first_run n bs)) (Some run) → FoundRun s n at run
    on true test more e =
        let front = run-Tiles s at (b ∷ bs) t in
        let begins = begins_run-true n b bs test in
        let is : ◌≡◌ {A = Run} (record { start = b.start; end = b.start + run_size (b ∷ bs) }) run = cc in
        subst (FoundRun s n at) is (by (run_size (b ∷ bs)) begins.enough front.even front.inside)
      where
        by : (r : ℕ) → n ≤ r → r % 2 ≡ 0 → at + r + 2 ≤ length s → FoundRun s n at (record { start = b.start; end = b.start + r })
        by r enough even inside = record { low = omega (arith, t.0); enough = omega (arith, enough); even = omega (arith, even); inside = omega (arith, inside, t.0) }
    on false test more e =
        let f = more e in
        record { low = omega (arith, f.low, t.0); enough = f.enough; even = f.even; inside = f.inside }

-- a used block is passed over
pub first_run-used : (n : ℕ) (b : Block) (bs : List Block) → b.free ≡ false → first_run n (b ∷ bs) ≡ first_run n bs
first_run-used n b bs used = ap (λ f. cond (f && leb n (run_size (b ∷ bs))) (Some (record { start = b.start; end = b.start + run_size (b ∷ bs) })) (first_run n bs)) used

-- a run that is too small is passed over as a whole
pub first_run-small : (n : ℕ) (bs : List Block) → run_size bs < n → first_run n bs ≡ first_run n (after_run bs)
first_run-small n [] small = refl
first_run-small n (b ∷ bs) small = on b.free refl small (λ lt. first_run-small n bs lt)
  where
    too_few : (r : ℕ) → r < n → leb n r ≡ false
    too_few r lt = grind (arith, nat_tests)

    on : (f : Bool) → b.free ≡ f → cond f (b.size + run_size bs) 0 < n → (run_size bs < n → first_run n bs ≡ first_run n (after_run bs))
        → cond (f && leb n (cond f (b.size + run_size bs) 0)) (Some (record { start = b.start; end = b.start + cond f (b.size + run_size bs) 0 })) (first_run n bs) ≡ first_run n (cond f (after_run bs) (b ∷ bs))
    on true is lt more = ap (λ x. cond x (Some (record { start = b.start; end = b.start + (b.size + run_size bs) })) (first_run n bs)) (too_few (b.size + run_size bs) lt) ∙ more (omega (arith, lt))
    on false is lt more = sym (first_run-used n b bs is)

-- a run that is large enough is the first one
pub run_here : (n : ℕ) (b : Block) (bs : List Block) → b.free ≡ true → n ≤ run_size (b ∷ bs) → first_run n (b ∷ bs) ≡ Some (record { start = b.start; end = b.start + run_size (b ∷ bs) })
run_here n b bs free enough = ap (λ f. cond (f && leb n (run_size (b ∷ bs))) (Some run) (first_run n bs)) free ∙ ap (λ x. cond x (Some run) (first_run n bs)) (test (run_size (b ∷ bs)) enough)
  where
    run : Run
    run = record { start = b.start; end = b.start + run_size (b ∷ bs) }

    test : (r : ℕ) → n ≤ r → leb n r ≡ true
    test r le = grind (arith, nat_tests)

-- the blocks from the run on are there
pub run-tiled : (s : List ℕ) (n at : ℕ) (bs : List Block) (run : Run) → Tiles s at bs → first_run n bs ≡ Some run → IsTiledFrom s run.start
run-tiled s n at [] run t e = cc
run-tiled s n at (b ∷ bs) run t e = on (begins_run n (b ∷ bs)) (λ k. run-tiled s n (block_end b) bs run t.2 k) e
  where
    on : (x : Bool) → (first_run n bs ≡ Some run → IsTiledFrom s run.start) → ◌≡◌ {A = Option Run} (cond x (Some (record { start = b.start; end = b.start + run_size (b ∷ bs) })) (first_run n bs)) (Some run) → IsTiledFrom s run.start
    on true more e =
        let is : b.start ≡ run.start = cc in
        IsTiledFrom-by s run.start (b ∷ bs) (subst (λ z. Tiles s z (b ∷ bs)) (sym t.0 ∙ is) t)
    on false more e = more e
