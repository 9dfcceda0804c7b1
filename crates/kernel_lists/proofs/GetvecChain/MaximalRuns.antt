-- The first run is the first of the maximal ones.
use Rattle.std.proofs.Common.{◌≡◌, inl, inr, ℕ, ◌+◌, ◌-◌, ◌<◌, ◌≤◌, List, [], ◌∷◌, ◌++◌, cond, Bool, true, false, refl, sym, ap, ◌∙◌, subst, arith, Some, None, Option}
use Rattle.std.proofs.lemmas.Bool.{cases_lt}
use Rattle.kernel_lists.specs.declared.getvec_chain.pieces.Block.{Block}
use Rattle.kernel_lists.specs.declared.getvec_chain.pieces.Run.{Run}
use Rattle.kernel_lists.specs.GetvecChain.Block.{block_end}
use Rattle.kernel_lists.specs.GetvecChain.Run.{AreFree, IsFirstRun, IsMaximalRun, begins_run, first_run, run_size}
use Rattle.kernel_lists.specs.GetvecChain.Take.{taken}
use Rattle.kernel_lists.specs.GetvecChain.Tiling.{Follow, IsTiled, Tiles, blocks_in}
use Rattle.kernel_lists.proofs.GetvecChain.Runs.{FoundRun, first_run-found, run_here, run_size-free}
use Rattle.kernel_lists.proofs.GetvecChain.SizeWords.{Follow-order}
use Rattle.kernel_lists.proofs.GetvecChain.Splits.{TakeSplit, take_split}

-- free blocks at the front of the list are part of its run
run_size-front : (start : ℕ) (free after : List Block) (end : ℕ) → AreFree free → Follow start free end → end - start ≤ run_size (free ++ after)
run_size-front start [] after end all f = omega (arith, f)
run_size-front start (b ∷ bs) after end all f =
    omega (arith, run_size-free b (bs ++ after) all.0, run_size-front (block_end b) bs after end all.1 f.3, f.0, Follow-order (block_end b) bs end f.3)

-- blocks that are behind others begin behind them
start-behind : (s : List ℕ) (at : ℕ) (before free after : List Block) (start end : ℕ) → Tiles s at (before ++ (free ++ after)) → Follow start free end → start < end → at ≤ start
start-behind s at [] [] after start end t f some = absurd (omega (arith, f, some))
start-behind s at [] (b ∷ bs) after start end t f some = omega (arith, t.0, f.0)
start-behind s at (b ∷ bs) free after start end t f some = omega (arith, t.0, start-behind s (block_end b) bs free after start end t.2 f some)

record FoundBefore (n : ℕ) (bs : List Block) (start : ℕ) : Type 0 where
  pub run : Run
  pub is : first_run n bs ≡ Some run
  pub low : run.start ≤ start

-- where free blocks fill n words or more, a run is found that does not begin behind them
found-before : (s : List ℕ) (n at : ℕ) (before free after : List Block) (start end : ℕ) → 0 < n → Tiles s at (before ++ (free ++ after)) → AreFree free → Follow start free end → n ≤ end - start
    → FoundBefore n (before ++ (free ++ after)) start
found-before s n at [] [] after start end some t all f enough = absurd (omega (arith, f, some, enough))
found-before s n at [] (b ∷ bs) after start end some t all f enough =
    record {
      run = record { start = b.start; end = b.start + run_size (b ∷ (bs ++ after)) };
      is = run_here n b (bs ++ after) all.0 (large (run_size (b ∷ (bs ++ after))) (run_size-front start (b ∷ bs) after end all f));
      low = omega (arith, f.0);
    }
  where
    large : (r : ℕ) → end - start ≤ r → n ≤ r
    large r le = omega (arith, enough, le)
found-before s n at (b ∷ bs) free after start end some t all f enough = on (begins_run n (b ∷ (bs ++ (free ++ after)))) refl (found-before s n (block_end b) bs free after start end some t.2 all f enough)
  where
    rest : List Block
    rest = bs ++ (free ++ after)

    here : Run
    here = record { start = b.start; end = b.start + run_size (b ∷ rest) }

    on : (x : Bool) → begins_run n (b ∷ rest) ≡ x → FoundBefore n rest start → FoundBefore n (b ∷ rest) start
    on true test later =
        record {
          run = here;
          is = ap (λ x. cond x (Some here) (first_run n rest)) test;
          low = omega (arith, t.0, start-behind s at (b ∷ bs) free after start end t f (omega (arith, some, enough)));
        }
    on false test later = record { run = later.run; is = ap (λ x. cond x (Some here) (first_run n rest)) test ∙ later.is; low = later.low }

-- of any maximal run
before-maximal : (s : List ℕ) (n : ℕ) (run : Run) → 0 < n → IsTiled s → IsMaximalRun (blocks_in s) run → n ≤ run.end - run.start → FoundBefore n (blocks_in s) run.start
before-maximal s n run some tiled m enough =
    subst (λ z. FoundBefore n z run.start) (sym m.is)
    (found-before s n 200 m.before m.free m.after run.start run.end some (subst (Tiles s 200) m.is tiled) m.are_free m.fills enough)

pub first_run-first : (s : List ℕ) (n : ℕ) (run : Run) → 0 < n → IsTiled s → first_run n (blocks_in s) ≡ Some run → IsFirstRun n (blocks_in s) run
first_run-first s n run some tiled is =
    let t : TakeSplit n (blocks_in s) (taken n (blocks_in s)) run = take_split s n 200 (blocks_in s) run tiled is in
    let f : FoundRun s n 200 run = first_run-found s n 200 (blocks_in s) run tiled is in
    record {
      maximal =
          record { before = t.before; free = t.free; after = t.after; is = t.old_is; are_free = t.are_free; fills = t.fills; used_before = t.used_before; used_after = t.used_after };
      enough = omega (arith, f.enough);
      first = λ other m enough.
          (let b : FoundBefore n (blocks_in s) other.start = before-maximal s n other some tiled m enough in
          let same : b.run ≡ run = one b.run run (sym b.is ∙ is) in
          omega (arith, b.low, ap (λ r. r.start) same));
    }
  where
    one : (x y : Run) → ◌≡◌ {A = Option Run} (Some x) (Some y) → x ≡ y
    one x y e = cc

pub first_run-none : (s : List ℕ) (n : ℕ) → 0 < n → IsTiled s → first_run n (blocks_in s) ≡ None → (run : Run) → IsMaximalRun (blocks_in s) run → run.end - run.start < n
first_run-none s n some tiled none run m =
    elim (cases_lt (run.end - run.start) n) [
      | inl less ↦ less
      | inr enough ↦ (let b : FoundBefore n (blocks_in s) run.start = before-maximal s n run some tiled m enough in absurd (clash b.run (sym none ∙ b.is)))
    ]
  where
    clash : (r : Run) → ◌≡◌ {A = Option Run} None (Some r) → ⊥
    clash r e = cc
