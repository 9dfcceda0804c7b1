-- A block is taken: what is there then, and what stays.
use Rattle.std.proofs.Common.{◌≡◌, ◌≢◌, ◌⊎◌, inl, inr, ℕ, zero, suc, ◌+◌, ◌-◌, ◌%◌, ◌<◌, ◌≤◌, ◌&&◌, List, [], ◌∷◌, ◌++◌, get_or, set, eqb, cond, not, Bool, true, false, refl, sym, ap, ◌∙◌, subst, arith, Some, None, Option, get_or-set_other}
use Rattle.std.proofs.lemmas.Bool.Decides.{nat_tests}
use Rattle.kernel_lists.specs.declared.getvec_chain.pieces.Block.{Block}
use Rattle.kernel_lists.specs.declared.getvec_chain.pieces.Run.{Run}
use Rattle.kernel_lists.specs.GetvecChain.Block.{block_end, is_used_at, used_block}
use Rattle.kernel_lists.specs.GetvecChain.Tiling.{Tiles, used_at, Follow}
use Rattle.kernel_lists.specs.GetvecChain.Run.{after_run, begins_run, first_run, run_size}
use Rattle.kernel_lists.specs.GetvecChain.Take.{left_over, split_run, taken, taken_store, with_size_words}
use Rattle.kernel_lists.proofs.GetvecChain.Runs.{FoundRun, begins_run-true, first_run-found, run-Tiles}
use Rattle.kernel_lists.proofs.GetvecChain.SizeWords.{split_run-Follow, with_size_words-Tiles, with_size_words-outside}
use Rattle.kernel_lists.proofs.GetvecChain.UsedBlocks.{used_at-before, used_at-is}
use Rattle.kernel_lists.proofs.GetvecChain.Writes.{IsBlockIn-same}

-- words outside of the run stay
pub taken_store-outside : (s : List ℕ) (n at a : ℕ) (run : Run) → 2 ≤ n → n % 2 ≡ 0 → FoundRun s n at run → (run.start ≤ a → run.end ≤ a) → get_or (taken_store s run n) a 0 ≡ get_or s a 0
taken_store-outside s n at a run some even f out =
    with_size_words-outside s run.start (split_run run.start run.end n) run.end a (split_run-Follow run.start run.end n some even f.enough f.even) out

-- only two words are written: the block's size word, and that of the rest
pub taken_store-unwritten : (s : List ℕ) (run : Run) (n a : ℕ) → a ≢ run.start → a ≢ run.start + n → get_or (taken_store s run n) a 0 ≡ get_or s a 0
taken_store-unwritten s run n a first second = by (run.end - (run.start + n))
  where
    by : (m : ℕ) → get_or (with_size_words s (used_block run.start n ∷ left_over (run.start + n) m)) a 0 ≡ get_or s a 0
    by zero = get_or-set_other s run.start a n 0 first
    by (suc m) = get_or-set_other (set s run.start n) (run.start + n) a (suc m + 1) 0 second ∙ get_or-set_other s run.start a n 0 first

-- the blocks after the take are there
pub taken-Tiles : (s : List ℕ) (n at : ℕ) (bs : List Block) (run : Run) → 2 ≤ n → n % 2 ≡ 0 → Tiles s at bs → first_run n bs ≡ Some run → Tiles (taken_store s run n) at (taken n bs)
taken-Tiles s n at [] run some even t e = cc
taken-Tiles s n at (b ∷ bs) run some even t e = on (begins_run n (b ∷ bs)) refl (λ k. taken-Tiles s n (block_end b) bs run some even t.2 k) e
  where
    here : Run
    here = record { start = b.start; end = b.start + run_size (b ∷ bs) }

    on : (x : Bool) → begins_run n (b ∷ bs) ≡ x → (first_run n bs ≡ Some run → Tiles (taken_store s run n) (block_end b) (taken n bs)) → ◌≡◌ {A = Option Run} (cond x (Some here) (first_run n bs)) (Some run)
        → Tiles (taken_store s run n) at (cond x (split_run b.start (b.start + run_size (b ∷ bs)) n ++ after_run (b ∷ bs)) (b ∷ taken n bs))
    on true test later e =
        let is : ◌≡◌ {A = Run} here run = cc in
        let front = run-Tiles s at (b ∷ bs) t in
        let enough = (begins_run-true n b bs test).enough in
        subst (λ z. Tiles (taken_store s z n) at (split_run b.start (b.start + run_size (b ∷ bs)) n ++ after_run (b ∷ bs))) is
        (subst (λ z. Tiles (taken_store s here n) z (split_run b.start (b.start + run_size (b ∷ bs)) n ++ after_run (b ∷ bs))) t.0
        (with_size_words-Tiles s b.start (split_run b.start (b.start + run_size (b ∷ bs)) n) (b.start + run_size (b ∷ bs)) (after_run (b ∷ bs))
        (filled (run_size (b ∷ bs)) enough front.even) (subst (λ z. Tiles s (z + run_size (b ∷ bs)) (after_run (b ∷ bs))) (sym t.0) front.after)))
      where
        filled : (r : ℕ) → n ≤ r → r % 2 ≡ 0 → Follow b.start (split_run b.start (b.start + r) n) (b.start + r)
        filled r enough even' = split_run-Follow b.start (b.start + r) n some even (omega (arith, enough)) (omega (arith, even'))
    on false test later e =
        let f = first_run-found s n (block_end b) bs run t.2 e in
        (t.0, IsBlockIn-same s (taken_store s run n) b (taken_store-outside s n (block_end b) b.start run some even f (λ low. absurd (omega (arith, low, f.low, t.1.some)))) t.1, later e)

used_at-free : (v : ℕ) (b : Block) (bs : List Block) → b.free ≡ true → used_at v (b ∷ bs) ≡ used_at v bs
used_at-free v b bs free = ap (λ f. cond (not f && eqb (b.start + 1) v) (Some b) (used_at v bs)) free

-- a run has no used block
pub used_at-after_run : (v : ℕ) (bs : List Block) → used_at v (after_run bs) ≡ used_at v bs
used_at-after_run v [] = refl
used_at-after_run v (b ∷ bs) = on b.free refl (used_at-after_run v bs)
  where
    on : (f : Bool) → b.free ≡ f → used_at v (after_run bs) ≡ used_at v bs → used_at v (cond f (after_run bs) (b ∷ bs)) ≡ used_at v (b ∷ bs)
    on true free later = later ∙ sym (used_at-free v b bs free)
    on false used later = refl

used_at-left_over : (v at m : ℕ) (bs : List Block) → used_at v (left_over at m ++ bs) ≡ used_at v bs
used_at-left_over v at zero bs = refl
used_at-left_over v at (suc m) bs = refl

-- a split run has one
split_run-other : (v start end n : ℕ) (bs : List Block) → v ≢ start + 1 → used_at v (split_run start end n ++ bs) ≡ used_at v bs
split_run-other v start end n bs other =
    let test : eqb (start + 1) v ≡ false = grind (arith, nat_tests, other) in
    rw test (used_at-left_over v (start + n) (end - (start + n)) bs)

split_run-same : (start end n : ℕ) (bs : List Block) → used_at (start + 1) (split_run start end n ++ bs) ≡ Some (used_block start n)
split_run-same start end n bs = (let test : eqb (start + 1) (start + 1) ≡ true = grind (arith, nat_tests) in rw test refl)

-- the other used blocks are those that were
pub used_at-taken-other : (n : ℕ) (bs : List Block) (run : Run) (v : ℕ) → first_run n bs ≡ Some run → v ≢ run.start + 1 → used_at v (taken n bs) ≡ used_at v bs
used_at-taken-other n [] run v e other = refl
used_at-taken-other n (b ∷ bs) run v e other = on (begins_run n (b ∷ bs)) (λ k. used_at-taken-other n bs run v k other) e
  where
    end : ℕ
    end = b.start + run_size (b ∷ bs)

    on : (x : Bool) → (first_run n bs ≡ Some run → used_at v (taken n bs) ≡ used_at v bs) → ◌≡◌ {A = Option Run} (cond x (Some (record { start = b.start; end = end })) (first_run n bs)) (Some run)
        → used_at v (cond x (split_run b.start end n ++ after_run (b ∷ bs)) (b ∷ taken n bs)) ≡ used_at v (b ∷ bs)
    on true later e =
        let is : ◌≡◌ {A = Run} (record { start = b.start; end = end }) run = cc in
        split_run-other v b.start end n (after_run (b ∷ bs)) (λ k. other (k ∙ ap (λ r. r.start + 1) is)) ∙ used_at-after_run v (b ∷ bs)
    on false later e = ap (λ z. cond (is_used_at v b) (Some b) z) (later e)

-- the block that was taken is used, and was not before
pub used_at-taken : (s : List ℕ) (n at : ℕ) (bs : List Block) (run : Run) → Tiles s at bs → first_run n bs ≡ Some run → (used_at (run.start + 1) (taken n bs) ≡ Some (used_block run.start n)) × (used_at (run.start + 1) bs ≡ None)
used_at-taken s n at [] run t e = cc
used_at-taken s n at (b ∷ bs) run t e = on (begins_run n (b ∷ bs)) refl (λ k. used_at-taken s n (block_end b) bs run t.2 k) e
  where
    here : Run
    here = record { start = b.start; end = b.start + run_size (b ∷ bs) }

    IsNew : Run → List Block → Type 0
    IsNew r cs = (used_at (r.start + 1) cs ≡ Some (used_block r.start n)) × (used_at (r.start + 1) (b ∷ bs) ≡ None)

    on : (x : Bool) → begins_run n (b ∷ bs) ≡ x → (first_run n bs ≡ Some run → (used_at (run.start + 1) (taken n bs) ≡ Some (used_block run.start n)) × (used_at (run.start + 1) bs ≡ None))
        → ◌≡◌ {A = Option Run} (cond x (Some here) (first_run n bs)) (Some run)
        → IsNew run (cond x (split_run b.start (b.start + run_size (b ∷ bs)) n ++ after_run (b ∷ bs)) (b ∷ taken n bs))
    on true test later e =
        let is : ◌≡◌ {A = Run} here run = cc in
        subst (λ z. IsNew z (split_run b.start (b.start + run_size (b ∷ bs)) n ++ after_run (b ∷ bs))) is (
          split_run-same b.start (b.start + run_size (b ∷ bs)) n (after_run (b ∷ bs)),
          used_at-free (b.start + 1) b bs (begins_run-true n b bs test).free ∙ used_at-before s (block_end b) bs (b.start + 1) t.2 (omega (arith, t.1.some)),
        )
    on false test later e =
        let l = later e in
        let low = (first_run-found s n (block_end b) bs run t.2 e).low in
        let test : eqb (b.start + 1) (run.start + 1) ≡ false = (let k : b.start < run.start = omega (arith, low, t.1.some) in grind (arith, nat_tests)) in
        let past : (z : Option Block) → cond (not b.free && eqb (b.start + 1) (run.start + 1)) (Some b) z ≡ z = λ z. rw test (skip (not b.free) z) in
        (past (used_at (run.start + 1) (taken n bs)) ∙ l.0, past (used_at (run.start + 1) bs) ∙ l.1)
      where
        skip : (f : Bool) (z : Option Block) → cond (f && false) (Some b) z ≡ z
        skip true z = refl
        skip false z = refl

-- a used block lies outside of the run
pub used_at-outside_run : (s : List ℕ) (n at : ℕ) (bs : List Block) (run : Run) (v : ℕ) (c : Block) → Tiles s at bs → first_run n bs ≡ Some run → used_at v bs ≡ Some c → (block_end c ≤ run.start) ⊎ (run.end ≤ c.start)
used_at-outside_run s n at [] run v c t e k = cc
used_at-outside_run s n at (b ∷ bs) run v c t e k = on (begins_run n (b ∷ bs)) (λ e k. used_at-outside_run s n (block_end b) bs run v c t.2 e k) e
  where
    on : (x : Bool) → (first_run n bs ≡ Some run → used_at v bs ≡ Some c → (block_end c ≤ run.start) ⊎ (run.end ≤ c.start))
        → ◌≡◌ {A = Option Run} (cond x (Some (record { start = b.start; end = b.start + run_size (b ∷ bs) })) (first_run n bs)) (Some run) → (block_end c ≤ run.start) ⊎ (run.end ≤ c.start)
    on true later e =
        let is : ◌≡◌ {A = Run} (record { start = b.start; end = b.start + run_size (b ∷ bs) }) run = cc in
        let u = used_at-is s (at + run_size (b ∷ bs)) (after_run (b ∷ bs)) v c (run-Tiles s at (b ∷ bs) t).after (used_at-after_run v (b ∷ bs) ∙ k) in
        inr (later_start (run_size (b ∷ bs)) u.low (ap (λ r. r.end) is))
      where
        later_start : (r : ℕ) → at + r ≤ c.start → b.start + r ≡ run.end → run.end ≤ c.start
        later_start r low end = omega (arith, low, end, t.0)
    on false later e = by (is_used_at v b) k
      where
        by : (y : Bool) → cond y (Some b) (used_at v bs) ≡ Some c → (block_end c ≤ run.start) ⊎ (run.end ≤ c.start)
        by true k = (let is : b ≡ c = cc in inl (omega (arith, ap block_end is, (first_run-found s n (block_end b) bs run t.2 e).low)))
        by false k = later e k
