-- The list of blocks, cut where a take or a give changes it.
use Rattle.std.proofs.Common.{◌≡◌, ℕ, ◌+◌, ◌≤◌, ◌&&◌, List, [], ◌∷◌, ◌++◌, leb, cond, Bool, true, false, refl, sym, ap, ◌∙◌, subst, arith, Some, None, Option}
use Rattle.std.proofs.lemmas.Bool.Decides.{nat_tests}
use Rattle.kernel_lists.specs.declared.getvec_chain.pieces.Block.{Block}
use Rattle.kernel_lists.specs.declared.getvec_chain.pieces.Run.{Run}
use Rattle.kernel_lists.specs.GetvecChain.Block.{block_end, free_block, is_used_at}
use Rattle.kernel_lists.specs.GetvecChain.Give.{given}
use Rattle.kernel_lists.specs.GetvecChain.Run.{AreFree, BeginsUsed, EndsUsed, after_run, begins_run, first_run, run_size}
use Rattle.kernel_lists.specs.GetvecChain.Take.{split_run, taken}
use Rattle.kernel_lists.specs.GetvecChain.Tiling.{Tiles, used_at, Follow}
use Rattle.kernel_lists.proofs.GetvecChain.AfterGive.{given-none}
use Rattle.kernel_lists.proofs.GetvecChain.Runs.{begins_run-true}
use Rattle.kernel_lists.proofs.GetvecChain.UsedBlocks.{is_used_at-true, used_at-before}

-- the free blocks at the front of the list
abbrev pub front_run : List Block → List Block
front_run [] = []
front_run (b ∷ bs) = cond b.free (b ∷ front_run bs) []

-- the front of the list is its run: all of its blocks are free, they fill it, and no free block follows
pub record FrontSplit (at : ℕ) (bs : List Block) : Type 0 where
  pub is : bs ≡ front_run bs ++ after_run bs
  pub free : AreFree (front_run bs)
  pub fills : Follow at (front_run bs) (at + run_size bs)
  pub whole : BeginsUsed (after_run bs)

pub front_split : (s : List ℕ) (at : ℕ) (bs : List Block) → Tiles s at bs → FrontSplit at bs
front_split s at [] t = record { is = refl; free = tt; fills = omega arith; whole = tt }
front_split s at (b ∷ bs) t = on b.free refl (front_split s (block_end b) bs t.2)
  where
    Split : Bool → Type 0
    Split f = (b ∷ bs ≡ cond f (b ∷ front_run bs) [] ++ cond f (after_run bs) (b ∷ bs)) × AreFree (cond f (b ∷ front_run bs) []) × Follow at (cond f (b ∷ front_run bs) []) (at + cond f (b.size + run_size bs) 0) × BeginsUsed (cond f (after_run bs) (b ∷ bs))

    split : (f : Bool) → b.free ≡ f → FrontSplit (block_end b) bs → Split f
    split true free later =
        (ap (λ z. b ∷ z) later.is, (free, later.free), (t.0, t.1.some, t.1.even, subst (Follow (block_end b) (front_run bs)) (omega (arith, t.0)) later.fills), later.whole)
    split false used later = (refl, tt, omega arith, used)

    on : (f : Bool) → b.free ≡ f → FrontSplit (block_end b) bs → FrontSplit at (b ∷ bs)
    on f is later = (let h : Split b.free = subst Split (sym is) (split f is later) in record { is = h.0; free = h.1; fills = h.2; whole = h.3 })

run_size-used_end : (b : Block) (bs others : List Block) → EndsUsed (b ∷ bs) → run_size (b ∷ (bs ++ others)) ≡ run_size (b ∷ bs)
run_size-used_end b [] others used = ap (λ f. cond f (b.size + run_size others) 0) used ∙ sym (ap (λ f. cond f (b.size + run_size []) 0) used)
run_size-used_end b (c ∷ bs) others used = ap (λ z. cond b.free (b.size + z) 0) (run_size-used_end c bs others used)

-- the blocks before the first run of n words or more, its blocks, and those after it. Neither side has a free block next to it, and no run before it is large enough
pub record TakeSplit (n : ℕ) (old new : List Block) (run : Run) : Type 0 where
  pub before : List Block
  pub free : List Block
  pub after : List Block
  pub old_is : old ≡ before ++ (free ++ after)
  pub new_is : new ≡ before ++ (split_run run.start run.end n ++ after)
  pub are_free : AreFree free
  pub fills : Follow run.start free run.end
  pub enough : n ≤ run_size (free ++ after)
  pub used_before : EndsUsed before
  pub used_after : BeginsUsed after
  pub first : first_run n before ≡ None

too_small : (n : ℕ) (b : Block) (bs : List Block) → begins_run n (b ∷ bs) ≡ false → n ≤ run_size bs → b.free ≡ false
too_small n b bs test enough = on b.free refl
  where
    on : (f : Bool) → b.free ≡ f → f ≡ false
    on true free =
        let large : leb n (b.size + run_size bs) ≡ true = (let le : n ≤ b.size + run_size bs = omega (arith, enough) in grind (arith, nat_tests)) in
        sym (sym test ∙ ap (λ f. f && leb n (cond f (b.size + run_size bs) 0)) free ∙ large)
    on false used = refl

pub take_split : (s : List ℕ) (n at : ℕ) (bs : List Block) (run : Run) → Tiles s at bs → first_run n bs ≡ Some run → TakeSplit n bs (taken n bs) run
take_split s n at [] run t e = cc
take_split s n at (b ∷ bs) run t e = on (begins_run n (b ∷ bs)) refl (λ k. take_split s n (block_end b) bs run t.2 k) e
  where
    here : Run
    here = record { start = b.start; end = b.start + run_size (b ∷ bs) }

    on : (x : Bool) → begins_run n (b ∷ bs) ≡ x → (first_run n bs ≡ Some run → TakeSplit n bs (taken n bs) run) → ◌≡◌ {A = Option Run} (cond x (Some here) (first_run n bs)) (Some run)
        → TakeSplit n (b ∷ bs) (cond x (split_run b.start (b.start + run_size (b ∷ bs)) n ++ after_run (b ∷ bs)) (b ∷ taken n bs)) run
    on true test more e =
        let is : ◌≡◌ {A = Run} here run = cc in
        let front = front_split s at (b ∷ bs) t in
        subst (TakeSplit n (b ∷ bs) (split_run b.start (b.start + run_size (b ∷ bs)) n ++ after_run (b ∷ bs))) is
        (record {
          before = [];
          free = front_run (b ∷ bs);
          after = after_run (b ∷ bs);
          old_is = front.is;
          new_is = refl;
          are_free = front.free;
          fills = subst (λ z. Follow z (front_run (b ∷ bs)) (z + run_size (b ∷ bs))) (sym t.0) front.fills;
          enough = subst (λ z. n ≤ run_size z) front.is (begins_run-true n b bs test).enough;
          used_before = tt;
          used_after = front.whole;
          first = refl;
        })
    on false test more e =
        let r = more e in
        let used : EndsUsed (b ∷ r.before) = ends r.before r.used_before (λ none. too_small n b bs test (subst (λ z. n ≤ run_size z) (sym (r.old_is ∙ ap (λ z. z ++ (r.free ++ r.after)) none)) r.enough)) in
        let same : run_size (b ∷ bs) ≡ run_size (b ∷ r.before) = ap (λ z. run_size (b ∷ z)) r.old_is ∙ run_size-used_end b r.before (r.free ++ r.after) used in
        let small : begins_run n (b ∷ r.before) ≡ false = ap (λ z. b.free && leb n z) (sym same) ∙ test in
        record {
          before = b ∷ r.before;
          free = r.free;
          after = r.after;
          old_is = ap (λ z. b ∷ z) r.old_is;
          new_is = ap (λ z. b ∷ z) r.new_is;
          are_free = r.are_free;
          fills = r.fills;
          enough = r.enough;
          used_before = used;
          used_after = r.used_after;
          first = ap (λ x. cond x (Some (record { start = b.start; end = b.start + run_size (b ∷ r.before) })) (first_run n r.before)) small ∙ r.first;
        }
      where
        ends : (xs : List Block) → EndsUsed xs → (xs ≡ [] → b.free ≡ false) → EndsUsed (b ∷ xs)
        ends [] used last = last refl
        ends (c ∷ xs) used last = used

-- the blocks before the used block at v, that block, and those after it
pub record GiveSplit (old new : List Block) (b : Block) : Type 0 where
  pub before : List Block
  pub after : List Block
  pub old_is : old ≡ before ++ (b ∷ after)
  pub new_is : new ≡ before ++ (free_block b.start b.size ∷ after)

pub give_split : (s : List ℕ) (at : ℕ) (bs : List Block) (v : ℕ) (c : Block) → Tiles s at bs → used_at v bs ≡ Some c → GiveSplit bs (given v bs) c
give_split s at [] v c t e = cc
give_split s at (b ∷ bs) v c t e = on (is_used_at v b) refl (λ k. give_split s (block_end b) bs v c t.2 k) e
  where
    on : (x : Bool) → is_used_at v b ≡ x → (used_at v bs ≡ Some c → GiveSplit bs (given v bs) c) → cond x (Some b) (used_at v bs) ≡ Some c
        → GiveSplit (b ∷ bs) (cond x (free_block b.start b.size) b ∷ given v bs) c
    on true test more e =
        let is : b ≡ c = cc in
        let rest : given v bs ≡ bs = given-none v bs (used_at-before s (block_end b) bs v t.2 (omega (arith, (is_used_at-true v b test).1, t.1.some))) in
        subst (GiveSplit (b ∷ bs) (free_block b.start b.size ∷ given v bs)) is (record { before = []; after = bs; old_is = refl; new_is = ap (λ z. free_block b.start b.size ∷ z) rest })
    on false test more e =
        let r = more e in
        record { before = b ∷ r.before; after = r.after; old_is = ap (λ z. b ∷ z) r.old_is; new_is = ap (λ z. b ∷ z) r.new_is }
