-- The size words of a run of free blocks: that of its front, and those of the blocks that are joined to it.
use Rattle.std.proofs.Common.{◌≡◌, ℕ, zero, suc, ◌+◌, ◌-◌, ◌<◌, ◌≤◌, ◌⊎◌, ◌&&◌, List, [], ◌∷◌, ◌++◌, cond, ltb, Bool, true, false, inl, inr, Option, Some, refl, sym, ap, ◌∙◌, subst, arith, append-nil, append_assoc}
use Rattle.std.proofs.lemmas.Bool.{and_parts, cases_eq, cases_lt, le-ltb, lt-ltb}
use Rattle.std.proofs.lemmas.Bool.Decides.{nat_tests}
use Rattle.std.proofs.lemmas.Grind.{flat_map-append}
use Rattle.word_store.specs.Count.{hit, times}
use Rattle.word_store.proofs.Counts.{hit-other, hit-same}
use Rattle.kernel_lists.specs.OwnedWords.Owned.{owners}
use Rattle.kernel_lists.proofs.OwnedWords.OwnedWords.{owners-append}
use Rattle.kernel_lists.specs.declared.getvec_chain.pieces.Block.{Block}
use Rattle.kernel_lists.specs.declared.getvec_chain.pieces.Run.{Run}
use Rattle.kernel_lists.specs.GetvecChain.Block.{block_end}
use Rattle.kernel_lists.specs.GetvecChain.BlockWords.{block_words, blocks_words}
use Rattle.kernel_lists.specs.GetvecChain.Run.{AreFree, begins_run, first_run, run_size}
use Rattle.kernel_lists.specs.GetvecChain.Take.{left_over}
use Rattle.kernel_lists.specs.GetvecChain.Tiling.{Follow, IsTiledFrom, Tiles, blocks_from}
use Rattle.kernel_lists.proofs.GetvecChain.Runs.{first_run-found}
use Rattle.kernel_lists.proofs.GetvecChain.Tilings.{blocks_from-is}
use Rattle.kernel_model.proofs.KernelRecord.BlockStarts.{InFree, in-free, starts-once, starts-within}
use Rattle.kernel_model.proofs.KernelRecord.FollowedBlocks.{member-data}
use Rattle.kernel_calls.specs.BlockCalls.Private.JoinedStarts.{joined_start, joined_starts, rest_start}

module _ (run : Run) (a : ℕ) where
  -- behind the front of the run each start is one that is joined
  joined-inside : (bs : List Block) → run.start < a → a < run.end → times a (joined_starts run bs) ≡ owners a (blocks_words bs)
  joined-inside [] low high = refl
  joined-inside (b ∷ bs) low high = on (cases_eq a b.start) (joined-inside bs low high)
    where
      rest : ℕ
      rest = times a (joined_starts run bs)

      on : (a ≡ b.start) ⊎ (a ≡ b.start → ⊥) → rest ≡ owners a (blocks_words bs) → times a (joined_start run b ++ joined_starts run bs) ≡ hit a b.start + owners a (blocks_words bs)
      on (inl e) more =
          let inside : (ltb run.start b.start && ltb b.start run.end) ≡ true = (λ i. ltb run.start (sym e i) && ltb (sym e i) run.end) ∙ (λ i. lt-ltb run.start a low i && lt-ltb a run.end high i) in
          ap (λ x. times a (cond x (b.start ∷ []) [] ++ joined_starts run bs)) inside ∙ ap (λ n. hit a b.start + n) more
      on (inr ne) more = by (ltb run.start b.start && ltb b.start run.end)
        where
          by : (x : Bool) → times a (cond x (b.start ∷ []) [] ++ joined_starts run bs) ≡ hit a b.start + owners a (blocks_words bs)
          by true = ap (λ n. hit a b.start + n) more
          by false = omega (arith, more, hit-other a b.start ne)

  -- and outside there is none
  joined-outside : (bs : List Block) → (a ≤ run.start) ⊎ (run.end ≤ a) → times a (joined_starts run bs) ≡ 0
  joined-outside [] out = refl
  joined-outside (b ∷ bs) out = by (ltb run.start b.start && ltb b.start run.end) refl (joined-outside bs out)
    where
      differ : (run.start < b.start) → (b.start < run.end) → (a ≤ run.start) ⊎ (run.end ≤ a) → a ≡ b.start → ⊥
      differ low high (inl before) e = omega (arith, low, before, e)
      differ low high (inr behind) e = omega (arith, high, behind, e)

      within : (ltb run.start b.start && ltb b.start run.end) ≡ true → a ≡ b.start → ⊥
      within e =
          let both = and_parts (ltb run.start b.start) (ltb b.start run.end) e in
          differ (less run.start b.start both.0) (less b.start run.end both.1) out
        where
          less : (x y : ℕ) → ltb x y ≡ true → x < y
          less x y h = grind (arith, nat_tests)

      by : (x : Bool) → (ltb run.start b.start && ltb b.start run.end) ≡ x → times a (joined_starts run bs) ≡ 0 → times a (cond x (b.start ∷ []) [] ++ joined_starts run bs) ≡ 0
      by true e none = omega (arith, none, hit-other a b.start (within e))
      by false e none = none

-- so the starts in a run are its front and those that are joined
pub run-starts : (a : ℕ) (run : Run) (before free after : List Block) (end : ℕ) → Follow 200 (before ++ (free ++ after)) end → Follow run.start free run.end → AreFree free → run.start < run.end
    → owners a (blocks_words free) ≡ times a (joined_starts run (before ++ (free ++ after))) + hit a run.start
run-starts a run before free after end follow fills are_free some = on (cases_lt run.start a)
  where
    bs : List Block
    bs = before ++ (free ++ after)

    Says : Type 0
    Says = owners a (blocks_words free) ≡ times a (joined_starts run bs) + hit a run.start

    -- the front begins a block of the run
    front : a ≡ run.start → owners a (blocks_words free) ≡ 1
    front e = first free fills
      where
        first : (fs : List Block) → Follow run.start fs run.end → owners a (blocks_words fs) ≡ 1
        first [] f = absurd (omega (arith, f, some))
        first (b ∷ fs) f = omega (arith, hit-same a b.start (e ∙ sym f.0), starts-once run.start (b ∷ fs) run.end a f)

    none-outside : (a < run.start) ⊎ (run.end ≤ a) → owners a (blocks_words free) ≡ 0
    none-outside out =
        elim (cases_lt 0 (owners a (blocks_words free))) [
          | inl has ↦ absurd (clash out (starts-within run.start free run.end a fills has))
          | inr none ↦ omega (arith, none)
        ]
      where
        clash : (a < run.start) ⊎ (run.end ≤ a) → (run.start ≤ a) × (a < run.end) → ⊥
        clash (inl low) w = omega (arith, low, w.0)
        clash (inr high) w = omega (arith, high, w.1)

    total : owners a (blocks_words bs) ≡ owners a (blocks_words before) + (owners a (blocks_words free) + owners a (blocks_words after))
    total =
        omega (
          arith,
          ap (owners a) (flat_map-append block_words before (free ++ after)),
          ap (owners a) (flat_map-append block_words free after),
          owners-append a (blocks_words before) (blocks_words (free ++ after)),
          owners-append a (blocks_words free) (blocks_words after),
        )

    -- a word of the run that begins none of its blocks begins no block
    no_start : InFree free a → owners a (blocks_words bs) ≡ 0
    no_start r =
        let is : bs ≡ (before ++ r.before) ++ r.block ∷ (r.after ++ after) = ap (λ z. before ++ (z ++ after)) r.is ∙ simp append_assoc in
        ap (λ z. owners a (blocks_words z)) is
        ∙ (member-data 200 (before ++ r.before) r.block (r.after ++ after) end a (subst (λ z. Follow 200 z end) is follow) r.above r.below).no_start

    same : run.start < a → a < run.end → owners a (blocks_words free) ≡ owners a (blocks_words bs)
    same low high =
        elim (cases_lt 0 (owners a (blocks_words free))) [
          | inl has ↦ omega (arith, has, total, starts-once 200 bs end a follow, starts-once run.start free run.end a fills)
          | inr none ↦ omega (arith, none, no_start (in-free run.start free run.end a fills are_free (omega (arith, low)) high (omega (arith, none))))
        ]

    on : (run.start < a) ⊎ (a ≤ run.start) → Says
    on (inl low) =
        elim (cases_lt a run.end) [
          | inl high ↦ omega (arith, same low high, joined-inside run a bs low high, hit-other a run.start (λ e. absurd (omega (arith, e, low))))
          | inr behind ↦ omega (arith, none-outside (inr behind), joined-outside run a bs (inr behind), hit-other a run.start (λ e. absurd (omega (arith, e, low))))
        ]
    on (inr low) =
        elim (cases_eq a run.start) [
          | inl e ↦ omega (arith, front e, joined-outside run a bs (inl low), hit-same a run.start e)
          | inr ne ↦ omega (arith, none-outside (inl (omega (arith, low, ne))), joined-outside run a bs (inl low), hit-other a run.start ne)
        ]

-- the start of the rest
pub rest-starts : (a rest end : ℕ) → owners a (blocks_words (left_over rest (end - rest))) ≡ times a (rest_start rest end)
rest-starts a rest end = by (end - rest) refl
  where
    by : (m : ℕ) → end - rest ≡ m → owners a (blocks_words (left_over rest m)) ≡ times a (cond (ltb rest end) (rest ∷ []) [])
    by zero e = ap (λ x. times a (cond x (rest ∷ []) [])) (sym (le-ltb rest end (omega (arith, e))))
    by (suc m) e = ap (λ x. times a (cond x (rest ∷ []) [])) (sym (lt-ltb rest end (omega (arith, e))))

-- ---- a walk that ends with the run

-- blocks that begin behind the run are not joined to it
pub joined-behind : (s : List ℕ) (run : Run) (at : ℕ) (bs : List Block) → Tiles s at bs → run.end ≤ at → joined_starts run bs ≡ []
joined-behind s run at [] t behind = refl
joined-behind s run at (b ∷ bs) t behind =
    let out : ltb b.start run.end ≡ false = le-ltb b.start run.end (omega (arith, t.0, behind)) in
    ap (λ x. cond (ltb run.start b.start && x) (b.start ∷ []) [] ++ joined_starts run bs) out
    ∙ skip (ltb run.start b.start)
    ∙ joined-behind s run (block_end b) bs t.2 (omega (arith, t.0, behind))
  where
    skip : (x : Bool) → cond (x && false) (b.start ∷ []) [] ++ joined_starts run bs ≡ joined_starts run bs
    skip true = refl
    skip false = refl

-- the blocks from one of them on
pub tiles-from : (s : List ℕ) (at : ℕ) (front : List Block) (b : Block) (back : List Block) → Tiles s at (front ++ b ∷ back) → Tiles s b.start (b ∷ back)
tiles-from s at [] b back t = (refl, t.1, t.2)
tiles-from s at (f ∷ fs) b back t = tiles-from s (block_end f) fs b back t.2

-- so what was joined up to a block behind the run is all
pub joined-so_far : (s : List ℕ) (run : Run) (at : ℕ) (front items : List Block) (b : Block) (back : List Block) → IsTiledFrom s at → blocks_from s at ≡ front ++ items → items ≡ b ∷ back → run.end ≤ b.start
    → joined_starts run (blocks_from s at) ≡ joined_starts run front
joined-so_far s run at front items b back t all is behind =
    let whole : blocks_from s at ≡ front ++ b ∷ back = all ∙ ap (λ z. front ++ z) is in
    ap (joined_starts run) whole
    ∙ flat_map-append (joined_start run) front (b ∷ back)
    ∙ ap (λ z. joined_starts run front ++ z) (joined-behind s run b.start (b ∷ back) (tiles-from s at front b back (subst (Tiles s at) whole t)) behind)
    ∙ append-nil (joined_starts run front)

-- none of the blocks before the run is joined to it
pub joined-from : (s : List ℕ) (n at : ℕ) (bs : List Block) (run : Run) → Tiles s at bs → first_run n bs ≡ Some run → joined_starts run bs ≡ joined_starts run (blocks_from s run.start)
joined-from s n at [] run t e = cc
joined-from s n at (b ∷ bs) run t e = on (begins_run n (b ∷ bs)) (λ k. joined-from s n (block_end b) bs run t.2 k) e
  where
    on : (x : Bool) → (first_run n bs ≡ Some run → joined_starts run bs ≡ joined_starts run (blocks_from s run.start)) → ◌≡◌ {A = Option Run} (cond x (Some (record { start = b.start; end = b.start + run_size (b ∷ bs) })) (first_run n bs)) (Some run) → joined_starts run (b ∷ bs) ≡ joined_starts run (blocks_from s run.start)
    on true more e =
        let is : b.start ≡ run.start = cc in
        ap (joined_starts run) (sym (blocks_from-is s run.start (b ∷ bs) (subst (λ z. Tiles s z (b ∷ bs)) (sym t.0 ∙ is) t)))
    on false more e =
        let low : ltb run.start b.start ≡ false = le-ltb run.start b.start (omega (arith, (first_run-found s n (block_end b) bs run t.2 e).low)) in
        ap (λ x. cond (x && ltb b.start run.end) (b.start ∷ []) [] ++ joined_starts run bs) low ∙ more e

-- one more block
pub joined-more : (run : Run) (bs : List Block) (b : Block) → joined_starts run bs ++ joined_start run b ≡ joined_starts run (bs ++ b ∷ [])
joined-more run bs b = sym (flat_map-append (joined_start run) bs (b ∷ []) ∙ ap (λ z. joined_starts run bs ++ z) (append-nil (joined_start run b)))
