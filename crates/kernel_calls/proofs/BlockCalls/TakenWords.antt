-- A keeper that was told of a take knows the words of the lists once the block was taken.
use Rattle.std.proofs.Common.{◌≡◌, ℕ, ◌+◌, ◌-◌, ◌≤◌, List, ◌++◌, Some, sym, ap, ◌∙◌, subst, arith}
use Rattle.std.proofs.lemmas.Grind.{flat_map-append}
use Rattle.word_store.specs.Count.{hit, times}
use Rattle.kernel_lists.specs.OwnedWords.Owned.{owners}
use Rattle.kernel_lists.proofs.OwnedWords.OwnedWords.{owners-append}
use Rattle.kernel_lists.specs.declared.getvec_chain.pieces.Block.{Block}
use Rattle.kernel_lists.specs.declared.getvec_chain.pieces.Run.{Run}
use Rattle.kernel_lists.specs.GetvecChain.BlockWords.{block_words, blocks_words}
use Rattle.kernel_lists.specs.GetvecChain.Run.{first_run, need}
use Rattle.kernel_lists.specs.GetvecChain.Take.{split_run, taken}
use Rattle.kernel_lists.specs.GetvecChain.Tiling.{Follow, blocks_in}
use Rattle.kernel_lists.proofs.GetvecChain.Runs.{FoundRun, first_run-found, need-even}
use Rattle.kernel_lists.proofs.GetvecChain.Splits.{TakeSplit, take_split}
use Rattle.kernel_model.specs.KernelRecord.ChangedStore.{Knows}
use Rattle.kernel_model.specs.KernelRecord.HoldsLists.{HoldsLists}
use Rattle.kernel_model.specs.KernelRecord.Lists.{Lists}
use Rattle.kernel_model.specs.KernelRecord.Owned.{owned}
use Rattle.kernel_model.specs.KernelRecord.ReadsLists.{ReadsLists}
use Rattle.kernel_model.proofs.KernelRecord.OwnerCounts.{owned-blocks, owners-owned}
use Rattle.kernel_calls.proofs.CallAnswers.FoundTask.{reads}
use Rattle.kernel_calls.specs.BlockCalls.FreeStore.{with_taken}
use Rattle.kernel_model.specs.WordKinds.Private.ToldWords.{WasClaimed, WasReleased}
use Rattle.kernel_calls.specs.BlockCalls.Private.JoinedStarts.{joined_starts, rest_start}
use Rattle.kernel_calls.proofs.BlockCalls.JoinedRuns.{rest-starts, run-starts}

module _ (s : List ℕ) (l : Lists) (u : ℕ) (run : Run) (h : HoldsLists s l) (first : first_run (need u) (blocks_in s) ≡ Some run) where
  abbrev n : ℕ
  n = need u

  abbrev gone : List ℕ
  gone = joined_starts run (blocks_in s)

  abbrev rest : List ℕ
  rest = rest_start (run.start + n) run.end

  r : ReadsLists s l
  r = reads s l h

  split : TakeSplit n (blocks_in s) (taken n (blocks_in s)) run
  split = take_split s n 200 (blocks_in s) run r.tiled first

  pub found : FoundRun s n 200 run
  found = first_run-found s n 200 (blocks_in s) run r.tiled first

  free-is : (a : ℕ) → owners a (blocks_words split.free) ≡ times a gone + hit a run.start
  free-is a =
      subst (λ bs. owners a (blocks_words split.free) ≡ times a (joined_starts run bs) + hit a run.start) (sym split.old_is)
      (run-starts a run split.before split.free split.after (l.size - 2) (subst (λ bs. Follow 200 bs (l.size - 2)) (sym r.blocks ∙ split.old_is) h.valid.blocks) split.fills split.are_free
      (omega (arith, found.enough, (need-even u).0)))

  abbrev parts : List Block
  parts = split_run run.start run.end n

  new-is : (a : ℕ) → owners a (blocks_words parts) ≡ times a rest + hit a run.start
  new-is a = omega (arith, rest-starts a (run.start + n) run.end)

  -- how often some blocks begin at an address
  joined : (a : ℕ) (xs : List Block) → owners a (blocks_words (split.before ++ (xs ++ split.after))) ≡ owners a (blocks_words split.before) + (owners a (blocks_words xs) + owners a (blocks_words split.after))
  joined a xs =
      omega (
        arith,
        ap (owners a) (flat_map-append block_words split.before (xs ++ split.after)),
        ap (owners a) (flat_map-append block_words xs split.after),
        owners-append a (blocks_words split.before) (blocks_words (xs ++ split.after)),
        owners-append a (blocks_words xs) (blocks_words split.after),
      )

  old-count : (a : ℕ) → owners a (blocks_words l.blocks) ≡ owners a (blocks_words split.before) + (owners a (blocks_words split.free) + owners a (blocks_words split.after))
  old-count a = ap (λ bs. owners a (blocks_words bs)) (sym r.blocks ∙ split.old_is) ∙ joined a split.free

  new-count : (a : ℕ) → owners a (blocks_words (taken n l.blocks)) ≡ owners a (blocks_words split.before) + (owners a (blocks_words parts) + owners a (blocks_words split.after))
  new-count a = ap (λ bs. owners a (blocks_words bs)) (ap (taken n) (sym r.blocks) ∙ split.new_is) ∙ joined a parts

  blocks-count : (a : ℕ) → owners a (blocks_words (taken n l.blocks)) + owners a (blocks_words split.free) ≡ owners a (blocks_words l.blocks) + owners a (blocks_words parts)
  blocks-count a =
      plain (owners a (blocks_words (taken n l.blocks))) (owners a (blocks_words split.free)) (owners a (blocks_words l.blocks)) (owners a (blocks_words parts))
      (owners a (blocks_words split.before)) (owners a (blocks_words split.after)) (old-count a) (new-count a)
    where
      plain : (m f w p b e : ℕ) → w ≡ b + (f + e) → m ≡ b + (p + e) → m + f ≡ w + p
      plain m f w p b e old new = omega arith

  -- the starts of joined blocks are owned no more, and that of the rest is
  pub owners-told : (a : ℕ) → owners a (owned (with_taken u l)) + times a gone ≡ owners a (owned l) + times a rest
  owners-told a =
      omega (
        arith,
        owned-blocks a l (owners a (blocks_words split.free)) (owners a (blocks_words parts)) (taken n l.blocks) (blocks-count a),
        free-is a,
        new-is a,
      )

  gone-owned : (a : ℕ) → times a gone ≤ owners a (owned l)
  gone-owned a =
      omega (
        arith,
        free-is a,
        old-count a,
        owners-owned a l,
      )

  pub knows-take : (tells mid told : List ℕ → Type 0) → Knows tells l → WasReleased tells mid gone → WasClaimed mid told rest → Knows told (with_taken u l)
  knows-take tells mid told knows release claim known same =
      claim (λ a. owners a (owned l) - times a gone)
      (release (λ a. owners a (owned l) - times a gone) (λ a. omega (arith, gone-owned a, h.valid.owns.apart a)) (λ before is. knows before (λ a. omega (arith, is a, gone-owned a))))
      known (λ a. omega (arith, same a, owners-told a, gone-owned a))
