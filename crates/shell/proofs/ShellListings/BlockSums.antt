-- What the blocks of a store add up to.
use Rattle.std.proofs.Common.{◌≡◌, ℕ, ◌+◌, ◌-◌, ◌<◌, ◌≤◌, ◌^◌, ◌&&◌, Bool, true, false, List, [], ◌∷◌, codes, cond, eqb, not, leb, length, max, refl, sym, ap, ◌∙◌, subst, arith}
use Rattle.std.proofs.Math.Nat.{le-max_left}
use Rattle.std.proofs.lemmas.Bool.{and_parts, leb-true}
use Rattle.std.proofs.lemmas.List.{length-append}
use Rattle.std.proofs.lemmas.List.Sums.{sum_by-cons}
use Rattle.std.specs.Fmt.{decimal}
use Rattle.std.specs.List.{AllByRecursion}
use Rattle.byte_streams.specs.Pieces.{joined}
use Rattle.kernel_lists.specs.declared.getvec_chain.pieces.Block.{Block}
use Rattle.kernel_lists.specs.GetvecChain.Block.{block_end}
use Rattle.kernel_lists.specs.GetvecChain.Run.{run_size}
use Rattle.kernel_lists.specs.GetvecChain.Tiling.{Follow, Tiles, blocks_in}
use Rattle.kernel_model.specs.KernelRecord.Ranges.{most_words}
use Rattle.kernel_model.specs.KernelRecord.HoldsLists.{HoldsLists}
use Rattle.kernel_model.specs.KernelRecord.Lists.{Lists}
use Rattle.kernel_model.specs.KernelRecord.ReadsLists.{ReadsLists}
use Rattle.kernel_model.specs.KernelRecord.ValidLists.{AreValid}
use Rattle.kernel_model.proofs.KernelRecord.BlockStarts.{Tiles-Follow}
use Rattle.kernel_model.proofs.KernelRecord.Reading.{read-lists}
use Rattle.shell.specs.declared.shell_listings.blocks.BlockCounts.{BlockCounts}
use Rattle.shell.specs.ShellListings.Private.BlockCounts.{counted, counts_from, counts_of, no_counts, with_free, with_used}
use Rattle.shell.specs.ShellListings.BlockLine.{block_line, count_text, free_blocks, largest_run, line_of_counts, most_in_block_line, used_blocks, words_of_blocks}
use Rattle.resident_tasks.proofs.FaultReporter.ReportLines.{few_digits}
use Rattle.kernel_model.proofs.WordKinds.OwnedMarks.{size-low}

-- one more block has its words
words-more : (b : Block) (bs : List Block) → words_of_blocks (b ∷ bs) ≡ b.size + words_of_blocks bs
words-more b bs = sum_by-cons (λ (c : Block). c.size) b bs

-- ---- no count passes 2 ^ 32

-- each block has a word
abbrev pub HaveWords : List Block → Type 0
HaveWords bs = AllByRecursion (λ b. 1 ≤ b.size) bs

-- the counts, and the words of the blocks that are left
pub record MayCountAll (c : BlockCounts) (bs : List Block) : Type 0 where
  pub used : c.used ≤ c.used_words
  pub free : c.free ≤ c.free_words
  pub run : c.run ≤ c.free_words
  pub largest : c.largest ≤ c.free_words
  pub words : c.used_words + c.free_words + words_of_blocks bs < 2 ^ 32
  pub some : HaveWords bs

pub counted-more : (c : BlockCounts) (b : Block) (bs : List Block) → MayCountAll c (b ∷ bs) → MayCountAll (counted c b) bs
counted-more c b bs m = elim b.free as (λ free. MayCountAll (cond free (with_free c b) (with_used c b)) bs) [
  | true ↦ record {
    used = m.used;
    free = omega (arith, m.free, m.some.0);
    run = omega (arith, m.run);
    largest = omega (arith, m.run, m.largest);
    words = omega (arith, m.words, words-more b bs);
    some = m.some.1;
  }
  | false ↦ record {
    used = omega (arith, m.used, m.some.0);
    free = m.free;
    run = omega arith;
    largest = m.largest;
    words = omega (arith, m.words, words-more b bs);
    some = m.some.1;
  }
]

-- blocks that follow one another have no more words than are from the first to the end
follow-words : (at : ℕ) (bs : List Block) (end : ℕ) → Follow at bs end → at + words_of_blocks bs ≡ end
follow-words at [] end f = omega (arith, f)
follow-words at (b ∷ bs) end f = omega (arith, f.0, follow-words (block_end b) bs end f.3, words-more b bs)

follow-some : (at : ℕ) (bs : List Block) (end : ℕ) → Follow at bs end → HaveWords bs
follow-some at [] end f = tt
follow-some at (b ∷ bs) end f = (omega (arith, f.1), follow-some (block_end b) bs end f.3)

may-count-follow : (at : ℕ) (bs : List Block) (end : ℕ) → end < 2 ^ 32 → Follow at bs end → MayCountAll no_counts bs
may-count-follow at bs end low f = record {
  used = omega arith;
  free = omega arith;
  run = omega arith;
  largest = omega arith;
  words = omega (arith, low, follow-words at bs end f);
  some = follow-some at bs end f;
}

tiles-end : (s : List ℕ) (at : ℕ) (bs : List Block) → Tiles s at bs → 2 ≤ length s
tiles-end s at [] t = omega (arith, t.0)
tiles-end s at (b ∷ bs) t = tiles-end s (block_end b) bs t.2

pub may-count-tiles : (s : List ℕ) (at : ℕ) (bs : List Block) → length s < 2 ^ 32 → Tiles s at bs → MayCountAll no_counts bs
may-count-tiles s at bs low t =
    may-count-follow at bs (length s - 2) (omega (arith, low)) (Tiles-Follow s at bs (length s - 2) t (omega (arith, tiles-end s at bs t)))

-- the counts of all blocks
counts-low : (c : BlockCounts) (bs : List Block) → MayCountAll c bs → MayCountAll (counts_from c bs) []
counts-low c [] m = m
counts-low c (b ∷ bs) m = counts-low (counted c b) bs (counted-more c b bs m)

-- ---- what is counted in the end

-- the counts of blocks so far and of these, as the line says them
record AreCounts (c e : BlockCounts) (bs : List Block) : Type 0 where
  pub used : e.used ≡ c.used + length (used_blocks bs)
  pub used_words : e.used_words ≡ c.used_words + words_of_blocks (used_blocks bs)
  pub free : e.free ≡ c.free + length (free_blocks bs)
  pub free_words : e.free_words ≡ c.free_words + words_of_blocks (free_blocks bs)
  pub largest : e.largest ≡ max c.largest (max (c.run + run_size bs) (largest_run bs))

run-largest : (bs : List Block) → run_size bs ≤ largest_run bs
run-largest [] = omega arith
run-largest (b ∷ bs) = le-max_left (run_size (b ∷ bs)) (largest_run bs)

counts-are : (c : BlockCounts) (bs : List Block) → c.run ≤ c.largest → AreCounts c (counts_from c bs) bs
counts-are c [] low = record { used = omega arith; used_words = omega arith; free = omega arith; free_words = omega arith; largest = omega (arith, low) }
counts-are c (b ∷ bs) low = on b.free refl (counts-are (with_free c b) bs (omega arith)) (counts-are (with_used c b) bs (omega arith))
  where
    on : (free : Bool) → b.free ≡ free → AreCounts (with_free c b) (counts_from (with_free c b) bs) bs → AreCounts (with_used c b) (counts_from (with_used c b) bs) bs
        → AreCounts c (counts_from (counted c b) bs) (b ∷ bs)
    on true is more other =
        let end : counts_from (counted c b) bs ≡ counts_from (with_free c b) bs = ap (λ x. counts_from (cond x (with_free c b) (with_used c b)) bs) is in
        let us : used_blocks (b ∷ bs) ≡ used_blocks bs = ap (λ x. cond (not x) (b ∷ used_blocks bs) (used_blocks bs)) is in
        let fs : free_blocks (b ∷ bs) ≡ b ∷ free_blocks bs = ap (λ x. cond x (b ∷ free_blocks bs) (free_blocks bs)) is in
        let run : run_size (b ∷ bs) ≡ b.size + run_size bs = ap (λ x. cond x (b.size + run_size bs) 0) is in
        record {
          used = ap (λ (e : BlockCounts). e.used) end ∙ more.used ∙ ap (λ bs. c.used + length bs) (sym us);
          used_words = ap (λ (e : BlockCounts). e.used_words) end ∙ more.used_words ∙ ap (λ bs. c.used_words + words_of_blocks bs) (sym us);
          free = omega (arith, ap (λ (e : BlockCounts). e.free) end, more.free, ap (length {A = Block}) fs);
          free_words = omega (arith, ap (λ (e : BlockCounts). e.free_words) end, more.free_words, ap words_of_blocks fs, words-more b (free_blocks bs));
          largest = omega (arith, ap (λ (e : BlockCounts). e.largest) end, more.largest, run, run-largest bs);
        }
    on false is other more =
        let end : counts_from (counted c b) bs ≡ counts_from (with_used c b) bs = ap (λ x. counts_from (cond x (with_free c b) (with_used c b)) bs) is in
        let us : used_blocks (b ∷ bs) ≡ b ∷ used_blocks bs = ap (λ x. cond (not x) (b ∷ used_blocks bs) (used_blocks bs)) is in
        let fs : free_blocks (b ∷ bs) ≡ free_blocks bs = ap (λ x. cond x (b ∷ free_blocks bs) (free_blocks bs)) is in
        let run : run_size (b ∷ bs) ≡ 0 = ap (λ x. cond x (b.size + run_size bs) 0) is in
        record {
          used = omega (arith, ap (λ (e : BlockCounts). e.used) end, more.used, ap (length {A = Block}) us);
          used_words = omega (arith, ap (λ (e : BlockCounts). e.used_words) end, more.used_words, ap words_of_blocks us, words-more b (used_blocks bs));
          free = ap (λ (e : BlockCounts). e.free) end ∙ more.free ∙ ap (λ bs. c.free + length bs) (sym fs);
          free_words = ap (λ (e : BlockCounts). e.free_words) end ∙ more.free_words ∙ ap (λ bs. c.free_words + words_of_blocks bs) (sym fs);
          largest = omega (arith, ap (λ (e : BlockCounts). e.largest) end, more.largest, run, run-largest bs, low);
        }

-- the line says what was counted
abbrev pub line_of : BlockCounts → List ℕ
line_of e = line_of_counts e.used e.used_words e.free e.free_words e.largest

pub counts-line : (bs : List Block) → line_of (counts_of bs) ≡ block_line bs
unfolding block_line
counts-line bs =
    let x : AreCounts no_counts (counts_of bs) bs = counts-are no_counts bs (omega arith) in
    let used : (counts_of bs).used ≡ length (used_blocks bs) = omega (arith, x.used) in
    let used_words : (counts_of bs).used_words ≡ words_of_blocks (used_blocks bs) = omega (arith, x.used_words) in
    let free : (counts_of bs).free ≡ length (free_blocks bs) = omega (arith, x.free) in
    let free_words : (counts_of bs).free_words ≡ words_of_blocks (free_blocks bs) = omega (arith, x.free_words) in
    let largest : (counts_of bs).largest ≡ largest_run bs = omega (arith, x.largest, run-largest bs) in
    λ i. line_of_counts (used i) (used_words i) (free i) (free_words i) (largest i)

-- ---- how long it is

count_text-length : (kind a b : List ℕ) → length (joined (kind ∷ a ∷ codes " blocks " ∷ b ∷ codes " words, " ∷ [])) ≡ length kind + length a + length b + 16
count_text-length kind a b = simp length-append (omega arith)

counts-length : (a b c : List ℕ) → length (joined (a ∷ b ∷ codes "largest run " ∷ c ∷ codes "\n" ∷ [])) ≡ length a + length b + length c + 13
counts-length a b c = simp length-append (omega arith)

line_of-short : (e : BlockCounts) → MayCountAll e [] → length (line_of e) ≤ most_in_block_line
line_of-short e m =
    omega (arith, counts-length (count_text (codes "used ") e.used e.used_words) (count_text (codes "free ") e.free e.free_words) (decimal e.largest), count_text-length (codes "used ") (decimal e.used) (decimal e.used_words), count_text-length (codes "free ") (decimal e.free) (decimal e.free_words), few_digits e.used (omega (arith, m.used, m.words)), few_digits e.used_words (omega (arith, m.words)), few_digits e.free (omega (arith, m.free, m.words)), few_digits e.free_words (omega (arith, m.words)), few_digits e.largest (omega (arith, m.largest, m.words)))

pub block_line-short : (l : Lists) → AreValid l → length (block_line l.blocks) ≤ most_in_block_line
block_line-short l v =
    subst (λ text. length text ≤ most_in_block_line) (counts-line l.blocks)
    (line_of-short (counts_of l.blocks) (counts-low no_counts l.blocks (may-count-follow 200 l.blocks (l.size - 2) (omega (arith, size-low l v)) v.blocks)))

-- ---- the blocks of a store

pub blocks-counted : (s : List ℕ) (l : Lists) → HoldsLists s l → (e : BlockCounts) → e ≡ counts_of (blocks_in s) → line_of e ≡ block_line l.blocks
blocks-counted s l h e is =
    let reads : ReadsLists s l = read-lists s l h.valid h.size h.holds in
    ap line_of (is ∙ ap counts_of reads.blocks) ∙ counts-line l.blocks
