-- The words of a module that was loaded: its own, and those of its hunks, which nobody owns.
use Rattle.std.proofs.Common.{◌≡◌, ℕ, ◌+◌, ◌<◌, ◌≤◌, List, ◌∷◌, ◌++◌, length, set, sym, ap, ◌∙◌, arith, add-zero, length-append}
use Rattle.std.specs.List.{range_with_len}
use Rattle.std.proofs.lemmas.List.Sums.{sum-map}
use Rattle.word_store.specs.Count.{times}
use Rattle.word_store.proofs.Counts.{range-apart, range-high, range-low}
use Rattle.word_store.specs.Row.{with_words}
use Rattle.kernel_lists.specs.OwnedWords.Owned.{owners, row_from, written}
use Rattle.kernel_lists.proofs.OwnedWords.RowWords.{owners-row, with_words-written}
use Rattle.module_text.specs.Shapes.{words_in}
use Rattle.module_text.specs.declared.modules.Hunk.{Hunk}
use Rattle.kernel_lists.specs.HunkLoader.HeldModules.{LoadedModule, module_words}
use Rattle.kernel_lists.specs.HunkLoader.ModuleExchanges.{first_of_modules, hunk_words, loaded_module, loaded_words}
use Rattle.kernel_lists.specs.HunkLoader.ModuleRow.{hunks_image, last_word, lengths_of, module_row}
use Rattle.kernel_lists.proofs.HunkLoader.LoadedModules.{length-lengths, length-row}
use Rattle.kernel_model.specs.KernelRecord.ValidBlocks.{last_module_word}
use Rattle.kernel_lists.proofs.HunkLoader.ModuleExchanges.{row-append, row-split}

-- its last word, counted from its lengths
pub last-word : (m : ℕ) (hunks : List Hunk) → last_module_word (loaded_module m hunks) ≡ last_word hunks
last-word m hunks = λ i. 1 + length-lengths hunks i + sum-map (λ (h : Hunk). length h.words) hunks i

-- so a load writes the owned words, and these
pub load-written : (s t : List ℕ) (m link : ℕ) (hunks : List Hunk) (ms : List LoadedModule) → link ≡ first_of_modules ms → t ≡ set (with_words s m (module_row link m hunks)) 104 m
    → t ≡ written (loaded_words m hunks ms ++ hunk_words m hunks) s
load-written s t m link hunks ms is words =
    words ∙ ap (λ z. set z 104 m)
    (with_words-written s m (module_row link m hunks) ∙ ap (λ w. written (row_from m 0 (module_row w m hunks)) s) is ∙ ap (λ z. written z s) (row-split m (first_of_modules ms) hunks))

-- how many words the hunks have
length-image : (m link : ℕ) (hunks : List Hunk) → length (hunks_image (m + 2 + length hunks) hunks) ≡ words_in hunks
length-image m link hunks =
    let image : List ℕ = hunks_image (m + 2 + length hunks) hunks in
    omega (arith, length-row link m hunks, length-append (lengths_of hunks) image, length-lengths hunks)

-- the words of the hunks are apart, and lie behind those of the module, up to its last word
pub hunks-apart : (m : ℕ) (hunks : List Hunk) (a : ℕ) → owners a (hunk_words m hunks) ≤ 1
hunks-apart m hunks a =
    let image : List ℕ = hunks_image (m + 2 + length hunks) hunks in
    omega (arith, owners-row a m (2 + length hunks) image, range-apart (m + (2 + length hunks)) (length image) a)

pub hunks-low : (m : ℕ) (hunks : List Hunk) (a : ℕ) → 0 < owners a (hunk_words m hunks) → m + 2 + length hunks ≤ a
hunks-low m hunks a some =
    let image : List ℕ = hunks_image (m + 2 + length hunks) hunks in
    let within : 0 < times a (range_with_len (m + (2 + length hunks)) (length image)) = omega (arith, some, owners-row a m (2 + length hunks) image) in
    omega (arith, range-low a (m + (2 + length hunks)) (length image) within)

pub hunks-high : (m : ℕ) (hunks : List Hunk) (a : ℕ) → 0 < owners a (hunk_words m hunks) → a ≤ m + last_word hunks
hunks-high m hunks a some =
    let image : List ℕ = hunks_image (m + 2 + length hunks) hunks in
    let within : 0 < times a (range_with_len (m + (2 + length hunks)) (length image)) = omega (arith, some, owners-row a m (2 + length hunks) image) in
    omega (arith, range-high a (m + (2 + length hunks)) (length image) within, length-image m 0 hunks)
