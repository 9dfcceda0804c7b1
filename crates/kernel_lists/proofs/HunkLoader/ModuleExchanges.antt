-- What a load and an unload exchange of the words that modules and blocks own.
use Rattle.std.proofs.Common.{◌≡◌, ℕ, suc, ◌+◌, List, [], ◌∷◌, ◌++◌, length, get_or, map, set, true, sym, ap, ◌∙◌, arith, add-zero}
use Rattle.kernel_lists.specs.GetvecChain.Give.{given_store}
use Rattle.kernel_lists.specs.GetvecChain.Tiling.{blocks_in, used_at}
use Rattle.kernel_lists.proofs.GetvecChain.BlockExchanges.{give-exchange, take-exchange}
use Rattle.kernel_lists.proofs.GetvecChain.UsedBlocks.{UsedBlock, used_at-is}
use Rattle.module_text.specs.declared.modules.Hunk.{Hunk}
use Rattle.kernel_lists.specs.LinkedList.Places.{has, without_node}
use Rattle.word_store.proofs.Elements.{all-back}
use Rattle.kernel_lists.proofs.LinkedList.Members.{has-here, has-there}
use Rattle.kernel_lists.specs.OwnedWords.Owned.{row_from, written}
use Rattle.kernel_lists.proofs.OwnedWords.Exchanges.{exchange-insert, exchange-remove}
use Rattle.kernel_lists.proofs.OwnedWords.HeldLists.{held-without_node}
use Rattle.kernel_lists.proofs.OwnedWords.RowWords.{with_words-written}
use Rattle.kernel_lists.specs.TaskBlock.Lists.{module_link}
use Rattle.kernel_lists.specs.HunkLoader.HeldModules.{HasModuleBlock, HeldModules, LoadedModule, module_address, module_words}
use Rattle.kernel_lists.specs.HunkLoader.LoadOutcome.{IsLoaded}
use Rattle.kernel_lists.specs.HunkLoader.ModuleExchanges.{LoadExchange, UnloadExchange, first_of_modules, hunk_words, loaded_module}
use Rattle.kernel_lists.specs.HunkLoader.ModuleRow.{hunks_image, last_word, lengths_of, module_row}
use Rattle.kernel_lists.proofs.HunkLoader.HeldModuleLists.{HasTheseModules, are_modules, held-modules, module_size}
use Rattle.kernel_lists.proofs.HunkLoader.LoadedModules.{length-lengths}
use Rattle.kernel_lists.proofs.HunkLoader.UnloadedModules.{LinkedOut, out_linked}

pub row-append : (a i : ℕ) (xs ys : List ℕ) → row_from a i (xs ++ ys) ≡ row_from a i xs ++ row_from a (i + length xs) ys
row-append a i [] ys = ap (λ j. row_from a j ys) (sym (add-zero i))
row-append a i (x ∷ xs) ys =
    let next : suc i + length xs ≡ i + suc (length xs) = omega arith in
    ap (λ z. (a + i, x) ∷ z) (row-append a (suc i) xs ys) ∙ ap (λ j. (a + i, x) ∷ (row_from a (suc i) xs ++ row_from a j ys)) next

-- a module's row is its own words and those of its hunks
pub row-split : (m link : ℕ) (hunks : List Hunk) → row_from m 0 (module_row link m hunks) ≡ module_words (loaded_module m hunks) link ++ hunk_words m hunks
row-split m link hunks =
    let image : List ℕ = hunks_image (m + 2 + length hunks) hunks in
    ap (λ z. (z, link) ∷ (m + 1, length hunks) ∷ row_from m 2 (lengths_of hunks ++ image)) (add-zero m)
    ∙ ap (λ z. (m, link) ∷ (m + 1, length hunks) ∷ z) (row-append m 2 (lengths_of hunks) image)
    ∙ ap (λ n. (m, link) ∷ (m + 1, length hunks) ∷ (row_from m 2 (lengths_of hunks) ++ row_from m (2 + n) image)) (length-lengths hunks)
    ∙ ap (λ n. (m, link) ∷ (m + 1, n) ∷ (row_from m 2 (lengths_of hunks) ++ row_from m (2 + length hunks) image)) (sym (length-lengths hunks))

pub load-exchange : (s t text : List ℕ) (ms : List LoadedModule) (m : ℕ) → HeldModules s ms → IsLoaded s t text m → LoadExchange s t text ms m
load-exchange s t text ms m h l =
    let hunks : List Hunk = l.hunks.hunks in
    let row : row_from m 0 (module_row (get_or s 104 0) m hunks) ≡ module_words (loaded_module m hunks) (first_of_modules ms) ++ hunk_words m hunks =
    ap (λ w. row_from m 0 (module_row w m hunks)) h.held.holds.0 ∙ row-split m (first_of_modules ms) hunks
    in
    record {
      found = l.hunks;
      is = l.is;
      taken = l.with_block;
      block = take-exchange s l.with_block (last_word hunks) m h.tiled l.block;
      exchange = exchange-insert module_address module_address module_words are_modules.links 104 [] (loaded_module m hunks) ms 0;
      writes = l.words ∙ ap (λ z. set z 104 m) (with_words-written l.with_block m (module_row (get_or s 104 0) m hunks) ∙ ap (λ z. written z l.with_block) row);
    }

among : (front : List LoadedModule) (m : LoadedModule) (back : List LoadedModule) → has m.address (map module_address (front ++ m ∷ back)) ≡ true
among [] m back = has-here m.address (map module_address back)
among (z ∷ zs) m back = has-there m.address z.address (map module_address (zs ++ m ∷ back)) (among zs m back)

pub unload-exchange : (s : List ℕ) (front : List LoadedModule) (m : LoadedModule) (back : List LoadedModule) → HeldModules s (front ++ m ∷ back)
    → UnloadExchange s (given_store (without_node s module_link 104 m.address) m.address) front m back
unload-exchange s front m back h =
    let these : HasTheseModules s (front ++ m ∷ back) = held-modules s (front ++ m ∷ back) h in
    let out : LinkedOut s m.address = out_linked s m.address these.modules (ap (has m.address) these.list ∙ among front m back) in
    let b : HasModuleBlock s m = (all-back (HasModuleBlock s) front (m ∷ back) h.blocks).0 in
    let place : UsedBlock s 200 m.address b.block = used_at-is s 200 (blocks_in s) m.address b.block h.tiled b.used in
    record {
      unlinked = without_node s module_link 104 m.address;
      exchange = exchange-remove module_address module_address module_words are_modules.links 104 front m back 0;
      writes = held-without_node module_address module_words module_link module_size are_modules s 104 front m back h.held;
      same_blocks = out.blocks.blocks;
      block = b.block;
      here = omega (arith, place.start);
      size = b.size;
      give = give-exchange (without_node s module_link 104 m.address) m.address b.block out.blocks.tiled (ap (used_at m.address) out.blocks.blocks ∙ b.used);
    }
