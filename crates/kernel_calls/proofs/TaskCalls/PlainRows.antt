-- Plain words that are written into a store one after another: it holds the same lists.
use Rattle.std.proofs.Common.{◌≡◌, ℕ, ◌+◌, List, [], ◌∷◌, get_or, length, set, ap, ◌∙◌, arith, get_or-set_other, length-set}
use Rattle.word_store.specs.Row.{with_words}
use Rattle.word_store.proofs.Rows.{length-with_words}
use Rattle.kernel_lists.specs.OwnedWords.Owned.{owners, row_from}
use Rattle.kernel_lists.proofs.OwnedWords.OwnedWords.{Holds-same}
use Rattle.kernel_lists.proofs.OwnedWords.RowWords.{with_words-written}
use Rattle.kernel_model.specs.KernelRecord.ChangedStore.{IsChanged}
use Rattle.kernel_model.specs.KernelRecord.Changes.{AreUnowned}
use Rattle.kernel_model.specs.KernelRecord.HoldsLists.{HoldsLists}
use Rattle.kernel_model.specs.KernelRecord.Lists.{Lists}
use Rattle.kernel_model.specs.KernelRecord.Owned.{owned}

-- a word that nobody owns is set
pub plain-set : (s : List ℕ) (l : Lists) (a w : ℕ) → HoldsLists s l → owners a (owned l) ≡ 0 → HoldsLists (set s a w) l
plain-set s l a w h none =
    record {
      valid = h.valid;
      size = length-set s a w ∙ h.size;
      holds = Holds-same s (set s a w) (owned l) h.holds (λ b some. get_or-set_other s a b w 0 (λ e. absurd (omega (arith, some, none, ap (λ z. owners z (owned l)) e))));
    }

-- and so are the words of a row
pub row-holds : (s : List ℕ) (l : Lists) (a : ℕ) (ws : List ℕ) → HoldsLists s l → AreUnowned l a (a + length ws) → HoldsLists (with_words s a ws) l
row-holds s l a [] h free = h
row-holds s l a (w ∷ ws) h free =
    row-holds (set s a w) l (a + 1) ws (plain-set s l a w h (free a (omega arith) (omega arith))) (λ c low high. free c (omega (arith, low)) (omega (arith, high)))

pub row-changed : (s : List ℕ) (l : Lists) (a : ℕ) (ws : List ℕ) → HoldsLists s l → AreUnowned l a (a + length ws) → IsChanged s (with_words s a ws) l (row_from a 0 ws)
row-changed s l a ws h free =
    let k : HoldsLists (with_words s a ws) l = row-holds s l a ws h free in
    record {
      lists = k;
      size = length-with_words s a ws;
      written = record { holds = k.holds; others = λ c none. ap (λ z. get_or z c 0) (with_words-written s a ws) };
    }
