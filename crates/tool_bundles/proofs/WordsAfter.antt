-- Words of a bundle, one after another.
use Rattle.std.proofs.Common.{◌≡◌, ℕ, zero, suc, ◌==◌, true, false, List, [], ◌∷◌, ◌++◌, length, Some, None, refl, arith}
use Rattle.std.proofs.lemmas.Bool.Decides.{nat_tests}
use Rattle.tool_bundles.specs.Bundles.{entries_after}
use Rattle.tool_bundles.specs.Entries.{entry_of}
use Rattle.tool_bundles.specs.declared.bundles.Entry.{Entry}

-- nothing comes after the text's end
pub no_text : (most : ℕ) (read : List Entry) (text : List ℕ) → (length text == 0) ≡ true → entries_after most read text ≡ Some read
no_text zero read text end = refl
no_text (suc most) read [] end = refl
no_text (suc most) read (c ∷ cs) end = grind (arith, nat_tests)

-- a word, and those after it
pub one_word : (most next : ℕ) (read : List Entry) (text : List ℕ) (e : Entry × List ℕ) → most ≡ suc next → (length text == 0) ≡ false → entry_of text ≡ Some e
    → entries_after most read text ≡ entries_after next (read ++ e.0 ∷ []) e.1
one_word most next read [] e m some h = grind (arith, nat_tests)
one_word most next read (c ∷ cs) e m some h = rw (m, h) refl

-- a text that is none
pub no_word : (most next : ℕ) (read : List Entry) (text : List ℕ) → most ≡ suc next → (length text == 0) ≡ false → entry_of text ≡ None
    → entries_after most read text ≡ None
no_word most next read [] m some h = grind (arith, nat_tests)
no_word most next read (c ∷ cs) m some h = rw (m, h) refl
