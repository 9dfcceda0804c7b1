-- The global tables of hunks, and the code before them. A hunk begins with a word that has its length, and ends with a table: the word 0, pairs of a
-- global's number and an offset, and a last word, which is 0 where there are no pairs, even in place of the first word.
use Rattle.std.specs.Prelude.{ℕ, get_or, reverse, slice_set, ◌+◌, ◌-◌, ◌*◌, ◌%◌, ◌^◌, ◌==◌, ◌||◌, if◌then◌else◌, List, [], ◌∷◌, ◌++◌, length, take, drop, nat_lt}
use Rattle.std.specs.Int.{w32, to_le_bytes}
use Rattle.std.specs.List.{flat_map, list_any}
use Rattle.module_text.specs.declared.modules.Hunk.{Hunk}

-- the numbers of pairs, of words from the last one back
abbrev pub pairs_back : List ℕ → List ℕ
pairs_back (offset ∷ number ∷ back) = if offset == 0 then [] else number ∷ pairs_back back
pairs_back _ = []

-- the numbers in the table with which words end, from the last word back
abbrev pub numbers_back : List ℕ → List ℕ
numbers_back [] = []
numbers_back (highest ∷ back) = if highest == 0 then [] else pairs_back back

-- the numbers in the table, in its order
abbrev pub table_numbers : List ℕ → List ℕ
table_numbers words = reverse (numbers_back (reverse words))

-- a number of a global, from 1 to 1000, after others, unless it is one of them
abbrev pub add_number : List ℕ → ℕ → List ℕ
add_number numbers n =
    if nat_lt n 1 || nat_lt 1000 n || list_any (λ m. m == n) numbers then numbers else numbers ++ n ∷ []

-- such numbers, one after another
abbrev pub add_numbers : List ℕ → List ℕ → List ℕ
add_numbers numbers [] = numbers
add_numbers numbers (n ∷ ns) = add_numbers (add_number numbers n) ns

-- the numbers of the globals that hunks set, after others
abbrev pub hunk_numbers : List ℕ → List Hunk → List ℕ
hunk_numbers numbers [] = numbers
hunk_numbers numbers (hunk ∷ hunks) = hunk_numbers (add_numbers numbers (table_numbers hunk.words)) hunks

-- how many words the table has, of words from the last one back
abbrev pub table_words : List ℕ → ℕ
table_words [] = 0
table_words (highest ∷ back) = if highest == 0 then 1 else 2 + 2 * length (pairs_back back)

-- how many words of code there are
abbrev pub code_count : List ℕ → ℕ
code_count words = length words - 1 - table_words (reverse words)

-- so many words after the first
abbrev pub code_words : ℕ → List ℕ → List ℕ
code_words count words = take count (drop 1 words)

-- the base is added to the word at an offset
abbrev pub relocated_once : ℕ → List ℕ → ℕ → List ℕ
relocated_once base words offset =
    if nat_lt offset (length words) then slice_set words offset ((get_or words offset 0 + base) % 2 ^ 32) else words

-- and at each of these
abbrev pub relocated : ℕ → List ℕ → List ℕ → List ℕ
relocated base words [] = words
relocated base words (offset ∷ offsets) = relocated base (relocated_once base words offset) offsets

-- the bytes of a hunk's code, with the addresses that it has where its word 0 is at this word of the store
abbrev pub hunk_code : ℕ → Hunk → List ℕ
hunk_code base hunk =
    flat_map (to_le_bytes w32) (code_words (code_count hunk.words) (relocated base hunk.words hunk.relocations))
