-- The listing of a hunk, and of a module.
use Rattle.std.specs.Prelude.{ℕ, zero, suc, ◌+◌, ◌*◌, if◌then◌else◌, List, [], ◌∷◌, ◌++◌, length, Option, codes, decimal, nat_lt}
use Rattle.byte_streams.specs.Pieces.{joined}
use Rattle.word_store.specs.Bytes.{byte_at}
use Rattle.module_text.specs.declared.modules.Hunk.{Hunk}
use Rattle.assembly.specs.ModuleListing.Listing.{listed}

-- the line before those of hunk k, which has n words
abbrev pub head_line : ℕ → ℕ → List ℕ
head_line k n = joined (codes "HUNK " ∷ decimal k ∷ codes " length " ∷ decimal n ∷ codes "\n" ∷ [])

-- The lines from byte a up to the end: each takes the listing further by the bytes that it stands for. There are no more
-- lines than bytes, and `most` is at least the number of bytes that are left.
abbrev pub lines_from : (ℕ → Option ℕ) → ℕ → ℕ → ℕ → List ℕ
lines_from code end zero a = []
lines_from code end (suc most) a =
    if nat_lt a end then (listed code a).text ++ lines_from code end most (a + (listed code a).length) else []

-- the lines of all bytes of these words
abbrev pub lines_of_words : List ℕ → List ℕ
lines_of_words words = lines_from (byte_at words) (4 * length words) (4 * length words) 0

-- the listing of these words as hunk k
unfoldable pub listing : ℕ → List ℕ → List ℕ
listing k words = head_line k (length words) ++ lines_of_words words

-- the listings of hunks, the first of them hunk k
abbrev pub listings_from : ℕ → List Hunk → List ℕ
listings_from k [] = []
listings_from k (h ∷ hs) = listing k h.words ++ listings_from (k + 1) hs

-- the listing of a module
abbrev pub listing_of_module : List Hunk → List ℕ
listing_of_module hunks = listings_from 1 hunks
