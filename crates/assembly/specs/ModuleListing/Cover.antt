-- The lines of a listing, each with the bytes that it stands for.
use Rattle.std.specs.Prelude.{◌≡◌, ℕ, zero, suc, ◌+◌, ◌*◌, ◌≤◌, ◌&&◌, if◌then◌else◌, Bool, List, [], ◌∷◌, length, Option, nat_le, nat_lt}
use Rattle.word_store.specs.Bytes.{byte_at}
use Rattle.assembly.specs.ModuleListing.Listing.{listed}

-- a line of a listing, and the bytes of the hunk that it is for
pub record ListedLine : Type 0 where
  -- the offset of its first byte
  pub offset : ℕ
  -- how many bytes it stands for
  pub length : ℕ
  -- its text
  pub text : List ℕ

-- the line at an offset
abbrev pub line_at : (ℕ → Option ℕ) → ℕ → ListedLine
line_at code a = record { offset = a; length = (listed code a).length; text = (listed code a).text }

-- the lines from an offset up to the end, of which there are at most as many as bytes
abbrev pub lines_between : (ℕ → Option ℕ) → ℕ → ℕ → ℕ → List ListedLine
lines_between code end zero a = []
lines_between code end (suc most) a =
    if nat_lt a end then line_at code a ∷ lines_between code end most (a + (listed code a).length) else []

-- the lines of all bytes of these words
abbrev pub hunk_lines : List ℕ → List ListedLine
hunk_lines words = lines_between (byte_at words) (4 * length words) (4 * length words) 0

-- each line begins where the one before it ends, the first of them at an offset and the last ending at the end
abbrev pub Follow : ℕ → ℕ → List ListedLine → Type 0
Follow a end [] = a ≡ end
Follow a end (line ∷ lines) = (line.offset ≡ a) × (1 ≤ line.length) × Follow (a + line.length) end lines

-- whether the line stands for byte b
abbrev pub covers : ℕ → ListedLine → Bool
covers b line = nat_le line.offset b && nat_lt b (line.offset + line.length)
