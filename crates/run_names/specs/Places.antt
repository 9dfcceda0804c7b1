-- Which hunk has a byte.
use Rattle.std.specs.Prelude.{ℕ, ◌-◌, ◌/◌, ◌&&◌, Bool, List, nat_le, nat_lt, Option}
use Rattle.std.specs.List.{find}
use Rattle.run_names.specs.declared.hunks.NamedHunk.{NamedHunk}

-- whether a hunk has the byte
abbrev pub has_byte : ℕ → NamedHunk → Bool
has_byte byte hunk = nat_le hunk.from (byte / 4) && nat_lt (byte / 4 - hunk.from) hunk.words

-- the first of the hunks that has the byte
abbrev pub hunk_with : ℕ → List NamedHunk → Option NamedHunk
hunk_with byte hunks = find (has_byte byte) hunks
