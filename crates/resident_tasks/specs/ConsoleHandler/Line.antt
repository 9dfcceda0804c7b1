-- The console's line, and what a key makes of it.
use Rattle.std.specs.Prelude.{ℕ, ◌-◌, ◌==◌, ◌&&◌, ◌||◌, Bool, true, if◌then◌else◌, List, [], ◌∷◌, ◌++◌, length, nat_le, nat_lt, take}
use Rattle.kernel_model.specs.KernelRecord.Kernel.{Console}

-- What a key does.
pub record Keyed : Type 0 where
  -- the line afterwards
  pub console : Console
  -- the bytes that are written to the console
  pub echo : List ℕ
  -- the flags that are set of the task for which the shell waits, one a bit; 0 for none
  pub flags : ℕ

-- a key leaves this line, echoes these bytes and sets these flags
abbrev pub keyed : Console → List ℕ → ℕ → Keyed
keyed c echo flags = record { console = c; echo = echo; flags = flags }

-- a line has at most so many bytes
abbrev pub most_line_bytes : ℕ
most_line_bytes = 120

-- a byte that is printed comes to the end of the line; where there is no room for it, the bell is echoed in its place
abbrev pub with_end : ℕ → Console → Keyed
with_end b c =
    if nat_lt (length c.line) most_line_bytes
    then keyed (record c { line = c.line ++ b ∷ [] }) (b ∷ []) 0
    else keyed c (7 ∷ []) 0

-- the last byte goes, and a space is printed over it; an empty line stays
abbrev pub without_end : Console → Keyed
without_end c =
    if length c.line == 0
    then keyed c [] 0
    else keyed (record c { line = take (length c.line - 1) c.line }) (8 ∷ 32 ∷ 8 ∷ []) 0

-- the line is finished, and a line feed is echoed; the next read gets it
abbrev pub with_finish : Console → Keyed
with_finish c = keyed (record c { finished = true }) (10 ∷ []) 0

-- a byte that has a character of its own, from the space to the tilde
abbrev pub is_printed : ℕ → Bool
is_printed b = nat_le 32 b && nat_le b 126

-- the keys 2 to 5 have a flag each
abbrev pub flags_of : ℕ → ℕ
flags_of b = if b == 2 then 1 else if b == 3 then 2 else if b == 4 then 4 else if b == 5 then 8 else 0

-- 8 and 127 rub out, and 10 and 13 finish the line. Any other key does nothing, as one does that is no byte.
abbrev pub key : Console → ℕ → Keyed
key c b =
    if is_printed b then with_end b c
    else if (b == 8) || (b == 127) then without_end c
    else if (b == 10) || (b == 13) then with_finish c
    else keyed c [] (flags_of b)
