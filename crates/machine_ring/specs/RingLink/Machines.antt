-- The sessions of the two machines of a ring.
use Rattle.std.specs.Prelude.{ℕ, ◌+◌, ◌≤◌, if◌then◌else◌, Bool, false, List, drop, take, Result, Ok, Err, codes, nat_lt, slice_get}
use Rattle.std.specs.Option.{option_map_or}
use Rattle.std.specs.Str.{bytes_eq}
use Rattle.module_text.specs.TextReader.Refusal.{Refusal, refusal}
use Rattle.module_text.specs.TextReader.Steps.{◌>>=◌}
use Rattle.module_text.specs.declared.text_reader.ends.TextEnd.{TextEnd}
use Rattle.module_text.specs.declared.text_reader.ends.TextEnd.TheVariants.{Bad, WantMemory}
use Rattle.session_text.specs.Front.{front_count}
use Rattle.session_text.specs.SessionOfText.{session_lines}
use Rattle.session_text.specs.declared.sessions.Session.{Session}

-- ---- the left machine

-- its session, the lines after that, and how many it has
abbrev pub left_lines : List (List ℕ) → Result (Session × (List (List ℕ) × ℕ)) Refusal
left_lines lines = do
  s ← session_lines (take (front_count lines) lines)
  Ok (s, (drop (front_count lines) lines, front_count lines))

-- ---- the right machine

-- the third line is `BARE`
abbrev pub has_bare : List (List ℕ) → Bool
has_bare lines = option_map_or (λ line. bytes_eq line (codes "BARE")) (slice_get lines 2) false

-- why the session is refused then: for that line, or one before it
abbrev pub bare_refusal : Result Session Refusal → Refusal
bare_refusal (Ok s) = refusal 3 1
bare_refusal (Err r) = if nat_lt r.line 3 then r else refusal 3 1

-- the same, by what was read
abbrev pub bare_end : Result Session TextEnd → TextEnd
bare_end (Ok s) = Bad 3 1
bare_end (Err (Bad line code)) = if nat_lt line 3 then Bad line code else Bad 3 1
bare_end (Err WantMemory) = WantMemory

-- the session of a machine with a kernel
abbrev pub kernel_lines : List (List ℕ) → Result Session Refusal
kernel_lines lines = if has_bare lines then Err (bare_refusal (session_lines lines)) else session_lines lines

-- ---- both

-- a refusal, with so many lines before the first
abbrev pub refusal_behind : ℕ → Refusal → Refusal
refusal_behind before r = refusal (before + r.line) r.code

-- what is read of lines that come after so many others
abbrev pub behind : {X : Type 0} → ℕ → Result X Refusal → Result X Refusal
behind before (Ok x) = Ok x
behind before (Err r) = Err (refusal_behind before r)

-- the line of an end is at most this one
abbrev pub IsUpTo : ℕ → TextEnd → Type 0
IsUpTo most (Bad line code) = line ≤ most
IsUpTo most WantMemory = Unit {0}

-- the end of a text that comes after so many lines
abbrev pub end_behind : ℕ → TextEnd → TextEnd
end_behind before (Bad line code) = Bad (before + line) code
end_behind before WantMemory = WantMemory
