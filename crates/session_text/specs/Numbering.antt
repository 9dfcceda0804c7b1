-- The numbers of a session's lines.
use Rattle.std.specs.Prelude.{ℕ, ◌≡◌, ◌+◌, ◌≤◌, Bool, true, false, List, [], ◌∷◌}
use Rattle.session_text.specs.declared.sessions.SessionLine.{SessionLine}

-- the lines are numbered from n on
abbrev pub AreNumbered : ℕ → List SessionLine → Type 0
AreNumbered n [] = Unit {0}
AreNumbered n (line ∷ lines) = (line.line ≡ n) × AreNumbered (n + 1) lines

-- the numbers of the lines rise, from n on
abbrev pub RiseFrom : ℕ → List SessionLine → Type 0
RiseFrom n [] = Unit {0}
RiseFrom n (line ∷ lines) = (n ≤ line.line) × RiseFrom (line.line + 1) lines

-- the lines of a bare machine begin in the fourth line, and those of another one follow one another
abbrev pub IsNumbered : Bool → List SessionLine → Type 0
IsNumbered true lines = AreNumbered 4 lines
IsNumbered false lines = RiseFrom 4 lines
