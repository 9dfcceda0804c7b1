use Rattle.std.proofs.Common.{◌≡◌, ◌++◌, ◌-◌, length, map}
use Rattle.session_making.specs.Sessions.{code_line, rows_by, rows_of}
use Rattle.session_making.proofs.sessions.code_lines.Given as goal

abbrev pub invariant-loop-done : goal.invariant-loop-done
invariant-loop-done l =
    l.lines.items ++ map code_line (rows_by (length l.code - l.done) l.rest) ≡ map code_line (rows_of l.code)
