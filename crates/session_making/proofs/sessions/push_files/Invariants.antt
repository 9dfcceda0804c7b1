use Rattle.std.proofs.Common.{◌≡◌, ◌++◌, map}
use Rattle.session_making.specs.Sessions.{file_line}
use Rattle.session_making.proofs.sessions.push_files.Given as goal

abbrev pub invariant-loop-file : goal.invariant-loop-file
invariant-loop-file l =
    l.lines.items ++ map file_line l.file-iterator.rest.items ≡ l.fn.lines.items ++ map file_line l.fn.files.items
