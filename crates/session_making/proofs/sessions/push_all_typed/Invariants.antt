use Rattle.std.proofs.Common.{◌≡◌, ◌++◌, drop}
use Rattle.std.specs.List.{flat_map}
use Rattle.session_making.specs.Sessions.{typed_line}
use Rattle.session_making.proofs.sessions.push_all_typed.Given as goal

abbrev pub invariant-loop-one : goal.invariant-loop-one
invariant-loop-one l = l.text.items ++ flat_map typed_line (drop l.one-index l.typed) ≡ l.fn.text.items ++ flat_map typed_line l.typed
