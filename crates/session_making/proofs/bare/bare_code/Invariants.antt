use Rattle.std.proofs.Common.{◌≡◌, drop}
use Rattle.session_making.specs.Bare.{add_programs, no_code}
use Rattle.session_making.proofs.bare.bare_code.Given as goal

abbrev pub invariant-loop-file : goal.invariant-loop-file
invariant-loop-file l = add_programs l.store l.bare (drop l.file-index l.files) ≡ add_programs l.store no_code l.files
