use Rattle.std.proofs.Common.{◌≡◌, ◌++◌, take}
use Rattle.tripos_run.proofs.session_generator.tallies.Tally.add.Given as goal

-- the bytes so far are added
abbrev pub invariant-loop-byte : goal.invariant-loop-byte
invariant-loop-byte l = l.self ≡ l.fn.self ++ take l.byte-index l.bytes
