use Rattle.std.proofs.Common.{◌≡◌, vec_len}
use Rattle.ram_disc.proofs.directory.blank_names.Given as goal

abbrev pub invariant-loop-i : goal.invariant-loop-i
invariant-loop-i l = vec_len l.names ≡ l._i
