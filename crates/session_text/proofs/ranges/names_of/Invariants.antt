use Rattle.std.proofs.Common.{◌≡◌, ◌+◌, length}
use Rattle.arrayvec.specs.ArrayVec.{array_vec_len}
use Rattle.session_text.specs.Statements.{fields}
use Rattle.session_text.proofs.FieldParts.{after_names, checked}
use Rattle.session_text.proofs.ranges.names_of.Given as goal

abbrev pub invariant-loop-first : goal.invariant-loop-first
invariant-loop-first l = record {
  names : after_names l.names.items (fields l.rest) ≡ checked (fields l.text);
  count : array_vec_len l.names + length (fields l.rest) ≡ length (fields l.text);
}

abbrev pub decreases-loop-first : goal.decreases-loop-first
decreases-loop-first l = length l.rest
