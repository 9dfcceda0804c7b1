use Rattle.std.proofs.Common.{◌≡◌, drop}
use Rattle.std.specs.List.{find}
use Rattle.assembly_errors.specs.Hints.{is_defined_like}
use Rattle.assembly_errors.proofs.hints.definition_like.Given as goal

abbrev pub invariant-loop-definition : goal.invariant-loop-definition
invariant-loop-definition l = find (is_defined_like l.likeness l.label) (drop l.definition-index l.definitions) ≡ find (is_defined_like l.likeness l.label) l.definitions
