use Rattle.std.proofs.Common.{◌≡◌, drop}
use Rattle.state_words.specs.Spans.{first_beyond}
use Rattle.state_words.proofs.spans.first_beyond.Given as goal

abbrev pub invariant-loop-stack : goal.invariant-loop-stack
invariant-loop-stack l = first_beyond l.p l.address l.stacks ≡ first_beyond l.p l.address (drop l.stack-index l.stacks)
