use Rattle.std.proofs.Common.{◌≡◌, drop, map}
use Rattle.std.specs.Prelude.{is_some, string_bytes}
use Rattle.show_run.specs.ValueTries.TryWords.{spans_in}
use Rattle.show_run.proofs.value_tries.words.are_spans.Given as goal

abbrev pub invariant-loop-word : goal.invariant-loop-word
invariant-loop-word l = is_some (spans_in (map string_bytes l.words)) ≡ is_some (spans_in (map string_bytes (drop l.word-index l.words)))
