use Rattle.std.proofs.Common.{◌≡◌, ◌++◌, drop, map}
use Rattle.std.specs.Prelude.{option_map, string_bytes}
use Rattle.show_run.specs.ValueTries.TryWords.{spans_in}
use Rattle.show_run.proofs.value_tries.words.read_spans.Given as goal

abbrev pub invariant-loop-word : goal.invariant-loop-word
invariant-loop-word l = spans_in (map string_bytes l.words) ≡ option_map (λ spans. l.spans.items ++ spans) (spans_in (map string_bytes (drop l.word-index l.words)))
