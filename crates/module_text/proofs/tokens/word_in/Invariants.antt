use Rattle.std.proofs.Common.{◌≡◌, ◌<◌, ◌^◌, ◌-◌}
use Rattle.std.specs.Prelude.{slice_range}
use Rattle.module_text.specs.Places.{bytes_in}
use Rattle.module_text.proofs.TextReader.NumberLemmas.{number_after_value}
use Rattle.module_text.proofs.tokens.word_in.Given as goal

abbrev pub invariant-loop-place : goal.invariant-loop-place
invariant-loop-place g l =
    let text = g.X.TextBytes.text l.text in
    record {
      word : number_after_value 16 l.value (slice_range text l.place l.fn.token.end) ≡ number_after_value 16 0 (bytes_in text l.fn.token);
      small : l.value < 16 ^ (l.place - l.fn.token.start);
    }
