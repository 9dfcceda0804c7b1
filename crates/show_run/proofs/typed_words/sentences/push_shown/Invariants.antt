use Rattle.std.proofs.Common.{◌≡◌, ◌++◌, drop}
use Rattle.show_run.specs.TypedWords.ShownBytes.{shown}
use Rattle.show_run.proofs.typed_words.sentences.push_shown.Given as goal

abbrev pub invariant-loop-byte : goal.invariant-loop-byte
invariant-loop-byte l = l.text.items ++ shown (drop l.byte-index l.bytes) ≡ l.fn.text.items ++ shown l.bytes
