use Rattle.std.proofs.Common.{◌≡◌, ◌++◌, drop}
use Rattle.std.specs.List.{flat_map}
use Rattle.tool_texts.specs.Sentences.{text_of}
use Rattle.tool_texts.proofs.sentences.push_sentence.Given as goal

abbrev pub invariant-loop-part : goal.invariant-loop-part
invariant-loop-part l = l.text.items ++ flat_map text_of (drop l.part-index l.parts) ≡ l.fn.text.items ++ flat_map text_of l.parts
