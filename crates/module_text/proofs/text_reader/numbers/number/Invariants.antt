use Rattle.std.proofs.Common.{◌≡◌, ◌<◌, ◌^◌, drop}
use Rattle.module_text.proofs.TextReader.NumberLemmas.{number_after_value}
use Rattle.module_text.proofs.text_reader.numbers.number.Given as goal

abbrev pub invariant-loop-byte : goal.invariant-loop-byte
invariant-loop-byte l = record {
  number : number_after_value 10 l.value (drop l.byte-index l.digits) ≡ number_after_value 10 0 l.digits;
  small : l.value < 10 ^ l.byte-index;
}
