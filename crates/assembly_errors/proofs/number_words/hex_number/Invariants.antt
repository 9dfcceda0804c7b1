use Rattle.std.proofs.Common.{◌≡◌, ◌<◌, ◌^◌, drop}
use Rattle.module_text.proofs.TextReader.NumberLemmas.{number_after_value}
use Rattle.assembly_errors.proofs.number_words.hex_number.Given as goal

abbrev pub invariant-loop-byte : goal.invariant-loop-byte
invariant-loop-byte l = record {
  number : number_after_value 16 l.value (drop l.byte-index l.digits) ≡ number_after_value 16 0 l.digits;
  small : l.value < 16 ^ l.byte-index;
}
