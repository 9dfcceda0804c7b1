use Rattle.std.proofs.Common.{◌≡◌, ◌<◌, ◌^◌, ◌-◌, drop}
use Rattle.module_text.proofs.TextReader.NumberLemmas.{any_number_after}
use Rattle.module_text.proofs.text_reader.numbers.any_number.Given as goal

abbrev pub invariant-loop-byte : goal.invariant-loop-byte
invariant-loop-byte l = record {
  number : any_number_after (2 ^ 64 - 1) l.value (drop l.byte-index l.digits) ≡ any_number_after (2 ^ 64 - 1) 0 l.digits;
  small : l.value < 2 ^ 64;
}
