use Rattle.std.proofs.Common.{◌∙◌, ◌≤◌, ◌-◌, ◌^◌, length, sym, add-one, arith}
use Rattle.std.proofs.lemmas.Bool.Decides.{nat_tests}
use Rattle.module_text.proofs.TextReader.NumberLemmas.{any_number-all, any_number-at, any_number-end}
use Rattle.module_text.proofs.text_reader.numbers.any_number.Goals as goal

pub loop-byte-preserved : goal.loop-byte-preserved
loop-byte-preserved c =
    let digits = c.args.digits.now in
    let more = any_number-at (2 ^ 64 - 1) c.loop-byte.value c.in_ok-digit.digit c.loop-byte.byte-index digits c.loop-byte-test.true (sym c.in_ok-digit.ensures.value) in
    record {
      number = rw (c.saturating_add-value.ensures, c.saturating_mul.ensures, c.from.ensures, add-one) (more ∙ c.loop-byte.invariant.number);
      small = omega arith;
    }

pub returns : goal.returns
returns c =
    let digits = c.args.digits.now in
    let e = c.if-is_empty.ensures in
    let some : 1 ≤ length digits = grind (arith, nat_tests) in
    let end = any_number-end (2 ^ 64 - 1) c.loop-byte.value c.loop-byte.byte-index digits (omega arith) (omega arith) in
    sym (any_number-all (2 ^ 64 - 1) digits some ∙ sym c.loop-byte.invariant.number ∙ end)
