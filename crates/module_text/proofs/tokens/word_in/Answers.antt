use Rattle.std.proofs.Common.{◌≡◌, ◌∙◌, ◌-◌, sym, length, drop, arith, length-take}
use Rattle.std.proofs.lemmas.List.{length-drop}
use Rattle.module_text.specs.Places.{bytes_in}
use Rattle.module_text.proofs.TextReader.NumberLemmas.{number_in-short}
use Rattle.module_text.proofs.Digits.{digit_more, digit_none, small_more}
use Rattle.module_text.proofs.tokens.word_in.Goals as goal

pub returns-in_err-digit : goal.returns-in_err-digit
returns-in_err-digit g c =
    let text = g.X.TextBytes.text c.args.text.now in
    let i = c.loop-place.place in
    let token = c.args.token in
    let none = rw c.byte_at.ensures at (sym c.digit.ensures.value ∙ c.in_err-digit.was) in
    let inside = c.requires.inside in
    let some = c.requires.some in
    let size : length (bytes_in text token) ≡ token.end - token.start = omega (arith, length-take (token.end - token.start) (drop token.start text), length-drop token.start text) in
    c.from_residual.ensures
    ∙ sym
    (number_in-short 16 8 (bytes_in text token) (omega arith) (omega arith) ∙ sym c.loop-place.invariant.word
    ∙ digit_none text i token.end c.loop-place.value (omega arith) (omega arith) none)

pub overflow_mul-value : goal.overflow_mul-value
overflow_mul-value g c =
    let more = small_more c.loop-place.value c.in_ok-digit.digit c.loop-place.place c.args.token.start c.args.token.end c.loop-place.invariant.small c.in_ok-digit.ensures.small (omega arith) (omega arith) (omega arith) in
    omega arith

pub overflow_add-value : goal.overflow_add-value
overflow_add-value g c =
    let more = small_more c.loop-place.value c.in_ok-digit.digit c.loop-place.place c.args.token.start c.args.token.end c.loop-place.invariant.small c.in_ok-digit.ensures.small (omega arith) (omega arith) (omega arith) in
    omega arith

pub loop-place-preserved : goal.loop-place-preserved
loop-place-preserved g c =
    let text = g.X.TextBytes.text c.args.text.now in
    let i = c.loop-place.place in
    let end = c.args.token.end in
    let more = small_more c.loop-place.value c.in_ok-digit.digit i c.args.token.start end c.loop-place.invariant.small c.in_ok-digit.ensures.small (omega arith) (omega arith) (omega arith) in
    record {
      word = sym (digit_more text i end c.loop-place.value c.in_ok-digit.digit (omega arith) (omega arith) (rw c.byte_at.ensures at (sym c.in_ok-digit.ensures.value))) ∙ c.loop-place.invariant.word;
      small = more.1;
    }
