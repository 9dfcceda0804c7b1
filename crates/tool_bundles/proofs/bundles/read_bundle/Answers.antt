use Rattle.std.proofs.Common.{◌∙◌, ◌+◌, ◌-◌, length, sym, refl, arith}
use Rattle.tool_bundles.proofs.WordsAfter.{no_text, no_word, one_word}
use Rattle.tool_bundles.proofs.bundles.read_bundle.Goals as goal

pub returns-then-is_empty : goal.returns-then-is_empty
returns-then-is_empty c = sym c.loop-done.invariant ∙ no_text _ _ _ (sym c.is_empty.ensures ∙ c.if-is_empty.true)

pub returns-in_default : goal.returns-in_default
returns-in_default c =
    sym c.loop-done.invariant
    ∙ no_word _ (length c.args.text.now - (c.loop-done.done + 1)) _ _ (omega (arith, c.loop-done-test.true)) (sym c.is_empty.ensures ∙ c.if-is_empty.false) (rw (sym c.entry_of.ensures, c.in_default.is) refl)

pub loop-done-preserved : goal.loop-done-preserved
loop-done-preserved c =
    rw c.in_ok-push.ensures.items
    (sym (one_word _ (length c.args.text.now - (c.loop-done.done + 1)) _ _ (c.in-Some.entry, c.in-Some.others.now) (omega (arith, c.loop-done-test.true)) (sym c.is_empty.ensures ∙ c.if-is_empty.false) (rw (sym c.entry_of.ensures, c.in-Some.is) refl))
    ∙ c.loop-done.invariant)
