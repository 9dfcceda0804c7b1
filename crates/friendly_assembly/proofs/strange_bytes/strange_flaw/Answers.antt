use Rattle.std.proofs.Common.{◌≡◌, ◌∙◌, None, drop, sym}
use Rattle.friendly_assembly.specs.StrangeBytes.{strange_character}
use Rattle.friendly_assembly.proofs.StrangeTexts.{strange_next}
use Rattle.friendly_assembly.proofs.strange_bytes.strange_flaw.Goals as goal

pub loop-i-preserved : goal.loop-i-preserved
loop-i-preserved c =
    let here : strange_character (drop c.loop-i.i c.args.text.now) ≡ None = rw (sym c.split_at.ensures.back) (sym c.strange_character.ensures ∙ c.in-None.is) in
    strange_next c.loop-i.i c.args.text.now c.loop-i-test.true here ∙ c.loop-i.invariant
