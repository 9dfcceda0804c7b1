use Rattle.std.proofs.Common.{◌∙◌, arith, length, sym}
use Rattle.std.proofs.lemmas.List.{length-drop}
use Rattle.state_text.proofs.LoadedWords.{images-next, images-other}
use Rattle.state_text.proofs.programs.has_images.Goals as goal

pub returns-then-not-has_image : goal.returns-then-not-has_image
returns-then-not-has_image c =
    let l = c.loop-hunk in
    images-other l.rest.now l.base l.hunk-index c.args.hunks.now c.hunk-item.result c.loop-hunk-test.true c.hunk-item.is (sym c.if-not-has_image.true ∙ c.has_image.ensures.words) ∙ sym l.invariant.0

pub loop-hunk-preserved : goal.loop-hunk-preserved
loop-hunk-preserved c =
    let l = c.loop-hunk in
    let h = c.hunk-item.result in
    let hs = c.args.hunks.now in
    let room = c.has_image.ensures.room c.if-not-has_image.false in
    let next = images-next l.rest.now l.base l.hunk-index hs h c.loop-hunk-test.true c.hunk-item.is (sym c.if-not-has_image.false ∙ c.has_image.ensures.words) in
    rw (c.words_after-rest.ensures, c.as_slice-n.ensures) (l.invariant.0 ∙ next, omega (arith, l.invariant.1, room, length-drop (length h.words) l.rest.now))
