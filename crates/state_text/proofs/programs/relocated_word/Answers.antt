use Rattle.std.proofs.Common.{◌∙◌, sym}
use Rattle.state_text.proofs.LoadedWords.{relocated-at, relocated-end, relocated-here, relocated-past}
use Rattle.state_text.proofs.programs.relocated_word.Goals as goal
use Rattle.state_text.proofs.programs.relocated_word.Goals.{then-offset-i, else-offset-i}

pub loop-offset-preserved : goal.loop-offset-preserved
loop-offset-preserved c =
    let base = c.args.base in
    let i = c.args.i in
    let w = c.loop-offset.word in
    let k = c.loop-offset.offset-index in
    let os = c.as_slice-offset-items.result.now in
    elim c.if-offset-i.branch [
      | then-offset-i t ↦ relocated-here base i w k os c.if-offset-i.word c.loop-offset-test.true t.if-offset-i.true (t.word-is ∙ t.add-word.ensures) ∙ c.loop-offset.invariant
      | else-offset-i t ↦ relocated-past base i w k os c.if-offset-i.word c.loop-offset-test.true t.if-offset-i.false t.word-is ∙ c.loop-offset.invariant
    ]

pub returns : goal.returns
returns c =
    let base = c.args.base in
    let i = c.args.i in
    let hunk = c.args.hunk.now in
    sym (relocated-end base i c.loop-offset.word c.loop-offset.offset-index c.as_slice-offset-items.result.now c.loop-offset-test.false)
    ∙ (c.loop-offset.invariant ∙ sym (relocated-at base i hunk.words hunk.relocations c.requires))
