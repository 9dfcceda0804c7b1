use Rattle.std.proofs.Common.{◌≡◌, ◌∙◌, ap, sym, arith, ◌+◌, ◌-◌}
use Rattle.kernel_lists.proofs.TaskBlock.TableEntries.{free-here, free-next, free_from}
use Rattle.kernel_lists.proofs.task_block.search.free_id.Goals as goal

pub returns-then-word-eq0 : goal.returns-then-word-eq0
returns-then-word-eq0 c =
    sym (c.loop-id.invariant
    ∙ free-here c.args.store.now c.loop-id.id _ c.requires (omega (arith, c.loop-id.auto.id)) (omega (arith, c.loop-id-test.true, c.highest_id-id-end.ensures)) (sym c.word.ensures ∙ c.if-word-eq0.true) (omega (arith, c.loop-id-test.true)))

pub loop-id-preserved : goal.loop-id-preserved
loop-id-preserved c =
    let e : c.highest_id-id-end.result + 1 - c.loop-id.id - 1 ≡ c.highest_id-id-end.result + 1 - (c.loop-id.id + 1) = omega arith in
    c.loop-id.invariant
    ∙ free-next c.args.store.now c.loop-id.id _ c.word.result c.requires (omega (arith, c.loop-id.auto.id)) (omega (arith, c.loop-id-test.true, c.highest_id-id-end.ensures)) c.word.ensures c.if-word-eq0.false (omega (arith, c.loop-id-test.true))
    ∙ ap (free_from c.args.store.now (c.loop-id.id + 1)) e
