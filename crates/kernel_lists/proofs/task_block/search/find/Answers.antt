use Rattle.std.proofs.Common.{◌∙◌, sym, arith}
use Rattle.kernel_lists.proofs.TaskBlock.TableEntries.{no-entry, out-of-table}
use Rattle.kernel_lists.proofs.task_block.search.find.Goals as goal
use Rattle.kernel_lists.proofs.task_block.search.find.Goals.{then-id-eq0-via-then-id-eq0, then-id-eq0-via-else-id-eq0+then-id-highest_id}

pub returns-then-id-eq0 : goal.returns-then-id-eq0
returns-then-id-eq0 c =
    sym (out-of-table c.args.store.now c.args.id c.requires (λ low high.
    elim c.then-id-eq0.branch [
      | then-id-eq0-via-then-id-eq0 w ↦ absurd (omega (arith, low, w.if-id-eq0.true))
      | then-id-eq0-via-else-id-eq0+then-id-highest_id w ↦ absurd (omega (arith, high, w.highest_id.ensures, w.if-id-highest_id.true))
    ]))

pub returns-in-0 : goal.returns-in-0
returns-in-0 c =
    sym (no-entry c.args.store.now c.args.id c.requires (omega (arith, c.if-id-eq0.false)) (omega (arith, c.if-id-highest_id.false, c.highest_id.ensures)) (sym c.word.ensures ∙ c.in-0.is))
