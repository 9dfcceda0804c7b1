use Rattle.std.proofs.Common.{◌∙◌, refl, sym, arith}
use Rattle.std.proofs.lemmas.Bool.{false≢true}
use Rattle.kernel_lists.specs.TaskBlock.HeldTasks.{address_with}
use Rattle.kernel_model.specs.KernelRecord.Recovered.{lists_in}
use Rattle.kernel_model.specs.KernelRecord.Task.{task_address, task_id}
use Rattle.kernel_model.specs.KernelRecord.Versions.{highest_id_of}
use Rattle.kernel_check.proofs.ListPasses.TaskTable.{holds-entries}
use Rattle.kernel_check.proofs.list_passes.table.holds_table.Goals as goal

pub returns-then-word-address_of : goal.returns-then-word-address_of
returns-then-word-address_of c = (
  λ t. absurd (false≢true t),
  λ h. absurd (c.if-word-address_of.true
      (c.word.ensures
      ∙ (holds-entries c.args.store.now (address_with task_address task_id (lists_in c.args.store.now).tasks) 1 (highest_id_of (lists_in c.args.store.now).version)).1 h c.loop-i.i (omega (arith, c.loop-i-test.true, c.highest_of-i-end.ensures.value))
      ∙ sym c.address_of.ensures)),
)

pub returns : goal.returns
returns c = (
  λ t. (holds-entries c.args.store.now (address_with task_address task_id (lists_in c.args.store.now).tasks) 1 (highest_id_of (lists_in c.args.store.now).version)).0
      (λ k low. c.loop-i.invariant k (omega (arith, low, c.loop-i-test.false, c.highest_of-i-end.ensures.value))),
  λ h. refl,
)
