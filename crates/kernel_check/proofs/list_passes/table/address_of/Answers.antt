use Rattle.std.proofs.Common.{◌∙◌, sym}
use Rattle.kernel_check.proofs.ListPasses.ClaimedWalks.{chain-walk}
use Rattle.kernel_check.proofs.ListPasses.TaskTable.{found, not-found, of-lists}
use Rattle.kernel_check.proofs.list_passes.table.address_of.Goals as goal

pub tasks-t-items-requires : goal.tasks-t-items-requires
tasks-t-items-requires c = chain-walk c.args.store.now c.requires

pub returns-then-field-id : goal.returns-then-field-id
returns-then-field-id c =
    sym (found c.args.store.now c.loop-t.t-iterator c.in-Some.t c.next.new.self c.args.id c.field.result c.in-Some.ensures.steps c.field.ensures c.if-field-id.true)
    ∙ c.loop-t.invariant ∙ of-lists c.args.store.now c.args.id

pub returns : goal.returns
returns c = sym (not-found c.args.store.now c.loop-t.t-iterator c.args.id c.in-None.ensures.steps.0) ∙ c.loop-t.invariant ∙ of-lists c.args.store.now c.args.id
