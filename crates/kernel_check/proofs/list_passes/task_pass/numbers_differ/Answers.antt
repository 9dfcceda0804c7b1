use Rattle.std.proofs.Common.{◌∙◌, refl, sym, subst, ◌≤◌}
use Rattle.std.proofs.lemmas.Bool.{false≢true}
use Rattle.word_store.specs.Count.{IsApart, times}
use Rattle.kernel_lists.specs.TaskBlock.TaskChain.{tasks_in}
use Rattle.kernel_check.proofs.ListPasses.ClaimedWalks.{chain-walk, gone}
use Rattle.kernel_check.proofs.ListPasses.TaskWalks.{Once, all-apart, apart-all, ids, ids-lists}
use Rattle.kernel_check.proofs.list_passes.task_pass.numbers_differ.Goals as goal

pub tasks-t-items-requires : goal.tasks-t-items-requires
tasks-t-items-requires c = chain-walk c.args.store.now c.requires.claimed

pub returns-then-not-is_once : goal.returns-then-not-is_once
returns-then-not-is_once c = (
  λ t. absurd (false≢true t),
  λ h. sym c.if-not-is_once.true
      ∙ c.is_once.ensures.1
      (subst (λ z. times z (ids c.args.store.now (tasks_in c.args.store.now)) ≤ 1) (sym c.field.ensures) (apart-all c.args.store.now (subst IsApart (sym (ids-lists c.args.store.now)) h) c.in-Some.t)),
)

pub returns : goal.returns
returns c = (
  λ t. subst IsApart (ids-lists c.args.store.now) (all-apart c.args.store.now (gone (Once c.args.store.now) (λ t. Unit {0}) c.loop-t.t-iterator (tasks_in c.args.store.now) c.loop-t.invariant c.in-None.ensures.steps.0)),
  λ h. refl,
)
