use Rattle.std.proofs.Common.{◌≡◌, ◌∙◌, refl, sym}
use Rattle.std.proofs.lemmas.Bool.{false≢true}
use Rattle.kernel_lists.specs.TaskBlock.TaskChain.{tasks_in}
use Rattle.kernel_model.specs.KernelRecord.Recovered.{lists_in, task_in}
use Rattle.store_claims.specs.AdoptionLaw.Passes.{HoldsTaskWords}
use Rattle.kernel_model.proofs.KernelRecord.EachMember.{all-both}
use Rattle.kernel_check.specs.ListPasses.Private.CanPass.{CanPass}
use Rattle.kernel_check.specs.ListPasses.Frames.{OwnsCoroutines}
use Rattle.kernel_check.proofs.ListPasses.ClaimedWalks.{can-pass, chain-walk, first, goes, going, gone, known-first, of-tasks}
use Rattle.kernel_check.proofs.list_passes.head_pass.holds_words_of_tasks.Goals as goal

pub tasks-t-items-requires : goal.tasks-t-items-requires
tasks-t-items-requires c = chain-walk c.args.store.now c.requires.claimed

pub loop-t-init : goal.loop-t-init
loop-t-init c =
    let is : c.into_iter-t-iterator.result ≡ tasks_in c.args.store.now = cc in
    going (λ t. HoldsTaskWords c.args.store.now (lists_in c.args.store.now) (task_in c.args.store.now t)) (λ t. CanPass c.args.store.now t × OwnsCoroutines c.args.store.now t) c.into_iter-t-iterator.result (tasks_in c.args.store.now) is
    (all-both (CanPass c.args.store.now) (OwnsCoroutines c.args.store.now) (tasks_in c.args.store.now) (can-pass c.args.store.now c.requires.claimed) c.requires.own)

pub returns-then-not-holds_task_words : goal.returns-then-not-holds_task_words
returns-then-not-holds_task_words c = (
  λ t. absurd (false≢true t),
  λ h. sym c.if-not-holds_task_words.true
      ∙ c.holds_task_words.ensures.1
      (first (λ t. HoldsTaskWords c.args.store.now (lists_in c.args.store.now) (task_in c.args.store.now t)) (λ t. CanPass c.args.store.now t × OwnsCoroutines c.args.store.now t) c.loop-t.t-iterator (tasks_in c.args.store.now) c.in-Some.t c.next.new.self c.loop-t.invariant
      c.in-Some.ensures.steps ((of-tasks c.args.store.now (HoldsTaskWords c.args.store.now (lists_in c.args.store.now))).1 h)),
)

pub returns : goal.returns
returns c = (
  λ t. (of-tasks c.args.store.now (HoldsTaskWords c.args.store.now (lists_in c.args.store.now))).0
      (gone (λ t. HoldsTaskWords c.args.store.now (lists_in c.args.store.now) (task_in c.args.store.now t)) (λ t. CanPass c.args.store.now t × OwnsCoroutines c.args.store.now t) c.loop-t.t-iterator (tasks_in c.args.store.now) c.loop-t.invariant c.in-None.ensures.steps.0),
  λ h. refl,
)

pub holds_task_words-requires-clause-can : goal.holds_task_words-requires-clause-can
holds_task_words-requires-clause-can c = (known-first (λ t. HoldsTaskWords c.args.store.now (lists_in c.args.store.now) (task_in c.args.store.now t)) (λ t. CanPass c.args.store.now t × OwnsCoroutines c.args.store.now t) c.loop-t.t-iterator (tasks_in c.args.store.now) c.in-Some.t c.next.new.self c.loop-t.invariant c.in-Some.ensures.steps).0

pub holds_task_words-requires-clause-own : goal.holds_task_words-requires-clause-own
holds_task_words-requires-clause-own c = (known-first (λ t. HoldsTaskWords c.args.store.now (lists_in c.args.store.now) (task_in c.args.store.now t)) (λ t. CanPass c.args.store.now t × OwnsCoroutines c.args.store.now t) c.loop-t.t-iterator (tasks_in c.args.store.now) c.in-Some.t c.next.new.self c.loop-t.invariant c.in-Some.ensures.steps).1

pub loop-t-preserved : goal.loop-t-preserved
loop-t-preserved c = goes (λ t. HoldsTaskWords c.args.store.now (lists_in c.args.store.now) (task_in c.args.store.now t)) (λ t. CanPass c.args.store.now t × OwnsCoroutines c.args.store.now t) c.loop-t.t-iterator (tasks_in c.args.store.now) c.in-Some.t c.next.new.self c.loop-t.invariant c.in-Some.ensures.steps (c.holds_task_words.ensures.0 c.if-not-holds_task_words.false)
