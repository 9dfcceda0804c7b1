use Rattle.std.proofs.Common.{◌≡◌, ◌∙◌, refl, sym}
use Rattle.std.proofs.lemmas.Bool.{false≢true}
use Rattle.kernel_lists.specs.TaskBlock.TaskChain.{tasks_in}
use Rattle.kernel_check.specs.ListPasses.Private.CanPass.{CanPass}
use Rattle.kernel_check.proofs.ListPasses.ClaimedWalks.{can-pass, chain-walk, first, going, gone}
use Rattle.kernel_check.specs.ListPasses.Frames.{OwnsCoroutines}
use Rattle.kernel_check.proofs.list_passes.coroutine_pass.are_valid_coroutines.Goals as goal

pub tasks-t-items-requires : goal.tasks-t-items-requires
tasks-t-items-requires c = chain-walk c.args.store.now c.requires.claimed

pub loop-t-init : goal.loop-t-init
loop-t-init c = record {
  going = (let is : c.into_iter-t-iterator.result ≡ tasks_in c.args.store.now = cc in going (OwnsCoroutines c.args.store.now) (CanPass c.args.store.now) c.into_iter-t-iterator.result (tasks_in c.args.store.now) is (can-pass c.args.store.now c.requires.claimed));
  shut = c.requires.shut;
}

pub returns-then-not-are_valid_own_coroutines : goal.returns-then-not-are_valid_own_coroutines
returns-then-not-are_valid_own_coroutines c = (
  λ t. absurd (false≢true t),
  λ h. sym c.if-not-are_valid_own_coroutines.true
      ∙ c.are_valid_own_coroutines.ensures.answer.1
      (first (OwnsCoroutines c.args.store.now) (CanPass c.args.store.now) c.loop-t.t-iterator (tasks_in c.args.store.now) c.in-Some.t c.next.new.self c.loop-t.invariant.going c.in-Some.ensures.steps
      h),
)

pub returns : goal.returns
returns c = (
  λ t. gone (OwnsCoroutines c.args.store.now) (CanPass c.args.store.now) c.loop-t.t-iterator (tasks_in c.args.store.now) c.loop-t.invariant.going c.in-None.ensures.steps.0,
  λ h. refl,
)
