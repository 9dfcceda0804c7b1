use Rattle.std.proofs.Common.{◌≡◌, ◌∙◌, not, refl, sym}
use Rattle.std.proofs.lemmas.Bool.{false≢true}
use Rattle.kernel_lists.specs.LinkedList.Places.{has}
use Rattle.kernel_lists.specs.TaskBlock.Lists.{coroutines_in}
use Rattle.kernel_lists.specs.Coroutines.Active.{active_in}
use Rattle.store_claims.specs.WordClaims.Marks.{is_open}
use Rattle.kernel_check.specs.ListPasses.Frames.{TellsParent}
use Rattle.kernel_check.proofs.ListPasses.ClaimedWalks.{first, goes, going, gone, known-first}
use Rattle.kernel_check.proofs.ListPasses.CoroutineWalks.{tells-open}
use Rattle.kernel_check.proofs.list_passes.coroutine_pass.parents_tell.Goals as goal

pub loop-c-init : goal.loop-c-init
loop-c-init c =
    let is : c.into_iter-c-iterator.result ≡ coroutines_in c.args.store.now c.args.t = cc in
    going (TellsParent c.args.store.now c.args.t) (λ a. is_open c.args.own.now a ≡ not (has a (active_in c.args.store.now c.args.t))) c.into_iter-c-iterator.result (coroutines_in c.args.store.now c.args.t) is c.requires.idle

pub returns-then-not-parent_tells : goal.returns-then-not-parent_tells
returns-then-not-parent_tells c = (
  λ t. absurd (false≢true t),
  λ h. sym c.if-not-parent_tells.true ∙ (tells-open c.args.store.now c.args.t c.in-Some.c c.args.own.now c.parent_tells.result
      (known-first (TellsParent c.args.store.now c.args.t) (λ a. is_open c.args.own.now a ≡ not (has a (active_in c.args.store.now c.args.t)))
      c.loop-c.c-iterator (coroutines_in c.args.store.now c.args.t) c.in-Some.c c.next.new.self c.loop-c.invariant c.in-Some.ensures.steps)
      c.parent_tells.ensures).1
      (first (TellsParent c.args.store.now c.args.t) (λ a. is_open c.args.own.now a ≡ not (has a (active_in c.args.store.now c.args.t)))
      c.loop-c.c-iterator (coroutines_in c.args.store.now c.args.t) c.in-Some.c c.next.new.self c.loop-c.invariant c.in-Some.ensures.steps h),
)

pub loop-c-preserved : goal.loop-c-preserved
loop-c-preserved c =
    goes (TellsParent c.args.store.now c.args.t) (λ a. is_open c.args.own.now a ≡ not (has a (active_in c.args.store.now c.args.t)))
    c.loop-c.c-iterator (coroutines_in c.args.store.now c.args.t) c.in-Some.c c.next.new.self c.loop-c.invariant c.in-Some.ensures.steps
    ((tells-open c.args.store.now c.args.t c.in-Some.c c.args.own.now c.parent_tells.result
    (known-first (TellsParent c.args.store.now c.args.t) (λ a. is_open c.args.own.now a ≡ not (has a (active_in c.args.store.now c.args.t)))
    c.loop-c.c-iterator (coroutines_in c.args.store.now c.args.t) c.in-Some.c c.next.new.self c.loop-c.invariant c.in-Some.ensures.steps)
    c.parent_tells.ensures).0 c.if-not-parent_tells.false)

pub returns : goal.returns
returns c = (λ t. gone (TellsParent c.args.store.now c.args.t) (λ a. is_open c.args.own.now a ≡ not (has a (active_in c.args.store.now c.args.t))) c.loop-c.c-iterator (coroutines_in c.args.store.now c.args.t) c.loop-c.invariant c.in-None.ensures.steps.0, λ h. refl)
