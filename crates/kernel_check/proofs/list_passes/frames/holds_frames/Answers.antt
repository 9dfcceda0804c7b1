use Rattle.std.proofs.Common.{◌≡◌, ◌≢◌, ◌⊎◌, ◌∙◌, ◌+◌, get_or, inl, inr, refl, sym}
use Rattle.std.proofs.lemmas.Bool.{false≢true}
use Rattle.kernel_lists.specs.TaskBlock.Lists.{coroutines_in}
use Rattle.kernel_model.proofs.KernelRecord.EachMember.{all-both, all-each}
use Rattle.kernel_check.specs.ListPasses.Frames.{HasFrame, HasParent}
use Rattle.kernel_check.proofs.ListPasses.ClaimedWalks.{all-any, first, going, gone}
use Rattle.kernel_check.proofs.ListPasses.FrameWords.{Frame, all-frames, frames-all, no-frames}
use Rattle.kernel_check.proofs.list_passes.frames.holds_frames.Goals as goal
use Rattle.kernel_check.proofs.list_passes.frames.holds_frames.Goals.{else-current-ne0-via-then-current-ne0+else-current-t, else-current-ne0-via-else-current-ne0}

pub returns-then-current-t : goal.returns-then-current-t
returns-then-current-t c = (
  λ t. absurd (false≢true t),
  λ h. absurd (no-frames c.args.store.now c.args.t (λ e. c.if-current-ne0.true (c.field-current.ensures ∙ e)) (sym c.field-current.ensures ∙ c.if-current-t.true) h),
)

pub loop-c-init : goal.loop-c-init
loop-c-init c =
    let is : c.into_iter-c-iterator.result ≡ coroutines_in c.args.store.now c.args.t = cc in
    going (HasFrame c.args.store.now) (λ k. Unit {0}) c.into_iter-c-iterator.result (coroutines_in c.args.store.now c.args.t) is (all-any (coroutines_in c.args.store.now c.args.t))

pub returns-then-not-has_frame : goal.returns-then-not-has_frame
returns-then-not-has_frame c = (
  λ t. absurd (false≢true t),
  λ h. sym c.if-not-has_frame.true
      ∙ c.has_frame.ensures.1
      (first (HasFrame c.args.store.now) (λ k. Unit {0}) c.loop-c.c-iterator (coroutines_in c.args.store.now c.args.t) c.in-Some.c c.next.new.self c.loop-c.invariant c.in-Some.ensures.steps
      (all-each (Frame c.args.store.now c.args.t) (HasFrame c.args.store.now) (λ k f. f.0) (coroutines_in c.args.store.now c.args.t) (frames-all c.args.store.now c.args.t h))),
)

pub returns : goal.returns
returns c =
    let current : (get_or c.args.store.now (c.args.t + 18) 0 ≡ 0) ⊎ (get_or c.args.store.now (c.args.t + 18) 0 ≢ c.args.t) =
    elim c.else-current-ne0.branch [
      | else-current-ne0-via-then-current-ne0+else-current-t w ↦ inr (λ e. w.if-current-t.false (c.field-current.ensures ∙ e))
      | else-current-ne0-via-else-current-ne0 w ↦ inl (sym c.field-current.ensures ∙ w.if-current-ne0.false)
    ]
    in (
      λ t. all-frames c.args.store.now c.args.t c.requires.can current
          (all-both (HasFrame c.args.store.now) (HasParent c.args.store.now c.args.t) (coroutines_in c.args.store.now c.args.t)
          (gone (HasFrame c.args.store.now) (λ k. Unit {0}) c.loop-c.c-iterator (coroutines_in c.args.store.now c.args.t) c.loop-c.invariant c.in-None.ensures.steps.0) c.requires.parents),
      λ h. refl,
    )
