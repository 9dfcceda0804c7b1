use Rattle.std.proofs.Common.{◌≡◌, ◌≢◌, ◌∙◌, subst, sym}
use Rattle.byte_streams.specs.Pending.{Gathers, IsGathered}
use Rattle.byte_streams.proofs.GatheredTexts.{IsGathered-nothing}
use Rattle.tripos_machine.specs.State.{running_of}
use Rattle.state_text.specs.Deadlock.{deadlock_text, unanswered_text}
use Rattle.state_text.specs.Runner.{has_keys}
use Rattle.state_text.proofs.KernelStates.{nothing-said, on-lists, unanswered-said, walks}
use Rattle.state_text.proofs.deadlock.gather_deadlock.Goals as goal

pub gather_unanswered-requires : goal.gather_unanswered-requires
gather_unanswered-requires g c = walks _ c.args.machine.now.state c.in-Some.ensures.represents

pub returns-else-running-ne0-clause-text : goal.returns-else-running-ne0-clause-text
returns-else-running-ne0-clause-text g c =
    let holds = g.K.Sink.holds in
    let end = c.gather_unanswered in
    on-lists _ c.args.machine.now.state
    (λ l s. running_of s ≡ 0 → Gathers (holds c.args.out.now) (holds end.new.out) c.args.pending.now end.new.pending (unanswered_text l (has_keys s)) end.result
    → Gathers (holds c.args.out.now) (holds end.new.out) c.args.pending.now end.new.pending (deadlock_text s) end.result)
    c.in-Some.ensures.represents (λ k none text. subst (λ line. Gathers (holds c.args.out.now) (holds end.new.out) c.args.pending.now end.new.pending line end.result) (unanswered-said k none) text) (sym c.running.ensures ∙ c.if-running-ne0.false)
    (rw c.has_keys.ensures at end.ensures.text)

pub returns-then-running-ne0-clause-text : goal.returns-then-running-ne0-clause-text
returns-then-running-ne0-clause-text g c =
    let held = g.K.Sink.holds c.args.out.now in
    on-lists _ c.args.machine.now.state (λ l s. running_of s ≢ 0 → IsGathered held held c.args.pending.now c.args.pending.now (deadlock_text s)) c.in-Some.ensures.represents
    (λ k some. subst (IsGathered held held c.args.pending.now c.args.pending.now) (nothing-said k some) (IsGathered-nothing held c.args.pending.now)) (λ none. c.if-running-ne0.true (c.running.ensures ∙ none))
