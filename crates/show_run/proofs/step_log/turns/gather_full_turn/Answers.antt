use Rattle.std.proofs.Common.{◌≡◌, ◌∙◌, ap, false, subst, sym, true}
use Rattle.std.proofs.lemmas.Result.{err_from_is_err_and}
use Rattle.byte_streams.specs.Pending.{Gathers, IsCut, IsGathered}
use Rattle.byte_streams.proofs.GatheredTexts.{Gathers-then, IsCut-more, IsCut-then, IsGathered-nothing, IsGathered-then}
use Rattle.tripos_machine.specs.GuestWrites.{is_kernels}
use Rattle.tripos_machine.specs.State.{State, words_of}
use Rattle.tripos_machine.specs.Step.{step}
use Rattle.show_run.specs.StepLog.Packets.{told_lines, told_of}
use Rattle.show_run.specs.StepLog.StepLines.{before_seen}
use Rattle.show_run.specs.StepLog.Writes.{changed_lines, may_change, other_lines, words_after_instruction}
use Rattle.show_run.proofs.StepLog.TurnLines.{behind-events, changed, kept-size, others-all, others-none, turn-parts}
use Rattle.show_run.proofs.step_log.turns.gather_full_turn.Goals as goal

pub returns-in_err-told-clause-text : goal.returns-in_err-told-clause-text
returns-in_err-told-clause-text g c =
    let s = c.args.machine.now.state in
    let b = before_seen c.args.before in
    let p = err_from_is_err_and c.from_residual.result c.from_residual.ensures.1 in
    rw (p.1, turn-parts c.args.m b s (step s)) (IsCut-more (behind-events c.args.m b s (step s)) c.in_err-told.ensures.text)

pub returns-in_err-gather_told-clause-text : goal.returns-in_err-gather_told-clause-text
returns-in_err-gather_told-clause-text g c =
    let holds = g.K.Sink.holds in
    let s = c.args.machine.now.state in
    let x = step s in
    let m = c.args.m in
    let b = before_seen c.args.before in
    let p = err_from_is_err_and c.from_residual-in_err-gather_told.result c.from_residual-in_err-gather_told.ensures.1 in
    let packets : IsCut (holds c.take_step.new.out) (holds c.gather_told.new.out) c.take_step.new.pending (told_lines m (words_of x.state) (told_of x.events)) =
    subst (λ words. IsCut (holds c.take_step.new.out) (holds c.gather_told.new.out) c.take_step.new.pending (told_lines m words (told_of x.events))) (c.store.ensures ∙ ap words_of c.take_step.ensures.state)
    (subst (λ told. IsCut (holds c.take_step.new.out) (holds c.gather_told.new.out) c.take_step.new.pending (told_lines m c.store.result.now told)) (c.as_slice.ensures.value ∙ c.in_ok-told.ensures.told) c.in_err-gather_told.ensures.text) in
    rw (p.1, turn-parts m b s x) (IsCut-then c.in_ok-told.ensures.text (IsCut-more (other_lines m b.call x.events s x.state) packets))

pub returns-then-not-may_change-clause-text : goal.returns-then-not-may_change-clause-text
returns-then-not-may_change-clause-text g c =
    let holds = g.K.Sink.holds in
    let s = c.args.machine.now.state in
    let x = step s in
    let m = c.args.m in
    let b = before_seen c.args.before in
    let old = c.take_step.new in
    let now = c.gather_told.new in
    let packets : IsGathered (holds old.out) (holds now.out) old.pending now.pending (told_lines m (words_of x.state) (told_of x.events)) =
    subst (λ words. IsGathered (holds old.out) (holds now.out) old.pending now.pending (told_lines m words (told_of x.events))) (c.store.ensures ∙ ap words_of c.take_step.ensures.state)
    (subst (λ told. IsGathered (holds old.out) (holds now.out) old.pending now.pending (told_lines m c.store.result.now told)) (c.as_slice.ensures.value ∙ c.in_ok-told.ensures.told) c.in_ok-gather_told.ensures.text) in
    let still : may_change b.call m.task x.events ≡ false = sym (c.may_change.ensures x.events c.in_ok-told.ensures.told) ∙ c.if-not-may_change.true in
    let others : IsGathered (holds now.out) (holds now.out) now.pending now.pending (other_lines m b.call x.events s x.state) =
    subst (IsGathered (holds now.out) (holds now.out) now.pending now.pending) (sym (others-none m b s x still)) (IsGathered-nothing (holds now.out) now.pending) in
    rw (turn-parts m b s x) (IsGathered-then c.in_ok-told.ensures.text (IsGathered-then packets others))

pub returns-clause-text : goal.returns-clause-text
returns-clause-text g c =
    let holds = g.K.Sink.holds in
    let s = c.args.machine.now.state in
    let x = step s in
    let m = c.args.m in
    let b = before_seen c.args.before in
    let old = c.take_step.new in
    let now = c.gather_told.new in
    let end = c.gather_changed in
    let packets : IsGathered (holds old.out) (holds now.out) old.pending now.pending (told_lines m (words_of x.state) (told_of x.events)) =
    subst (λ words. IsGathered (holds old.out) (holds now.out) old.pending now.pending (told_lines m words (told_of x.events))) (c.store.ensures ∙ ap words_of c.take_step.ensures.state)
    (subst (λ told. IsGathered (holds old.out) (holds now.out) old.pending now.pending (told_lines m c.store.result.now told)) (c.as_slice.ensures.value ∙ c.in_ok-told.ensures.told) c.in_ok-gather_told.ensures.text) in
    let may : may_change b.call m.task x.events ≡ true = sym (c.may_change.ensures x.events c.in_ok-told.ensures.told) ∙ c.if-not-may_change.false in
    let kept = subst (λ words. Gathers (holds now.out) (holds end.new.out) now.pending end.new.pending (changed_lines m (is_kernels c.take_step.new.machine.state) words 0 (words_of c.take_step.new.machine.state)) end.result) c.keep_words.ensures end.ensures.text in
    let all : Gathers (holds now.out) (holds end.new.out) now.pending end.new.pending (changed m b s x) end.result =
    subst (λ (t : State). Gathers (holds now.out) (holds end.new.out) now.pending end.new.pending (changed_lines m (is_kernels t) (words_after_instruction s) 0 (words_of t)) end.result) c.take_step.ensures.state kept in
    let others : Gathers (holds now.out) (holds end.new.out) now.pending end.new.pending (other_lines m b.call x.events s x.state) end.result =
    subst (λ lines. Gathers (holds now.out) (holds end.new.out) now.pending end.new.pending lines end.result) (sym (others-all m b s x may)) all in
    rw (turn-parts m b s x)
    (Gathers-then c.in_ok-told.ensures.text (holds end.new.out) end.new.pending (behind-events m b s x) end.result
    (Gathers-then packets (holds end.new.out) end.new.pending (other_lines m b.call x.events s x.state) end.result others))

-- ---- the words that are kept are as many

pub returns-in_err-told-clause-size : goal.returns-in_err-told-clause-size
returns-in_err-told-clause-size g c = kept-size c.args.machine.now.state c.keep_words.new.former c.keep_words.ensures ∙ sym c.requires.size

pub returns-in_err-gather_told-clause-size : goal.returns-in_err-gather_told-clause-size
returns-in_err-gather_told-clause-size g c = kept-size c.args.machine.now.state c.keep_words.new.former c.keep_words.ensures ∙ sym c.requires.size

pub returns-then-not-may_change-clause-size : goal.returns-then-not-may_change-clause-size
returns-then-not-may_change-clause-size g c = kept-size c.args.machine.now.state c.keep_words.new.former c.keep_words.ensures ∙ sym c.requires.size

pub returns-clause-size : goal.returns-clause-size
returns-clause-size g c = kept-size c.args.machine.now.state c.keep_words.new.former c.keep_words.ensures ∙ sym c.requires.size
