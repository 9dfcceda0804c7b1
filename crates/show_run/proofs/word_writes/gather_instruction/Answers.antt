use Rattle.std.proofs.Common.{subst, ap, ◌∙◌}
use Rattle.std.specs.Prelude.{slice_index}
use Rattle.std.proofs.lemmas.Result.{err_from_is_err_and}
use Rattle.byte_streams.specs.Pending.{Gathers}
use Rattle.byte_streams.proofs.GatheredTexts.{Gathers-then, IsCut-more}
use Rattle.tripos_machine.specs.State.{words_of}
use Rattle.show_run.specs.StepLog.Writes.{write_line}
use Rattle.show_run.proofs.word_writes.gather_instruction.Goals as goal

pub returns-in_err-gather_guest-in-Some-clause-text : goal.returns-in_err-gather_guest-in-Some-clause-text
returns-in_err-gather_guest-in-Some-clause-text g c =
    let a = c.args in
    let p = err_from_is_err_and c.from_residual.result c.from_residual.ensures.1 in
    rw (p.1, c.in-Some.is) (IsCut-more (write_line a.m a.address (slice_index (words_of a.machine.now.state) a.address) c.in-Some.new) c.in_err-gather_guest-in-Some.ensures.text)

pub returns-in_ok-gather_guest-in-Some-clause-text : goal.returns-in_ok-gather_guest-in-Some-clause-text
returns-in_ok-gather_guest-in-Some-clause-text g c =
    let a = c.args in
    let holds = g.K.Sink.holds in
    let end = c.gather_write in
    let old = c.gather_guest.new in
    let is = c.word.ensures ∙ ap (λ words. slice_index words a.address) c.store.ensures in
    let last = subst (λ w. Gathers (holds old.out) (holds end.new.out) old.pending end.new.pending (write_line a.m a.address w c.in-Some.new) end.result) is end.ensures.text in
    rw c.in-Some.is
    (Gathers-then c.in_ok-gather_guest-in-Some.ensures.text (holds end.new.out) end.new.pending (write_line a.m a.address (slice_index (words_of a.machine.now.state) a.address) c.in-Some.new) end.result last)
