use Rattle.std.proofs.Common.{◌∙◌, ap, refl}
use Rattle.std.specs.Option.{option_map}
use Rattle.std.specs.Prelude.{slice_index}
use Rattle.std.proofs.lemmas.Result.{err_from_is_err_and}
use Rattle.byte_streams.proofs.GatheredTexts.{Gathers-then, IsCut-more}
use Rattle.tripos_machine.specs.State.{words_of}
use Rattle.tripos_machine.specs.Step.{step}
use Rattle.show_run.specs.StepLog.Calls.{call_seen}
use Rattle.show_run.specs.WordWrites.{change_part, word_then, written_word}
use Rattle.show_run.proofs.WrittenSteps.{step-writes-parts}
use Rattle.show_run.proofs.word_writes.gather_step_writing.Goals as goal

pub returns-in_err-gather_instruction-clause-text : goal.returns-in_err-gather_instruction-clause-text
returns-in_err-gather_instruction-clause-text g c =
    let a = c.args.address in
    let s = c.args.machine.now.state in
    let t = (step s).state in
    let call = option_map call_seen c.call-call.result in
    let written = c.written_word-written.result in
    let old = word_then written (slice_index (words_of s) a) in
    let new = slice_index (words_of t) a in
    let written_is = c.written_word-written.ensures ∙ ap (written_word a) c.next_writes.ensures in
    let p = err_from_is_err_and c.from_residual.result c.from_residual.ensures.1 in
    rw (p.1, step-writes-parts a s c.moment-m.ensures c.call-call.ensures written_is t old new refl refl) (IsCut-more (change_part c.moment-m.result call a old new) c.in_err-gather_instruction.ensures.text)

pub returns-clause-text : goal.returns-clause-text
returns-clause-text g c =
    let holds = g.K.Sink.holds in
    let a = c.args.address in
    let s = c.args.machine.now.state in
    let t = (step s).state in
    let m = c.moment-m.result in
    let call = option_map call_seen c.call-call.result in
    let written_is = c.written_word-written.ensures ∙ ap (written_word a) c.next_writes.ensures in
    let old_is = c.word_then.ensures ∙ ap (word_then c.written_word-written.result) (c.word-before.ensures ∙ ap (λ words. slice_index words a) c.store.ensures) in
    let new_is = c.word-after.ensures ∙ ap (λ words. slice_index words a) (c.store-2.ensures ∙ ap words_of c.step.ensures.state) in
    let end = c.gather_change in
    rw (step-writes-parts a s c.moment-m.ensures c.call-call.ensures written_is t c.word_then.result c.word-after.result old_is new_is)
    (Gathers-then c.in_ok-gather_instruction.ensures.text (holds end.new.out) end.new.pending (change_part m call a c.word_then.result c.word-after.result) end.result end.ensures.text)
