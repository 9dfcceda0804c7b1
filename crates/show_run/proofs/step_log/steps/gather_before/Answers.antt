use Rattle.std.proofs.Common.{◌++◌}
use Rattle.std.proofs.lemmas.Result.{err_from_is_err_and}
use Rattle.byte_streams.proofs.GatheredTexts.{Gathers-then, IsCut-more, IsCut-then}
use Rattle.std.specs.Option.{option_map}
use Rattle.tripos_machine.specs.GuestWrites.{guest_writes}
use Rattle.tripos_machine.specs.State.{words_of}
use Rattle.show_run.specs.StepLog.Calls.{call_lines, call_seen}
use Rattle.show_run.specs.StepLog.Writes.{written_lines}
use Rattle.show_run.proofs.step_log.steps.gather_before.Goals as goal

pub returns-in_err-gather_guest-clause-text : goal.returns-in_err-gather_guest-clause-text
returns-in_err-gather_guest-clause-text g c =
    let s = c.args.machine.now.state in
    let p = err_from_is_err_and c.from_residual.result c.from_residual.ensures.1 in
    rw p.1 (IsCut-more (written_lines c.args.m (words_of s) (guest_writes s) ++ call_lines c.args.m (option_map call_seen c.args.before.call)) c.in_err-gather_guest.ensures.text)

pub returns-in_err-gather_instruction_writes-clause-text : goal.returns-in_err-gather_instruction_writes-clause-text
returns-in_err-gather_instruction_writes-clause-text g c =
    let p = err_from_is_err_and c.from_residual-in_err-gather_instruction_writes.result c.from_residual-in_err-gather_instruction_writes.ensures.1 in
    rw p.1 (IsCut-then c.in_ok-gather_guest.ensures.text (IsCut-more (call_lines c.args.m (option_map call_seen c.args.before.call)) c.in_err-gather_instruction_writes.ensures.text))

pub returns-clause-text : goal.returns-clause-text
returns-clause-text g c =
    let s = c.args.machine.now.state in
    let end = c.gather_call in
    let call = call_lines c.args.m (option_map call_seen c.args.before.call) in
    Gathers-then c.in_ok-gather_guest.ensures.text (g.K.Sink.holds end.new.out) end.new.pending (written_lines c.args.m (words_of s) (guest_writes s) ++ call) end.result
    (Gathers-then c.in_ok-gather_instruction_writes.ensures.text (g.K.Sink.holds end.new.out) end.new.pending call end.result end.ensures.text)
