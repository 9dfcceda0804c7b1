use Rattle.std.proofs.Common.{◌∙◌, ◌++◌, Err, ap, rules}
use Rattle.std.proofs.lemmas.Result.{err_from_is_err_and}
use Rattle.byte_streams.specs.Write.{AppendsPrefix}
use Rattle.tripos_machine.specs.Step.{boot_events, run}
use Rattle.kernel_lists.specs.PacketQueue.EventLine.{line_of}
use Rattle.program_answers.specs.TraceLog.Traced.{lines_of}
use Rattle.program_answers.proofs.TraceLog.GivenLines.{GivesPending-all}
use Rattle.tripos_run.proofs.machines.gather_events.Goals as goal

pub returns-in_err-pending-clause-lines : goal.returns-in_err-pending-clause-lines
returns-in_err-pending-clause-lines g c =
    let holds = g.K.Sink.holds in
    let k = c.args.machine.now.state in
    let e = c.trace_run-stop.ensures in
    let given = c.in_err-pending in
    let all : AppendsPrefix (holds c.args.out.now) (holds c.trace_run-stop.new.log.out.now) (lines_of (boot_events k ++ (run c.args.go k).events)) =
    GivesPending-all (holds c.trace_run-stop.new.log.out.now) line_of (Err given.field-0) (e.same_first ∙ ap holds c.new-log.ensures.first) (e.same_before ∙ c.new-log.ensures.before ∙ c.new.ensures) c.new-log.ensures.no_events e.events given.ensures.whole given.ensures.text in
    let p = err_from_is_err_and c.from_residual.result c.from_residual.ensures.1 in
    search rules
