use Rattle.std.proofs.Common.{Bool, [], List, None, Option, Some, ap, subst}
use Rattle.std.specs.Prelude.{if◌then◌else◌}
use Rattle.module_text.specs.TextReader.Lines.{lines_of}
use Rattle.tripos_machine.specs.State.{State}
use Rattle.debugger.specs.Debugged.{debugged}
use Rattle.program_answers.specs.Answer.{Answers}
use Rattle.tripos_run.specs.Answer.{told_answer}
use Rattle.tripos_run.proofs.debugging.debug_machine.Goals as goal

abbrev begun : Bool → Option (List State)
begun b = if b then Some [] else None

pub returns-then-not-goes_back-clause-answer : goal.returns-then-not-goes_back-clause-answer
returns-then-not-goes_back-clause-answer g c =
    let holds = g.K.Sink.holds in
    subst (λ past. Answers (told_answer (debugged c.args.budget (lines_of c.args.lines.now) c.args.machine.state past)) (holds c.args.out.now) (holds c.debug_forward.new.out) c.debug_forward.result) (ap begun c.if-not-goes_back.ensures)
    c.debug_forward.ensures.answer

pub returns-in-Ok-clause-answer : goal.returns-in-Ok-clause-answer
returns-in-Ok-clause-answer g c =
    let holds = g.K.Sink.holds in
    subst (λ past. Answers (told_answer (debugged c.args.budget (lines_of c.args.lines.now) c.args.machine.state past)) (holds c.args.out.now) (holds c.debug_both_ways.new.out) c.debug_both_ways.result) (ap begun c.if-not-goes_back.ensures)
    c.debug_both_ways.ensures.answer
