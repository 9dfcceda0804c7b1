use Rattle.std.proofs.Common.{◌++◌, ap, arith, refl, subst}
use Rattle.byte_streams.specs.Write.{Prints}
use Rattle.program_answers.proofs.AnswerParts.{Answers-done}
use Rattle.tripos_machine.specs.State.{steps_of}
use Rattle.tripos_machine.specs.Step.{run}
use Rattle.tripos_machine.proofs.StateRuns.{run-steps}
use Rattle.show_run.specs.ShownAnswers.{boot_part, log_of, shown, shown_answer, skipped}
use Rattle.show_run.specs.StepLog.StepLines.{log_text}
use Rattle.show_run.proofs.BootParts.{boot-after}
use Rattle.show_run.proofs.machines.answer_log.Goals as goal

pub run_unheard-requires : goal.run_unheard-requires
run_unheard-requires g c = omega (arith, c.skipped-before.ensures, c.requires)

pub show_log-shown-requires-clause-steps : goal.show_log-shown-requires-clause-steps
show_log-shown-requires-clause-steps g c =
    let s = c.args.machine.now.state in
    omega (arith, c.shown-count.ensures, c.skipped-before.ensures, ap steps_of c.run_unheard.ensures.state, run-steps c.skipped-before.result s, c.requires)

pub returns-in-Ok-clause-answer : goal.returns-in-Ok-clause-answer
returns-in-Ok-clause-answer g c =
    let holds = g.K.Sink.holds in
    let s = c.args.machine.now.state in
    let first = c.args.first in
    let go = c.args.go in
    let before = c.skipped-before.result in
    let end = c.show_log-shown in
    let after = subst (λ t. Prints (holds c.args.out.now) (holds end.new.out) (boot_part first t ++ log_text c.shown-count.result t) end.result) c.run_unheard.ensures.state end.ensures.text in
    let counted = subst (λ n. Prints (holds c.args.out.now) (holds end.new.out) (boot_part first (run before s).state ++ log_text n (run before s).state) end.result) c.shown-count.ensures after in
    let started = subst (λ n. Prints (holds c.args.out.now) (holds end.new.out) (boot_part first (run n s).state ++ log_text (shown first c.args.last go) (run n s).state) end.result) c.skipped-before.ensures counted in
    let all = subst (λ b. Prints (holds c.args.out.now) (holds end.new.out) (b ++ log_text (shown first c.args.last go) (run (skipped first go) s).state) end.result) (boot-after first go s) started in
    rw c.status_after.ensures (Answers-done (shown_answer (log_of first c.args.last go s)) _ _ end.result refl all)
