use Rattle.std.proofs.Common.{◌∙◌, ap, cond, sym}
use Rattle.std.proofs.lemmas.Bool.{ne_eqb}
use Rattle.kernel_model.specs.declared.kernel_record.numbers.TheConstants.{CONSOLE}
use Rattle.shell.specs.Commands.{line_executed}
use Rattle.shell.specs.Prompts.{prompted}
use Rattle.shell.specs.ShellTurn.{treated_in}
use Rattle.shell.proofs.DoneParts.{done-is}
use Rattle.shell.proofs.turns.treat_own.Goals as goal

pub returns-in-Prompt-clause-done : goal.returns-in-Prompt-clause-done
returns-in-Prompt-clause-done g c = λ b x r. done-is (c.prompt.ensures.done b _ x r) _ (ap (λ m. treated_in m c.args.request x) c.in-Prompt.ensures)

pub returns-else-request-eq-CONSOLE-clause-done : goal.returns-else-request-eq-CONSOLE-clause-done
returns-else-request-eq-CONSOLE-clause-done g c = λ b x r.
    done-is (c.prompt-in-Reading.ensures.done b _ x r) _
    (ap (λ f. cond f (line_executed x) (prompted x)) (sym (ne_eqb c.args.request.sender CONSOLE c.if-request-eq-CONSOLE.false)) ∙ ap (λ m. treated_in m c.args.request x) c.in-Reading.ensures)

pub returns-in-Waiting-clause-done : goal.returns-in-Waiting-clause-done
returns-in-Waiting-clause-done g c = λ b x r. done-is (c.end_program.ensures.done b _ x r) _ (ap (λ m. treated_in m c.args.request x) c.in-Waiting.ensures)

pub returns-in-Typing-clause-done : goal.returns-in-Typing-clause-done
returns-in-Typing-clause-done g c = λ b x r. done-is (c.type_on.ensures.done b x r) _ (ap (λ m. treated_in m c.args.request x) c.in-Typing.ensures)
