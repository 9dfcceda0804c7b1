use Rattle.std.proofs.Common.{refl}
use Rattle.tripos_run.specs.InputAnswers.{IsTextAnswer}
use Rattle.tripos_run.specs.declared.commands.Command.TheVariants.{Run, Dump, Trace, Asm, Disasm, Debug, Ring}
use Rattle.program_answers.proofs.AnswerParts.{Answered-by}
use Rattle.tripos_run.proofs.answer.answer_text.Goals as goal

pub returns-in-Run-clause-answer : goal.returns-in-Run-clause-answer
returns-in-Run-clause-answer g c = rw c.in-Run.is (Answered-by (IsTextAnswer Run c.args.text.now) _ refl _ _ c.answer_session_text.result c.answer_session_text.ensures.answer)

pub returns-in-Dump-clause-answer : goal.returns-in-Dump-clause-answer
returns-in-Dump-clause-answer g c = rw c.in-Dump.is (Answered-by (IsTextAnswer Dump c.args.text.now) _ refl _ _ c.answer_session_text-in-Dump.result c.answer_session_text-in-Dump.ensures.answer)

pub returns-in-Trace-clause-answer : goal.returns-in-Trace-clause-answer
returns-in-Trace-clause-answer g c = rw c.in-Trace.is (Answered-by (IsTextAnswer Trace c.args.text.now) _ refl _ _ c.answer_session_text-in-Trace.result c.answer_session_text-in-Trace.ensures.answer)

pub returns-in-Asm-clause-answer : goal.returns-in-Asm-clause-answer
returns-in-Asm-clause-answer g c = rw c.in-Asm.is (Answered-by (IsTextAnswer Asm c.args.text.now) _ refl _ _ c.answer_assembly.result c.answer_assembly.ensures.answer)

pub returns-in-Disasm-clause-answer : goal.returns-in-Disasm-clause-answer
returns-in-Disasm-clause-answer g c = rw c.in-Disasm.is (Answered-by (IsTextAnswer Disasm c.args.text.now) _ refl _ _ c.answer_module.result c.answer_module.ensures.answer)

pub returns-in-Debug-clause-answer : goal.returns-in-Debug-clause-answer
returns-in-Debug-clause-answer g c = rw c.in-Debug.is (Answered-by (IsTextAnswer Debug c.args.text.now) _ refl _ _ c.answer_debugging.result c.answer_debugging.ensures.answer)

pub returns-in-Ring-clause-answer : goal.returns-in-Ring-clause-answer
returns-in-Ring-clause-answer g c = rw c.in-Ring.is (Answered-by (IsTextAnswer Ring c.args.text.now) _ refl _ _ c.answer_ring.result c.answer_ring.ensures.answer)
