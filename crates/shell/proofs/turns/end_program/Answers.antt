use Rattle.std.proofs.Common.{◌∙◌, ◌++◌, ap, get_or}
use Rattle.shell.specs.ShellTurn.{result_of, return_code}
use Rattle.shell.proofs.DoneParts.{ready-shown}
use Rattle.shell.proofs.turns.end_program.Goals as goal

pub prompt-requires-clause-ready : goal.prompt-requires-clause-ready
prompt-requires-clause-ready g c =
    let x = c.requires.ready.2 in
    let r = c.requires.ready.3 in
    (_, _, _, ready-shown r (return_code (result_of x)) c.write_result.new.bytes (c.write_result.ensures.text ∙ ap (λ n. c.args.bytes.now ++ return_code n) (c.word_at.ensures ∙ ap (λ s. get_or s 282 0) r.done.represents.words)))

pub returns-clause-done : goal.returns-clause-done
returns-clause-done g c = λ b d x r.
    c.prompt.ensures.done b d _ (ready-shown r (return_code (result_of x)) c.write_result.new.bytes (c.write_result.ensures.text ∙ ap (λ n. c.args.bytes.now ++ return_code n) (c.word_at.ensures ∙ ap (λ s. get_or s 282 0) r.done.represents.words)))
