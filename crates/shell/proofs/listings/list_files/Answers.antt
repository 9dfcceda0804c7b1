use Rattle.std.proofs.Common.{◌∙◌, ap, ◌++◌}
use Rattle.shell.specs.ShellListings.FileLines.{file_lines}
use Rattle.shell.proofs.DoneParts.{ready-shown}
use Rattle.shell.proofs.listings.list_files.Goals as goal

pub prompt-requires-clause-ready : goal.prompt-requires-clause-ready
prompt-requires-clause-ready g c =
    let x = c.requires.ready.1 in
    let r = c.requires.ready.2 in
    (_, _, _, ready-shown r (file_lines x.disc) c.write_files.new.bytes (c.write_files.ensures.text ∙ ap (λ d. c.args.bytes.now ++ file_lines d) r.done.disc))

pub returns-clause-done : goal.returns-clause-done
returns-clause-done g c = λ b x r. c.prompt.ensures.done b _ _ (ready-shown r (file_lines x.disc) c.write_files.new.bytes (c.write_files.ensures.text ∙ ap (λ d. c.args.bytes.now ++ file_lines d) r.done.disc))
