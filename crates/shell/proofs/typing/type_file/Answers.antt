use Rattle.std.proofs.Common.{◌∙◌, ap, true}
use Rattle.ram_disc.specs.DiscCalls.{after_open_read}
use Rattle.shell.proofs.DoneParts.{done-is, ready-disc}
use Rattle.shell.proofs.TypedFiles.{opened-refused, opened-typed}
use Rattle.shell.proofs.typing.type_file.Goals as goal

pub type_on-requires-clause-ready : goal.type_on-requires-clause-ready
type_on-requires-clause-ready g c =
    let x = c.requires.ready.1 in
    let r = c.requires.ready.2 in
    (_, _, ready-disc r c.open_read.new.self (after_open_read x.disc c.args.name.now true).disc (c.open_read.ensures.disc ∙ ap (λ d. (after_open_read d c.args.name.now true).disc) r.done.disc))

pub returns-in-Ok-clause-done : goal.returns-in-Ok-clause-done
returns-in-Ok-clause-done g c = λ b x r.
    let y = ready-disc r c.open_read.new.self (after_open_read x.disc c.args.name.now true).disc (c.open_read.ensures.disc ∙ ap (λ d. (after_open_read d c.args.name.now true).disc) r.done.disc) in
    done-is (c.type_on.ensures.done b _ y) _ (opened-typed _ _ _ (c.in-Ok.ensures.answer ∙ ap (λ d. (after_open_read d c.args.name.now true).answer) r.done.disc))

pub returns-in-Err-clause-done : goal.returns-in-Err-clause-done
returns-in-Err-clause-done g c = λ b x r.
    let y = ready-disc r c.open_read.new.self (after_open_read x.disc c.args.name.now true).disc (c.open_read.ensures.disc ∙ ap (λ d. (after_open_read d c.args.name.now true).disc) r.done.disc) in
    done-is (c.refuse.ensures.done b _ _ y) _ (opened-refused _ _ _ (c.in-Err.ensures.answer ∙ ap (λ d. (after_open_read d c.args.name.now true).answer) r.done.disc))
