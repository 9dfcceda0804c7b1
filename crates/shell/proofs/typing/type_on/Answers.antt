use Rattle.std.proofs.Common.{◌∙◌, ap}
use Rattle.shell.specs.TypedFiles.{is_typed, with_piece}
use Rattle.shell.proofs.DoneParts.{done-is}
use Rattle.shell.proofs.TypedFiles.{ready-closed, ready-piece, typing-ends, typing-goes}
use Rattle.shell.proofs.typing.type_on.Goals as goal

pub prompt-requires-clause-ready : goal.prompt-requires-clause-ready
prompt-requires-clause-ready g c =
    let r = c.requires.ready.2 in
    let y = ready-piece r c.type_piece.new.disc c.type_piece.new.bytes c.type_piece.ensures.disc c.type_piece.ensures.bytes in
    (_, _, _, ready-closed y c.close.new.disc c.close.ensures)

pub returns-then-is_typed-clause-done : goal.returns-then-is_typed-clause-done
returns-then-is_typed-clause-done g c = λ b x r.
    let y = ready-piece r c.type_piece.new.disc c.type_piece.new.bytes c.type_piece.ensures.disc c.type_piece.ensures.bytes in
    done-is (c.prompt.ensures.done b _ _ (ready-closed y c.close.new.disc c.close.ensures)) _
    (typing-ends (with_piece x) c.is_typed.result (c.is_typed.ensures ∙ ap is_typed y.done.disc) c.if-is_typed.true)

pub type_later-requires : goal.type_later-requires
type_later-requires g c =
    let r = c.requires.ready.2 in
    (_, _, _, ready-piece r c.type_piece.new.disc c.type_piece.new.bytes c.type_piece.ensures.disc c.type_piece.ensures.bytes)

pub returns-clause-done : goal.returns-clause-done
returns-clause-done g c = λ b x r.
    let y = ready-piece r c.type_piece.new.disc c.type_piece.new.bytes c.type_piece.ensures.disc c.type_piece.ensures.bytes in
    done-is (c.type_later.ensures b _ _ y) _ (typing-goes (with_piece x) c.is_typed.result (c.is_typed.ensures ∙ ap is_typed y.done.disc) c.if-is_typed.false)
