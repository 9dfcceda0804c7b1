use Rattle.std.proofs.Common.{ℕ, List, sym, subst}
use Rattle.byte_streams.specs.Write.{Prints}
use Rattle.session_text.proofs.PrintedTexts.{head_pieces}
use Rattle.session_text.proofs.print.print_head.Goals as goal

pub returns-clause-text : goal.returns-clause-text
returns-clause-text g c =
    let P = λ (t : List ℕ). Prints (g.K.Sink.holds c.args.out.now) (g.K.Sink.holds c.write_pieces.new.out) t c.write_pieces.result in
    rw (← c.from.ensures, ← c.from-2.ensures) (subst P (sym (head_pieces c.from.result c.from-2.result)) c.write_pieces.ensures.text)
