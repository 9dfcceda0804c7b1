use Rattle.std.proofs.Common.{◌∙◌, ℕ, ◌+◌, ◌-◌, ◌++◌, List, length, map, sym, ap, arith, append-nil, append_assoc}
use Rattle.session_making.specs.Sessions.{code_line}
use Rattle.session_making.proofs.Rows.{no_code, one_row}
use Rattle.session_making.proofs.sessions.code_lines.Goals as goal

pub returns-then-is_empty : goal.returns-then-is_empty
returns-then-is_empty c =
    c.new.ensures ∙ sym (append-nil c.loop-done.lines.items)
    ∙ ap (λ (rows : List (List ℕ)). c.loop-done.lines.items ++ map code_line rows) (sym (no_code (length c.args.code.now - c.loop-done.done) c.loop-done.rest.now (sym c.is_empty.ensures ∙ c.if-is_empty.true)))
    ∙ c.loop-done.invariant

pub loop-done-preserved : goal.loop-done-preserved
loop-done-preserved c =
    let next = length c.args.code.now - (c.loop-done.done + 1) in
    rw (c.in_ok-push_row.ensures, c.first_row.ensures, c.code_from-rest.ensures)
    (append_assoc c.loop-done.lines.items _ _
    ∙ ap (λ (rows : List (List ℕ)). c.loop-done.lines.items ++ map code_line rows) (sym (one_row (length c.args.code.now - c.loop-done.done) next c.loop-done.rest.now (omega (arith, c.loop-done-test.true)) (sym c.is_empty.ensures ∙ c.if-is_empty.false)))
    ∙ c.loop-done.invariant)
