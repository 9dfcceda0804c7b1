use Rattle.session_making.proofs.SessionFronts.{whole_text}
use Rattle.session_making.proofs.sessions.session_text.Goals as goal

pub returns : goal.returns
returns c =
    rw (c.in_ok-extend_from_slice.ensures.items, c.as_slice-3.ensures.value, c.in_ok-push_all_typed.ensures, c.in_ok-text.ensures, c.as_slice.ensures.value, c.as_slice-2.ensures.value, c.in_ok-printed.ensures, c.in_ok-go.ensures)
    (whole_text c.args.session.now c.args.typed.now c.requires)
