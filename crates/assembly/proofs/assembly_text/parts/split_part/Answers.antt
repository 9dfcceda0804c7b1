use Rattle.assembly.proofs.AssemblyText.PartLemmas.{parts_of-after, parts_of-none}
use Rattle.assembly.proofs.assembly_text.parts.split_part.Goals as goal

pub returns-in_err-start : goal.returns-in_err-start
returns-in_err-start c = rw c.from_residual.ensures (parts_of-none c.args.line.now c.in_err-start.ensures)

pub returns : goal.returns
returns c =
    rw (c.split_at-2.ensures.front, c.split_at-2.ensures.back, c.first_end-end.ensures.place, c.split_at.ensures.back) (parts_of-after c.args.line.now c.in_ok-start.start c.in_ok-start.ensures)
