use Rattle.std.proofs.Common.{map, sym}
use Rattle.tool_texts.specs.Reports.{report_of}
use Rattle.friendly_assembly.specs.KeptNames.{constants_kept, labels_kept}
use Rattle.friendly_assembly.proofs.ToldTexts.{told_from}
use Rattle.friendly_assembly.proofs.texts.friendly_text.Goals as goal

pub returns : goal.returns
returns c =
    let lines = c.in_ok-lines.lines.items in
    let constants = constants_kept c.in_ok-constants.constants in
    let labels = labels_kept c.in_ok-labels.labels in
    let forms = map report_of c.in_ok-forms.forms.items in
    let whole = told_from c.args.name.now c.args.text.now (map (λ line. line.now) lines) constants labels forms c.in_ok-lines.ensures (rw c.as_slice.ensures.value at c.in_ok-constants.ensures)
    (rw c.as_slice-2.ensures.value at c.in_ok-labels.ensures) (rw c.as_slice-3.ensures.value at c.in_ok-forms.ensures) in
    rw (sym whole) (rw c.as_slice-4.ensures.value at c.tell.ensures)
