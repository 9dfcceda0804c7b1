use Rattle.std.proofs.lemmas.Result.{err_from_is_err_and}
use Rattle.byte_streams.proofs.GatheredTexts.{Gathers-then, IsCut-more}
use Rattle.module_text.specs.Canonical.{relocations_text}
use Rattle.module_text.proofs.print.gather_hunk.Goals as goal

pub returns-in_err-gather_item-clause-text : goal.returns-in_err-gather_item-clause-text
returns-in_err-gather_item-clause-text g c =
    let p = err_from_is_err_and c.from_residual.result c.from_residual.ensures.1 in
    let words = rw c.as_slice.ensures at c.in_err-gather_item.ensures.text in
    rw p.1 (IsCut-more (relocations_text c.args.hunk.now.relocations) words)

pub returns-clause-text : goal.returns-clause-text
returns-clause-text g c =
    let words = rw c.as_slice.ensures at c.in_ok-gather_item.ensures.text in
    let offsets = rw c.as_slice-2.ensures at c.gather_relocations.ensures.text in
    Gathers-then words _ _ _ c.gather_relocations.result offsets
