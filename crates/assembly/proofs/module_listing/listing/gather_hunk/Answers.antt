use Rattle.std.proofs.lemmas.Result.{err_from_is_err_and}
use Rattle.byte_streams.proofs.GatheredTexts.{Gathers-then, IsCut-more}
use Rattle.assembly.specs.ModuleListing.HunkListing.{lines_of_words, listing}
use Rattle.assembly.proofs.module_listing.listing.gather_hunk.Goals as goal

pub returns-in_err-gather_head-clause-text : goal.returns-in_err-gather_head-clause-text
unfolding listing
returns-in_err-gather_head-clause-text g c =
    let p = err_from_is_err_and c.from_residual.result c.from_residual.ensures.1 in
    let head = rw (c.words.ensures.value, c.new-code.ensures) at c.in_err-gather_head.ensures.text in
    rw p.1 (IsCut-more (lines_of_words c.args.hunk.now.words) head)

pub returns-clause-text : goal.returns-clause-text
unfolding listing
returns-clause-text g c =
    let head = rw (c.words.ensures.value, c.new-code.ensures) at c.in_ok-gather_head.ensures.text in
    let lines = rw c.new-code.ensures at c.gather_lines.ensures.text in
    Gathers-then head _ _ _ c.gather_lines.result lines
