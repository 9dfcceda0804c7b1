use Rattle.std.proofs.Common.{◌∙◌, sym}
use Rattle.kernel_check.proofs.ListPasses.Residents.{resident-block}
use Rattle.kernel_check.proofs.list_passes.resident_pass.has_resident_block.Goals as goal

pub returns : goal.returns
returns c = resident-block c.args.store.now c.last_word.result c.has_block.result (sym c.has_residents.ensures ∙ c.if-not-has_residents.false) c.last_word.ensures.value c.has_block.ensures
