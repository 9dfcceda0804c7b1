use Rattle.std.proofs.Common.{◌++◌, ◌∙◌, ap}
use Rattle.kernel_model.proofs.KernelRecord.WalkedLists.{can-walk}
use Rattle.shell.proofs.ShellListings.BlockSums.{blocks-counted}
use Rattle.shell.proofs.shell_listings.blocks.write_blocks.Goals as goal

pub count_blocks-requires : goal.count_blocks-requires
count_blocks-requires c = (can-walk c.args.store.now c.requires.lists.0 c.requires.lists.1).tiled

pub returns-clause-text : goal.returns-clause-text
returns-clause-text c = λ l h. c.write_counts.ensures.text ∙ ap (λ text. c.args.bytes.now ++ text) (blocks-counted c.args.store.now l h c.count_blocks.result c.count_blocks.ensures)
