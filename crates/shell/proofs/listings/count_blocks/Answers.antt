use Rattle.shell.specs.ShellListings.BlockLine.{block_line}
use Rattle.shell.proofs.DoneParts.{ready-shown}
use Rattle.shell.proofs.listings.count_blocks.Goals as goal

pub write_blocks-requires-clause-lists : goal.write_blocks-requires-clause-lists
write_blocks-requires-clause-lists g c = (let r = c.requires.ready.3 in (_, r.done.represents.keeper.lists))

pub prompt-requires-clause-ready : goal.prompt-requires-clause-ready
prompt-requires-clause-ready g c =
    let x = c.requires.ready.2 in
    let r = c.requires.ready.3 in
    (_, _, _, ready-shown r (block_line x.store.lists.blocks) c.write_blocks.new.bytes (c.write_blocks.ensures.text x.store.lists r.done.represents.keeper.lists))

pub returns-clause-done : goal.returns-clause-done
returns-clause-done g c = λ b d x r. c.prompt.ensures.done b d _ (ready-shown r (block_line x.store.lists.blocks) c.write_blocks.new.bytes (c.write_blocks.ensures.text x.store.lists r.done.represents.keeper.lists))
