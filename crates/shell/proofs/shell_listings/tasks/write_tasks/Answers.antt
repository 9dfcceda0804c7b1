use Rattle.std.proofs.Common.{◌++◌, ◌∙◌, ap, arith}
use Rattle.kernel_model.proofs.KernelRecord.WalkedLists.{can-walk}
use Rattle.shell.proofs.ShellListings.ListedTasks.{tasks-read, tasks-room}
use Rattle.shell.proofs.shell_listings.tasks.write_tasks.Goals as goal

pub write_chain-requires-clause-chain : goal.write_chain-requires-clause-chain
write_chain-requires-clause-chain c = (can-walk c.args.store.now c.requires.lists.0 c.requires.lists.1).chain

pub write_chain-requires-clause-room : goal.write_chain-requires-clause-room
write_chain-requires-clause-room c = omega (arith, c.requires.room, tasks-room c.args.store.now c.requires.lists.0 c.requires.lists.1)

pub returns-clause-text : goal.returns-clause-text
returns-clause-text c = λ l h. c.write_chain.ensures.text ∙ ap (λ text. c.args.bytes.now ++ text) (tasks-read c.args.store.now l h)

pub returns-clause-short : goal.returns-clause-short
returns-clause-short c = omega (arith, c.write_chain.ensures.short, tasks-room c.args.store.now c.requires.lists.0 c.requires.lists.1)
