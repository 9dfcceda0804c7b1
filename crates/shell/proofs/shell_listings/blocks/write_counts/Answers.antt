use Rattle.std.proofs.Common.{append_assoc}
use Rattle.shell.proofs.shell_listings.blocks.write_counts.Goals as goal

pub returns-clause-text : goal.returns-clause-text
returns-clause-text c = simp (c.append-2.ensures, c.append_number.ensures.text, c.append.ensures, c.append_count-2.ensures.text, c.append_count.ensures.text, append_assoc)
