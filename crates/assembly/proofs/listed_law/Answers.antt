use Rattle.assembly.proofs.ListedLines.{in_listing, line_text}
use Rattle.assembly.proofs.listed_law.Goals as goal

pub returns-clause-lines : goal.returns-clause-lines
returns-clause-lines c has_label lines front rest h p = in_listing has_label lines h p front rest

pub returns-clause-text : goal.returns-clause-text
returns-clause-text c = line_text
