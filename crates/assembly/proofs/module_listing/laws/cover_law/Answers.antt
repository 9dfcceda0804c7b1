use Rattle.assembly.proofs.ModuleListing.Covers.{hunk_follow, once, texts}
use Rattle.assembly.proofs.module_listing.laws.cover_law.Goals as goal

pub returns-clause-text : goal.returns-clause-text
returns-clause-text c = texts

pub returns-clause-follow : goal.returns-clause-follow
returns-clause-follow c = hunk_follow

pub returns-clause-once : goal.returns-clause-once
returns-clause-once c = once
