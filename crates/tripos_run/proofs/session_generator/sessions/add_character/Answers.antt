use Rattle.std.proofs.Common.{rules}
use Rattle.tripos_run.specs.SessionGenerator.Generated.{character}
use Rattle.tripos_run.proofs.session_generator.sessions.add_character.Goals as goal

pub returns : goal.returns
unfolding character
returns c = search rules
