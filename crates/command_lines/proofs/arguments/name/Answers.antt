use Rattle.std.proofs.Common.{ℕ, ◌∙◌, ap}
use Rattle.std.specs.Option.{ok_or}
use Rattle.ram_disc.proofs.NameLemmas.{name_read}
use Rattle.command_lines.proofs.NameCodes.{name-or_code}
use Rattle.command_lines.proofs.arguments.name.Goals as goal

pub returns : goal.returns
returns c = c.ok_or.ensures.value ∙ ap (λ o. ok_or {E = ℕ} o 40) (name_read c.args.text.now c.read.result c.read.ensures) ∙ name-or_code c.args.text.now
