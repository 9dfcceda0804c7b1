use Rattle.show_run.proofs.ValueTries.LawfulSettings.{lawful-with, range-from-lawful}
use Rattle.show_run.proofs.value_tries.laws.setting_law.Goals as goal

pub returns : goal.returns
returns c k value s lawful there = (λ p. lawful-with k value s lawful there p, λ l. range-from-lawful k value s lawful there l)
