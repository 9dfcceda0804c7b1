use Rattle.std.proofs.Common.{ℕ, sym, ap, ◌∙◌, drop}
use Rattle.std.proofs.lemmas.List.{drop-drop}
use Rattle.kernel_machine.specs.RunningMachine.Script.{still_to_come}
use Rattle.kernel_machine.proofs.running_machine.script.Script.advance.Goals as goal

pub returns-then-self-len-clause-rest : goal.returns-then-self-len-clause-rest
returns-then-self-len-clause-rest c = sym (drop-drop {A = ℕ × ℕ} 1 c.self.inside.come c.self.inside.keys.items) ∙ ap (λ s. drop 1 (still_to_come s)) c.self.view_is
