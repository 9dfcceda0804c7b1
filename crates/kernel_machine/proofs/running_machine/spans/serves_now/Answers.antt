use Rattle.std.proofs.Common.{◌∙◌, ap, sym}
use Rattle.std.specs.Prelude.{is_some}
use Rattle.kernel_machine.proofs.RunningMachine.QuietParts.{serves-keyboard, serves-nobody, serves-none, serves-output}
use Rattle.kernel_machine.proofs.running_machine.spans.serves_now.Goals as goal

pub returns-then-root-eq0-clause-none : goal.returns-then-root-eq0-clause-none
returns-then-root-eq0-clause-none c = λ no. serves-none c.args.parts.now c.requires (sym c.root.ensures ∙ c.if-root-ne0.false) (sym c.root-2.ensures ∙ c.if-root-eq0.true)

pub returns-clause-none : goal.returns-clause-none
returns-clause-none c = λ no. serves-nobody c.args.parts.now c.requires (sym c.root.ensures ∙ c.if-root-ne0.false) (ap is_some (sym c.at.ensures) ∙ sym c.is_some.ensures ∙ no)

pub returns-then-root-ne0-clause-some : goal.returns-then-root-ne0-clause-some
returns-then-root-ne0-clause-some c = λ yes none. serves-output c.args.parts.now c.requires c.root.result c.root.ensures c.if-root-ne0.true none

pub returns-clause-some : goal.returns-clause-some
returns-clause-some c = λ yes none. serves-keyboard c.args.parts.now c.requires c.root-2.result c.root-2.ensures c.if-root-eq0.false (ap is_some (sym c.at.ensures) ∙ sym c.is_some.ensures ∙ yes) none
