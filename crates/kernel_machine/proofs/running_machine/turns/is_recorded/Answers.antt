use Rattle.std.proofs.Common.{◌∙◌, ◌&&◌, ap, eqb, not, sym}
use Rattle.std.specs.Prelude.{is_some}
use Rattle.kernel_calls.proofs.CallAnswers.FoundTask.{reads}
use Rattle.kernel_machine.proofs.RunningMachine.TurnTests.{reporter-told}
use Rattle.kernel_machine.proofs.running_machine.turns.is_recorded.Goals as goal

pub find-requires : goal.find-requires
find-requires c = (reads c.args.store.now c.requires.0 c.requires.1).tasks.tasks

pub returns-then-is_none : goal.returns-then-is_none
returns-then-is_none c = λ l h.
    let none = sym (ap not c.if-is_none.true) ∙ sym c.is_none.ensures in
    ap (λ b. b && not (eqb c.args.fault.code 6)) (none ∙ ap is_some c.find.ensures ∙ reporter-told c.args.store.now l h)

pub returns : goal.returns
returns c = λ l h.
    let some = sym (ap not c.if-is_none.false) ∙ sym c.is_none.ensures in
    ap (λ b. b && not (eqb c.args.fault.code 6)) (some ∙ ap is_some c.find.ensures ∙ reporter-told c.args.store.now l h)
