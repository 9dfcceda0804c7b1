use Rattle.std.proofs.Common.{◌∙◌, refl, subst, sym}
use Rattle.kernel_machine.specs.KernelSteps.Step.{after_the_turn, turn, unless_stopped, with_step}
use Rattle.kernel_machine.specs.RunningMachine.Private.Leaves.{Leaves}
use Rattle.kernel_machine.proofs.RunningMachine.LeftParts.{leaves-none, leaves-then}
use Rattle.kernel_machine.proofs.RunningMachine.StepParts.{can-serve, can-turn, none-stopped, represents-step, rest-goes, rest-stops, some-stopped, stop-in-turn, taken, told}
use Rattle.kernel_machine.proofs.running_machine.steps.step.Goals as goal
use Rattle.kernel_machine.proofs.KernelSteps.QuietSteps.{step-goes}

pub turn-stop-requires-clause-represents : goal.turn-stop-requires-clause-represents
turn-stop-requires-clause-represents g c =
    let (k, st, h, goes, few) = c.requires.represents in
    (with_step k, represents-step c.args.parts.now k _ st refl, can-turn k h goes)

pub serve-requires-clause-represents : goal.serve-requires-clause-represents
serve-requires-clause-represents g c =
    let (k, st, h, goes, few) = c.requires.represents in
    ((turn (with_step k)).kernel, (c.turn-stop.ensures.turned (with_step k) (represents-step c.args.parts.now k _ st refl) (can-turn k h goes)).represents, can-serve k h goes few)

pub returns-then-is_none-clause-stepped : goal.returns-then-is_none-clause-stepped
returns-then-is_none-clause-stepped g c = λ k st h goes few.
    let here = represents-step c.args.parts.now k _ st refl in
    let left = c.turn-stop.ensures.turned (with_step k) here (can-turn k h goes) in
    let none = none-stopped _ _ (c.turn-stop.ensures.stop (with_step k) here (can-turn k h goes)) (told _ _ _ c.is_none.ensures c.if-is_none.true) in
    let rest = c.serve.ensures.served (turn (with_step k)).kernel left.represents (can-serve k h goes few) in
    subst (Leaves _ _ _) (sym (step-goes k goes)) (leaves-then _ _ _ _ _ _ (unless_stopped after_the_turn) left (subst (Leaves _ _ _) (sym (rest-goes (turn (with_step k)).kernel none)) rest))

pub returns-then-is_none-clause-stop : goal.returns-then-is_none-clause-stop
returns-then-is_none-clause-stop g c = λ k st h goes few.
    c.turn-stop.ensures.stop (with_step k) (represents-step c.args.parts.now k _ st refl) (can-turn k h goes) ∙ sym (stop-in-turn k goes)

pub returns-else-is_none-clause-stepped : goal.returns-else-is_none-clause-stepped
returns-else-is_none-clause-stepped g c = λ k st h goes few.
    let here = represents-step c.args.parts.now k _ st refl in
    let left = c.turn-stop.ensures.turned (with_step k) here (can-turn k h goes) in
    let some = some-stopped _ _ (c.turn-stop.ensures.stop (with_step k) here (can-turn k h goes)) (told _ _ _ c.is_none.ensures c.if-is_none.false) in
    let j = (turn (with_step k)).kernel in
    subst (Leaves _ _ _) (sym (step-goes k goes)) (leaves-then _ _ _ _ _ _ (unless_stopped after_the_turn) left (subst (Leaves _ _ _) (sym (rest-stops j some.0 some.1)) (leaves-none _ _ j left.represents)))

pub returns-else-is_none-clause-stop : goal.returns-else-is_none-clause-stop
returns-else-is_none-clause-stop g c = λ k st h goes few.
    c.turn-stop.ensures.stop (with_step k) (represents-step c.args.parts.now k _ st refl) (can-turn k h goes) ∙ sym (stop-in-turn k goes)

pub returns-then-is_none-clause-taken : goal.returns-then-is_none-clause-taken
returns-then-is_none-clause-taken g c = λ k st h goes few.
    let here = represents-step c.args.parts.now k _ st refl in
    let left = c.turn-stop.ensures.turned (with_step k) here (can-turn k h goes) in
    let none = none-stopped _ _ (c.turn-stop.ensures.stop (with_step k) here (can-turn k h goes)) (told _ _ _ c.is_none.ensures c.if-is_none.true) in
    let rest = c.serve.ensures.served (turn (with_step k)).kernel left.represents (can-serve k h goes few) in
    let whole = subst (Leaves _ _ _) (sym (step-goes k goes)) (leaves-then _ _ _ _ _ _ (unless_stopped after_the_turn) left (subst (Leaves _ _ _) (sym (rest-goes (turn (with_step k)).kernel none)) rest)) in
    taken k _ _ left.represents c.turn-stop.ensures.disc whole.represents

pub returns-else-is_none-clause-taken : goal.returns-else-is_none-clause-taken
returns-else-is_none-clause-taken g c = λ k st h goes few.
    let here = represents-step c.args.parts.now k _ st refl in
    let left = c.turn-stop.ensures.turned (with_step k) here (can-turn k h goes) in
    let some = some-stopped _ _ (c.turn-stop.ensures.stop (with_step k) here (can-turn k h goes)) (told _ _ _ c.is_none.ensures c.if-is_none.false) in
    let j = (turn (with_step k)).kernel in
    let whole = subst (Leaves _ _ _) (sym (step-goes k goes)) (leaves-then _ _ _ _ _ _ (unless_stopped after_the_turn) left (subst (Leaves _ _ _) (sym (rest-stops j some.0 some.1)) (leaves-none _ _ j left.represents))) in
    taken k _ _ left.represents c.turn-stop.ensures.disc whole.represents
