use Rattle.std.proofs.Common.{◌∙◌, arith, refl, subst, sym}
use Rattle.instruction_set.specs.Places.{DifferAt, addresses}
use Rattle.instruction_set.proofs.Unexecuted.{not-next}
use Rattle.bare_machine.specs.Step.{unmarked}
use Rattle.bare_machine.proofs.Instructions.{step-as}
use Rattle.bare_machine.proofs.WordCounts.{instruction_sized}
use Rattle.bare_machine.proofs.steps.execute_one.Goals as goal

pub returns-in-Next-clause-step : goal.returns-in-Next-clause-step
returns-in-Next-clause-step c = record {
  step = step-as _ _ _ _ _ _ _ c.execute_alone.ensures.outcome c.execute_alone.ensures.words c.execute_alone.ensures.regs c.in-Next.is;
  goes = refl;
  differ = subst (DifferAt (addresses c.written_places-places.result) c.args.parts.now.store) (sym c.execute_alone.ensures.words) (c.written_places-places.ensures unmarked);
}

pub returns-in-Sys-clause-none : goal.returns-in-Sys-clause-none
returns-in-Sys-clause-none c = λ none plain. not-next c.execute_alone.result c.in-Sys.is (c.execute_alone.ensures.outcome ∙ plain)

pub returns-in-Next-clause-sound : goal.returns-in-Next-clause-sound
returns-in-Next-clause-sound c = record { byte = c.execute_alone.ensures.byte; steps = omega arith; size = instruction_sized c.args.parts.now.store _ c.args.parts.now.regs c.execute_alone.ensures.words c.requires.sound.size }

pub returns-in-Sys-clause-sound : goal.returns-in-Sys-clause-sound
returns-in-Sys-clause-sound c = record { byte = c.execute_alone.ensures.byte; steps = omega arith; size = instruction_sized c.args.parts.now.store _ c.args.parts.now.regs c.execute_alone.ensures.words c.requires.sound.size }
