use Rattle.std.proofs.Common.{◌∙◌, ◌+◌, Some, ap, arith, sym}
use Rattle.bare_machine.specs.State.{going}
use Rattle.bare_machine.specs.Step.{BareStepped}
use Rattle.bare_machine.proofs.Instructions.{quiet-behind, same-behind, step-as}
use Rattle.bare_machine.proofs.WordCounts.{instruction_sized}
use Rattle.bare_machine.proofs.steps.step.Goals as goal

pub returns-in-Next-clause-state : goal.returns-in-Next-clause-state
returns-in-Next-clause-state c =
    sym (ap (λ (x : BareStepped). x.state) (step-as _ _ _ _ _ _ _ c.execute_alone.ensures.outcome c.execute_alone.ensures.words c.execute_alone.ensures.regs c.in-Next.is))

pub returns-in-Next-clause-bytes : goal.returns-in-Next-clause-bytes
returns-in-Next-clause-bytes c =
    quiet-behind _ _ _ (step-as _ _ _ _ _ _ _ c.execute_alone.ensures.outcome c.execute_alone.ensures.words c.execute_alone.ensures.regs c.in-Next.is)

pub returns-in-Sys-clause-state : goal.returns-in-Sys-clause-state
returns-in-Sys-clause-state c =
    c.answer_call.ensures.state
    ∙ sym (ap (λ (x : BareStepped). x.state) (step-as _ _ _ _ _ _ _ c.execute_alone.ensures.outcome c.execute_alone.ensures.words c.execute_alone.ensures.regs c.in-Sys.is))

pub returns-in-Sys-clause-bytes : goal.returns-in-Sys-clause-bytes
returns-in-Sys-clause-bytes c =
    c.answer_call.ensures.bytes
    ∙ same-behind _ _ _ (sym (step-as _ _ _ _ _ _ _ c.execute_alone.ensures.outcome c.execute_alone.ensures.words c.execute_alone.ensures.regs c.in-Sys.is))

pub returns-in-Returned-clause-state : goal.returns-in-Returned-clause-state
returns-in-Returned-clause-state c =
    sym (ap (λ (x : BareStepped). x.state) (step-as _ _ _ _ _ _ _ c.execute_alone.ensures.outcome c.execute_alone.ensures.words c.execute_alone.ensures.regs c.in-Returned.is))

pub returns-in-Returned-clause-bytes : goal.returns-in-Returned-clause-bytes
returns-in-Returned-clause-bytes c =
    quiet-behind _ _ _ (step-as _ _ _ _ _ _ _ c.execute_alone.ensures.outcome c.execute_alone.ensures.words c.execute_alone.ensures.regs c.in-Returned.is)

pub returns-in-Fault-clause-state : goal.returns-in-Fault-clause-state
returns-in-Fault-clause-state c =
    ap (λ s. record (going c.execute_alone.new.store c.execute_alone.new.regs (c.args.parts.now.step + 1)) { stop = Some s }) c.stop_by.ensures
    ∙ sym (ap (λ (x : BareStepped). x.state) (step-as _ _ _ _ _ _ _ c.execute_alone.ensures.outcome c.execute_alone.ensures.words c.execute_alone.ensures.regs c.in-Fault.is))

pub returns-in-Fault-clause-bytes : goal.returns-in-Fault-clause-bytes
returns-in-Fault-clause-bytes c =
    quiet-behind _ _ _ (step-as _ _ _ _ _ _ _ c.execute_alone.ensures.outcome c.execute_alone.ensures.words c.execute_alone.ensures.regs c.in-Fault.is)

pub returns-in-Next-clause-sound : goal.returns-in-Next-clause-sound
returns-in-Next-clause-sound c = record { byte = c.execute_alone.ensures.byte; steps = omega arith; size = instruction_sized c.args.parts.now.store _ c.args.parts.now.regs c.execute_alone.ensures.words c.requires.sound.size }

pub returns-in-Returned-clause-sound : goal.returns-in-Returned-clause-sound
returns-in-Returned-clause-sound c = record { byte = c.execute_alone.ensures.byte; steps = omega arith; size = instruction_sized c.args.parts.now.store _ c.args.parts.now.regs c.execute_alone.ensures.words c.requires.sound.size }

pub returns-in-Fault-clause-sound : goal.returns-in-Fault-clause-sound
returns-in-Fault-clause-sound c = record { byte = c.execute_alone.ensures.byte; steps = omega arith; size = instruction_sized c.args.parts.now.store _ c.args.parts.now.regs c.execute_alone.ensures.words c.requires.sound.size }

pub answer_call-requires-clause-sound : goal.answer_call-requires-clause-sound
answer_call-requires-clause-sound c = record { byte = c.execute_alone.ensures.byte; steps = omega arith; size = instruction_sized c.args.parts.now.store _ c.args.parts.now.regs c.execute_alone.ensures.words c.requires.sound.size }
