use Rattle.std.proofs.Common.{◌∙◌, inl, inr, sym}
use Rattle.instruction_set.specs.Instruction.{instruction}
use Rattle.instruction_set.proofs.Unexecuted.{not-next}
use Rattle.bare_machine.specs.Step.{unmarked}
use Rattle.bare_machine.proofs.Instructions.{executes-next, executes-same}
use Rattle.bare_machine.proofs.passes.pass_all.Goals as goal

pub loop-steps-preserved : goal.loop-steps-preserved
loop-steps-preserved c = record {
  executes = executes-same _ _ _ _ _ _ _ (executes-next _ _ _ _ _ c.loop-steps.invariant.executes (sym c.execute.ensures.outcome ∙ c.in-Next.is)) (c.execute.ensures.words, c.execute.ensures.regs);
  byte = c.execute.ensures.byte;
  calls = c.loop-steps.invariant.calls;
}

pub returns-in-Sys-clause-executes : goal.returns-in-Sys-clause-executes
returns-in-Sys-clause-executes c = executes-same _ _ _ _ _ _ _ c.loop-steps.invariant.executes (c.execute.ensures.stays (not-next c.execute.result (inl c.in-Sys.is)))

pub returns-in-Sys-clause-calls : goal.returns-in-Sys-clause-calls
returns-in-Sys-clause-calls c = λ known.
    let left = c.execute.ensures.stays (not-next c.execute.result (inl c.in-Sys.is)) in
    (λ i. (instruction unmarked (left.0 i) (left.1 i)).outcome) ∙ sym c.execute.ensures.outcome ∙ c.in-Sys.is

pub returns-in-Returned-clause-executes : goal.returns-in-Returned-clause-executes
returns-in-Returned-clause-executes c = executes-same _ _ _ _ _ _ _ c.loop-steps.invariant.executes (c.execute.ensures.stays (not-next c.execute.result (inr c.in-Returned.is)))
