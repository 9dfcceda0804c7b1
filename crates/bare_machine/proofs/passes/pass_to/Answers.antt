use Rattle.std.proofs.Common.{◌∙◌, arith, inl, inr, sym}
use Rattle.instruction_set.specs.Instruction.{instruction}
use Rattle.instruction_set.proofs.Unexecuted.{not-next}
use Rattle.bare_machine.specs.Step.{unmarked}
use Rattle.bare_machine.proofs.Breakpoints.{avoids-next, met-there}
use Rattle.bare_machine.proofs.Instructions.{executes-next, executes-same}
use Rattle.bare_machine.proofs.passes.pass_to.Goals as goal
use Rattle.bare_machine.proofs.passes.pass_to.Goals.{else-steps-gt0-via-then-steps-gt0+else-has_breakpoint, else-steps-gt0-via-else-steps-gt0}

pub loop-steps-preserved : goal.loop-steps-preserved
loop-steps-preserved c = record {
  executes = executes-same _ _ _ _ _ _ _ (executes-next _ _ _ _ _ c.loop-steps.invariant.executes (sym c.execute_alone.ensures.outcome ∙ c.in-Next.is)) (c.execute_alone.ensures.words, c.execute_alone.ensures.regs);
  before = λ k.
      avoids-next c.args.breakpoints.now c.loop-steps.steps _ (c.loop-steps.invariant.before k)
      (λ some. elim c.else-steps-gt0.branch [
        | else-steps-gt0-via-then-steps-gt0+else-has_breakpoint w ↦
            met-there c.args.breakpoints.now c.loop-steps.steps _ _ _ _ k c.loop-steps.invariant.executes (sym w.has_breakpoint.ensures ∙ w.if-has_breakpoint.false)
        | else-steps-gt0-via-else-steps-gt0 w ↦ absurd (omega (arith, some, w.if-steps-gt0.false))
      ]);
  byte = c.execute_alone.ensures.byte;
  calls = c.loop-steps.invariant.calls;
}

pub returns-in-Sys-clause-executes : goal.returns-in-Sys-clause-executes
returns-in-Sys-clause-executes c = executes-same _ _ _ _ _ _ _ c.loop-steps.invariant.executes (c.execute_alone.ensures.stays (not-next c.execute_alone.result (inl c.in-Sys.is)))

pub returns-in-Sys-clause-calls : goal.returns-in-Sys-clause-calls
returns-in-Sys-clause-calls c = λ known.
    let left = c.execute_alone.ensures.stays (not-next c.execute_alone.result (inl c.in-Sys.is)) in
    (λ i. (instruction unmarked (left.0 i) (left.1 i)).outcome) ∙ sym c.execute_alone.ensures.outcome ∙ c.in-Sys.is

pub returns-in-Returned-clause-executes : goal.returns-in-Returned-clause-executes
returns-in-Returned-clause-executes c = executes-same _ _ _ _ _ _ _ c.loop-steps.invariant.executes (c.execute_alone.ensures.stays (not-next c.execute_alone.result (inr c.in-Returned.is)))
