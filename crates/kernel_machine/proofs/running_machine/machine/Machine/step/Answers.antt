use Rattle.std.proofs.Common.{◌∙◌, ◌++◌, ◌<◌, ap, subst, sym}
use Rattle.kernel_model.specs.KernelRecord.Ranges.{most_steps}
use Rattle.kernel_model.specs.KernelRecord.NotedEvents.{NotesAll}
use Rattle.kernel_machine.specs.KernelSteps.Step.{step}
use Rattle.kernel_machine.specs.RunningMachine.Machine.{MachineView, kernel_of}
use Rattle.kernel_machine.proofs.RunningMachine.MachineStep.{kernel-after, stop-after, stopped-now, whole-after}
use Rattle.kernel_machine.proofs.running_machine.machine.Machine.step.Goals as goal

pub step_or_stay-self-inside-requires-clause-represents : goal.step_or_stay-self-inside-requires-clause-represents
step_or_stay-self-inside-requires-clause-represents g c =
    let few = subst (λ (v : MachineView). v.kernel.steps < most_steps) (sym c.self.view_is) c.requires in
    let w = c.self.invariant in
    (kernel_of c.self.inside.parts c.self.inside.stop, w.represents, w.valid, stopped-now c.self.inside.parts c.self.inside.stop w, few)

pub invariant_of-self : goal.invariant_of-self
invariant_of-self g c =
    let few = subst (λ (v : MachineView). v.kernel.steps < most_steps) (sym c.self.view_is) c.requires in
    let w = c.self.invariant in
    let same = stopped-now c.self.inside.parts c.self.inside.stop w in
    let k = kernel_of c.self.inside.parts c.self.inside.stop in
    whole-after _ _ w few _ _ _ _ (c.step_or_stay-self-inside.ensures.stepped k w.represents w.valid same few) (c.step_or_stay-self-inside.ensures.stop k w.represents w.valid same few) (λ goes. c.step_or_stay-self-inside.ensures.taken k w.represents w.valid goes same few)

pub returns-clause-kernel : goal.returns-clause-kernel
returns-clause-kernel g c =
    let few = subst (λ (v : MachineView). v.kernel.steps < most_steps) (sym c.self.view_is) c.requires in
    let w = c.self.invariant in
    let same = stopped-now c.self.inside.parts c.self.inside.stop w in
    let k = kernel_of c.self.inside.parts c.self.inside.stop in
    kernel-after _ _ w few _ _ _ _ (c.step_or_stay-self-inside.ensures.stepped k w.represents w.valid same few) (c.step_or_stay-self-inside.ensures.stop k w.represents w.valid same few) (λ goes. c.step_or_stay-self-inside.ensures.taken k w.represents w.valid goes same few)
    ∙ ap (λ (v : MachineView). (step v.kernel).kernel) c.self.view_is

pub returns-clause-output : goal.returns-clause-output
returns-clause-output g c =
    let few = subst (λ (v : MachineView). v.kernel.steps < most_steps) (sym c.self.view_is) c.requires in
    let w = c.self.invariant in
    let same = stopped-now c.self.inside.parts c.self.inside.stop w in
    let k = kernel_of c.self.inside.parts c.self.inside.stop in
    (c.step_or_stay-self-inside.ensures.stepped k w.represents w.valid same few).bytes ∙ ap (λ z. z ++ (step k).bytes) c.clear.ensures ∙ ap (λ (v : MachineView). (step v.kernel).bytes) c.self.view_is

pub returns-clause-events : goal.returns-clause-events
returns-clause-events g c =
    let few = subst (λ (v : MachineView). v.kernel.steps < most_steps) (sym c.self.view_is) c.requires in
    let w = c.self.invariant in
    let same = stopped-now c.self.inside.parts c.self.inside.stop w in
    let k = kernel_of c.self.inside.parts c.self.inside.stop in
    subst
    (λ (v : MachineView).
    NotesAll (g.L.EventLog.noted c.args.log.now) (g.L.EventLog.noted c.step_or_stay-self-inside.new.log) (g.L.EventLog.has_failed c.args.log.now) (g.L.EventLog.has_failed c.step_or_stay-self-inside.new.log)
    (step v.kernel).events)
    c.self.view_is (c.step_or_stay-self-inside.ensures.stepped k w.represents w.valid same few).notes

pub returns-clause-stop : goal.returns-clause-stop
returns-clause-stop g c =
    let few = subst (λ (v : MachineView). v.kernel.steps < most_steps) (sym c.self.view_is) c.requires in
    let w = c.self.invariant in
    let same = stopped-now c.self.inside.parts c.self.inside.stop w in
    let k = kernel_of c.self.inside.parts c.self.inside.stop in
    stop-after _ _ w few _ _ _ _ (c.step_or_stay-self-inside.ensures.stepped k w.represents w.valid same few) (c.step_or_stay-self-inside.ensures.stop k w.represents w.valid same few) (λ goes. c.step_or_stay-self-inside.ensures.taken k w.represents w.valid goes same few)
