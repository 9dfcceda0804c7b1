use Rattle.std.proofs.Common.{◌∙◌, ap, subst, sym}
use Rattle.tripos_machine.specs.Breakpoints.{IsPlain}
use Rattle.tripos_machine.specs.Machine.{MachineView, view_of}
use Rattle.tripos_machine.proofs.PlainSteps.{bare-answered, full-answered}
use Rattle.tripos_machine.proofs.machine.Machine.execute.Goals as goal
use Rattle.tripos_machine.proofs.machine.Machine.execute.Goals.{in-Bare, in-Full}

pub returns-clause-step : goal.returns-clause-step
returns-clause-step c =
    elim c.match-self.branch [
      | in-Bare w ↦
          let here = sym (ap (λ (v : MachineView). v.state) c.self.view_is) ∙ ap (λ k. (view_of k).state) w.in-Bare.is in
          bare-answered _ _ _ _ here (ap (λ i. (view_of i.kind).state) w.self-inside-is) _ _ w.result-is w.execute.ensures.step
      | in-Full w ↦
          let here = sym (ap (λ (v : MachineView). v.state) c.self.view_is) ∙ ap (λ k. (view_of k).state) w.in-Full.is in
          full-answered _ _ _ _ here (ap (λ i. (view_of i.kind).state) w.self-inside-is) _ _ w.result-is w.execute-in-Full.ensures.step
    ]

pub returns-clause-none : goal.returns-clause-none
returns-clause-none c = λ none plain.
    elim c.match-self.branch [
      | in-Bare w ↦
          let here = sym (ap (λ (v : MachineView). v.state) c.self.view_is) ∙ ap (λ k. (view_of k).state) w.in-Bare.is in
          w.execute.ensures.none (sym w.result-is ∙ none) (subst IsPlain here plain)
      | in-Full w ↦
          let here = sym (ap (λ (v : MachineView). v.state) c.self.view_is) ∙ ap (λ k. (view_of k).state) w.in-Full.is in
          w.execute-in-Full.ensures.none (sym w.result-is ∙ none) (subst IsPlain here plain)
    ]
