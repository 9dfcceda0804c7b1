use Rattle.std.proofs.Common.{◌∙◌, ap, arith, subst, sym}
use Rattle.kernel_model.specs.KernelRecord.NotedEvents.{NotesAll}
use Rattle.tripos_machine.specs.Machine.{MachineView, view_of}
use Rattle.tripos_machine.specs.Step.{run}
use Rattle.tripos_machine.proofs.Histories.{has-history}
use Rattle.tripos_machine.proofs.KindRuns.{bare-before, bare-bytes, bare-events, bare-last, bare-state, full-before, full-bytes, full-events, full-last, full-state}
use Rattle.tripos_machine.proofs.machine.Machine.advance.Goals as goal
use Rattle.tripos_machine.proofs.machine.Machine.advance.Goals.{in-Bare, in-Full}

pub returns-clause-state : goal.returns-clause-state
returns-clause-state g c =
    elim c.match-self.branch [
      | in-Bare w ↦
          let here = sym (ap (λ (v : MachineView). v.state) c.self.view_is) ∙ ap (λ k. (view_of k).state) w.in-Bare.is in
          ap (λ i. (view_of i.kind).state) w.self-inside-is ∙ bare-state _ _ w.result-is _ _ here _ w.advance.ensures.state
      | in-Full w ↦
          let here = sym (ap (λ (v : MachineView). v.state) c.self.view_is) ∙ ap (λ k. (view_of k).state) w.in-Full.is in
          ap (λ i. (view_of i.kind).state) w.self-inside-is ∙ full-state _ _ w.result-is _ _ here _ w.advance-in-Full.ensures.kernel
    ]

pub returns-clause-output : goal.returns-clause-output
returns-clause-output g c =
    elim c.match-self.branch [
      | in-Bare w ↦
          let here = sym (ap (λ (v : MachineView). v.state) c.self.view_is) ∙ ap (λ k. (view_of k).state) w.in-Bare.is in
          ap (λ i. (view_of i.kind).output) w.self-inside-is ∙ bare-bytes _ _ w.result-is _ _ here _ w.advance.ensures.output
      | in-Full w ↦
          let here = sym (ap (λ (v : MachineView). v.state) c.self.view_is) ∙ ap (λ k. (view_of k).state) w.in-Full.is in
          ap (λ i. (view_of i.kind).output) w.self-inside-is ∙ full-bytes _ _ w.result-is _ _ here _ w.advance-in-Full.ensures.output
    ]

pub returns-clause-events : goal.returns-clause-events
returns-clause-events g c =
    elim c.match-self.branch [
      | in-Bare w ↦
          let here = sym (ap (λ (v : MachineView). v.state) c.self.view_is) ∙ ap (λ k. (view_of k).state) w.in-Bare.is in
          subst (λ l. NotesAll (g.L.EventLog.noted c.args.log.now) (g.L.EventLog.noted l) (g.L.EventLog.has_failed c.args.log.now) (g.L.EventLog.has_failed l) (run c.match-self.result c.args.self.now.state).events) (sym w.log-is)
          (bare-events _ _ w.result-is _ _ here _ _)
      | in-Full w ↦
          let here = sym (ap (λ (v : MachineView). v.state) c.self.view_is) ∙ ap (λ k. (view_of k).state) w.in-Full.is in
          subst (λ l. NotesAll (g.L.EventLog.noted c.args.log.now) (g.L.EventLog.noted l) (g.L.EventLog.has_failed c.args.log.now) (g.L.EventLog.has_failed l) (run c.match-self.result c.args.self.now.state).events) (sym w.log-is)
          (full-events _ _ w.result-is _ _ here _ _ _ _ w.advance-in-Full.ensures.events)
    ]

pub returns-clause-before : goal.returns-clause-before
returns-clause-before g c =
    elim c.match-self.branch [
      | in-Bare w ↦
          let here = sym (ap (λ (v : MachineView). v.state) c.self.view_is) ∙ ap (λ k. (view_of k).state) w.in-Bare.is in
          bare-before _ _ w.result-is _ _ here c.args.breakpoints.now w.advance.ensures.before
      | in-Full w ↦
          let here = sym (ap (λ (v : MachineView). v.state) c.self.view_is) ∙ ap (λ k. (view_of k).state) w.in-Full.is in
          full-before _ _ w.result-is _ _ here c.args.breakpoints.now w.advance-in-Full.ensures.before
    ]

pub returns-clause-last : goal.returns-clause-last
returns-clause-last g c =
    elim c.match-self.branch [
      | in-Bare w ↦
          let here = sym (ap (λ (v : MachineView). v.state) c.self.view_is) ∙ ap (λ k. (view_of k).state) w.in-Bare.is in
          bare-last _ _ w.result-is _ _ here w.advance.ensures.last
      | in-Full w ↦
          let here = sym (ap (λ (v : MachineView). v.state) c.self.view_is) ∙ ap (λ k. (view_of k).state) w.in-Full.is in
          full-last _ _ w.result-is _ _ here w.advance-in-Full.ensures.last
    ]

pub returns-clause-history : goal.returns-clause-history
returns-clause-history g c =
    elim c.match-self.branch [
      | in-Bare w ↦ has-history c.match-self.result c.args.self.now.state c.know_sound.ensures (omega (arith, c.requires.steps, w.result-is, w.advance.ensures.most))
      | in-Full w ↦ has-history c.match-self.result c.args.self.now.state c.know_sound.ensures (omega (arith, c.requires.steps, w.result-is, w.advance-in-Full.ensures.most))
    ]
