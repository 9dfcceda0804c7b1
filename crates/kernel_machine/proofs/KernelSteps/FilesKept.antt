-- A step in which neither the shell nor the file handler has its turn leaves the files, the streams and the pipes.
use Rattle.std.proofs.Common.{◌≡◌, ◌≢◌, refl, ◌∙◌}
use Rattle.kernel_model.specs.KernelRecord.Kernel.{Kernel}
use Rattle.kernel_machine.specs.KernelSteps.Parts.{HasSameResidents}
use Rattle.kernel_machine.specs.KernelSteps.Step.{after_the_turn, key, output, step, tick, turn, with_step}
use Rattle.kernel_machine.proofs.KernelSteps.DevicesKept.{key-residents, output-residents, tick-residents}
use Rattle.kernel_machine.proofs.KernelSteps.StepEnds.{step-ends, turned}
use Rattle.kernel_machine.proofs.KernelSteps.StepKept.{dispatch-residents}
use Rattle.kernel_machine.proofs.KernelSteps.TurnWays.{turn-ways}

-- the files, the streams and the pipes are the same
pub record HasSameFiles (k j : Kernel) : Type 0 where
  pub disc : j.disc ≡ k.disc
  pub pipes : j.pipes ≡ k.pipes

-- what follows on the turn changes nothing that residents keep
pub rest-residents : (k : Kernel) → HasSameResidents k (after_the_turn k).kernel
rest-residents k =
    let ticked : Kernel = (tick k).kernel in
    let typed : Kernel = (key ticked).kernel in
    let t = tick-residents k in
    let y = key-residents ticked in
    let o = output-residents typed in
    let d = dispatch-residents (output typed).kernel in
    record {
      console = d.console ∙ o.console ∙ y.console ∙ t.console;
      shell = d.shell ∙ o.shell ∙ y.shell ∙ t.shell;
      disc = d.disc ∙ o.disc ∙ y.disc ∙ t.disc;
      pipes = d.pipes ∙ o.pipes ∙ y.pipes ∙ t.pipes;
    }

module _ (k : Kernel) (shell : k.lists.running ≢ 1) (handler : k.lists.running ≢ 4) where
  turn-files : HasSameFiles k (turn k).kernel
  turn-files =
      turn-ways (λ x. HasSameFiles k x.kernel) k
      (record {
        guest = λ e. record { disc = refl; pipes = refl };
        shell = λ e. absurd (shell e);
        reporter = λ e. record { disc = refl; pipes = refl };
        console = λ e. record { disc = refl; pipes = refl };
        files = λ e. absurd (handler e);
        pipes = λ e f. absurd (handler e);
        nobody = λ e. record { disc = refl; pipes = refl };
      })

-- a step is counted before its turn, which changes none of them
pub step-files : (k : Kernel) → k.lists.running ≢ 1 → k.lists.running ≢ 4 → HasSameFiles k (step k).kernel
step-files k shell handler =
    let t : HasSameFiles (with_step k) (turned k) = turn-files (with_step k) shell handler in
    let r : HasSameResidents (turned k) (after_the_turn (turned k)).kernel = rest-residents (turned k) in
    step-ends (HasSameFiles k) k
    (record {
      stopped = λ e. record { disc = refl; pipes = refl };
      stops = λ e f. record { disc = t.disc; pipes = t.pipes };
      whole = λ e f. record { disc = r.disc ∙ t.disc; pipes = r.pipes ∙ t.pipes };
    })
