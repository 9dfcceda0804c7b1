-- The turn of each resident, and so of whoever runs, leaves valid lists.
use Rattle.std.proofs.Common.{◌≡◌, Bool, true, false, None, inl, inr, refl, sym, ◌∙◌, subst, arith}
use Rattle.std.proofs.lemmas.Bool.{cases_eq, false≢true}
use Rattle.kernel_model.specs.KernelRecord.HoldsLists.{HoldsLists}
use Rattle.kernel_model.specs.KernelRecord.Image.{image, word_of}
use Rattle.kernel_model.specs.KernelRecord.Kernel.{Kernel}
use Rattle.kernel_model.specs.KernelRecord.Task.{is_guest_id}
use Rattle.kernel_model.specs.KernelRecord.ValidKernel.{IsValid}
use Rattle.kernel_model.specs.KernelRecord.ValidLists.{AreValid}
use Rattle.resident_tasks.specs.ResidentRequests.Requests.{RunsResident, TakesRequest}
use Rattle.resident_tasks.proofs.ResidentRequests.ResidentTurns.{takes-request}
use Rattle.resident_tasks.specs.FileHandler.FileTurn.{file_service}
use Rattle.resident_tasks.specs.PipeHandler.PipeTurns.{pipe_service}
use Rattle.shell.specs.Modes.{awaited}
use Rattle.kernel_machine.specs.KernelSteps.Parts.{RunsFirst}
use Rattle.kernel_machine.specs.KernelSteps.ResidentSteps.{resident_step}
use Rattle.kernel_machine.specs.KernelSteps.Step.{turn, with_step}
use Rattle.kernel_machine.specs.KernelSteps.Stepped.{Stepped}
use Rattle.kernel_machine.proofs.KernelSteps.RunningCaller.{runs-calls, runs-resident, valid-runs}
use Rattle.kernel_machine.proofs.KernelSteps.StoredWords.{store-holds, valid-store}
use Rattle.kernel_machine.proofs.KernelSteps.TurnWays.{turn-guest, turn-nobody, turn-resident, turn-ways}
use Rattle.tripos_machine.proofs.PacketHistory.GuestTurns.{guest_step-valid}
use Rattle.tripos_machine.proofs.PacketHistory.ConsoleTurns.{console-valid}
use Rattle.tripos_machine.proofs.PacketHistory.HandlerTurns.{request-valid}
use Rattle.tripos_machine.proofs.PacketHistory.ReporterTurns.{reporter-valid}
use Rattle.tripos_machine.proofs.PacketHistory.ShellTurns.{shell-valid}

pub resident-valid : (k : Kernel) → HoldsLists (image k) k.lists → RunsResident k.lists → AreValid (resident_step k.lists.running k).kernel.lists
resident-valid k h r =
    subst (λ (m : Stepped). AreValid m.kernel.lists) (turn-resident k r.resident)
    (turn-ways (λ m. AreValid m.kernel.lists) k
    (record {
      guest = λ guest. absurd (false≢true (sym r.resident ∙ guest));
      shell = λ is. shell-valid (image k) k.lists k.shell k.disc h r is;
      reporter = λ is. reporter-valid (image k) k.lists h r is;
      console = λ is. console-valid (awaited k.shell.mode) k.console k.shell.line (image k) k.lists h r is;
      files = λ is. request-valid (file_service k.disc) (image k) k.lists h (takes is);
      pipes = λ is serves. request-valid (pipe_service k.pipes) (image k) k.lists h (takes is);
      nobody = λ none. h.valid;
    }))
  where
    takes : k.lists.running ≡ 4 → TakesRequest k.lists
    takes is = takes-request k.lists h.valid r (λ e. absurd (omega (arith, e, is))) (λ e. absurd (omega (arith, e, is)))

-- ---- the turn of whoever runs

turn-valid : (k : Kernel) → HoldsLists (image k) k.lists → RunsFirst k.lists k.regs → AreValid (turn k).kernel.lists
turn-valid k h first = on (is_guest_id k.lists.running) refl
  where
    on : (b : Bool) → is_guest_id k.lists.running ≡ b → AreValid (turn k).kernel.lists
    on true guest = subst (λ (m : Stepped). AreValid m.kernel.lists) (sym (turn-guest k guest)) (guest_step-valid k h (runs-calls k.lists k.regs first h.valid guest))
    on false resident =
        elim (cases_eq k.lists.running 0) [
          | inl nobody ↦ subst (λ (m : Stepped). AreValid m.kernel.lists) (sym (turn-nobody k nobody)) h.valid
          | inr some ↦ subst (λ (m : Stepped). AreValid m.kernel.lists) (sym (turn-resident k resident)) (resident-valid k h (runs-resident k.lists k.regs first h.valid resident some))
        ]

-- ---- in a step

-- the store holds the lists
pub step-holds : (k : Kernel) → IsValid k → HoldsLists (image (with_step k)) k.lists
unfolding image word_of
step-holds k v = store-holds (image k) k (valid-store k v)

pub step-turn-valid : (k : Kernel) → IsValid k → k.stop ≡ None → AreValid (turn (with_step k)).kernel.lists
step-turn-valid k v goes = turn-valid (with_step k) (step-holds k v) (valid-runs k v goes)
