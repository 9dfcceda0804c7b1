-- What a turn leaves of a kernel: who runs, the numbers, and what is no matter of turns.
use Rattle.std.proofs.Common.{◌≡◌, ℕ, Bool, true, false, List, refl, sym, ap, ◌∙◌, subst, arith}
use Rattle.instruction_set.specs.declared.Fault.{Fault}
use Rattle.kernel_model.specs.KernelRecord.Image.{image}
use Rattle.kernel_model.specs.KernelRecord.Kernel.{Kernel}
use Rattle.kernel_model.specs.KernelRecord.Lists.{Lists, has_task}
use Rattle.kernel_model.specs.KernelRecord.Task.{is_guest_id}
use Rattle.kernel_model.specs.KernelDispatch.Dispatch.{CanDispatch}
use Rattle.resident_tasks.specs.ResidentRequests.Requests.{RunsResident}
use Rattle.guest_turns.specs.GuestTurn.{GuestTurn, numbers_of, turn_without_reporter}
use Rattle.guest_turns.proofs.RunningField.{RunsIn}
use Rattle.guest_turns.proofs.TurnFields.{turn-dispatches, turn-numbers}
use Rattle.resident_tasks.specs.FaultReporter.Recorded.{held_with, recorded, sent_where}
use Rattle.resident_tasks.proofs.FaultReporter.RunsKept.{recorded-dispatch}
use Rattle.resident_tasks.specs.FileHandler.FileTurn.{file_service}
use Rattle.resident_tasks.specs.PipeHandler.PipeTurns.{pipe_service}
use Rattle.shell.specs.Modes.{awaited}
use Rattle.shell.proofs.KeptRules.{turn-dispatches as shell-dispatches, turn-rest}
use Rattle.kernel_machine.specs.KernelSteps.GuestSteps.{after_turn, turn_of_guest}
use Rattle.kernel_machine.specs.KernelSteps.Parts.{CanTurn, HasSameKeys, IsSameMachine}
use Rattle.kernel_machine.specs.KernelSteps.ResidentSteps.{console_parts, shell_step}
use Rattle.kernel_machine.specs.KernelSteps.Step.{turn}
use Rattle.kernel_machine.proofs.KernelSteps.ConsoleRules.{IsKept, console-kept}
use Rattle.kernel_machine.proofs.KernelSteps.FaultRule.{rule-of}
use Rattle.kernel_machine.proofs.KernelSteps.HandledRules.{request-runs}
use Rattle.kernel_machine.proofs.KernelSteps.ReportedRuns.{report-runs}
use Rattle.kernel_machine.proofs.KernelSteps.RunningCaller.{dispatch-after, residents-there, runs-alone, runs-calls, runs-dispatches, runs-resident}
use Rattle.kernel_machine.proofs.KernelSteps.TurnWays.{guest-ways, turn-ways}

-- ---- what no turn changes

pub turn-same : (k : Kernel) → IsSameMachine k (turn k).kernel
turn-same k =
    turn-ways (λ x. IsSameMachine k x.kernel) k
    (record {
      guest = λ e. record { steps = refl };
      shell = λ e. record { steps = refl };
      reporter = λ e. record { steps = refl };
      console = λ e. record { steps = refl };
      files = λ e. record { steps = refl };
      pipes = λ e f. record { steps = refl };
      nobody = λ e. record { steps = refl };
    })

pub turn-keys : (k : Kernel) → HasSameKeys k (turn k).kernel
turn-keys k =
    turn-ways (λ x. HasSameKeys k x.kernel) k
    (record {
      guest = λ e. record { keys = refl; ahead = refl };
      shell = λ e. record { keys = refl; ahead = refl };
      reporter = λ e. record { keys = refl; ahead = refl };
      console = λ e. record { keys = refl; ahead = refl };
      files = λ e. record { keys = refl; ahead = refl };
      pipes = λ e f. record { keys = refl; ahead = refl };
      nobody = λ e. record { keys = refl; ahead = refl };
    })

-- ---- who runs

pub recorded-numbers : (f : Fault) (l : Lists) → numbers_of (recorded f l) ≡ numbers_of l
recorded-numbers f l = on l.fault_packet_free
  where
    on : (b : Bool) → numbers_of (sent_where b (held_with f l)) ≡ numbers_of l
    on true = refl
    on false = refl

-- the lists that a turn leaves, in which the same task runs, and it alone
record Goes (k j : Kernel) : Type 0 where
  pub dispatch : CanDispatch j.lists j.regs
  pub numbers : numbers_of j.lists ≡ numbers_of k.lists

module _ (k : Kernel) (can : CanTurn k) where
  guest-kept : is_guest_id k.lists.running ≡ true → Goes k (after_turn k (turn_of_guest (image k) k.lists k.regs)).kernel
  guest-kept guest =
      let s : List ℕ = image k in
      let alone = runs-alone k.lists k.regs can.first in
      let m : GuestTurn = turn_without_reporter s k.lists k.regs in
      let dispatch : CanDispatch m.lists m.regs = turn-dispatches s k.lists k.regs alone (runs-calls k.lists k.regs can.first can.lists guest) can.first.registers.byte in
      let numbers : numbers_of m.lists ≡ numbers_of k.lists = turn-numbers s k.lists k.regs alone in
      guest-ways (λ x. Goes k (after_turn k x).kernel) s k.lists k.regs (record { dispatch = dispatch; numbers = numbers })
      (λ f is. record { dispatch = recorded-dispatch m.lists f m.regs dispatch; numbers = recorded-numbers f m.lists ∙ numbers })

  -- the registers stay where a resident runs
  stays : (l : Lists) → RunsIn (numbers_of k.lists) l → (j : Kernel) → j.lists ≡ l → j.regs ≡ k.regs → Goes k j
  stays l h j lists regs =
      record {
        dispatch =
            subst (λ m. CanDispatch m j.regs) (sym lists)
            (subst (CanDispatch l) (sym regs) (dispatch-after (numbers_of k.lists) k.lists l k.regs (runs-dispatches k.lists k.regs can.first) refl h));
        numbers = ap numbers_of lists ∙ h.numbers;
      }

  now : RunsIn (numbers_of k.lists) k.lists
  now = record { numbers = refl; alone = runs-alone k.lists k.regs can.first }

  pub console-turned : k.lists.running ≡ 3 → IsKept (numbers_of k.lists) (console_parts k)
  console-turned three =
      let there : has_task 3 k.lists.tasks ≡ true = residents-there k.lists k.regs can.first can.lists 3 (λ e. cc) three in
      console-kept (awaited k.shell.mode) (image k) k.lists k.console k.shell.line can.lists (sym can.lists.tasks.console ∙ there) there three (runs-alone k.lists k.regs can.first) (rule-of k.lists can.rules.faults)
      can.rules.console.line can.rules.shell.line

  shell-kept : k.lists.running ≡ 1 → Goes k (shell_step k).kernel
  shell-kept one =
      let runs : RunsResident k.lists = runs-resident k.lists k.regs can.first can.lists (ap is_guest_id one) (λ e. absurd (omega (arith, one, e))) in
      record {
        dispatch = shell-dispatches (image k) k.lists k.shell k.disc k.regs runs (runs-dispatches k.lists k.regs can.first);
        numbers = ap numbers_of (turn-rest (image k) k.lists k.shell k.disc);
      }

  turn-goes : Goes k (turn k).kernel
  turn-goes =
      turn-ways (λ x. Goes k x.kernel) k
      (record {
        guest = guest-kept;
        shell = shell-kept;
        reporter = λ two. stays _ (report-runs (numbers_of k.lists) (image k) k.lists now) _ refl refl;
        console = λ three. stays _ (console-turned three).runs _ refl refl;
        files = λ four. stays _ (request-runs (numbers_of k.lists) k.lists now (file_service k.disc) (image k)) _ refl refl;
        pipes = λ four two. stays _ (request-runs (numbers_of k.lists) k.lists now (pipe_service k.pipes) (image k)) _ refl refl;
        nobody = λ none. stays k.lists now k refl refl;
      })

  pub turn-dispatch : CanDispatch (turn k).kernel.lists (turn k).kernel.regs
  turn-dispatch = turn-goes.dispatch

  pub numbers-turn : numbers_of (turn k).kernel.lists ≡ numbers_of k.lists
  numbers-turn = turn-goes.numbers
