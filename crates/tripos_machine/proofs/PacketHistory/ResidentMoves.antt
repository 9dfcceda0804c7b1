-- The turn of each resident.
use Rattle.std.proofs.Common.{◌≡◌, ℕ, refl, sym, ◌∙◌, subst, arith}
use Rattle.std.proofs.lemmas.Bool.{false≢true}
use Rattle.word_store.specs.Arithmetic.{signed}
use Rattle.kernel_lists.specs.declared.packet_queue.events.KernelEvent.{KernelEvent}
use Rattle.kernel_model.specs.KernelRecord.HoldsLists.{HoldsLists}
use Rattle.kernel_model.specs.KernelRecord.Image.{image}
use Rattle.kernel_model.specs.KernelRecord.Kernel.{Kernel}
use Rattle.resident_tasks.specs.ResidentRequests.Requests.{RunsResident, TakesRequest}
use Rattle.resident_tasks.proofs.ResidentRequests.ResidentTurns.{takes-request}
use Rattle.resident_tasks.specs.FileHandler.FileTurn.{file_service}
use Rattle.resident_tasks.specs.PipeHandler.PipeTurns.{pipe_service}
use Rattle.shell.specs.Modes.{awaited}
use Rattle.kernel_machine.specs.KernelSteps.ResidentSteps.{resident_step}
use Rattle.kernel_machine.specs.KernelSteps.Stepped.{Stepped}
use Rattle.kernel_machine.proofs.KernelSteps.TurnWays.{turn-resident, turn-ways}
use Rattle.tripos_machine.proofs.PacketHistory.ConsoleMoves.{console-moves}
use Rattle.tripos_machine.proofs.PacketHistory.ReporterMoves.{reporter-moves}
use Rattle.tripos_machine.proofs.PacketHistory.RequestMoves.{request-moves}
use Rattle.tripos_machine.proofs.PacketHistory.ShellMoves.{shell-moves}
use Rattle.tripos_machine.proofs.PacketHistory.TakenMoves.{MovesInTurn, none-moved}

module _ (due : KernelEvent → ℕ) (k : Kernel) (h : HoldsLists (image k) k.lists) (r : RunsResident k.lists) where
  abbrev Leads : Stepped → Type 0
  Leads m = MovesInTurn due (signed k.lists.running) k.lists m.events m.kernel.lists

  takes : k.lists.running ≡ 4 → TakesRequest k.lists
  takes is = takes-request k.lists h.valid r (λ e. absurd (omega (arith, e, is))) (λ e. absurd (omega (arith, e, is)))

  pub resident-moves : Leads (resident_step k.lists.running k)
  resident-moves =
      subst Leads (turn-resident k r.resident)
      (turn-ways Leads k
      (record {
        guest = λ guest. absurd (false≢true (sym r.resident ∙ guest));
        shell = λ is. shell-moves due (image k) k.lists k.shell k.disc h r is;
        reporter = λ is. reporter-moves due (image k) k.lists h r is;
        console = λ is. console-moves due (awaited k.shell.mode) k.console k.shell.line (image k) k.lists h r is;
        files = λ is. request-moves due (file_service k.disc) (image k) k.lists h (takes is);
        pipes = λ is serves. request-moves due (pipe_service k.pipes) (image k) k.lists h (takes is);
        nobody = λ none. none-moved due (signed k.lists.running) k.lists k.lists refl;
      }))
