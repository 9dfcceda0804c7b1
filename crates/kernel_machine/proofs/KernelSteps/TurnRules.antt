-- The rules of what residents keep hold again after a turn.
use Rattle.std.proofs.Common.{◌≡◌, ◌≢◌, ℕ, ◌≤◌, Bool, true, false, eqb, length, List, refl, sym, ap, ◌∙◌, subst, arith}
use Rattle.std.proofs.lemmas.Bool.{and_parts, eqb-true, false≢true}
use Rattle.word_store.specs.declared.registers.Regs.{Regs}
use Rattle.instruction_set.specs.declared.Fault.{Fault}
use Rattle.ram_disc.specs.Disc.{IsDisc, shell_stream, stream_at}
use Rattle.kernel_model.specs.KernelRecord.Between.{AreValidResidents, IsAwaited, IsValidConsole, IsValidDisc, IsValidShell}
use Rattle.kernel_model.specs.KernelRecord.Image.{image}
use Rattle.kernel_model.specs.KernelRecord.Kernel.{Kernel}
use Rattle.kernel_model.specs.KernelRecord.Lists.{Lists}
use Rattle.kernel_model.specs.KernelRecord.Pipes.{AreValidPipes}
use Rattle.kernel_model.specs.KernelRecord.Task.{is_guest_id}
use Rattle.kernel_model.specs.KernelRecord.ValidLists.{AreValid}
use Rattle.kernel_model.specs.KernelRecord.Versions.{highest_id_of}
use Rattle.kernel_calls.specs.CallAnswers.Callers.{HasCaller}
use Rattle.resident_tasks.specs.ResidentRequests.Requests.{RunsResident, TakesRequest}
use Rattle.resident_tasks.proofs.ResidentRequests.ResidentTurns.{takes-request}
use Rattle.resident_tasks.specs.ConsoleHandler.ConsoleTurn.{LineFits}
use Rattle.resident_tasks.proofs.ConsoleHandler.KeptKeys.{line-fits-keys}
use Rattle.resident_tasks.specs.FaultReporter.Recorded.{CanRecord, held_with, recorded, sent_where}
use Rattle.resident_tasks.proofs.FaultReporter.FaultsKept.{recorded-hold, turn-hold}
use Rattle.resident_tasks.specs.FileHandler.FileTurn.{file_service}
use Rattle.resident_tasks.proofs.FileHandler.EndedRequests.{turn-keeps as stream-stays}
use Rattle.resident_tasks.specs.PipeHandler.PipeTurns.{pipe_service}
use Rattle.resident_tasks.proofs.PipeHandler.KeptTurns.{turn-kept}
use Rattle.guest_turns.specs.GuestTurn.{GuestTurn, numbers_of, turn_without_reporter}
use Rattle.guest_turns.proofs.FaultedTurn.{fault-untouched}
use Rattle.shell.specs.Modes.{awaited}
use Rattle.shell.specs.ShellTurn.{RunsShell, shell_turn}
use Rattle.shell.proofs.KeptRules.{turn-faults, turn-rest}
use Rattle.shell.proofs.KeptShell.{IsSound, turn-sound}
use Rattle.kernel_machine.specs.KernelSteps.GuestSteps.{guest_step, turn_of_guest}
use Rattle.kernel_machine.specs.KernelSteps.Parts.{CanTurn, HasSameResidents, IsSameSystem}
use Rattle.kernel_machine.specs.KernelSteps.ResidentSteps.{console_parts, console_step, file_step, pipe_step, reporter_step, serves_pipes, shell_step}
use Rattle.kernel_machine.specs.KernelSteps.Step.{turn}
use Rattle.kernel_machine.specs.KernelSteps.Stepped.{Stepped, quietly}
use Rattle.kernel_machine.proofs.KernelSteps.CallRules.{KeepsRules, turn-keeps}
use Rattle.kernel_machine.proofs.KernelSteps.ConsoleRules.{IsKept}
use Rattle.kernel_machine.proofs.KernelSteps.FaultCodes.{fault-code}
use Rattle.kernel_machine.proofs.KernelSteps.FaultRule.{rule-of, rule-valid}
use Rattle.kernel_machine.proofs.KernelSteps.HandledRules.{keeps-then, request-keeps}
use Rattle.kernel_machine.proofs.KernelSteps.OwnersRules.{console-still-valid, disc-still-valid, pipes-still-valid, shell-still-valid, system-of}
use Rattle.kernel_machine.proofs.KernelSteps.ReportedRuns.{report-reads}
use Rattle.kernel_machine.proofs.KernelSteps.RunningCaller.{residents-there, runs-calls, runs-resident}
use Rattle.kernel_machine.proofs.KernelSteps.TurnKept.{console-turned, numbers-turn}
use Rattle.kernel_machine.proofs.KernelSteps.TurnWays.{IsRecorded, guest-ways, turn-ways}

-- ---- what is kept outside the store stays

pub rules-kept : (k j : Kernel) → HasSameResidents k j → IsSameSystem k.lists j.lists → KeepsRules k.lists j.lists → length j.type_ahead ≤ 128 → AreValidResidents k → AreValidResidents j
rules-kept k j same system keeps ahead r = record {
  faults = rule-valid j.lists (keeps.faults (rule-of k.lists r.faults));
  console = subst (IsValidConsole j.lists) (sym same.console) (console-still-valid k.lists j.lists system k.console keeps.key keeps.pending r.console);
  shell = subst (λ s. IsValidShell j.lists s j.disc) (sym same.shell) (shell-still-valid k.lists j.lists system k.shell k.disc j.disc (ap (λ d. stream_at d shell_stream) same.disc) r.shell);
  disc = subst (IsValidDisc j.lists) (sym same.disc) (disc-still-valid k.lists j.lists system k.disc r.disc);
  pipes = subst (AreValidPipes j.lists) (sym same.pipes) (pipes-still-valid k.lists j.lists system k.pipes r.pipes);
  ahead = ahead;
}

-- ---- a guest's turn

sent-key : (b : Bool) (l : Lists) → (sent_where b l).key ≡ l.key
sent-key true l = refl
sent-key false l = refl

sent-pending : (b : Bool) (l : Lists) → (sent_where b l).pending ≡ l.pending
sent-pending true l = refl
sent-pending false l = refl

-- a fault is recorded of the guest that runs
recorded-keeps : (l : Lists) (f : Fault) → CanRecord l f → KeepsRules l (recorded f l)
recorded-keeps l f can = record {
  faults = λ h there. recorded-hold l f can (h can.reporter);
  key = sent-key l.fault_packet_free (held_with f l);
  pending = λ e. sent-pending l.fault_packet_free (held_with f l) ∙ e;
}

-- a guest's fault that is recorded may be
pub recordable : (s : List ℕ) (l : Lists) (r : Regs) (f : Fault) → HasCaller l → IsRecorded s l r f → CanRecord (turn_without_reporter s l r).lists f
recordable s l r f caller is =
    let code = fault-code s l r f is.ends in
    record {
      caller = subst HasCaller (sym (fault-untouched l f s r is.ends).lists) caller;
      reporter = is.reporter;
      fault = record { low = code.low; high = code.high; other = λ six. absurd (false≢true (sym is.other ∙ ap (λ n. eqb n 6) six)) };
    }

guest-keeps : (s : List ℕ) (k : Kernel) → AreValid k.lists → HasCaller k.lists → KeepsRules k.lists (turn_of_guest s k.lists k.regs).lists
guest-keeps s k v caller =
    guest-ways (λ x. KeepsRules k.lists x.lists) s k.lists k.regs (turn-keeps k.lists v s k.regs)
    (λ f is.
    let m : GuestTurn = turn_without_reporter s k.lists k.regs in
    keeps-then k.lists m.lists (recorded f m.lists) (turn-keeps k.lists v s k.regs) (recorded-keeps m.lists f (recordable s k.lists k.regs f caller is)))

-- ---- the turns of residents

module _ (k : Kernel) (can : CanTurn k) where
  abbrev Left : Stepped → Type 0
  Left x = numbers_of x.kernel.lists ≡ numbers_of k.lists → IsDisc x.kernel.disc → AreValidResidents x.kernel

  abbrev rules : AreValidResidents k
  rules = can.rules

  resident : (id : ℕ) → id ≢ 0 → is_guest_id id ≡ false → k.lists.running ≡ id → RunsResident k.lists
  resident id some none is = runs-resident k.lists k.regs can.first can.lists (ap is_guest_id is ∙ none) (λ e. some (sym is ∙ e))

  takes : k.lists.running ≡ 4 → TakesRequest k.lists
  takes four = takes-request k.lists can.lists (resident 4 (λ e. cc) refl four) (λ e. absurd (omega (arith, four, e))) (λ e. absurd (omega (arith, four, e)))

  files-there : k.lists.running ≡ 4 → k.lists.residents ≡ true
  files-there four = sym can.lists.tasks.files ∙ residents-there k.lists k.regs can.first can.lists 4 (λ e. cc) four

  console-there : k.lists.running ≡ 3 → k.lists.residents ≡ true
  console-there three = sym can.lists.tasks.console ∙ residents-there k.lists k.regs can.first can.lists 3 (λ e. cc) three

  shell-there : k.lists.running ≡ 1 → k.lists.residents ≡ true
  shell-there one = sym can.lists.tasks.shell ∙ residents-there k.lists k.regs can.first can.lists 1 (λ e. cc) one

  pub runs-shell : k.lists.running ≡ 1 → RunsShell k.lists k.shell k.disc
  runs-shell one = record { runs = resident 1 (λ e. cc) refl one; is = one; typing = rules.shell.typing; disc = rules.disc.valid }

  -- residents are there, also in the lists that the turn leaves
  module _ (m : Lists) (some : k.lists.residents ≡ true) (numbers : numbers_of m ≡ numbers_of k.lists) where
    there-still : {P : Type 0} → m.residents ≡ false → P
    there-still none = absurd (false≢true (sym none ∙ ap (λ n. n.residents) numbers ∙ some))

  beside-all : (j : Kernel) → HasSameResidents k j → KeepsRules k.lists j.lists → j.type_ahead ≡ k.type_ahead → numbers_of j.lists ≡ numbers_of k.lists → AreValidResidents j
  beside-all j same keeps ahead numbers = rules-kept k j same (system-of k.lists j.lists numbers) keeps (omega (arith, rules.ahead, ap length ahead)) rules

  guest-left : is_guest_id k.lists.running ≡ true → Left (guest_step k)
  guest-left guest numbers disc =
      beside-all (guest_step k).kernel (record { console = refl; shell = refl; disc = refl; pipes = refl })
      (guest-keeps (image k) k can.lists (runs-calls k.lists k.regs can.first can.lists guest)) refl numbers

  shell-left : k.lists.running ≡ 1 → Left (shell_step k)
  shell-left one numbers disc =
      let j : Kernel = (shell_step k).kernel in
      let system : IsSameSystem k.lists j.lists = system-of k.lists j.lists numbers in
      let rest = turn-rest (image k) k.lists k.shell k.disc in
      let sound : IsSound k.lists.version k.shell.line (shell_turn (image k) k.lists k.shell k.disc) = turn-sound (image k) k.lists k.shell k.disc rules.disc.valid.numbers rules.shell.typing rules.shell.awaited in
      record {
        faults = turn-faults (image k) k.lists k.shell k.disc can.lists (runs-shell one).runs one rules.faults;
        console = console-still-valid k.lists j.lists system k.console (ap (λ (m : Lists). m.key) rest) (λ e. ap (λ (m : Lists). m.pending) rest ∙ e) rules.console;
        shell = record {
          typing = sound.typing;
          awaited = subst (λ v. IsAwaited (highest_id_of v) j.shell.mode) (sym system.version) sound.awaited;
          line = omega (arith, rules.shell.line, ap length sound.line);
          absent = there-still j.lists (shell-there one) numbers;
        };
        disc = record { valid = disc; absent = there-still j.lists (shell-there one) numbers };
        pipes = pipes-still-valid k.lists j.lists system k.pipes rules.pipes;
        ahead = rules.ahead;
      }

  reporter-left : k.lists.running ≡ 2 → Left (reporter_step k)
  reporter-left two numbers disc =
      let reads = report-reads (image k) k.lists in
      beside-all (reporter_step k).kernel (record { console = refl; shell = refl; disc = refl; pipes = refl })
      (record {
        faults = λ h there. turn-hold (image k) k.lists can.lists (resident 2 (λ e. cc) refl two) two rules.faults;
        key = reads.key;
        pending = λ e. reads.pending ∙ e;
      }) refl numbers

  console-left : k.lists.running ≡ 3 → Left (console_step k)
  console-left three numbers disc =
      let j : Kernel = (console_step k).kernel in
      let system : IsSameSystem k.lists j.lists = system-of k.lists j.lists numbers in
      let kept : IsKept (numbers_of k.lists) (console_parts k) = console-turned k can three in
      let some : k.lists.residents ≡ true = console-there three in
      let keys : LineFits (console_parts k).lists (console_parts k).console =
      line-fits-keys (awaited k.shell.mode) (image k) k.lists k.console k.shell.line (record { finished = rules.console.finished some; delivered = rules.console.delivered })
      in
      record {
        faults = rule-valid j.lists kept.rule;
        console = record { finished = λ _. keys.finished; delivered = keys.delivered; line = kept.line; absent = there-still j.lists some numbers };
        shell = record {
          typing = rules.shell.typing;
          awaited = subst (λ v. IsAwaited (highest_id_of v) k.shell.mode) (sym system.version) rules.shell.awaited;
          line = kept.command;
          absent = there-still j.lists some numbers;
        };
        disc = disc-still-valid k.lists j.lists system k.disc rules.disc;
        pipes = pipes-still-valid k.lists j.lists system k.pipes rules.pipes;
        ahead = rules.ahead;
      }

  file-left : k.lists.running ≡ 4 → Left (file_step k)
  file-left four numbers disc =
      let j : Kernel = (file_step k).kernel in
      let system : IsSameSystem k.lists j.lists = system-of k.lists j.lists numbers in
      let keeps : KeepsRules k.lists j.lists = request-keeps k.lists (takes four) (file_service k.disc) (image k) in
      record {
        faults = rule-valid j.lists (keeps.faults (rule-of k.lists rules.faults));
        console = console-still-valid k.lists j.lists system k.console keeps.key keeps.pending rules.console;
        shell = shell-still-valid k.lists j.lists system k.shell k.disc j.disc (stream-stays k.disc (image k) k.lists) rules.shell;
        disc = record { valid = disc; absent = there-still j.lists (files-there four) numbers };
        pipes = pipes-still-valid k.lists j.lists system k.pipes rules.pipes;
        ahead = rules.ahead;
      }

  pipe-left : k.lists.running ≡ 4 → serves_pipes k.lists ≡ true → Left (pipe_step k)
  pipe-left four serves numbers disc =
      let j : Kernel = (pipe_step k).kernel in
      let system : IsSameSystem k.lists j.lists = system-of k.lists j.lists numbers in
      let keeps : KeepsRules k.lists j.lists = request-keeps k.lists (takes four) (pipe_service k.pipes) (image k) in
      let second : k.lists.version ≡ 2 = eqb-true k.lists.version 2 (and_parts _ _ serves).0 in
      record {
        faults = rule-valid j.lists (keeps.faults (rule-of k.lists rules.faults));
        console = console-still-valid k.lists j.lists system k.console keeps.key keeps.pending rules.console;
        shell = shell-still-valid k.lists j.lists system k.shell k.disc k.disc refl rules.shell;
        disc = disc-still-valid k.lists j.lists system k.disc rules.disc;
        pipes = record {
          pipes = turn-kept k.pipes (image k) k.lists rules.pipes.pipes;
          no_residents = there-still j.lists (files-there four) numbers;
          first_version = λ e. absurd (omega (arith, e, second, system.version));
        };
        ahead = rules.ahead;
      }

  stays-left : Left (quietly k)
  stays-left numbers disc = can.rules

  pub turn-rules : IsDisc (turn k).kernel.disc → AreValidResidents (turn k).kernel
  turn-rules disc =
      turn-ways Left k
      (record {
        guest = guest-left;
        shell = shell-left;
        reporter = reporter-left;
        console = console-left;
        files = file-left;
        pipes = pipe-left;
        nobody = λ none. stays-left;
      })
      (numbers-turn k can) disc
