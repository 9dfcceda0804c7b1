-- What a resident's turn leaves of a machine.
use Rattle.std.proofs.Common.{◌≡◌, ◌≢◌, ℕ, List, [], ◌∷◌, length, Bool, true, false, Option, Some, None, cond, eqb, refl, sym, ap, ◌∙◌, subst, arith}
use Rattle.std.proofs.lemmas.Bool.{ne_eqb}
use Rattle.std.specs.Prelude.{is_some}
use Rattle.kernel_model.specs.declared.kernel_record.stops.Stop.TheVariants.{Finish}
use Rattle.kernel_lists.specs.PacketQueue.QueueWords.{QueuedPacket}
use Rattle.ram_disc.specs.Disc.{Disc, IsDisc, shell_stream, stream_at}
use Rattle.kernel_model.specs.KernelRecord.Between.{is_typing}
use Rattle.kernel_model.specs.KernelRecord.Image.{image}
use Rattle.kernel_model.specs.KernelRecord.Kernel.{Console, Kernel, Pipe, Shell}
use Rattle.kernel_model.specs.KernelRecord.Lists.{Lists}
use Rattle.kernel_model.specs.KernelRecord.Residents.{fault_packet}
use Rattle.kernel_model.specs.KernelRecord.Task.{is_guest_id}
use Rattle.kernel_model.proofs.KernelRecord.ChangedLists.{changed-none}
use Rattle.kernel_model.proofs.KernelRecord.ImageWords.{image-list}
use Rattle.kernel_model.specs.WordKinds.ByteMap.{MarksAll}
use Rattle.kernel_calls.specs.CallAnswers.Outside.{Outside}
use Rattle.resident_tasks.specs.ResidentRequests.Requests.{RunsResident, TakesRequest, first_request, taken, words_taken, work}
use Rattle.resident_tasks.specs.ResidentRequests.Turns.{IsResidentTurn, ResidentTurn, Served, request_turn, turn_of}
use Rattle.resident_tasks.specs.declared.resident_requests.requests.Request.{Request}
use Rattle.resident_tasks.proofs.ResidentRequests.ResidentTurns.{takes-request}
use Rattle.resident_tasks.specs.FaultReporter.FaultTurns.{CanReport, fault_turn, fault_turn_from, reported_turn, unknown}
use Rattle.resident_tasks.specs.ConsoleHandler.ConsoleTurn.{RunsConsole, all_parts, console_turn, turn_done}
use Rattle.resident_tasks.specs.ConsoleHandler.TurnParts.{ConsoleTurn, begun}
use Rattle.resident_tasks.specs.FileHandler.FileTurn.{RunsFileHandler, disc_after_turn, file_service, file_turn}
use Rattle.resident_tasks.specs.PipeHandler.PipeTurns.{pipe_service, pipe_turn, pipes_after_turn}
use Rattle.shell.specs.DoneParts.{IsShellTurn}
use Rattle.shell.specs.Modes.{awaited}
use Rattle.shell.specs.ShellTurn.{RunsShell, shell_turn}
use Rattle.shell.specs.TurnParts.{ShellTurn}
use Rattle.shell.proofs.KeptRules.{turn-rest}
use Rattle.guest_turns.specs.GuestTurn.{numbers_of}
use Rattle.guest_turns.proofs.RunningField.{RunsIn}
use Rattle.kernel_machine.specs.declared.running_machine.parts.Parts.{Parts}
use Rattle.kernel_machine.specs.RunningMachine.RepresentedKernels.{RepresentsKernel}
use Rattle.kernel_machine.proofs.RunningMachine.PartsBeside.{represents-beside}
use Rattle.kernel_machine.specs.KernelSteps.ResidentSteps.{after_resident, console_parts, console_step, file_step, handler_step, pipe_step, reporter_step, resident_step, serves_pipes, shell_step, with_console_lines, with_disc, with_pipes}
use Rattle.kernel_machine.specs.KernelSteps.Stepped.{quietly, with_store}
use Rattle.kernel_machine.proofs.KernelSteps.HandledRules.{request-runs}
use Rattle.kernel_machine.proofs.KernelSteps.ReportedRuns.{report-runs}
use Rattle.kernel_machine.proofs.KernelSteps.RunningCaller.{runs-alone, runs-resident}
use Rattle.kernel_machine.proofs.KernelSteps.TurnKept.{console-turned}
use Rattle.kernel_machine.proofs.KernelSteps.TurnRules.{runs-shell as shell-runs}
use Rattle.kernel_machine.specs.RunningMachine.Private.Leaves.{Leaves, RunsNumber}
use Rattle.kernel_machine.proofs.RunningMachine.LeftParts.{represents-changed}

-- a turn leaves this of the store and the keeper, and nothing else of the parts
pub leaves-resident : (q : Parts) (j : Kernel) → RepresentsKernel q j → (t : List ℕ) (marks : List Bool) (o n : Outside) (m : ResidentTurn) → IsResidentTurn t (MarksAll marks) o n m → length m.words ≡ length q.store → length marks ≡ length q.kinds
    → m.lists.period ≡ j.lists.period → Leaves (record q { store = t; kinds = marks }) o n (after_resident m j)
leaves-resident q j st t marks o n m is size room period = record {
  represents = represents-changed q j st m.words t marks q.regs m.lists m.plain j.regs j.stop size is.lists is.knows room st.regs period;
  bytes = is.bytes;
  notes = is.notes;
}

-- no other number is a resident's
pub other-resident : (n : ℕ) (k : Kernel) → n ≢ 1 → n ≢ 2 → n ≢ 3 → n ≢ 4 → resident_step n k ≡ quietly k
other-resident n k a b c d = λ i.
    cond (ne_eqb n 1 a i) (shell_step k) (cond (ne_eqb n 2 b i) (reporter_step k) (cond (ne_eqb n 3 c i) (console_step k) (cond (ne_eqb n 4 d i) (handler_step k) (quietly k))))

pub leaves-four : {p : Parts} {o n : Outside} (id : ℕ) (k : Kernel) → id ≡ 4 → Leaves p o n (handler_step k) → Leaves p o n (resident_step id k)
leaves-four {p} {o} {n} id k four left = subst (λ i. Leaves p o n (resident_step i k)) (sym four) left

-- the words are those before the turn
request-words : (serve : List ℕ → Lists → Request → Served) (s : List ℕ) (l : Lists) → (request_turn serve s l).words ≡ s
request-words serve s l = on (first_request (words_taken s l) (work l))
  where
    on : (o : Option Request) → (turn_of o (serve (words_taken s l) (taken l).lists) s l).words ≡ s
    on None = refl
    on (Some r) = refl

report-words : (s : List ℕ) (l : Lists) → (fault_turn s l).words ≡ s
report-words s l = on (work l)
  where
    on : (ps : List QueuedPacket) → (fault_turn_from ps s l).words ≡ s
    on [] = refl
    on (p ∷ ps) = by (eqb p.address fault_packet)
      where
        by : (b : Bool) → (cond b (reported_turn p ps s l) (request_turn unknown s l)).words ≡ s
        by true = refl
        by false = request-words unknown s l

module _ (p : Parts) (k : Kernel) (st : RepresentsKernel p k) where
  -- the store is the image
  store-is : p.store ≡ image k
  store-is = image-list p.store k st.image

  store-size : length (image k) ≡ length p.store
  store-size = ap length (sym store-is)

  module _ (id : ℕ) (some : id ≢ 0) (none : is_guest_id id ≡ false) (r : RunsNumber id k) where
    pub runs-now : RunsResident k.lists
    runs-now = runs-resident k.lists k.regs r.can.first r.can.lists (ap is_guest_id r.is ∙ none) (λ e. some (sym r.is ∙ e))

    now-runs : RunsIn (numbers_of k.lists) k.lists
    now-runs = record { numbers = refl; alone = runs-alone k.lists k.regs r.can.first }

  -- ---- the shell

  module _ (r : RunsNumber 1 k) where
    pub runs-shell : RunsShell k.lists p.shell p.disc
    runs-shell =
        let here : RunsShell k.lists k.shell k.disc = shell-runs k r.can r.is in
        record {
          runs = here.runs;
          is = here.is;
          typing = ap (λ d. is_some (stream_at d shell_stream)) st.disc ∙ here.typing ∙ ap (λ (s : Shell). is_typing s.mode) (sym st.shell);
          disc = subst IsDisc (sym st.disc) here.disc;
        }

    shell-here : shell_turn p.store k.lists p.shell p.disc ≡ shell_turn (image k) k.lists k.shell k.disc
    shell-here = λ i. shell_turn (store-is i) k.lists (st.shell i) (st.disc i)

    module _ (t : List ℕ) (marks : List Bool) (o n : Outside) (shell : Shell) (disc : Disc) (ends : Bool) (is : IsShellTurn t (MarksAll marks) (length marks) o n shell disc ends (shell_turn p.store k.lists p.shell p.disc)) where
      now-shell : IsShellTurn t (MarksAll marks) (length marks) o n shell disc ends (shell_turn (image k) k.lists k.shell k.disc)
      now-shell = subst (IsShellTurn t (MarksAll marks) (length marks) o n shell disc ends) shell-here is

      pub leaves-shell : length marks ≡ length p.kinds → Leaves (record p { store = t; kinds = marks; shell = shell; disc = disc }) o n (shell_step k)
      leaves-shell room =
          let x : ShellTurn = shell_turn (image k) k.lists k.shell k.disc in
          let l : Lists = x.store.lists in
          let rest = turn-rest (image k) k.lists k.shell k.disc in
          let size : length t ≡ length p.store = omega (arith, now-shell.represents.keeper.lists.size, ap (λ (m : Lists). m.size) rest, st.keeper.lists.size) in
          let same : RepresentsKernel (record p { shell = shell; disc = disc }) (record k { shell = x.shell; disc = x.disc }) = represents-beside p k st st.console now-shell.shell now-shell.disc st.pipes in
          let left =
          represents-changed (record p { shell = shell; disc = disc }) (record k { shell = x.shell; disc = x.disc }) same t t marks p.regs l [] k.regs (cond x.finished (Some Finish) k.stop) size (changed-none t l now-shell.represents.keeper.lists)
          now-shell.represents.keeper.knows room st.regs (ap (λ (m : Lists). m.period) rest)
          in
          record {
            represents = subst (λ w. RepresentsKernel (record p { store = t; kinds = marks; shell = shell; disc = disc }) (record (with_store w l k) { shell = x.shell; disc = x.disc; stop = cond x.finished (Some Finish) k.stop })) now-shell.represents.words left;
            bytes = now-shell.bytes;
            notes = now-shell.notes;
          }

      pub stop-shell : cond ends (Some Finish) None ≡ (shell_step k).kernel.stop
      stop-shell =
          ap (λ b. cond b (Some Finish) None) now-shell.finished
          ∙ ap (λ s. cond (shell_turn (image k) k.lists k.shell k.disc).finished (Some Finish) s) (sym r.can.goes)

  -- ---- the task that reports faults

  module _ (r : RunsNumber 2 k) where
    pub can-report : (shown : List ℕ) → shown ≡ [] → CanReport shown k.lists
    can-report shown empty = record { runs = runs-now 2 (λ e. cc) refl r; reporter = r.is; room = omega (arith, ap length empty) }

    pub leaves-report : (t : List ℕ) (marks : List Bool) (o n : Outside) → IsResidentTurn t (MarksAll marks) o n (fault_turn p.store k.lists) → length marks ≡ length p.kinds
        → Leaves (record p { store = t; kinds = marks }) o n (reporter_step k)
    leaves-report t marks o n is room =
        leaves-resident p k st t marks o n (fault_turn (image k) k.lists) (subst (λ s. IsResidentTurn t (MarksAll marks) o n (fault_turn s k.lists)) store-is is)
        (ap length (report-words (image k) k.lists) ∙ store-size) room (ap (λ x. x.period) (report-runs (numbers_of k.lists) (image k) k.lists (now-runs 2 (λ e. cc) refl r)).numbers)

  -- ---- the console

  module _ (r : RunsNumber 3 k) where
    pub runs-console : RunsConsole k.lists
    runs-console = record { runs = runs-now 3 (λ e. cc) refl r; is = r.is }

    module _ (id : ℕ) (line : List ℕ) (awaits : id ≡ awaited p.shell.mode) (same : line ≡ p.shell.line) where
      parts-here : all_parts id (begun p.store k.lists p.console line) ≡ console_parts k
      parts-here = λ i.
          all_parts ((awaits ∙ ap (λ (x : Shell). awaited x.mode) st.shell) i) (begun (store-is i) k.lists (st.console i) ((same ∙ ap (λ (x : Shell). x.line) st.shell) i))

      pub leaves-console : (t : List ℕ) (marks : List Bool) (o n : Outside) (console : Console) (shell : Shell) → IsResidentTurn t (MarksAll marks) o n (console_turn id p.console line p.store k.lists)
          → length marks ≡ length p.kinds → console ≡ (all_parts id (begun p.store k.lists p.console line)).console
          → shell ≡ record p.shell { line = (all_parts id (begun p.store k.lists p.console line)).command }
          → Leaves (record p { store = t; kinds = marks; console = console; shell = shell }) o n (console_step k)
      leaves-console t marks o n console shell is room now put =
          let here : IsResidentTurn t (MarksAll marks) o n (turn_done (image k) (console_parts k)) =
          subst (λ (g : ConsoleTurn). IsResidentTurn t (MarksAll marks) o n (turn_done (image k) g)) parts-here
          (subst (λ s. IsResidentTurn t (MarksAll marks) o n (turn_done s (all_parts id (begun p.store k.lists p.console line)))) store-is is)
          in
          let lines : RepresentsKernel (record p { console = console; shell = shell }) (with_console_lines (console_parts k) k) =
          represents-beside p k st (now ∙ ap (λ (g : ConsoleTurn). g.console) parts-here) (put ∙ (λ i. record (st.shell i) { line = (parts-here i).command })) st.disc st.pipes
          in
          leaves-resident (record p { console = console; shell = shell }) (with_console_lines (console_parts k) k) lines t marks o n (turn_done (image k) (console_parts k)) here store-size room
          (ap (λ x. x.period) (console-turned k r.can r.is).runs.numbers)

  -- ---- the file handler

  module _ (r : RunsNumber 4 k) where
    pub runs-handler : RunsFileHandler k.lists
    runs-handler = record { runs = runs-now 4 (λ e. cc) refl r; is = r.is }

    pub takes-pipes : TakesRequest k.lists
    takes-pipes = takes-request k.lists r.can.lists runs-handler.runs (λ e. absurd (omega (arith, r.is, e))) (λ e. absurd (omega (arith, r.is, e)))

    pub leaves-file : (t : List ℕ) (marks : List Bool) (o n : Outside) (disc : Disc) → IsResidentTurn t (MarksAll marks) o n (file_turn p.disc p.store k.lists) → length marks ≡ length p.kinds
        → disc ≡ disc_after_turn p.disc p.store k.lists → serves_pipes k.lists ≡ false → Leaves (record p { store = t; kinds = marks; disc = disc }) o n (handler_step k)
    leaves-file t marks o n disc is room after none =
        let m : ResidentTurn = file_turn k.disc (image k) k.lists in
        let here : IsResidentTurn t (MarksAll marks) o n m = subst (IsResidentTurn t (MarksAll marks) o n) (λ i. file_turn (st.disc i) (store-is i) k.lists) is in
        let new : Disc = disc_after_turn k.disc (image k) k.lists in
        subst (λ b. Leaves (record p { store = t; kinds = marks; disc = disc }) o n (cond b (pipe_step k) (file_step k))) (sym none)
        (leaves-resident (record p { disc = disc }) (with_disc new k) (represents-beside p k st st.console st.shell (after ∙ (λ i. disc_after_turn (st.disc i) (store-is i) k.lists)) st.pipes) t marks o n m here
        (ap length (request-words (file_service k.disc) (image k) k.lists) ∙ store-size) room
        (ap (λ x. x.period) (request-runs (numbers_of k.lists) k.lists (now-runs 4 (λ e. cc) refl r) (file_service k.disc) (image k)).numbers))

    pub leaves-pipe : (t : List ℕ) (marks : List Bool) (o n : Outside) (pipes : List (Option Pipe)) → IsResidentTurn t (MarksAll marks) o n (pipe_turn p.pipes p.store k.lists) → length marks ≡ length p.kinds
        → pipes ≡ pipes_after_turn p.pipes p.store k.lists → serves_pipes k.lists ≡ true → Leaves (record p { store = t; kinds = marks; pipes = pipes }) o n (handler_step k)
    leaves-pipe t marks o n pipes is room after some =
        let m : ResidentTurn = pipe_turn k.pipes (image k) k.lists in
        let here : IsResidentTurn t (MarksAll marks) o n m = subst (IsResidentTurn t (MarksAll marks) o n) (λ i. pipe_turn (st.pipes i) (store-is i) k.lists) is in
        let new : List (Option Pipe) = pipes_after_turn k.pipes (image k) k.lists in
        subst (λ b. Leaves (record p { store = t; kinds = marks; pipes = pipes }) o n (cond b (pipe_step k) (file_step k))) (sym some)
        (leaves-resident (record p { pipes = pipes }) (with_pipes new k) (represents-beside p k st st.console st.shell st.disc (after ∙ (λ i. pipes_after_turn (st.pipes i) (store-is i) k.lists))) t marks o n m here
        (ap length (request-words (pipe_service k.pipes) (image k) k.lists) ∙ store-size) room
        (ap (λ x. x.period) (request-runs (numbers_of k.lists) k.lists (now-runs 4 (λ e. cc) refl r) (pipe_service k.pipes) (image k)).numbers))
