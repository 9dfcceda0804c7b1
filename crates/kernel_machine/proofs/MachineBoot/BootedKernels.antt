-- The kernel that is booted is valid; and the events of its boot.
use Rattle.std.proofs.Common.{◌≡◌, ◌≢◌, ℕ, ◌/◌, ◌≤◌, ◌⊎◌, ◌&&◌, ◌||◌, ◌++◌, List, [], ◌∷◌, length, map, take, cond, eqb, Bool, true, false, not, Some, None, Result, Ok, Err, inl, inr, refl, sym, ap, ◌∙◌, subst, arith}
use Rattle.std.specs.Prelude.{IfSome, is_some}
use Rattle.std.specs.List.{AllByRecursion}
use Rattle.std.proofs.Math.Nat.{zero-div}
use Rattle.std.proofs.lemmas.Bool.{leb-true, ne_eqb}
use Rattle.kernel_lists.specs.declared.packet_queue.events.KernelEvent.TheVariants.{Runs}
use Rattle.kernel_lists.specs.PacketQueue.QueueWords.{QueuedPacket}
use Rattle.ram_disc.specs.Disc.{most_streams, shell_stream}
use Rattle.session_text.specs.Canonical.{IsLawfulKey, IsLawfulMachine}
use Rattle.kernel_model.specs.KernelRecord.Ranges.{most_steps}
use Rattle.session_text.specs.declared.sessions.Session.{Session}
use Rattle.kernel_model.specs.KernelRecord.Between.{AreShut, AreValidFaults, AreValidResidents, IsAwaited, IsValidConsole, IsValidDisc, IsValidShell, Tells, is_ready, is_typing}
use Rattle.kernel_model.specs.KernelRecord.Image.{HasPlainWords, image, settled}
use Rattle.kernel_model.specs.KernelRecord.Kernel.{Kernel, Pipe}
use Rattle.kernel_model.specs.KernelRecord.Lists.{Lists}
use Rattle.kernel_model.specs.KernelRecord.Pipes.{AreValidPipes, most_pipes, pipe_at}
use Rattle.kernel_model.specs.KernelRecord.Task.{Task, is_guest_id}
use Rattle.kernel_model.specs.KernelRecord.ValidKernel.{HasSteps, IsValid}
use Rattle.kernel_model.specs.KernelRecord.ValidLists.{AreValid}
use Rattle.kernel_model.specs.KernelRecord.ValidTasks.{dead, runs, waits}
use Rattle.kernel_model.specs.KernelRecord.Versions.{highest_id_of}
use Rattle.kernel_model.proofs.KernelRecord.EachMember.{all-each}
use Rattle.kernel_model.specs.KernelDispatch.Dispatch.{DispatchChange, dispatched, first_ready_task, packets_taken, suspended, taken_event, takes_packet, unchanged, with_nobody, with_resumed, with_suspended}
use Rattle.guest_turns.specs.GuestTurn.{Numbers, numbers_of}
use Rattle.kernel_machine.specs.KernelSteps.Parts.{RunsFirst}
use Rattle.kernel_machine.specs.KernelSteps.Step.{boot_events, dispatch, first_events, run_events}
use Rattle.kernel_machine.specs.KernelSteps.Stepped.{Stepped}
use Rattle.kernel_machine.proofs.KernelSteps.DispatchKept.{GoesOn, dispatch-numbers, runs-first, three-ways}
use Rattle.kernel_machine.proofs.KernelSteps.FaultRule.{rule-valid}
use Rattle.kernel_machine.proofs.KernelSteps.StepKept.{dispatch-residents, dispatch-rules}
use Rattle.kernel_machine.proofs.KernelSteps.TurnRules.{rules-kept}
use Rattle.kernel_boot.specs.declared.refusals.BootRefusal.{BootRefusal}
use Rattle.module_text.specs.TextReader.Steps.{◌>>=◌}
use Rattle.kernel_machine.specs.MachineBoot.Boot.{HasKernel, boot, first_kernel, started, with_lines}
use Rattle.kernel_machine.proofs.MachineBoot.BegunKernels.{HasBegun, begun-dispatches, first-begun, first_numbers, lines-begun}
use Rattle.kernel_machine.proofs.MachineBoot.LoadedDiscs.{no-stream, none-at, none-shut}
use Rattle.kernel_machine.specs.MachineBoot.Booted.{IsFresh}
use Rattle.kernel_machine.proofs.MachineBoot.ReadyTasks.{FreshTasks, free-there, fresh-changed, fresh-found, no-reports, none-unreported}

module _ (s : Session) (h : HasKernel s) where
  lawful-keys : AllByRecursion (λ key. key.0 ≤ most_steps) s.keys
  lawful-keys =
      let machine = subst (λ b. IsLawfulMachine b s) h.full h.lawful.machine in
      all-each IsLawfulKey (λ key. key.0 ≤ most_steps) (λ key lawful. leb-true key.0 most_steps lawful.0) s.keys machine.2

  module _ (k : Kernel) (b : HasBegun s k) where
    -- ---- what the dispatch keeps

    abbrev with_number : ℕ → Numbers → Numbers
    with_number running n = record n { running = running }

    numbers : numbers_of (dispatch k).kernel.lists ≡ record (first_numbers s) { running = (dispatch k).kernel.lists.running }
    unfolding dispatch settled
    numbers = dispatch-numbers (image k) k.lists k.regs ∙ ap (with_number (dispatched (image k) k.lists k.regs).lists.running) b.ready.numbers

    first : AreValid (dispatch k).kernel.lists → RunsFirst (dispatch k).kernel.lists (dispatch k).kernel.regs
    unfolding dispatch settled
    first v = runs-first (image k) k.lists k.regs (begun-dispatches s h k b) v

    pub booted-goes : (dispatch k).kernel.stop ≡ None
    unfolding dispatch settled
    booted-goes = b.stop

    steps : (dispatch k).kernel.steps ≡ 0
    unfolding dispatch settled
    steps = b.steps

    -- ---- the rules of the kernel

    console : IsValidConsole k.lists k.console
    console = record {
      finished = λ some. ap (λ c. c.finished) b.console ∙ sym (ap is_some b.ready.fresh.key);
      delivered = λ some. (let unfinished : k.console.finished ≡ false = ap (λ c. c.finished) b.console in cc);
      line = omega (arith, ap (λ c. length c.line) b.console);
      absent = λ e. b.console;
    }

    shell : IsValidShell k.lists k.shell k.disc
    shell = record {
      typing = ap is_some (no-stream k.disc shell_stream b.disc.shut) ∙ ap (λ c. is_typing c.mode) (sym b.shell);
      awaited = subst (λ c. IsAwaited (highest_id_of k.lists.version) c.mode) (sym b.shell) tt;
      line = omega (arith, ap (λ c. length c.line) b.shell);
      absent = λ e. b.shell;
    }

    disc : IsValidDisc k.lists k.disc
    disc = record { valid = b.disc.valid; absent = λ e. subst AreShut (sym b.disc.shut) (none-shut most_streams) }

    no-pipe : (i : ℕ) → pipe_at k.pipes i ≡ None
    no-pipe i = ap (λ ps. pipe_at ps i) b.pipes ∙ none-at {X = Pipe} most_pipes i

    pipes : AreValidPipes k.lists k.pipes
    pipes = record {
      pipes =
          record {
            places = ap length b.pipes;
            each = λ i p e. (let none = no-pipe i in cc);
            distinct = λ i j p q e f same. (let none = no-pipe i in cc);
          };
      no_residents = λ e. b.pipes;
      first_version = λ e. b.pipes;
    }

    faults : AreValidFaults k.lists
    faults =
        let free : Bool = k.lists.fault_packet_free in
        let ts : List Task = k.lists.tasks in
        let fresh : FreshTasks free ts = b.ready.fresh.tasks in
        rule-valid k.lists
        (λ there. record {
          waits = λ reports. free-there free ts fresh reports ∙ sym (ap not (none-unreported free ts fresh));
          sender = subst (AllByRecursion (Tells ts)) (sym (no-reports free ts fresh)) tt;
        })

    same-numbers : (f : Numbers → ℕ) → ((n : Numbers) (running : ℕ) → f (with_number running n) ≡ f n) → f (numbers_of (dispatch k).kernel.lists) ≡ f (numbers_of k.lists)
    unfolding dispatch settled
    same-numbers f beside = ap f (dispatch-numbers (image k) k.lists k.regs) ∙ beside (numbers_of k.lists) _

    same-residents : (dispatch k).kernel.lists.residents ≡ k.lists.residents
    unfolding dispatch settled
    same-residents = ap (λ n. n.residents) (dispatch-numbers (image k) k.lists k.regs)

    few-ahead : length (dispatch k).kernel.type_ahead ≤ 128
    unfolding dispatch settled
    few-ahead = omega (arith, ap length b.ahead)

    rules : AreValidResidents (dispatch k).kernel
    rules =
        rules-kept k (dispatch k).kernel (dispatch-residents k)
        (record { version = same-numbers (λ n. n.version) (λ n running. refl); residents = same-residents }) (dispatch-rules k) few-ahead
        (record { faults = faults; console = console; shell = shell; disc = disc; pipes = pipes; ahead = omega (arith, ap length b.ahead) })

    last : HasSteps (dispatch k).kernel
    unfolding dispatch settled
    last = record { steps = omega (arith, b.steps); keys = subst (AllByRecursion (λ key. key.0 ≤ most_steps)) (sym b.keys) lawful-keys }

    -- the lists and the plain words are those that a machine stands for
    pub booted-full : AreValid (dispatch k).kernel.lists → HasPlainWords (dispatch k).kernel → IsValid (dispatch k).kernel
    booted-full v plain =
        let runs = first v in
        record {
          lists = v;
          plain = plain;
          ticks = λ goes. ap (λ n. n.tick) numbers ∙ sym (ap (λ n. n / (dispatch k).kernel.lists.period) steps ∙ zero-div (dispatch k).kernel.lists.period);
          running = λ goes. runs.runs;
          registers = runs.registers;
          residents = rules;
          steps = last;
        }

    -- ---- the events

    abbrev m : Lists
    m = with_suspended k.regs k.lists

    nobody-runs : k.lists.running ≡ 0
    nobody-runs = ap (λ n. n.running) b.ready.numbers

    -- the one that ran, if there were one
    still-fresh : FreshTasks k.lists.fault_packet_free m.tasks
    still-fresh = fresh-changed k.lists.fault_packet_free k.lists.running (suspended k.regs) each k.lists.tasks b.ready.fresh.tasks
      where
        each : (t : Task) → IsFresh k.lists.fault_packet_free t → IsFresh k.lists.fault_packet_free (suspended k.regs t)
        each t fresh = record {
          number = fresh.number;
          idle = subst (λ c. cond c 8 t.field ≡ runs → ⊥) (sym (ne_eqb t.field 0 fresh.idle)) fresh.idle;
          takes = fresh.takes;
          fault = fresh.fault;
          reporter = fresh.reporter;
        }

    abbrev Shows : DispatchChange → Type 0
    Shows d = d.events ≡ cond (eqb d.lists.running 0) [] (Runs d.lists.running ∷ [])

    fresh-at : (l : Lists) (t : Task) → FreshTasks k.lists.fault_packet_free l.tasks → first_ready_task l ≡ Some t → IsFresh k.lists.fault_packet_free t
    fresh-at l t all is = subst (λ o. IfSome o (IsFresh k.lists.fault_packet_free)) is (fresh-found k.lists.fault_packet_free is_ready l.tasks all)

    same-task : (t : Task) → GoesOn k.lists t → Shows (unchanged k.lists k.regs)
    same-task t g = absurd ((fresh-at k.lists t b.ready.fresh.tasks g.first).idle g.field)

    nobody : first_ready_task m ≡ None → Shows (with_nobody m)
    nobody none = ap (λ n. cond (eqb n 0) [] (Runs 0 ∷ [])) nobody-runs

    none-taken : (t : Task) → (t.queue ≡ []) ⊎ (is_guest_id t.id ≡ false) → packets_taken t ≡ []
    none-taken t (inl empty) = ap (λ q. packets_taken (record t { queue = q })) empty ∙ on (takes_packet t)
      where
        on : (c : Bool) → ◌≡◌ {A = List QueuedPacket} (cond c [] []) []
        on true = refl
        on false = refl
    none-taken t (inr resident) = ap (λ g. cond (g && (eqb t.field waits || eqb t.field dead)) (take 1 t.queue) []) resident

    next : (t : Task) → first_ready_task m ≡ Some t → Shows (with_resumed (image k) t m)
    next t is =
        let fresh = fresh-at m t still-fresh is in
        let away : t.id ≢ 0 = λ e. absurd (omega (arith, e, fresh.number)) in
        ap (λ ps. map (taken_event t) ps ++ Runs t.id ∷ []) (none-taken t fresh.takes) ∙ sym (ap (λ c. cond c [] (Runs t.id ∷ [])) (ne_eqb t.id 0 away))

    run-event : (dispatch k).events ≡ run_events (dispatch k).kernel.lists.running
    unfolding dispatch settled
    run-event = three-ways (image k) k.lists k.regs Shows same-task nobody next

    pub started-events : (started k).events ≡ boot_events (started k).kernel
    started-events = ap (λ es. first_events k.lists.residents ++ es) run-event ∙ ap (λ r. first_events r ++ run_events (dispatch k).kernel.lists.running) (sym same-residents)

  pub booted-events : (x : Stepped) → boot s ≡ Ok x → x.events ≡ boot_events x.kernel
  unfolding boot
  booted-events x is = on (with_lines s.lines (first_kernel s)) refl is
    where
      on : (r : Result Kernel BootRefusal) → with_lines s.lines (first_kernel s) ≡ r → (r >>= (λ k. Ok (started k))) ≡ Ok x → x.events ≡ boot_events x.kernel
      on (Ok k) e f =
          let same : started k ≡ x = cc in
          subst (λ (y : Stepped). y.events ≡ boot_events y.kernel) same (started-events k (lines-begun s h (first_kernel s) k (first-begun s) e))
      on (Err refusal) e f = cc
