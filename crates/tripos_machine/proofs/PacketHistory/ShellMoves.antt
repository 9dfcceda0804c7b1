-- The turn of the shell.
use Rattle.std.proofs.Common.{◌≡◌, ℕ, ◌≤◌, true, Err, List, [], ◌∷◌, ◌++◌, append_assoc, refl, sym, ap, subst, arith}
use Rattle.word_store.specs.Arithmetic.{signed}
use Rattle.ram_disc.specs.Disc.{Disc}
use Rattle.kernel_lists.specs.OwnedWords.Owned.{written}
use Rattle.kernel_lists.specs.PacketQueue.QueueWords.{QueuedPacket}
use Rattle.kernel_lists.specs.declared.packet_queue.events.KernelEvent.{KernelEvent}
use Rattle.kernel_lists.specs.declared.packet_queue.events.KernelEvent.TheVariants.{Accepted}
use Rattle.kernel_model.specs.KernelRecord.HoldsLists.{HoldsLists}
use Rattle.kernel_model.specs.KernelRecord.Kernel.{Shell}
use Rattle.kernel_model.specs.KernelRecord.Lists.{Lists, has_task}
use Rattle.kernel_model.specs.KernelRecord.StoreWithLists.{StoreWithLists, store_with_lists}
use Rattle.kernel_model.specs.KernelRecord.ValidLists.{AreValid}
use Rattle.kernel_model.specs.KernelRecord.ValidQueues.Place.{Work}
use Rattle.kernel_model.specs.declared.kernel_record.numbers.TheConstants.{SHELL, SHELL_PACKET}
use Rattle.kernel_model.specs.KernelRecord.Changes.{with_task}
use Rattle.kernel_calls.specs.CallAnswers.Guests.{guest_tests}
use Rattle.kernel_calls.specs.CallAnswers.CallChange.{CallChange}
use Rattle.kernel_calls.specs.CallAnswers.Refusals.{first_refusal}
use Rattle.kernel_calls.specs.TaskCalls.ChangePri.{change_pri, priority_tests, with_new_priority}
use Rattle.kernel_calls.specs.TaskCalls.HoldTask.{held, hold, hold_tests}
use Rattle.kernel_calls.specs.TaskCalls.ReleaseTask.{release, release_tests, released}
use Rattle.kernel_calls.specs.TaskCalls.SetFlags.{flagged, set_flags}
use Rattle.kernel_calls.specs.PacketCalls.Destinations.{queue_for}
use Rattle.kernel_calls.specs.PacketCalls.PacketMoves.{sent_packet, with_arrived}
use Rattle.kernel_calls.specs.PacketCalls.QueueWords.{unqueued}
use Rattle.resident_tasks.specs.ResidentRequests.Answers.{finished, returned}
use Rattle.resident_tasks.specs.ResidentRequests.Requests.{RunsResident, request_at, work}
use Rattle.shell.specs.ShellPrograms.ClearedTasks.{cleared}
use Rattle.shell.specs.ShellPrograms.ShellPacket.{HasPacket, post_events, posted, request_words}
use Rattle.shell.specs.ShellPrograms.StartedProgram.{begun, start_program}
use Rattle.shell.proofs.RunningShell.{made-events}
use Rattle.shell.proofs.ShellPrograms.SentRules.{posted-is}
use Rattle.shell.specs.ShellTurn.{shell_turn}
use Rattle.tripos_machine.specs.PacketHistory.Queues.{Moves}
use Rattle.tripos_machine.specs.PacketHistory.SentBy.{AreOfTurn}
use Rattle.tripos_machine.proofs.PacketHistory.CallMoves.{unowned-nowhere}
use Rattle.tripos_machine.proofs.PacketHistory.FirstTaken.{TakesFirst, TakesReads}
use Rattle.tripos_machine.proofs.PacketHistory.Moves.{low-named, move-accepted}
use Rattle.tripos_machine.proofs.PacketHistory.SentEvents.{low-clock, low-reads, turn-accepted}
use Rattle.tripos_machine.proofs.PacketHistory.ShellParts.{Allows, first_event, sent_back, turn-done, without_first}
use Rattle.tripos_machine.proofs.PacketHistory.ShellTurns.{HasOwn, IsShell, first-sender, shell-allows, first-words}
use Rattle.tripos_machine.proofs.PacketHistory.GuestMoves.{change_pri-quiet, hold-quiet, release-quiet, set_flags-quiet}
use Rattle.tripos_machine.proofs.PacketHistory.RequestMoves.{finished-same}
use Rattle.tripos_machine.proofs.PacketHistory.ShellCalls.{begun-same, cleared-same, started-same}
use Rattle.tripos_machine.proofs.PacketHistory.TakenMoves.{MovesInTurn, first-moved, none-moved, returned-moves, still-moved, taken-moves, then-moved}
use Rattle.kernel_model.proofs.KernelDispatch.TakenWork.{signed-low}

-- the turn began with the lists b
module _ (due : KernelEvent → ℕ) (b : Lists) where
  abbrev Led : List KernelEvent → Lists → Type 0
  Led es l = MovesInTurn due (signed SHELL) b es l

  record HasBegun (k : StoreWithLists) (es : List KernelEvent) : Type 0 where
    shell : IsShell k es
    led : Led es k.lists
    none : es ≡ []

  record HasLed (k : StoreWithLists) (es : List KernelEvent) : Type 0 where
    own : HasOwn k es
    led : Led es k.lists

  -- ---- the first packet

  module _ (p : QueuedPacket) (ps : List QueuedPacket) (k : StoreWithLists) (es : List KernelEvent) (is : work k.lists ≡ p ∷ ps) (x : HasBegun k es) where
    abbrev l : Lists
    l = k.lists

    -- it is returned, as the words that taking leaves have it
    abbrev back : CallChange
    back = returned (without_first ps k) (request_at (unqueued k.words (queue_for l (Work l.running)) p.address) p.address) (Err 31)

    low : l.running ≤ 63
    low = omega (arith, x.shell.is)

    first-led : Led (es ++ first_event p k ∷ []) (without_first ps k)
    first-led =
        first-moved due (signed SHELL) b l (without_first ps k) es (first_event p k ∷ []) x.none x.led
        (taken-moves due (signed SHELL) k.words l x.shell.well.holds (Work l.running) p ps is (low-named l.running low) (signed l.running) (signed-low l.running low) (low-clock l.running low))

    back-led : Led ((es ++ first_event p k ∷ []) ++ (sent_back p ps k).events) (sent_back p ps k).lists
    back-led =
        subst (λ s. let m : CallChange = returned (without_first ps k) (request_at s p.address) (Err 31) in Led ((es ++ first_event p k ∷ []) ++ m.events) m.lists) (first-words p ps k es is x.shell)
        (subst (λ fs. Led fs back.lists) (sym (append_assoc es (first_event p k ∷ []) back.events))
        (first-moved due (signed SHELL) b l back.lists es (first_event p k ∷ back.events) x.none x.led
        (returned-moves due (signed SHELL) k.words l x.shell.well.holds (Work l.running) p ps is (low-named l.running low) (signed l.running) (signed-low l.running low) (low-clock l.running low)
        (first-sender p ps k es is x.shell) refl (ap signed (sym x.shell.is)) (Err 31))))

  -- ---- its own

  -- it is sent
  posted-led : (to : ℕ) (k : StoreWithLists) (es : List KernelEvent) → to ≤ 63 → has_task to k.lists.tasks ≡ true → AreValid k.lists → HasPacket k.lists → Led es k.lists → Led (es ++ post_events to) (posted to k).lists
  posted-led to k es low there v packet led =
      let l : Lists = k.lists in
      let p : QueuedPacket = sent_packet k.words l (Work to) SHELL_PACKET SHELL in
      then-moved due (signed SHELL) b l (posted to k).lists es (post_events to) led
      (record {
        moves =
            subst (Moves due l (post_events to)) (sym (posted-is to k low))
            (subst (λ q. Moves due l (Accepted q SHELL_PACKET (signed SHELL) ∷ []) (with_arrived (Work to) p l)) (sym (signed-low to low))
            (move-accepted due l (Work to) p there (low-named to low) (unowned-nowhere l v SHELL_PACKET (packet.words SHELL_PACKET (omega arith) (omega arith))) tt));
        turn = turn-accepted (signed SHELL) (signed to) SHELL_PACKET (low-reads to low);
        takes = tt;
      })
      (tt, tt)

  -- a call about a task
  called-led : (k : StoreWithLists) (es : List KernelEvent) (m : CallChange) → k.lists.running ≡ SHELL → m.events ≡ [] → Moves due k.lists m.events m.lists × AreOfTurn (signed k.lists.running) m.events × TakesFirst m.events
      → Led es k.lists
      → Led (es ++ m.events) m.lists
  called-led k es m is none quiet led =
      then-moved due (signed SHELL) b k.lists m.lists es m.events led (record { moves = quiet.0; turn = subst (λ n. AreOfTurn (signed n) m.events) is quiet.1; takes = quiet.2 })
      (subst TakesReads (sym none) tt)

  -- ---- the turn

  shell-leads : Allows HasBegun HasLed (λ k es. Led es k.lists) (λ l es. Led es l)
  shell-leads =
      record {
        at_clearing = λ k es x. record {
          shell = shell-allows.at_clearing k es x.shell;
          led = still-moved due (signed SHELL) b k.lists (cleared k).lists es (cleared-same k x.shell.well.holds x.shell.well.runs.field) x.led;
          none = ap (λ fs. fs ++ []) x.none;
        };
        at_waiting = λ k es x. x.led;
        at_none = λ k es x. still-moved due (signed SHELL) b k.lists k.lists es refl x.led;
        at_own = λ p ps k es is own x. record { own = shell-allows.at_own p ps k es is own x.shell; led = first-led p ps k es is x };
        at_other = λ p ps k es is x. back-led p ps k es is x;
        console = λ k es x. shell-allows.console k es x.own;
        at_start = λ d name rest pri k es x. record {
          own = shell-allows.at_start d name rest pri k es x.own;
          led = still-moved due (signed SHELL) b k.lists (start_program d name rest pri k).left.lists es (started-same d name rest pri k) x.led;
        };
        at_beginning = λ id k es guest x. record {
          own = shell-allows.at_beginning id k es guest x.own;
          led = still-moved due (signed SHELL) b k.lists (begun id k).lists es (begun-same id k) x.led;
        };
        at_hold = λ id k es x. record { own = shell-allows.at_hold id k es x.own; led = called-led k es (hold k.lists id) x.own.shell.is (made-events (first_refusal (hold_tests k.lists id)) k.lists (with_task id held k.lists)) (hold-quiet due k.lists id) x.led };
        at_release = λ id k es x. record { own = shell-allows.at_release id k es x.own; led = called-led k es (release k.lists id) x.own.shell.is (made-events (first_refusal (release_tests k.lists id)) k.lists (with_task id released k.lists)) (release-quiet due k.lists id) x.led };
        at_priority = λ id pri k es x. record {
          own = shell-allows.at_priority id pri k es x.own;
          led = called-led k es (change_pri k.lists id pri) x.own.shell.is (made-events (first_refusal (guest_tests k.lists id ++ priority_tests k.lists id pri)) k.lists (with_new_priority id pri k.lists)) (change_pri-quiet due k.lists x.own.shell.well.holds.valid id pri) x.led;
        };
        at_flags = λ id flags k es x. record { own = shell-allows.at_flags id flags k es x.own; led = called-led k es (set_flags k.lists id flags) x.own.shell.is (made-events (first_refusal (guest_tests k.lists id)) k.lists (with_task id (flagged flags) k.lists)) (set_flags-quiet due k.lists id flags) x.led };
        at_request = λ to kind k es low there x. posted-led to (store_with_lists (written (request_words kind) k.words) k.lists) es low there x.own.shell.well.holds.valid x.own.packet x.led;
        at_going_on = λ k es x. posted-led SHELL k es (omega arith) x.own.packet.shell x.own.shell.well.holds.valid x.own.packet x.led;
        at_finish = λ k es x. x.led;
        at_stop = λ k es x. x;
        at_end = λ k es x. still-moved due (signed SHELL) b k.lists (finished k.lists) es (finished-same k.lists) x;
      }

pub shell-moves : (due : KernelEvent → ℕ) (s : List ℕ) (l : Lists) (sh : Shell) (d : Disc) → HoldsLists s l → RunsResident l → l.running ≡ SHELL
    → MovesInTurn due (signed l.running) l (shell_turn s l sh d).events (shell_turn s l sh d).store.lists
shell-moves due s l sh d h r is =
    subst (λ n. MovesInTurn due (signed n) l (shell_turn s l sh d).events (shell_turn s l sh d).store.lists) (sym is)
    (turn-done (HasBegun due l) (HasLed due l) (λ k es. Led due l es k.lists) (λ m es. Led due l es m) (shell-leads due l) s l sh d
    (record { shell = record { well = record { holds = h; runs = r }; is = is }; led = none-moved due (signed SHELL) l l refl; none = refl }))
