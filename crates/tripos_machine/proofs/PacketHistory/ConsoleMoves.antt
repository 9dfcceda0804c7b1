-- The turn of the console.
use Rattle.std.proofs.Common.{◌≡◌, ℕ, ◌≤◌, ◌&&◌, Bool, true, false, not, is_some, Some, None, Result, List, [], ◌∷◌, ◌++◌, refl, sym, ap, ◌∙◌, subst, arith}
use Rattle.word_store.specs.Arithmetic.{signed}
use Rattle.kernel_lists.specs.PacketQueue.QueueWords.{QueuedPacket}
use Rattle.kernel_lists.specs.declared.packet_queue.events.KernelEvent.{KernelEvent}
use Rattle.kernel_lists.specs.declared.packet_queue.events.KernelEvent.TheVariants.{Accepted}
use Rattle.kernel_model.specs.KernelRecord.Changes.{with_key, with_queue}
use Rattle.kernel_model.specs.KernelRecord.HoldsLists.{HoldsLists}
use Rattle.kernel_model.specs.KernelRecord.Kernel.{Console}
use Rattle.kernel_model.specs.KernelRecord.Lists.{Lists, is_queued}
use Rattle.kernel_model.specs.KernelRecord.Residents.{key_packet, keyboard}
use Rattle.kernel_model.specs.KernelRecord.ValidQueues.{is_key_packet}
use Rattle.kernel_model.specs.KernelRecord.ValidQueues.Place.{Keyboard, Pending, Work}
use Rattle.kernel_model.specs.declared.kernel_record.numbers.TheConstants.{CONSOLE, PENDING}
use Rattle.kernel_calls.specs.TaskCalls.SetFlags.{set_flags}
use Rattle.kernel_calls.specs.PacketCalls.Destinations.{queue_for}
use Rattle.kernel_calls.specs.PacketCalls.PacketMoves.{sent_packet, with_arrived}
use Rattle.kernel_calls.specs.PacketCalls.QueueWords.{unqueued}
use Rattle.kernel_calls.specs.PacketCalls.SendOwn.{send_own}
use Rattle.resident_tasks.specs.ResidentRequests.Answers.{finished, returned}
use Rattle.resident_tasks.specs.ResidentRequests.Requests.{RunsResident, work}
use Rattle.resident_tasks.specs.ConsoleHandler.ConsoleTurn.{console_turn, treated, with_keys_sent}
use Rattle.resident_tasks.specs.ConsoleHandler.Deliveries.{delivery}
use Rattle.resident_tasks.specs.ConsoleHandler.TurnParts.{ConsoleTurn, begun}
use Rattle.resident_tasks.specs.ConsoleHandler.Reads.{put_off}
use Rattle.shell.proofs.RunningShell.{flags-goes}
use Rattle.tripos_machine.proofs.PacketHistory.Ledgers.{ledger-same}
use Rattle.tripos_machine.proofs.PacketHistory.Moves.{low-named, move-accepted, moves-same}
use Rattle.tripos_machine.proofs.PacketHistory.SentEvents.{low-clock, turn-accepted}
use Rattle.tripos_machine.proofs.PacketHistory.ConsoleParts.{Allows, parts-on, read_event, read_request, without_work, work_event, work_request}
use Rattle.tripos_machine.proofs.PacketHistory.ConsoleTurns.{IsConsole, console-allows, has-residents, read-sender, work-sender}
use Rattle.tripos_machine.proofs.PacketHistory.GuestMoves.{set_flags-quiet}
use Rattle.tripos_machine.proofs.PacketHistory.FirstTaken.{TakesReads}
use Rattle.tripos_machine.proofs.PacketHistory.FreePackets.{unqueued-nowhere}
use Rattle.tripos_machine.proofs.PacketHistory.RequestMoves.{TurnMoves, finished-same}
use Rattle.tripos_machine.proofs.PacketHistory.TakenMoves.{MovesInTurn, first-moved, none-moved, put_off-moves, returned-moves, same-moved, taken-moves, then-moved}
use Rattle.kernel_model.proofs.KernelDispatch.TakenWork.{signed-low}

module _ (due : KernelEvent → ℕ) where
  -- they lead there in the console's turn
  abbrev Leads : Lists → List KernelEvent → Lists → Type 0
  Leads = MovesInTurn due (signed CONSOLE)

  -- ---- packets that come to the console

  module _ (s : List ℕ) (l : Lists) (es : List KernelEvent) (x : IsConsole s l es) (p : QueuedPacket) (ps : List QueuedPacket) where
    low : l.running ≤ 63
    low = omega (arith, x.is)

    module _ (is : work l ≡ p ∷ ps) where
      keys-lead : Leads l (work_event l p ∷ []) (with_key (Some p.res1) (without_work ps l))
      keys-lead =
          same-moved due (signed CONSOLE) l (without_work ps l) (with_key (Some p.res1) (without_work ps l)) (work_event l p ∷ []) (ledger-same (without_work ps l) (with_key (Some p.res1) (without_work ps l)) (λ n. refl) refl refl refl refl)
          (taken-moves due (signed CONSOLE) s l x.holds (Work l.running) p ps is (low-named l.running low) (signed l.running) (signed-low l.running low) (low-clock l.running low))

      answer-leads : is_key_packet l p ≡ false → (answer : Result ℕ ℕ) → let m = returned (without_work ps l) (work_request s l p) answer in
          Leads l (work_event l p ∷ m.events) m.lists
      answer-leads no_key answer =
          returned-moves due (signed CONSOLE) s l x.holds (Work l.running) p ps is (low-named l.running low) (signed l.running) (signed-low l.running low) (low-clock l.running low) (work-sender s l es x p ps is no_key)
          refl (ap signed (sym x.is)) answer

      read-leads : is_key_packet l p ≡ false → let m = put_off (unqueued s (queue_for l (Work l.running)) p.address) (without_work ps l) (work_request s l p) in
          Leads l (work_event l p ∷ m.events) m.lists
      read-leads no_key =
          put_off-moves due (signed CONSOLE) s l x.holds (Work l.running) p ps is (low-named l.running low) (signed l.running) (signed-low l.running low) (low-clock l.running low) (work-sender s l es x p ps is no_key)
          (ap signed x.is) (has-residents s l es x)

    delivery-leads : l.pending ≡ p ∷ ps → (answer : Result ℕ ℕ) → let m = returned (with_queue Pending ps l) (read_request s l p) answer in
        Leads l (read_event p ∷ m.events) m.lists
    delivery-leads is answer = returned-moves due (signed CONSOLE) s l x.holds Pending p ps is tt (signed PENDING) refl refl (read-sender s l es x p ps is) refl (ap signed (sym x.is)) answer

  -- ---- the key packet is sent

  sending-leads : (s : List ℕ) (l : Lists) → HoldsLists s l → is_some l.key ≡ true → let m = send_own s l key_packet CONSOLE keyboard in
      Leads l m.events m.lists
  sending-leads s l h off =
      let q : QueuedPacket = sent_packet s l Keyboard key_packet CONSOLE in
      let n : Lists = with_key None (with_arrived Keyboard q l) in
      record {
        moves =
            moves-same due l (with_arrived Keyboard q l) n (Accepted (signed keyboard) key_packet (signed CONSOLE) ∷ []) (ledger-same (with_arrived Keyboard q l) n (λ i. refl) refl refl refl refl)
            (move-accepted due l Keyboard q tt tt (unqueued-nowhere l h.valid key_packet (off-queue l.residents (is_queued key_packet l) (sym off ∙ h.valid.queues.key))) tt);
        turn = turn-accepted (signed CONSOLE) (signed keyboard) key_packet refl;
        takes = tt;
      }
    where
      off-queue : (c d : Bool) → true ≡ (c && not d) → d ≡ false
      off-queue true true e = cc
      off-queue true false e = refl
      off-queue false d e = cc

  -- ---- the turn, which began with the lists b

  module _ (b : Lists) where
    record HasLed (s : List ℕ) (l : Lists) (es : List KernelEvent) : Type 0 where
      console : IsConsole s l es
      moved : Leads b es l

    first-led : (s t : List ℕ) (l m : Lists) (es fs : List KernelEvent) → es ≡ [] → HasLed s l es → IsConsole t m (es ++ fs) → Leads l fs m → HasLed t m (es ++ fs)
    first-led s t l m es fs none x console moved = record { console = console; moved = first-moved due (signed CONSOLE) b l m es fs none x.moved moved }

    then-led : (s t : List ℕ) (l m : Lists) (es fs : List KernelEvent) → HasLed s l es → IsConsole t m (es ++ fs) → Leads l fs m → TakesReads fs → HasLed t m (es ++ fs)
    then-led s t l m es fs x console moved reads = record { console = console; moved = then-moved due (signed CONSOLE) b l m es fs x.moved moved reads }

    flags-lead : (s : List ℕ) (l : Lists) (es : List KernelEvent) (id flags : ℕ) → HasLed s l es → Leads l [] (set_flags l id flags).lists
    flags-lead s l es id flags x =
        let quiet = set_flags-quiet due l id flags in
        subst (λ n. MovesInTurn due (signed n) l [] (set_flags l id flags).lists) x.console.is
        (subst (λ fs. MovesInTurn due (signed l.running) l fs (set_flags l id flags).lists) (flags-goes l id flags x.console.runs).events (record { moves = quiet.0; turn = quiet.1; takes = quiet.2 }))

    console-leads : Allows HasLed
    console-leads =
        record {
          at_keys = λ s l es p ps none is own x. first-led s _ l _ es _ none x (console-allows.at_keys s l es p ps none is own x.console) (keys-lead s l es x.console p ps is);
          at_flags = λ s l es id flags x. then-led s _ l _ es [] x (console-allows.at_flags s l es id flags x.console) (flags-lead s l es id flags x) tt;
          at_answer = λ s l es p ps answer none is no_key x. first-led s _ l _ es _ none x (console-allows.at_answer s l es p ps answer none is no_key x.console) (answer-leads s l es x.console p ps is no_key answer);
          at_read = λ s l es p ps none is no_key x. first-led s _ l _ es _ none x (console-allows.at_read s l es p ps none is no_key x.console) (read-leads s l es x.console p ps is no_key);
          at_delivery = λ s l es p ps answer plain is x. then-led s _ l _ es _ x (console-allows.at_delivery s l es p ps answer plain is x.console) (delivery-leads s l es x.console p ps is answer) (refl, (tt, tt));
          at_sending = λ s l es off x. then-led s _ l _ es _ x (console-allows.at_sending s l es off x.console) (sending-leads s l x.console.holds off) (tt, tt);
        }

pub console-moves : (due : KernelEvent → ℕ) (id : ℕ) (c : Console) (k s : List ℕ) (l : Lists) → HoldsLists s l → RunsResident l → l.running ≡ CONSOLE → TurnMoves due l (console_turn id c k s l)
console-moves due id c k s l h r is =
    let g : ConsoleTurn = begun s l c k in
    let d : ConsoleTurn = with_keys_sent (delivery (treated id (work g.lists) g)) in
    let x : HasLed due l d.words d.lists d.events = parts-on (HasLed due l) (console-leads due l) id g refl
    (record { console = record { holds = h; runs = r; is = is }; moved = none-moved due (signed CONSOLE) l l refl })
    in
    subst (λ n. MovesInTurn due (signed n) l d.events (finished d.lists)) (sym is) (same-moved due (signed CONSOLE) l d.lists (finished d.lists) d.events (finished-same d.lists) x.moved)
