-- The console's turn leaves valid lists.
use Rattle.std.proofs.Common.{◌≡◌, ℕ, true, false, is_some, length, Some, List, [], ◌∷◌, refl, sym, ap, ◌∙◌, subst, arith}
use Rattle.std.specs.List.{AllByRecursion}
use Rattle.std.proofs.lemmas.Bool.{false_from_ne_true}
use Rattle.kernel_lists.specs.OwnedWords.Owned.{Pairs}
use Rattle.kernel_lists.specs.PacketQueue.QueueWords.{QueuedPacket}
use Rattle.kernel_lists.specs.declared.packet_queue.events.KernelEvent.{KernelEvent}
use Rattle.kernel_model.specs.KernelRecord.Changes.{with_key, with_queue, with_task}
use Rattle.kernel_model.specs.KernelRecord.HoldsLists.{HoldsLists}
use Rattle.kernel_model.specs.KernelRecord.Kernel.{Console}
use Rattle.kernel_model.specs.KernelRecord.Lists.{Lists, has_task}
use Rattle.kernel_model.specs.KernelRecord.Residents.{key_packet, keyboard}
use Rattle.kernel_model.specs.KernelRecord.ValidLists.{AreValid}
use Rattle.kernel_model.specs.KernelRecord.ValidQueues.{IsFaultPacket, IsKeyPacket, IsValidPacket, is_fault_packet, is_key_packet}
use Rattle.kernel_model.specs.KernelRecord.ValidQueues.Place.{Pending, Work}
use Rattle.kernel_model.specs.declared.kernel_record.numbers.TheConstants.{CONSOLE}
use Rattle.kernel_model.proofs.KernelRecord.QueuePlaces.{valid-at-place}
use Rattle.kernel_model.proofs.KernelRecord.ResidentPackets.{key_unqueued-valid}
use Rattle.kernel_calls.specs.CallAnswers.Guests.{guest_tests}
use Rattle.kernel_calls.specs.CallAnswers.CallChange.{done}
use Rattle.kernel_calls.specs.CallAnswers.Refusals.{first_refusal}
use Rattle.kernel_calls.specs.TaskCalls.SetFlags.{flagged, set_flags}
use Rattle.kernel_calls.specs.PacketCalls.Destinations.{queue_for}
use Rattle.kernel_calls.specs.PacketCalls.QueueWords.{unqueued}
use Rattle.kernel_calls.specs.PacketCalls.SendOwn.{send_own}
use Rattle.kernel_calls.proofs.PacketCalls.OwnPackets.{keys-sent}
use Rattle.resident_tasks.specs.ResidentRequests.Answers.{returned}
use Rattle.resident_tasks.specs.ResidentRequests.Requests.{RunsResident, work}
use Rattle.resident_tasks.specs.ConsoleHandler.ConsoleTurn.{all_parts, treated, with_keys_sent}
use Rattle.resident_tasks.specs.ConsoleHandler.Deliveries.{delivery}
use Rattle.resident_tasks.specs.ConsoleHandler.TurnParts.{ConsoleTurn, begun, settled_words}
use Rattle.resident_tasks.specs.ConsoleHandler.Reads.{put_off}
use Rattle.resident_tasks.proofs.ConsoleHandler.SentKeys.{can-send}
use Rattle.shell.proofs.RunningShell.{GoesOn, flags-goes}
use Rattle.tripos_machine.proofs.PacketHistory.NoKeeper.{no-keeper, tells_nothing}
use Rattle.tripos_machine.proofs.PacketHistory.TaskCalls.{set_flags-valid}
use Rattle.tripos_machine.proofs.PacketHistory.ConsoleParts.{Allows, parts-on, read_request, without_work, work_request}
use Rattle.tripos_machine.proofs.PacketHistory.HandlerTurns.{finished-valid}
use Rattle.tripos_machine.proofs.PacketHistory.LeftStores.{made-size, settled-holds}
use Rattle.tripos_machine.proofs.PacketHistory.TakenPackets.{put_off-valid, returned-runs, returned-valid, runs-then}

-- The words are those of a store that holds these lists, and the console runs.
pub record IsConsole (s : List ℕ) (l : Lists) (es : List KernelEvent) : Type 0 where
  pub holds : HoldsLists s l
  pub runs : RunsResident l
  pub is : l.running ≡ CONSOLE

-- so there are residents
pub has-residents : (s : List ℕ) (l : Lists) (es : List KernelEvent) → IsConsole s l es → l.residents ≡ true
has-residents s l es x = sym x.holds.valid.tasks.console ∙ ap (λ i. has_task i l.tasks) (sym x.is) ∙ x.runs.there

-- the lists that a part leaves
left-so : (s : List ℕ) (l m : Lists) (es fs : List KernelEvent) (plain : Pairs) → IsConsole s l es → AreValid m → m.size ≡ l.size → RunsResident m → m.running ≡ l.running → IsConsole (settled_words s m plain) m fs
left-so s l m es fs plain x v size runs same = record { holds = settled-holds s m plain v (x.holds.size ∙ sym size); runs = runs; is = same ∙ x.is }

-- ---- packets that come to the console

module _ (s : List ℕ) (l : Lists) (es : List KernelEvent) (x : IsConsole s l es) (p : QueuedPacket) (ps : List QueuedPacket) where
  module _ (is : work l ≡ p ∷ ps) where
    work-valid : IsValidPacket l (Work l.running) p
    work-valid = (subst (AllByRecursion (IsValidPacket l (Work l.running))) is (valid-at-place l (Work l.running) x.holds.valid x.runs.there)).0

    work-no_fault : is_fault_packet l p ≡ false
    work-no_fault = false_from_ne_true (is_fault_packet l p) (λ e. (let i : IsFaultPacket (Work l.running) p = work-valid.fault e in let at = i.place in let two : l.running ≡ 2 = cc in absurd (omega (arith, two, x.is))))

    pub work-sender : is_key_packet l p ≡ false → has_task p.sender l.tasks ≡ true
    work-sender no_key = work-valid.sender no_key x.runs.resident

  module _ (is : l.pending ≡ p ∷ ps) where
    read-valid : IsValidPacket l Pending p
    read-valid = (subst (AllByRecursion (IsValidPacket l Pending)) is x.holds.valid.queues.pending).0

    read-no_key : is_key_packet l p ≡ false
    read-no_key = false_from_ne_true (is_key_packet l p) (λ e. (let i : IsKeyPacket Pending p = read-valid.key e in i.place))

    read-no_fault : is_fault_packet l p ≡ false
    read-no_fault = false_from_ne_true (is_fault_packet l p) (λ e. (let i : IsFaultPacket Pending p = read-valid.fault e in let at = i.place in cc))

    pub read-sender : has_task p.sender l.tasks ≡ true
    read-sender = read-valid.sender read-no_key

-- ---- the turn

-- the key packet comes to the keyboard
keys-valid : (s : List ℕ) (l : Lists) → HoldsLists s l → is_some l.key ≡ true → AreValid (send_own s l key_packet CONSOLE keyboard).lists
keys-valid s l h off =
    (keys-sent s tells_nothing (length s) l key_packet CONSOLE keyboard (no-keeper s l h) (can-send l off) _ refl _ refl refl).leaves.lists.lists.valid

pub console-allows : Allows IsConsole
console-allows =
    record {
      at_keys = λ s l es p ps none is own x.
          let r : RunsResident (without_work ps l) = runs-then (Work l.running) ps l x.runs in
          left-so s l (with_key (Some p.res1) (without_work ps l)) es _ [] x (key_unqueued-valid l (Work l.running) p [] ps x.holds.valid is own) refl
          (record { resident = r.resident; there = r.there; field = r.field }) refl;
      at_flags = λ s l es id flags x.
          let goes : GoesOn l (set_flags l id flags) = flags-goes l id flags x.runs in
          left-so s l (set_flags l id flags).lists es _ [] x (set_flags-valid l x.holds.valid id flags) (made-size (first_refusal (guest_tests l id)) l (done (with_task id (flagged flags) l)) refl) goes.runs goes.running;
      at_answer = λ s l es p ps answer none is no_key x.
          let no_fault = work-no_fault s l es x p ps is in
          let from = work-sender s l es x p ps is no_key in
          left-so s l (returned (without_work ps l) (work_request s l p) answer).lists es _ [] x (returned-valid s l x.holds (Work l.running) p ps is no_key no_fault from x.runs answer) refl
          (returned-runs s l x.holds (Work l.running) p ps is no_key no_fault from x.runs answer) refl;
      at_read = λ s l es p ps none is no_key x.
          let no_fault = work-no_fault s l es x p ps is in
          let from = work-sender s l es x p ps is no_key in
          let r : RunsResident (without_work ps l) = runs-then (Work l.running) ps l x.runs in
          left-so s l (put_off (unqueued s (queue_for l (Work l.running)) p.address) (without_work ps l) (work_request s l p)).lists es _ [] x
          (put_off-valid s l x.holds (Work l.running) p ps is no_key no_fault from (has-residents s l es x)) refl
          (record { resident = r.resident; there = r.there; field = r.field }) refl;
      at_delivery = λ s l es p ps answer plain is x.
          let no_key = read-no_key s l es x p ps is in
          let no_fault = read-no_fault s l es x p ps is in
          let from = read-sender s l es x p ps is in
          left-so s l (returned (with_queue Pending ps l) (read_request s l p) answer).lists es _ plain x (returned-valid s l x.holds Pending p ps is no_key no_fault from x.runs answer) refl
          (returned-runs s l x.holds Pending p ps is no_key no_fault from x.runs answer) refl;
      at_sending = λ s l es off x.
          left-so s l (send_own s l key_packet CONSOLE keyboard).lists es _ [] x (keys-valid s l x.holds off) refl (record { resident = x.runs.resident; there = x.runs.there; field = x.runs.field }) refl;
    }

pub console-valid : (id : ℕ) (c : Console) (k s : List ℕ) (l : Lists) → HoldsLists s l → RunsResident l → l.running ≡ CONSOLE → AreValid (all_parts id (begun s l c k)).lists
console-valid id c k s l h r is =
    let g : ConsoleTurn = begun s l c k in
    let d : ConsoleTurn = with_keys_sent (delivery (treated id (work g.lists) g)) in
    let x : IsConsole d.words d.lists d.events = parts-on IsConsole console-allows id g refl (record { holds = h; runs = r; is = is }) in
    finished-valid d.words d.lists x.holds x.runs
