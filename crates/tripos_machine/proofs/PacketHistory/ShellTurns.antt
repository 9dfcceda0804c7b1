-- The turn of the shell leaves valid lists.
use Rattle.std.proofs.Common.{◌≡◌, ℕ, ◌+◌, ◌≤◌, eqb, true, length, Option, Some, None, Result, Err, List, [], ◌∷◌, ◌++◌, append-nil, refl, sym, ap, ◌∙◌, subst, arith}
use Rattle.std.specs.Prelude.{find}
use Rattle.std.specs.List.{AllByRecursion}
use Rattle.ram_disc.specs.Disc.{Disc}
use Rattle.kernel_lists.specs.LinkedList.Places.{without_first as without_first_of}
use Rattle.kernel_lists.specs.OwnedWords.Owned.{written}
use Rattle.kernel_lists.specs.PacketQueue.Queue.{no_queue}
use Rattle.kernel_lists.specs.PacketQueue.QueueWords.{QueuedPacket}
use Rattle.kernel_lists.specs.declared.packet_queue.events.KernelEvent.{KernelEvent}
use Rattle.kernel_model.specs.KernelRecord.Changes.{AreUnowned, queue_of, with_queue, with_task}
use Rattle.kernel_model.specs.KernelRecord.HoldsLists.{HoldsLists}
use Rattle.kernel_model.specs.KernelRecord.Kernel.{Shell}
use Rattle.kernel_model.specs.KernelRecord.Lists.{Lists, has_task}
use Rattle.kernel_model.specs.KernelRecord.Running.{RunsAlive}
use Rattle.kernel_model.specs.KernelRecord.StoreWithLists.{StoreWithLists, store_with_lists}
use Rattle.kernel_model.specs.KernelRecord.Task.{Task}
use Rattle.kernel_model.specs.KernelRecord.ValidLists.{AreValid}
use Rattle.kernel_model.specs.KernelRecord.ValidQueues.{HasGuest, IsValidPacket}
use Rattle.kernel_model.specs.KernelRecord.ValidQueues.Place.{Work}
use Rattle.kernel_model.specs.declared.kernel_record.numbers.TheConstants.{CONSOLE, SHELL, SHELL_PACKET}
use Rattle.kernel_model.proofs.KernelRecord.PacketMoves.{unqueued-unowned}
use Rattle.kernel_model.proofs.KernelRecord.QueuePlaces.{valid-at-place}
use Rattle.kernel_calls.specs.CallAnswers.Guests.{guest_tests}
use Rattle.kernel_calls.specs.CallAnswers.CallChange.{CallChange, done}
use Rattle.kernel_calls.specs.TaskCalls.ChangePri.{change_pri, moved, priority_tests, with_new_priority}
use Rattle.kernel_calls.specs.TaskCalls.DeleteTask.{delete_task, deletion_tests, without_task}
use Rattle.kernel_calls.specs.TaskCalls.HoldTask.{hold, hold_tests, held}
use Rattle.kernel_calls.specs.TaskCalls.ReleaseTask.{release, release_tests, released}
use Rattle.kernel_calls.specs.TaskCalls.SetFlags.{flagged, set_flags}
use Rattle.kernel_calls.specs.PacketCalls.Destinations.{queue_for}
use Rattle.kernel_calls.specs.PacketCalls.PacketMoves.{sent_packet}
use Rattle.kernel_calls.specs.PacketCalls.QueueWords.{unqueued}
use Rattle.kernel_calls.proofs.PacketCalls.Departure.{departed-changed}
use Rattle.kernel_calls.proofs.PacketCalls.SentPackets.{comes-valid}
use Rattle.resident_tasks.specs.ResidentRequests.Answers.{returned}
use Rattle.resident_tasks.specs.ResidentRequests.Requests.{RunsResident, IsForeign, request_at, work}
use Rattle.resident_tasks.proofs.ResidentRequests.ResidentTurns.{takes-request}
use Rattle.kernel_boot.proofs.StoresAfterCalls.{left-is}
use Rattle.shell.specs.ShellPrograms.ClearedTasks.{cleared}
use Rattle.shell.specs.ShellPrograms.KeptLists.{KeepsResidents}
use Rattle.shell.specs.ShellPrograms.ShellPacket.{HasPacket, posted, requested, request_words}
use Rattle.shell.specs.ShellPrograms.StoresWithLists.{left_by}
use Rattle.shell.specs.ShellPrograms.StartedProgram.{begun, start_program}
use Rattle.shell.specs.declared.shell_programs.programs.Priority.{Priority}
use Rattle.shell.proofs.ShellPrograms.KeptRules.{begun-packets, begun-residents, begun-runs, cleared-residents, cleared-runs, started-packets, started-residents, started-runs}
use Rattle.shell.proofs.ShellPrograms.PacketPlace.{packet-five, packet-kept, packet-residents}
use Rattle.shell.proofs.ShellPrograms.PostedPacket.{request-keeper}
use Rattle.shell.proofs.ShellPrograms.SentRules.{posted-is, posted-runs}
use Rattle.shell.specs.ShellTurn.{shell_turn}
use Rattle.shell.proofs.RunningShell.{GoesOn}
use Rattle.shell.proofs.TaskCalls.{IsTaskCall, flags-call, hold-call, priority-call, release-call}
use Rattle.tripos_machine.proofs.PacketHistory.NoKeeper.{no-keeper, tells_nothing}
use Rattle.tripos_machine.proofs.PacketHistory.TaskCalls.{change_pri-valid, delete_task-valid, hold-valid, release-valid, set_flags-valid}
use Rattle.tripos_machine.proofs.PacketHistory.ClearedStores.{all-cleared}
use Rattle.tripos_machine.proofs.PacketHistory.HandlerTurns.{finished-valid}
use Rattle.tripos_machine.proofs.PacketHistory.LeftStores.{call-holds, left-holds}
use Rattle.tripos_machine.proofs.PacketHistory.ShellParts.{Allows, after_first, sent_back, turn-done, without_first}
use Rattle.tripos_machine.proofs.PacketHistory.StartedPrograms.{begun-holds, started-holds, unloaded-holds}
use Rattle.tripos_machine.proofs.PacketHistory.TakenPackets.{returned-runs, returned-valid, runs-then, taken-valid}

-- The store holds the lists, and a resident runs.
pub record GoesWell (k : StoreWithLists) (es : List KernelEvent) : Type 0 where
  pub holds : HoldsLists k.words k.lists
  pub runs : RunsResident k.lists

-- It is the shell.
pub record IsShell (k : StoreWithLists) (es : List KernelEvent) : Type 0 where
  pub well : GoesWell k es
  pub is : k.lists.running ≡ SHELL

-- It has its packet.
pub record HasOwn (k : StoreWithLists) (es : List KernelEvent) : Type 0 where
  pub shell : IsShell k es
  pub packet : HasPacket k.lists

-- so the task with its number is there, and so is the console
shell-there : (l : Lists) → RunsResident l → l.running ≡ SHELL → has_task SHELL l.tasks ≡ true
shell-there l r is = ap (λ i. has_task i l.tasks) (sym is) ∙ r.there

console-there : (l : Lists) → AreValid l → RunsResident l → l.running ≡ SHELL → has_task CONSOLE l.tasks ≡ true
console-there l v r is = v.tasks.console ∙ sym v.tasks.shell ∙ shell-there l r is

-- ---- clearing up

pub deleted-holds : (id : ℕ) (k : StoreWithLists) → RunsAlive k.lists → HoldsLists k.words k.lists → HoldsLists (left_by k.words (delete_task k.lists id)).words (delete_task k.lists id).lists
deleted-holds id k alive h =
    call-holds k.words k.lists (guest_tests k.lists id ++ deletion_tests k.lists id) (done (without_task k.lists id)) h (delete_task-valid k.words k.lists h id alive) refl

cleared-holds : (k : StoreWithLists) → RunsAlive k.lists → HoldsLists k.words k.lists → HoldsLists (cleared k).words (cleared k).lists
cleared-holds k alive h = all-cleared (λ j. HoldsLists j.words j.lists) (λ id j low a x. deleted-holds id j a x) unloaded-holds k alive h

cleared-so : (k : StoreWithLists) (es : List KernelEvent) → IsShell k es → IsShell (cleared k) (es ++ [])
cleared-so k es b =
    record {
      well = record { holds = cleared-holds k b.well.runs.field b.well.holds; runs = cleared-runs k b.well.runs };
      is = ap (λ (l : Lists). l.running) (cleared-residents k).rest ∙ b.is;
    }

-- ---- the first packet is taken

module _ (p : QueuedPacket) (ps : List QueuedPacket) (k : StoreWithLists) (es : List KernelEvent) (is : work k.lists ≡ p ∷ ps) (b : IsShell k es) where
  abbrev l : Lists
  l = k.lists

  h : HoldsLists k.words l
  h = b.well.holds

  foreign : IsForeign l (p ∷ ps)
  foreign = subst (IsForeign l) is (takes-request l h.valid b.well.runs (λ e. absurd (omega (arith, e, b.is))) (λ e. absurd (omega (arith, e, b.is)))).foreign

  valid : AreValid (without_first ps k)
  valid = taken-valid k.words l h (Work l.running) p ps is foreign.0 foreign.1

  first-holds : HoldsLists (after_first p ps k).words (without_first ps k)
  first-holds = left-holds k.words (without_first ps k) ((p.address, no_queue) ∷ []) valid h.size

  first-runs : RunsResident (without_first ps k)
  first-runs = runs-then (Work l.running) ps l b.well.runs

  own-so : (fs : List KernelEvent) → p.address ≡ SHELL_PACKET → HasOwn (after_first p ps k) fs
  own-so fs own =
      record {
        shell = record { well = record { holds = first-holds; runs = first-runs }; is = b.is };
        packet = record {
          shell = shell-there (without_first ps k) first-runs b.is;
          words = subst (λ a. AreUnowned (without_first ps k) a (a + 5)) own (unqueued-unowned l (Work l.running) p [] ps h.valid is);
        };
      }

  -- the words, as taking leaves them
  abbrev words : List ℕ
  words = unqueued k.words (queue_for l (Work l.running)) p.address

  pub first-words : words ≡ (after_first p ps k).words
  first-words = left-is k.words words (without_first ps k) ((p.address, no_queue) ∷ []) (departed-changed k.words l (Work l.running) p [] ps h is _ valid refl)

  pub first-sender : has_task p.sender l.tasks ≡ true
  first-sender = (subst (AllByRecursion (IsValidPacket l (Work l.running))) is (valid-at-place l (Work l.running) h.valid b.well.runs.there)).0.sender foreign.0 b.well.runs.resident

  back-so : (fs : List KernelEvent) → GoesWell (left_by (after_first p ps k).words (sent_back p ps k)) fs
  back-so fs =
      subst (λ s. GoesWell (left_by (after_first p ps k).words (returned (without_first ps k) (request_at s p.address) (Err 31))) fs) first-words
      (record {
        holds = left-holds (after_first p ps k).words (returned (without_first ps k) (request_at words p.address) (Err 31)).lists [] (returned-valid k.words l h (Work l.running) p ps is foreign.0 foreign.1 first-sender b.well.runs (Err 31)) first-holds.size;
        runs = returned-runs k.words l h (Work l.running) p ps is foreign.0 foreign.1 first-sender b.well.runs (Err 31);
      })

-- ---- a program

started-so : (d : Disc) (name : List ℕ) (rest : Result (Unit {0}) ℕ) (pri : Priority) (k : StoreWithLists) (es fs : List KernelEvent) → HasOwn k es → HasOwn (start_program d name rest pri k).left fs
started-so d name rest pri k es fs x =
    let kept : KeepsResidents k.lists (start_program d name rest pri k).left.lists = started-residents d name rest pri k in
    let h = started-holds d name rest pri k x.shell.well.holds in
    record {
      shell = record { well = record { holds = h; runs = started-runs d name rest pri k x.shell.well.runs }; is = ap (λ (l : Lists). l.running) kept.rest ∙ x.shell.is };
      packet = packet-kept k.lists _ x.shell.well.holds.valid h.valid kept (started-packets d name rest pri k) x.packet;
    }

begun-so : (id : ℕ) (k : StoreWithLists) (es fs : List KernelEvent) → HasGuest k.lists id → HasOwn k es → HasOwn (begun id k) fs
begun-so id k es fs guest x =
    let h = begun-holds id k guest x.shell.well.holds in
    record {
      shell = record { well = record { holds = h; runs = begun-runs id k guest.0 x.shell.well.runs }; is = x.shell.is };
      packet = packet-kept k.lists _ x.shell.well.holds.valid h.valid (begun-residents id k) (begun-packets id k) x.packet;
    }

-- ---- a call about a task

called-so : (call : Lists → CallChange) → IsTaskCall call → (k : StoreWithLists) (es fs : List KernelEvent) → HoldsLists (left_by k.words (call k.lists)).words (call k.lists).lists → HasOwn k es → HasOwn (left_by k.words (call k.lists)) fs
called-so call is k es fs h x =
    let goes : GoesOn k.lists (call k.lists) = is.goes k.words _ k.lists x.shell.well.holds h x.shell.is x.shell.well.runs in
    let still = goes.running ∙ x.shell.is in
    record {
      shell = record { well = record { holds = h; runs = goes.runs }; is = still };
      packet = record { shell = shell-there (call k.lists).lists goes.runs still; words = λ a low high. is.owns k.words k.lists x.shell.well.holds a ∙ x.packet.words a low high };
    }

priority-size : (id pri : ℕ) (l : Lists) → (with_new_priority id pri l).size ≡ l.size
priority-size id pri l = on (find (λ t. eqb t.id id) l.tasks)
  where
    on : (o : Option Task) → (moved pri o (without_first_of (λ t. eqb t.id id) l.tasks) l).size ≡ l.size
    on None = refl
    on (Some t) = refl

-- ---- its packet is sent

posted-so : (to : ℕ) (k : StoreWithLists) (es : List KernelEvent) → to ≤ 63 → has_task to k.lists.tasks ≡ true → HoldsLists k.words k.lists → RunsResident k.lists → HasPacket k.lists → GoesWell (posted to k) es
posted-so to k es low there h r packet =
    let l : Lists = k.lists in
    let q : QueuedPacket = sent_packet k.words l (Work to) SHELL_PACKET SHELL in
    let ps : List QueuedPacket = queue_of (Work to) l in
    let valid : AreValid (with_queue (Work to) (ps ++ q ∷ []) l) =
    comes-valid k.words l (Work to) q h there (packet-five l h.valid (packet-residents l h.valid packet)) packet.words (λ _. packet.shell) ps [] (sym (append-nil ps)) tt
    in
    let same = posted-is to k low in
    record {
      holds = left-holds k.words (posted to k).lists [] (subst AreValid (sym same) valid) (h.size ∙ sym (ap (λ (m : Lists). m.size) same));
      runs = posted-runs to k low r;
    }

requested-so : (to kind : ℕ) (k : StoreWithLists) (es fs : List KernelEvent) → to ≤ 63 → has_task to k.lists.tasks ≡ true → HasOwn k es → GoesWell (requested to kind k) fs
requested-so to kind k es fs low there x =
    posted-so to (store_with_lists (written (request_words kind) k.words) k.lists) fs low there
    (request-keeper k.words k.lists to kind tells_nothing (length k.words) (no-keeper k.words k.lists x.shell.well.holds) (record { packet = x.packet; there = there })).lists
    x.shell.well.runs x.packet

-- ---- the turn

pub shell-allows : Allows IsShell HasOwn GoesWell (λ l es. AreValid l)
shell-allows =
    record {
      at_clearing = cleared-so;
      at_waiting = λ k es b. record { holds = b.well.holds; runs = b.well.runs };
      at_none = λ k es b. record { holds = left-holds k.words k.lists [] b.well.holds.valid b.well.holds.size; runs = b.well.runs };
      at_own = λ p ps k es is own b. own-so p ps k es is b _ own;
      at_other = λ p ps k es is b. back-so p ps k es is b _;
      console = λ k es x. console-there k.lists x.shell.well.holds.valid x.shell.well.runs x.shell.is;
      at_start = λ d name rest pri k es x. started-so d name rest pri k es _ x;
      at_beginning = λ id k es guest x. begun-so id k es _ guest x;
      at_hold = λ id k es x.
          let h = x.shell.well.holds in
          called-so (λ l. hold l id) (hold-call id) k es _ (call-holds k.words k.lists (hold_tests k.lists id) (done (with_task id held k.lists)) h (hold-valid k.lists h.valid id) refl) x;
      at_release = λ id k es x.
          let h = x.shell.well.holds in
          called-so (λ l. release l id) (release-call id) k es _ (call-holds k.words k.lists (release_tests k.lists id) (done (with_task id released k.lists)) h (release-valid k.lists h.valid id) refl) x;
      at_priority = λ id pri k es x.
          let h = x.shell.well.holds in
          called-so (λ l. change_pri l id pri) (priority-call id pri) k es _
          (call-holds k.words k.lists (guest_tests k.lists id ++ priority_tests k.lists id pri) (done (with_new_priority id pri k.lists)) h (change_pri-valid k.words k.lists h id pri) (priority-size id pri k.lists)) x;
      at_flags = λ id flags k es x.
          let h = x.shell.well.holds in
          called-so (λ l. set_flags l id flags) (flags-call id flags) k es _ (call-holds k.words k.lists (guest_tests k.lists id) (done (with_task id (flagged flags) k.lists)) h (set_flags-valid k.lists h.valid id flags) refl) x;
      at_request = λ to kind k es low there x. requested-so to kind k es _ low there x;
      at_going_on = λ k es x. posted-so SHELL k _ (omega arith) x.packet.shell x.shell.well.holds x.shell.well.runs x.packet;
      at_finish = λ k es x. x.shell.well;
      at_stop = λ k es x. x.holds.valid;
      at_end = λ k es x. finished-valid k.words k.lists x.holds x.runs;
    }

pub shell-valid : (s : List ℕ) (l : Lists) (sh : Shell) (d : Disc) → HoldsLists s l → RunsResident l → l.running ≡ SHELL → AreValid (shell_turn s l sh d).store.lists
shell-valid s l sh d h r is = turn-done IsShell HasOwn GoesWell (λ l es. AreValid l) shell-allows s l sh d (record { well = record { holds = h; runs = r }; is = is })
