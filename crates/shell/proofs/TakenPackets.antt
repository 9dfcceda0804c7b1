-- The first packet is taken, and treated.
use Rattle.std.proofs.Common.{◌≡◌, ◌≢◌, ℕ, Bool, false, cond, Option, Some, Ok, Err, List, refl, sym, ap, ◌∙◌, arith, eq-eqb}
use Rattle.std.proofs.lemmas.Bool.{ne_eqb}
use Rattle.kernel_lists.specs.declared.packet_queue.events.KernelEvent.{KernelEvent}
use Rattle.kernel_model.specs.KernelRecord.Kernel.{Shell}
use Rattle.kernel_model.specs.KernelRecord.Lists.{has_task}
use Rattle.kernel_model.specs.KernelRecord.NotedEvents.{NotesAll}
use Rattle.ram_disc.specs.Disc.{Disc}
use Rattle.kernel_calls.specs.CallAnswers.CallChange.{IsMade, minus_one}
use Rattle.kernel_calls.specs.CallAnswers.Outside.{Outside, outside}
use Rattle.resident_tasks.specs.ResidentRequests.Answers.{returned}
use Rattle.resident_tasks.specs.ResidentRequests.Requests.{HasRequest, IsTaken, RunsResident, TakesRequest, first_request, taken, work}
use Rattle.resident_tasks.specs.declared.resident_requests.requests.Request.{Request}
use Rattle.resident_tasks.proofs.ResidentRequests.ResidentTurns.{takes-request}
use Rattle.resident_tasks.proofs.ResidentRequests.TakenRequest.{taken-running}
use Rattle.kernel_model.specs.declared.kernel_record.numbers.TheConstants.{SHELL_PACKET}
use Rattle.shell.specs.DoneParts.{IsDone, IsReady, ShellStart}
use Rattle.shell.specs.ShellTurn.{first_treated, packet_taken, returned_unknown, treated, treated_in}
use Rattle.shell.specs.TurnParts.{ShellTurn}
use Rattle.shell.proofs.DoneParts.{done-then, left-represents}

-- the shell may take a packet
pub shell-takes : {b : ShellStart} {t : List ℕ} {tells : List ℕ → Type 0} {room : ℕ} {now : Outside} {sh : Shell} {d : Disc} {fin : Bool} {x : ShellTurn}
    → IsDone b t tells room now sh d fin x → TakesRequest x.store.lists
shell-takes {x = x} h = takes-request x.store.lists h.represents.keeper.lists.valid h.runs (λ e. omega (arith, e, h.is)) (λ e. omega (arith, e, h.is))

pub done-taken : {b : ShellStart} {t : List ℕ} {tells : List ℕ → Type 0} {room : ℕ} {now : Outside} {sh : Shell} {d : Disc} {fin : Bool} {x : ShellTurn}
    → IsDone b t tells room now sh d fin x → (u : List ℕ) (told : List ℕ → Type 0) (after : ℕ) (o : Option Request) → IsTaken t u told x.store.lists o → after ≡ room
    → (noted : Option (List KernelEvent)) (failed : Bool) → NotesAll now.noted noted now.failed failed (taken x.store.lists).events
    → IsDone b u told after (outside now.shown noted failed) sh d fin (packet_taken x)
done-taken {x = x} h u told after o y room_is noted failed notes =
    done-then h (left-represents h.represents u told after (taken x.store.lists).lists (taken x.store.lists).plain y.lists y.knows room_is) room_is noted failed (taken x.store.lists).events notes y.runs
    (taken-running x.store.lists)

-- the request is that of the first packet
pub taken-treated : (x : ShellTurn) (u : List ℕ) (o : Option Request) → o ≡ first_request u (work x.store.lists) → u ≡ (packet_taken x).store.words → treated o (packet_taken x) ≡ first_treated x
taken-treated x u o is words = ap (λ q. treated q (packet_taken x)) (is ∙ ap (λ s. first_request s (work x.store.lists)) words)

-- ---- a packet of another task

pub done-returned : {b : ShellStart} {t : List ℕ} {tells : List ℕ → Type 0} {room : ℕ} {now : Outside} {sh : Shell} {d : Disc} {fin : Bool} {x : ShellTurn}
    → IsDone b t tells room now sh d fin x → (r : Request) (u : List ℕ) (told : List ℕ → Type 0) (after : ℕ) → IsMade t u told (Ok minus_one) (returned x.store.lists r (Err 31)) → after ≡ room
    → RunsResident (returned x.store.lists r (Err 31)).lists
    → (noted : Option (List KernelEvent)) (failed : Bool) → NotesAll now.noted noted now.failed failed (returned x.store.lists r (Err 31)).events
    → IsDone b u told after (outside now.shown noted failed) sh d fin (returned_unknown r x)
done-returned {x = x} h r u told after y room_is runs noted failed notes =
    let m = returned x.store.lists r (Err 31) in
    done-then h (left-represents h.represents u told after m.lists m.plain y.leaves.lists y.knows room_is) room_is noted failed m.events notes runs refl

pub other-treated : (r : Request) (x : ShellTurn) → r.packet ≢ SHELL_PACKET → returned_unknown r x ≡ treated (Some r) x
other-treated r x ne = ap (λ f. cond f (treated_in x.shell.mode r x) (returned_unknown r x)) (sym (ne_eqb r.packet SHELL_PACKET ne))

-- ---- the shell's own

pub ready-own : {b : ShellStart} {t : List ℕ} {tells : List ℕ → Type 0} {room : ℕ} {now : Outside} {sh : Shell} {d : Disc} {x : ShellTurn}
    → IsDone b t tells room now sh d false x → (r : Request) → HasRequest t x.store.lists r → r.packet ≡ SHELL_PACKET → IsReady b t tells room now sh d x
ready-own {x = x} h r y is =
    record {
      done = h;
      packet = record { shell = ap (λ i. has_task i x.store.lists.tasks) (sym h.is) ∙ h.runs.there; words = λ a low high. y.plain a (omega (arith, low, is)) (omega (arith, high, is)) };
    }

pub own-treated : (r : Request) (x : ShellTurn) (sh : Shell) → sh ≡ x.shell → r.packet ≡ SHELL_PACKET → treated_in sh.mode r x ≡ treated (Some r) x
own-treated r x sh is own =
    ap (λ (s : Shell). treated_in s.mode r x) is ∙ ap (λ f. cond f (treated_in x.shell.mode r x) (returned_unknown r x)) (sym (eq-eqb r.packet SHELL_PACKET own))
