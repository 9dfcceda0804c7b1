-- The whole turn: its beginning and its end.
use Rattle.std.proofs.Common.{◌≡◌, ℕ, Bool, true, false, cond, Some, None, List, [], ◌∷◌, append-nil, refl, sym, ap, subst}
use Rattle.kernel_lists.specs.PacketQueue.QueueWords.{QueuedPacket}
use Rattle.kernel_model.specs.KernelRecord.ChangedStore.{HasKeeper}
use Rattle.kernel_model.specs.KernelRecord.Kernel.{Shell}
use Rattle.kernel_model.specs.KernelRecord.Lists.{Lists}
use Rattle.kernel_model.proofs.KernelRecord.ChangedLists.{knows-same}
use Rattle.kernel_model.proofs.KernelRecord.NotedInTurn.{notes-none, notes-then}
use Rattle.ram_disc.specs.Disc.{Disc}
use Rattle.kernel_calls.specs.CallAnswers.Outside.{Outside}
use Rattle.kernel_calls.specs.PacketCalls.TaskWait.{first_of_queue}
use Rattle.kernel_model.specs.KernelRecord.StoreWithLists.{left_with}
use Rattle.resident_tasks.specs.ResidentRequests.Answers.{IsFinished, finished}
use Rattle.resident_tasks.specs.ResidentRequests.Requests.{work}
use Rattle.shell.specs.ShellPrograms.ClearedTasks.{cleared}
use Rattle.shell.specs.ShellPrograms.StoresWithLists.{RepresentsStoreWithLists}
use Rattle.shell.proofs.ShellPrograms.KeptRules.{cleared-residents, cleared-runs}
use Rattle.shell.specs.DoneParts.{IsDone, IsShellTurn, ShellStart}
use Rattle.shell.specs.ShellTurn.{RunsShell, all_parts, ended, first_treated, shell_turn, with_cleared}
use Rattle.shell.specs.TurnParts.{ShellTurn, and_then, begun}
use Rattle.shell.proofs.DoneParts.{done-quietly, left-represents}

abbrev start : Outside → ℕ → ShellStart
start o room = record { outside = o; room = room }

pub done-begun : (s : List ℕ) (tells : List ℕ → Type 0) (room : ℕ) (o : Outside) (l : Lists) (sh : Shell) (d : Disc) → HasKeeper s tells room l → RunsShell l sh d
    → IsDone (start o room) s tells room o sh d false (begun s l sh d)
done-begun s tells room o l sh d k r =
    record {
      represents = record { words = refl; keeper = k };
      room = refl;
      bytes = sym (append-nil o.shown);
      notes = notes-none o.noted o.failed;
      shell = refl;
      disc = refl;
      finished = refl;
      runs = r.runs;
      is = r.is;
    }

-- the shell has cleared up
pub done-cleared : {b : ShellStart} {t : List ℕ} {tells : List ℕ → Type 0} {room : ℕ} {now : Outside} {sh : Shell} {d : Disc} {fin : Bool} {x : ShellTurn}
    → IsDone b t tells room now sh d fin x → (u : List ℕ) (told : List ℕ → Type 0) (after : ℕ) → RepresentsStoreWithLists u told after (cleared x.store) → after ≡ room
    → IsDone b u told after now sh d fin (with_cleared x)
done-cleared {x = x} h u told after represents room_is =
    done-quietly h represents room_is (cleared-runs x.store h.runs) (ap (λ (l : Lists). l.running) (cleared-residents x.store).rest)

pub done-ends : {b : ShellStart} {t : List ℕ} {tells : List ℕ → Type 0} {room : ℕ} {now : Outside} {sh : Shell} {d : Disc} {fin : Bool} {x : ShellTurn}
    → IsDone b t tells room now sh d fin x → {f : Bool} → fin ≡ f → IsDone b t tells room now sh d f x
done-ends {b = b} {t = t} {tells = tells} {room = room} {now = now} {sh = sh} {d = d} {x = x} h e = subst (λ f. IsDone b t tells room now sh d f x) e h

-- ---- the end

-- it waits where it has no packets
pub turn-ended : {b : ShellStart} {t : List ℕ} {tells : List ℕ → Type 0} {room : ℕ} {now : Outside} {sh : Shell} {d : Disc} {x : ShellTurn}
    → IsDone b t tells room now sh d false x → (u : List ℕ) → IsFinished t u x.store.lists → IsShellTurn u tells room b.outside now sh d false (ended x)
turn-ended {b = b} {tells = tells} {room = room} {now = now} {sh = sh} {d = d} {x = x} h u y = on x.finished h.finished
  where
    rest : ShellTurn
    rest = and_then (left_with x.store.words (finished x.store.lists) []) [] x

    represents : RepresentsStoreWithLists u tells room rest.store
    represents = left-represents h.represents u tells room (finished x.store.lists) [] y.lists (knows-same tells x.store.lists (finished x.store.lists) y.same h.represents.keeper.knows) refl

    on : (f : Bool) → false ≡ f → IsShellTurn u tells room b.outside now sh d false (cond f x rest)
    on true e = cc
    on false e = record { represents = represents; bytes = h.bytes; notes = notes-then b.outside.noted now.noted now.noted b.outside.failed now.failed now.failed x.events [] h.notes (notes-none now.noted now.failed); shell = h.shell; disc = h.disc; finished = h.finished }

-- the machine is finished
pub turn-finished : {b : ShellStart} {t : List ℕ} {tells : List ℕ → Type 0} {room : ℕ} {now : Outside} {sh : Shell} {d : Disc} {x : ShellTurn}
    → IsDone b t tells room now sh d true x → IsShellTurn t tells room b.outside now sh d true (ended x)
turn-finished {b = b} {t = t} {tells = tells} {room = room} {now = now} {sh = sh} {d = d} {x = x} h = on x.finished h.finished
  where
    on : (f : Bool) → true ≡ f → IsShellTurn t tells room b.outside now sh d true (cond f x (and_then (left_with x.store.words (finished x.store.lists) []) [] x))
    on true e = record { represents = h.represents; bytes = h.bytes; notes = h.notes; shell = h.shell; disc = h.disc; finished = h.finished }
    on false e = cc

-- ---- with a packet, and without one

pub idle-turn : (s : List ℕ) (l : Lists) (sh : Shell) (d : Disc) → None ≡ first_of_queue (work l) → ended (begun s l sh d) ≡ shell_turn s l sh d
unfolding shell_turn
idle-turn s l sh d none = on (work l) none
  where
    on : (ps : List QueuedPacket) → None ≡ first_of_queue ps → ended (begun s l sh d) ≡ ended (all_parts ps (begun s l sh d))
    on [] e = refl
    on (p ∷ ps) e = cc

pub whole-turn : (s : List ℕ) (l : Lists) (sh : Shell) (d : Disc) (p : ℕ) → Some p ≡ first_of_queue (work l) → ended (first_treated (with_cleared (begun s l sh d))) ≡ shell_turn s l sh d
unfolding shell_turn
whole-turn s l sh d p some = on (work l) some
  where
    on : (ps : List QueuedPacket) → Some p ≡ first_of_queue ps → ended (first_treated (with_cleared (begun s l sh d))) ≡ ended (all_parts ps (begun s l sh d))
    on [] e = cc
    on (q ∷ qs) e = refl

pub turn-is : {t : List ℕ} {tells : List ℕ → Type 0} {room : ℕ} {old now : Outside} {sh : Shell} {d : Disc} {fin : Bool} {x : ShellTurn}
    → IsShellTurn t tells room old now sh d fin x → (y : ShellTurn) → x ≡ y → IsShellTurn t tells room old now sh d fin y
turn-is {t = t} {tells = tells} {room = room} {old = old} {now = now} {sh = sh} {d = d} {fin = fin} h y e = subst (IsShellTurn t tells room old now sh d fin) e h
