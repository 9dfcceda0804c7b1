-- A turn of the shell, part after part.
use Rattle.std.proofs.Common.{◌≡◌, ℕ, ◌≤◌, Bool, true, false, List, [], ◌++◌, append_assoc, Option, Result, Ok, Err, refl, sym, ap, ◌∙◌, subst, arith}
use Rattle.kernel_lists.specs.OwnedWords.Owned.{Pairs, owners, written}
use Rattle.kernel_lists.specs.declared.packet_queue.events.KernelEvent.{KernelEvent}
use Rattle.kernel_model.specs.KernelRecord.ChangedStore.{IsChanged, Knows}
use Rattle.kernel_model.specs.KernelRecord.Kernel.{Mode, Shell}
use Rattle.kernel_model.specs.KernelRecord.Lists.{Lists, has_task}
use Rattle.kernel_model.specs.KernelRecord.NotedEvents.{NotesAll}
use Rattle.kernel_model.specs.KernelRecord.Owned.{owned}
use Rattle.kernel_model.proofs.KernelRecord.ChangedLists.{knows-same}
use Rattle.kernel_model.proofs.KernelRecord.NotedInTurn.{notes-none, notes-then}
use Rattle.ram_disc.specs.Disc.{Disc}
use Rattle.kernel_calls.specs.CallAnswers.CallChange.{CallChange, Leaves, plain_answer}
use Rattle.kernel_calls.specs.CallAnswers.Outside.{Outside, outside}
use Rattle.kernel_model.specs.KernelRecord.StoreWithLists.{StoreWithLists, left_with, store_with_lists}
use Rattle.kernel_boot.proofs.StoresAfterCalls.{left-is}
use Rattle.resident_tasks.specs.ResidentRequests.Requests.{RunsResident}
use Rattle.shell.specs.ShellPrograms.ShellPacket.{CanPost, post_events, posted, request_words, requested}
use Rattle.shell.specs.ShellPrograms.StoresWithLists.{RepresentsStoreWithLists}
use Rattle.shell.proofs.ShellPrograms.SentRules.{posted-runs}
use Rattle.kernel_model.specs.declared.kernel_record.numbers.TheConstants.{CONSOLE}
use Rattle.shell.specs.DoneParts.{IsDone, IsReady, ShellStart}
use Rattle.shell.specs.Prompts.{answered, prompted, refused, with_packet_sent}
use Rattle.shell.specs.TurnParts.{ShellTurn, and_then, called, in_mode, shown, with_disc}
use Rattle.shell.proofs.RunningShell.{GoesOn, posted-running}

-- ---- the store

-- its words are those of the store with its lists
pub store_with_lists-is : {t : List ℕ} {tells : List ℕ → Type 0} {room : ℕ} {k : StoreWithLists} → RepresentsStoreWithLists t tells room k → store_with_lists t k.lists ≡ k
store_with_lists-is {k = k} h = λ i. record { words = h.words i; lists = k.lists }

-- what a change leaves of a store with its lists
pub left-represents : {t : List ℕ} {tells : List ℕ → Type 0} {room : ℕ} {k : StoreWithLists} → RepresentsStoreWithLists t tells room k → (u : List ℕ) (told : List ℕ → Type 0) (after : ℕ) (l : Lists) (plain : Pairs)
    → IsChanged t u l plain → Knows told l → after ≡ room → RepresentsStoreWithLists u told after (left_with k.words l plain)
left-represents {t = t} {k = k} h u told after l plain x knows room_is =
    record {
      words = left-is t u l plain x ∙ ap (λ w. written (owned l) (written plain w)) h.words;
      keeper = record { lists = x.lists; knows = knows; enough = omega (arith, h.keeper.enough, x.size, room_is) };
    }

-- ---- a part more

pub done-is : {b : ShellStart} {t : List ℕ} {tells : List ℕ → Type 0} {room : ℕ} {now : Outside} {sh : Shell} {d : Disc} {fin : Bool} {x : ShellTurn}
    → IsDone b t tells room now sh d fin x → (y : ShellTurn) → x ≡ y → IsDone b t tells room now sh d fin y
done-is {b = b} {t = t} {tells = tells} {room = room} {now = now} {sh = sh} {d = d} {fin = fin} h y e = subst (IsDone b t tells room now sh d fin) e h

-- bytes go to the output
pub done-shown : {b : ShellStart} {t : List ℕ} {tells : List ℕ → Type 0} {room : ℕ} {now : Outside} {sh : Shell} {d : Disc} {fin : Bool} {x : ShellTurn}
    → IsDone b t tells room now sh d fin x → (bytes seen : List ℕ) → seen ≡ now.shown ++ bytes → IsDone b t tells room (outside seen now.noted now.failed) sh d fin (shown bytes x)
done-shown {b = b} {x = x} h bytes seen e =
    record {
      represents = h.represents;
      room = h.room;
      bytes = e ∙ (ap (λ z. z ++ bytes) h.bytes ∙ append_assoc b.outside.shown x.bytes bytes);
      notes = h.notes;
      shell = h.shell;
      disc = h.disc;
      finished = h.finished;
      runs = h.runs;
      is = h.is;
    }

-- the shell does something else next
pub done-mode : {b : ShellStart} {t : List ℕ} {tells : List ℕ → Type 0} {room : ℕ} {now : Outside} {sh : Shell} {d : Disc} {fin : Bool} {x : ShellTurn}
    → IsDone b t tells room now sh d fin x → (m : Mode) (after : Shell) → after ≡ record sh { mode = m } → IsDone b t tells room now after d fin (in_mode m x)
done-mode h m after e =
    record {
      represents = h.represents;
      room = h.room;
      bytes = h.bytes;
      notes = h.notes;
      shell = e ∙ ap (λ (z : Shell). record z { mode = m }) h.shell;
      disc = h.disc;
      finished = h.finished;
      runs = h.runs;
      is = h.is;
    }

-- the disc is another
pub done-disc : {b : ShellStart} {t : List ℕ} {tells : List ℕ → Type 0} {room : ℕ} {now : Outside} {sh : Shell} {d : Disc} {fin : Bool} {x : ShellTurn}
    → IsDone b t tells room now sh d fin x → (after e : Disc) → after ≡ e → IsDone b t tells room now sh after fin (with_disc e x)
done-disc h after e same =
    record {
      represents = h.represents;
      room = h.room;
      bytes = h.bytes;
      notes = h.notes;
      shell = h.shell;
      disc = same;
      finished = h.finished;
      runs = h.runs;
      is = h.is;
    }

-- the store is otherwise, and these events were noted
pub done-then : {b : ShellStart} {t : List ℕ} {tells : List ℕ → Type 0} {room : ℕ} {now : Outside} {sh : Shell} {d : Disc} {fin : Bool} {x : ShellTurn}
    → IsDone b t tells room now sh d fin x → {u : List ℕ} {told : List ℕ → Type 0} {after : ℕ} {k : StoreWithLists} → RepresentsStoreWithLists u told after k → after ≡ room
    → (noted : Option (List KernelEvent)) (failed : Bool) (events : List KernelEvent) → NotesAll now.noted noted now.failed failed events
    → RunsResident k.lists → k.lists.running ≡ x.store.lists.running → IsDone b u told after (outside now.shown noted failed) sh d fin (and_then k events x)
done-then {b = b} {now = now} {x = x} h represents room_is noted failed events notes runs still =
    record {
      represents = represents;
      room = room_is ∙ h.room;
      bytes = h.bytes;
      notes = notes-then b.outside.noted now.noted noted b.outside.failed now.failed failed x.events events h.notes notes;
      shell = h.shell;
      disc = h.disc;
      finished = h.finished;
      runs = runs;
      is = still ∙ h.is;
    }

-- and nothing was noted
pub done-quietly : {b : ShellStart} {t : List ℕ} {tells : List ℕ → Type 0} {room : ℕ} {now : Outside} {sh : Shell} {d : Disc} {fin : Bool} {x : ShellTurn}
    → IsDone b t tells room now sh d fin x → {u : List ℕ} {told : List ℕ → Type 0} {after : ℕ} {k : StoreWithLists} → RepresentsStoreWithLists u told after k → after ≡ room
    → RunsResident k.lists → k.lists.running ≡ x.store.lists.running → IsDone b u told after now sh d fin (and_then k [] x)
done-quietly {now = now} h represents room_is runs still = done-then h represents room_is now.noted now.failed [] (notes-none now.noted now.failed) runs still

-- ---- the shell has its packet

pub ready-shown : {b : ShellStart} {t : List ℕ} {tells : List ℕ → Type 0} {room : ℕ} {now : Outside} {sh : Shell} {d : Disc} {x : ShellTurn}
    → IsReady b t tells room now sh d x → (bytes seen : List ℕ) → seen ≡ now.shown ++ bytes → IsReady b t tells room (outside seen now.noted now.failed) sh d (shown bytes x)
ready-shown h bytes seen e = record { done = done-shown h.done bytes seen e; packet = h.packet }

pub ready-disc : {b : ShellStart} {t : List ℕ} {tells : List ℕ → Type 0} {room : ℕ} {now : Outside} {sh : Shell} {d : Disc} {x : ShellTurn}
    → IsReady b t tells room now sh d x → (after e : Disc) → after ≡ e → IsReady b t tells room now sh after (with_disc e x)
ready-disc h after e same = record { done = done-disc h.done after e same; packet = h.packet }

-- it may go to a task that is there
pub can-post : {b : ShellStart} {t : List ℕ} {tells : List ℕ → Type 0} {room : ℕ} {now : Outside} {sh : Shell} {d : Disc} {x : ShellTurn}
    → IsReady b t tells room now sh d x → (to : ℕ) → has_task to x.store.lists.tasks ≡ true → CanPost x.store.lists to
can-post h to there = record { packet = h.packet; there = there }

-- the console is there
pub console-there : {b : ShellStart} {t : List ℕ} {tells : List ℕ → Type 0} {room : ℕ} {now : Outside} {sh : Shell} {d : Disc} {x : ShellTurn}
    → IsReady b t tells room now sh d x → has_task CONSOLE x.store.lists.tasks ≡ true
console-there h = (let v = h.done.represents.keeper.lists.valid.tasks in v.console ∙ sym v.shell ∙ h.packet.shell)

pub done-posted : {b : ShellStart} {t : List ℕ} {tells : List ℕ → Type 0} {room : ℕ} {now : Outside} {sh : Shell} {d : Disc} {x : ShellTurn}
    → IsReady b t tells room now sh d x → (to : ℕ) → to ≤ 63 → {u : List ℕ} {told : List ℕ → Type 0} {after : ℕ} → RepresentsStoreWithLists u told after (posted to (store_with_lists t x.store.lists)) → after ≡ room
    → (noted : Option (List KernelEvent)) (failed : Bool) → NotesAll now.noted noted now.failed failed (post_events to)
    → IsDone b u told after (outside now.shown noted failed) sh d false (and_then (posted to x.store) (post_events to) x)
done-posted {x = x} h to low {u = u} {told = told} {after = after} represents room_is noted failed notes =
    done-then h.done (subst (λ k. RepresentsStoreWithLists u told after (posted to k)) (store_with_lists-is h.done.represents) represents) room_is noted failed (post_events to) notes
    (posted-runs to x.store low h.done.runs) (posted-running to x.store low)

pub done-sent : {b : ShellStart} {t : List ℕ} {tells : List ℕ → Type 0} {room : ℕ} {now : Outside} {sh : Shell} {d : Disc} {x : ShellTurn}
    → IsReady b t tells room now sh d x → (to kind : ℕ) → to ≤ 63 → {u : List ℕ} {told : List ℕ → Type 0} {after : ℕ} → RepresentsStoreWithLists u told after (requested to kind (store_with_lists t x.store.lists)) → after ≡ room
    → (noted : Option (List KernelEvent)) (failed : Bool) → NotesAll now.noted noted now.failed failed (post_events to)
    → IsDone b u told after (outside now.shown noted failed) sh d false (with_packet_sent to kind x)
done-sent {x = x} h to kind low {u = u} {told = told} {after = after} represents room_is noted failed notes =
    done-then h.done (subst (λ k. RepresentsStoreWithLists u told after (requested to kind k)) (store_with_lists-is h.done.represents) represents) room_is noted failed (post_events to) notes
    (posted-runs to (store_with_lists (written (request_words kind) x.store.words) x.store.lists) low h.done.runs) (posted-running to (store_with_lists (written (request_words kind) x.store.words) x.store.lists) low)

-- ---- a call about a task

pub ready-called : {b : ShellStart} {t : List ℕ} {tells : List ℕ → Type 0} {room : ℕ} {now : Outside} {sh : Shell} {d : Disc} {x : ShellTurn}
    → IsReady b t tells room now sh d x → (u : List ℕ) (answer : Result ℕ ℕ) (m : CallChange) → Leaves t u answer m → ((a : ℕ) → owners a (owned m.lists) ≡ owners a (owned x.store.lists)) → GoesOn x.store.lists m
    → IsReady b u tells room now sh d (called m x)
ready-called {tells = tells} {room = room} {now = now} {x = x} h u answer m leaves same goes =
    record {
      done =
          done-then h.done (left-represents h.done.represents u tells room m.lists m.plain leaves.lists (knows-same tells x.store.lists m.lists same h.done.represents.keeper.knows) refl) refl now.noted now.failed m.events
          (subst (NotesAll now.noted now.noted now.failed now.failed) (sym goes.events) (notes-none now.noted now.failed)) goes.runs goes.running;
      packet = record { shell = ap (λ i. has_task i m.lists.tasks) (sym (goes.running ∙ h.done.is)) ∙ goes.runs.there; words = λ a low high. same a ∙ h.packet.words a low high };
    }

-- ---- an answer

pub answered-done : {A : Type 0} (o : Result A ℕ) (a : A) (x : ShellTurn) → o ≡ Ok a → prompted x ≡ answered o x
answered-done o a x e = ap (λ r. answered r x) (sym e)

pub answered-refused : {A : Type 0} (o : Result A ℕ) (code : ℕ) (x : ShellTurn) → o ≡ Err code → refused code x ≡ answered o x
answered-refused o code x e = ap (λ r. answered r x) (sym e)

pub answered-plainly : (o : Result (Unit {0}) ℕ) (a : Result ℕ ℕ) (x : ShellTurn) → plain_answer o ≡ a → answered o x ≡ answered a x
answered-plainly (Ok u) a x e = ap (λ r. answered r x) e
answered-plainly (Err code) a x e = ap (λ r. answered r x) e
