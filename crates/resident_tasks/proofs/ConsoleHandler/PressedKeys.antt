-- What a key leaves.
use Rattle.std.proofs.Common.{◌≡◌, ℕ, ◌||◌, Bool, true, false, cond, eqb, Option, Some, None, Result, Ok, List, [], ◌∷◌, ◌++◌, append_assoc, map, refl, sym, ap, ◌∙◌, subst}
use Rattle.std.specs.List.{AllByRecursion}
use Rattle.kernel_lists.specs.PacketQueue.QueueWords.{QueuedPacket}
use Rattle.kernel_lists.specs.declared.packet_queue.events.KernelEvent.{KernelEvent}
use Rattle.kernel_model.specs.KernelRecord.ChangedStore.{IsChanged}
use Rattle.kernel_model.specs.KernelRecord.Changes.{change_of, with_task}
use Rattle.kernel_model.specs.KernelRecord.Kernel.{Console}
use Rattle.kernel_model.specs.KernelRecord.Lists.{Lists, has_task}
use Rattle.kernel_model.specs.KernelRecord.NotedEvents.{NotesAll}
use Rattle.kernel_model.specs.KernelRecord.Owned.{owned}
use Rattle.kernel_model.specs.KernelRecord.Running.{RunsIf}
use Rattle.kernel_model.specs.KernelRecord.Task.{Task}
use Rattle.kernel_model.proofs.KernelRecord.ChangedLists.{knows-same}
use Rattle.kernel_model.proofs.KernelRecord.NotedInTurn.{notes-none}
use Rattle.kernel_lists.specs.OwnedWords.Owned.{owners}
use Rattle.kernel_calls.specs.CallAnswers.Guests.{guest_tests}
use Rattle.kernel_calls.specs.CallAnswers.CallChange.{CallChange, Leaves, by_refusal, done}
use Rattle.kernel_calls.specs.CallAnswers.Refusals.{first_refusal}
use Rattle.kernel_calls.specs.TaskCalls.SetFlags.{flagged, set_flags}
use Rattle.kernel_calls.proofs.TaskCalls.SameWords.{set_flags-owners}
use Rattle.kernel_calls.specs.CallAnswers.Outside.{Outside, outside}
use Rattle.resident_tasks.specs.ResidentRequests.Requests.{RunsResident, work}
use Rattle.resident_tasks.specs.ConsoleHandler.ConsoleTurn.{key_of, with_flags, with_key, with_keys_taken}
use Rattle.resident_tasks.specs.ConsoleHandler.KeyPacket.{keys_taken, keys_taken_from}
use Rattle.resident_tasks.specs.ConsoleHandler.Line.{Keyed, key}
use Rattle.resident_tasks.specs.ConsoleHandler.TurnParts.{ConsoleStart, ConsoleTurn, IsDone}
use Rattle.resident_tasks.proofs.ConsoleHandler.DoneParts.{done-then}

-- ---- flags

flag-id : (id f : ℕ) (t : Task) → (change_of id (flagged f) t).id ≡ t.id
flag-id id f t = elim (eqb t.id id) as (λ b. (cond b (flagged f t) t).id ≡ t.id) [ true ↦ refl | false ↦ refl ]

flag-field : (id f : ℕ) (t : Task) → (change_of id (flagged f) t).field ≡ t.field
flag-field id f t = elim (eqb t.id id) as (λ b. (cond b (flagged f t) t).field ≡ t.field) [ true ↦ refl | false ↦ refl ]

has_task-flag : (i id f : ℕ) (ts : List Task) → has_task i (map (change_of id (flagged f)) ts) ≡ has_task i ts
has_task-flag i id f [] = refl
has_task-flag i id f (t ∷ ts) = λ k. eqb (flag-id id f t k) i || has_task-flag i id f ts k

fields-flag : (running id f : ℕ) (ts : List Task) → AllByRecursion (RunsIf running) ts
    → AllByRecursion (RunsIf running) (map (change_of id (flagged f)) ts)
fields-flag running id f [] all = tt
fields-flag running id f (t ∷ ts) all = ((λ e. flag-field id f t ∙ all.0 (sym (flag-id id f t) ∙ e)), fields-flag running id f ts all.1)

abbrev made-of : Lists → ℕ → ℕ → Option ℕ → CallChange
made-of l id f o = by_refusal o l (done (with_task id (flagged f) l))

flags-plain : (l : Lists) (id f : ℕ) (o : Option ℕ) → (made-of l id f o).plain ≡ []
flags-plain l id f None = refl
flags-plain l id f (Some code) = refl

flags-running : (l : Lists) (id f : ℕ) (o : Option ℕ) → (made-of l id f o).lists.running ≡ l.running
flags-running l id f None = refl
flags-running l id f (Some code) = refl

flags-runs : (l : Lists) (id f : ℕ) (o : Option ℕ) → RunsResident l → RunsResident (made-of l id f o).lists
flags-runs l id f None r = record { resident = r.resident; there = has_task-flag l.running id f l.tasks ∙ r.there; field = fields-flag l.running id f l.tasks r.field }
flags-runs l id f (Some code) r = r

module _ (b : ConsoleStart) (t : List ℕ) (tells : List ℕ → Type 0) (room : ℕ) (now : Outside) (c : Console) (k : List ℕ) (g : ConsoleTurn) (x : IsDone b t tells room now c k g) where
  pub flags-done : (u : List ℕ) (id f : ℕ) (answer : Result ℕ ℕ) → Leaves t u answer (set_flags g.lists id f) → IsDone b u tells room now c k (with_flags id f g)
  flags-done u id f answer y =
      let o : Option ℕ = first_refusal (guest_tests g.lists id) in
      let same : (a : ℕ) → owners a (owned (set_flags g.lists id f).lists) ≡ owners a (owned g.lists) = λ a. set_flags-owners t g.lists x.lists.lists a id f in
      done-then b t tells room now c k g x u tells room now.noted now.failed (set_flags g.lists id f).lists [] [] refl
      (subst (IsChanged t u (set_flags g.lists id f).lists) (flags-plain g.lists id f o) y.lists) (knows-same tells g.lists (set_flags g.lists id f).lists same x.knows) same (notes-none now.noted now.failed)
      (flags-runs g.lists id f o x.runs) (flags-running g.lists id f o)

  -- ---- the line

  pub echo-done : (key : Keyed) (c' : Console) (shown : List ℕ) → c' ≡ key.console → shown ≡ now.shown ++ key.echo → IsDone b t tells room (outside shown now.noted now.failed) c' k (record g { console = key.console; bytes = g.bytes ++ key.echo })
  echo-done key c' shown is_line is_shown =
      record {
        words = x.words;
        lists = x.lists;
        knows = x.knows;
        enough = x.enough;
        same = x.same;
        bytes = is_shown ∙ (ap (λ z. z ++ key.echo) x.bytes ∙ append_assoc b.outside.shown g.bytes key.echo);
        notes = x.notes;
        line = is_line;
        shell = x.shell;
        runs = x.runs;
        is = x.is;
      }

  -- ---- the key packet

  keys-running : (ps : List QueuedPacket) → (keys_taken_from ps g.lists).lists.running ≡ g.lists.running
  keys-running [] = refl
  keys-running (p ∷ ps) = refl

  keys-plain : (ps : List QueuedPacket) → (keys_taken_from ps g.lists).plain ≡ []
  keys-plain [] = refl
  keys-plain (p ∷ ps) = refl

  pub taken-done : (u : List ℕ) (n : ℕ) (noted : Option (List KernelEvent)) (failed : Bool) → Leaves t u (Ok n) (keys_taken g.lists) → ((a : ℕ) → owners a (owned (keys_taken g.lists).lists) ≡ owners a (owned g.lists))
      → RunsResident (keys_taken g.lists).lists → NotesAll now.noted noted now.failed failed (keys_taken g.lists).events → IsDone b u tells room (outside now.shown noted failed) c k (with_keys_taken g)
  taken-done u n noted failed y same still notes =
      done-then b t tells room now c k g x u tells room noted failed (keys_taken g.lists).lists [] (keys_taken g.lists).events refl
      (subst (IsChanged t u (keys_taken g.lists).lists) (keys-plain (work g.lists)) y.lists) (knows-same tells g.lists (keys_taken g.lists).lists same x.knows) same notes still (keys-running (work g.lists))

-- the key that was taken
pub key-is : (g : ConsoleTurn) (c : Console) (n f : ℕ) (answer : Result ℕ ℕ) → c ≡ g.console → Ok n ≡ answer → key c n ≡ key g.console (key_of answer)
key-is g c n f answer is_line is = λ i. key (is_line i) (key_of (is i))

module _ (b : ConsoleStart) (t : List ℕ) (tells : List ℕ → Type 0) (room : ℕ) (now : Outside) (c : Console) (k : List ℕ) (g : ConsoleTurn) (x : IsDone b t tells room now c k g)
    (v : List ℕ) (n : ℕ) (noted : Option (List KernelEvent)) (failed : Bool) (taken : Leaves t v (Ok n) (keys_taken g.lists))
    (same : (a : ℕ) → owners a (owned (keys_taken g.lists).lists) ≡ owners a (owned g.lists)) (still : RunsResident (keys_taken g.lists).lists) (notes : NotesAll now.noted noted now.failed failed (keys_taken g.lists).events) where
  abbrev pressed : Keyed
  pressed = key g.console (key_of (keys_taken g.lists).answer)

  pressed-is : key c n ≡ pressed
  pressed-is = key-is g c n 0 (keys_taken g.lists).answer x.line taken.answered

  pub key-done : (u : List ℕ) (id flags : ℕ) (c' : Console) (shown : List ℕ) (answer : Result ℕ ℕ) → c' ≡ (key c n).console → shown ≡ now.shown ++ (key c n).echo → flags ≡ (key c n).flags
      → Leaves v u answer (set_flags (keys_taken g.lists).lists id flags) → IsDone b u tells room (outside shown noted failed) c' k (with_key id g)
  key-done u id flags c' shown answer is_line is_shown is_flags y =
      let one : IsDone b v tells room (outside now.shown noted failed) c k (with_keys_taken g) = taken-done b t tells room now c k g x v n noted failed taken same still notes in
      let two = echo-done b v tells room (outside now.shown noted failed) c k (with_keys_taken g) one pressed c' shown (is_line ∙ ap (λ z. z.console) pressed-is) (is_shown ∙ ap (λ z. now.shown ++ z.echo) pressed-is) in
      flags-done b v tells room (outside shown noted failed) c' k _ two u id pressed.flags answer (subst (λ f. Leaves v u answer (set_flags (keys_taken g.lists).lists id f)) (is_flags ∙ ap (λ z. z.flags) pressed-is) y)
