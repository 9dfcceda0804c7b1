-- What handing a line to a read leaves.
use Rattle.std.proofs.Common.{◌≡◌, ℕ, zero, suc, ◌≤◌, Bool, true, false, cond, eqb, Option, Some, None, Result, Ok, Err, List, [], ◌∷◌, ◌++◌, append-nil, inl, inr, length, refl, sym, ap, ◌∙◌, subst, arith}
use Rattle.std.specs.Prelude.{take}
use Rattle.word_store.specs.Count.{times}
use Rattle.kernel_lists.specs.OwnedWords.Owned.{Pairs, owners}
use Rattle.kernel_lists.specs.PacketQueue.Queue.{no_queue}
use Rattle.kernel_lists.specs.PacketQueue.QueueWords.{QueuedPacket}
use Rattle.kernel_lists.specs.declared.packet_queue.events.KernelEvent.{KernelEvent}
use Rattle.kernel_model.specs.KernelRecord.ChangedStore.{HasKeeper, IsChanged}
use Rattle.kernel_model.specs.KernelRecord.Kernel.{Console}
use Rattle.kernel_model.specs.KernelRecord.Lists.{Lists}
use Rattle.kernel_model.specs.KernelRecord.NotedEvents.{NotesAll}
use Rattle.kernel_model.specs.KernelRecord.Owned.{owned}
use Rattle.kernel_model.proofs.KernelRecord.ChangedLists.{changed-then}
use Rattle.kernel_model.proofs.KernelRecord.NotedInTurn.{notes-then}
use Rattle.kernel_calls.specs.CallAnswers.CallChange.{IsMade, minus_one}
use Rattle.kernel_calls.specs.CallAnswers.Outside.{Outside, outside}
use Rattle.resident_tasks.specs.ResidentRequests.Answers.{OwnsRequest, returned}
use Rattle.resident_tasks.specs.ResidentRequests.Buffers.{is_writable, with_bytes, written_buffer}
use Rattle.resident_tasks.specs.ResidentRequests.Requests.{HasRequest, RunsResident, first_request, request_at}
use Rattle.resident_tasks.specs.ResidentRequests.Turns.{CanServe, HasWritten, service}
use Rattle.resident_tasks.specs.declared.resident_requests.requests.Request.{Request}
use Rattle.resident_tasks.proofs.ResidentRequests.ResidentTurns.{keeper-written, turn-changed, written-then}
use Rattle.kernel_model.specs.declared.kernel_record.numbers.TheConstants.{SHELL}
use Rattle.resident_tasks.specs.ConsoleHandler.Deliveries.{command_after, given, handed, handed_if_finished, line_after, line_service, with_read, with_served}
use Rattle.resident_tasks.specs.ConsoleHandler.TurnParts.{ConsoleStart, ConsoleTurn, IsDone}
use Rattle.resident_tasks.specs.ConsoleHandler.Reads.{IsReadTaken, read_taken, read_taken_from, words_read_from}
use Rattle.resident_tasks.proofs.ConsoleHandler.DoneParts.{done-then}
use Rattle.resident_tasks.proofs.FileHandler.HandledCalls.{taken-few}

-- the read that was taken was the first
read-plain : (v : List ℕ) (l : Lists) (r : Request) (ps : List QueuedPacket) → Some r ≡ first_request v ps → (read_taken_from ps l).plain ≡ (r.packet, no_queue) ∷ []
read-plain v l r [] e = cc
read-plain v l r (p ∷ ps) e = (let same : r ≡ request_at v p.address = cc in ap (λ (q : Request). (q.packet, no_queue) ∷ []) (sym same))

read-runs : (l : Lists) (ps : List QueuedPacket) → RunsResident l → RunsResident (read_taken_from ps l).lists
read-runs l [] r = r
read-runs l (p ∷ ps) r = record { resident = r.resident; there = r.there; field = r.field }

pub read-running : (l : Lists) (ps : List QueuedPacket) → (read_taken_from ps l).lists.running ≡ l.running
read-running l [] = refl
read-running l (p ∷ ps) = refl

line-fits : (s : List ℕ) (l : Lists) (line : List ℕ) (r : Request) → CanServe s l r (line_service s l line r)
line-fits s l line r = on (eqb r.sender SHELL) (is_writable s l r.packet r.first r.second) refl
  where
    on : (shell writable : Bool) → is_writable s l r.packet r.first r.second ≡ writable
        → CanServe s l r (cond shell (service (Ok (length line)) r.first []) (cond writable (service (Ok (given line r)) r.first (take (given line r) line)) (service (Err 30) r.first [])))
    on true writable e = inl refl
    on false true e = inr (r.second, e, omega (arith, taken-few (given line r) line))
    on false false e = inl refl

module _ (b : ConsoleStart) (t : List ℕ) (tells : List ℕ → Type 0) (room : ℕ) (now : Outside) (c : Console) (k : List ℕ) (g : ConsoleTurn) (x : IsDone b t tells room now c k g) where
  -- the lines are others
  lines-done : (c' : Console) (k' : List ℕ) (d : Console) (j : List ℕ) → c' ≡ d → k' ≡ j → IsDone b t tells room now c' k' (record g { console = d; command = j })
  lines-done c' k' d j is_line is_shell =
      record { words = x.words; lists = x.lists; knows = x.knows; enough = x.enough; same = x.same; bytes = x.bytes; notes = x.notes; line = is_line; shell = is_shell; runs = x.runs; is = x.is }

module _ (b : ConsoleStart) (t : List ℕ) (tells : List ℕ → Type 0) (room : ℕ) (now : Outside) (c : Console) (k : List ℕ) (g : ConsoleTurn) (x : IsDone b t tells room now c k g) where
  module _ (v : List ℕ) (told : List ℕ → Type 0) (after : ℕ) (noted : Option (List KernelEvent)) (failed : Bool) (room_is : after ≡ room) (notes : NotesAll now.noted noted now.failed failed (read_taken g.lists).events) where
    -- no read waits
    pub nothing-done : IsReadTaken t v told g.lists None → IsDone b v told after (outside now.shown noted failed) c k (handed_if_finished g)
    nothing-done y = on g.lists.pending y.knows y.words y.request notes
      where
        either : (f : Bool) (p : ConsoleTurn) → cond f p p ≡ p
        either true p = refl
        either false p = refl

        on : (ps : List QueuedPacket) → ((known : List ℕ) → ((a : ℕ) → times a known ≡ owners a (owned (read_taken_from ps g.lists).lists)) → told known) → v ≡ words_read_from ps t → None ≡ first_request v ps
            → NotesAll now.noted noted now.failed failed (read_taken_from ps g.lists).events
            → IsDone b v told after (outside now.shown noted failed) c k (cond g.console.finished (with_read (first_request (words_read_from ps g.words) ps) (words_read_from ps g.words) (read_taken_from ps g.lists).lists g) g)
        on [] knows words e notes =
            subst (IsDone b v told after (outside now.shown noted failed) c k) (sym (either g.console.finished g))
            (record {
              words = words ∙ x.words;
              lists = subst (λ z. IsChanged b.words z g.lists g.plain) (sym words) x.lists;
              knows = knows;
              enough = omega (arith, x.enough, ap (λ (z : List ℕ). length z) words, room_is);
              same = x.same;
              bytes = x.bytes;
              notes = subst (NotesAll b.outside.noted noted b.outside.failed failed) (append-nil g.events) (notes-then b.outside.noted now.noted noted b.outside.failed now.failed failed g.events [] x.notes notes);
              line = x.line;
              shell = x.shell;
              runs = x.runs;
              is = x.is;
            })
        on (p ∷ ps) knows words e notes = cc

    module _ (r : Request) (y : IsReadTaken t v told g.lists (Some r)) where
      abbrev m : Lists
      m = (read_taken g.lists).lists

      pub hand-keeper : HasKeeper v told after m
      hand-keeper = record { lists = y.lists.lists; knows = y.knows; enough = omega (arith, x.enough, y.lists.size, room_is) }

      pub hand-runs : RunsResident m
      hand-runs = read-runs g.lists g.lists.pending x.runs

      pub hand-number : 3 ≡ m.running
      hand-number = sym (read-running g.lists g.lists.pending ∙ x.is)

      -- it is the first that waits
      handed-is : handed g ≡ with_served v m r (line_service v m g.console.line r) g
      handed-is =
          (let words : words_read_from g.lists.pending g.words ≡ v = ap (words_read_from g.lists.pending) (sym x.words) ∙ sym y.words in
          ap (λ z. with_read (first_request z g.lists.pending) z m g) words ∙ ap (λ o. with_read o v m g) (sym y.request))

      module _ (answer : Result ℕ ℕ) (bytes : List ℕ) (serves : service answer r.first bytes ≡ line_service v m c.line r) (w : List ℕ) (is_w : w ≡ with_bytes v r.first 0 bytes) where
        hand-written : HasWritten v w m r r.first bytes
        hand-written = written-then v w m r (service answer r.first bytes) hand-keeper.lists y.has_request (subst (CanServe v m r) (sym serves) (line-fits v m c.line r)) is_w

        pub hand-request : HasRequest w m r
        hand-request = hand-written.has_request

        pub hand-kept : HasKeeper w told after m
        hand-kept = keeper-written v w told after m r (service answer r.first bytes) hand-keeper hand-written

        pub hand-done : (u : List ℕ) (told' : List ℕ → Type 0) (after' : ℕ) (noted' : Option (List KernelEvent)) (failed' : Bool) (c' : Console) (k' : List ℕ) → c.finished ≡ true → after' ≡ after
            → IsMade w u told' (Ok minus_one) (returned m r answer) → OwnsRequest m (returned m r answer).lists r → RunsResident (returned m r answer).lists → NotesAll noted noted' failed failed' (returned m r answer).events
            → c' ≡ line_after answer c → k' ≡ command_after r c.line k → IsDone b u told' after' (outside now.shown noted' failed') c' k' (handed_if_finished g)
        hand-done u told' after' noted' failed' c' k' is_finished room' made owns runs notes' is_line is_shell =
            let n : Lists = (returned m r answer).lists in
            let plain : Pairs = written_buffer v r.first bytes in
            let back : IsChanged v u n plain = changed-then v w u m n plain hand-written.lists made.leaves.lists (λ a none. omega (arith, none, owns a)) in
            let whole : IsChanged t u n plain = turn-changed t v u m n r.packet plain (subst (IsChanged t v m) (read-plain v g.lists r g.lists.pending y.request) y.lists) back owns in
            let goes : OwnsRequest m g.lists r = y.owns in
            let part = done-then b t tells room now c k g x u told' after' noted' failed' n plain ((read_taken g.lists).events ++ (returned m r answer).events) (room' ∙ room_is) whole made.knows (λ a. owns a ∙ sym (goes a))
            (notes-then now.noted noted noted' now.failed failed failed' (read_taken g.lists).events (returned m r answer).events notes notes') runs (read-running g.lists g.lists.pending) in
            let lined : IsDone b u told' after' (outside now.shown noted' failed') c' k' (with_served v m r (service answer r.first bytes) g) =
            lines-done b u told' after' (outside now.shown noted' failed') c k _ part c' k' (line_after answer g.console) (command_after r g.console.line g.command) (is_line ∙ ap (line_after answer) x.line)
            (is_shell ∙ (λ i. command_after r (x.line i).line (x.shell i)))
            in
            subst (IsDone b u told' after' (outside now.shown noted' failed') c' k')
            (ap (λ z. with_served v m r z g) (serves ∙ ap (λ (z : Console). line_service v m z.line r) x.line)
            ∙ (sym handed-is ∙ sym (ap (λ f. cond f (handed g) g) (ap (λ (z : Console). z.finished) (sym x.line) ∙ is_finished))))
            lined
