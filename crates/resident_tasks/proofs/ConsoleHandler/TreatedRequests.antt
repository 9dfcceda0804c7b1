-- What a request leaves.
use Rattle.std.proofs.Common.{◌≡◌, ℕ, ◌+◌, ◌≤◌, Bool, true, cond, Option, Some, None, Result, Ok, List, [], ◌∷◌, ◌++◌, append-nil, length, refl, sym, ap, ◌∙◌, subst, arith}
use Rattle.std.specs.List.{range_with_len}
use Rattle.std.proofs.lemmas.Bool.{and_parts, eq-eqb, leb-true, ne_eqb}
use Rattle.word_store.specs.Count.{times}
use Rattle.kernel_lists.specs.OwnedWords.Owned.{owners}
use Rattle.kernel_lists.specs.PacketQueue.QueueWords.{QueuedPacket}
use Rattle.kernel_lists.specs.declared.packet_queue.events.KernelEvent.{KernelEvent}
use Rattle.kernel_model.specs.KernelRecord.ChangedStore.{HasKeeper, IsChanged}
use Rattle.kernel_model.specs.KernelRecord.HoldsLists.{HoldsLists}
use Rattle.kernel_model.specs.KernelRecord.Kernel.{Console}
use Rattle.kernel_model.specs.KernelRecord.Lists.{Lists}
use Rattle.kernel_model.specs.KernelRecord.NotedEvents.{NotesAll}
use Rattle.kernel_model.specs.KernelRecord.Owned.{owned}
use Rattle.kernel_model.specs.KernelRecord.ValidQueues.Place.{Work}
use Rattle.kernel_model.proofs.KernelRecord.NotedInTurn.{notes-then}
use Rattle.kernel_calls.specs.CallAnswers.CallChange.{IsMade, minus_one}
use Rattle.kernel_calls.specs.CallAnswers.Outside.{Outside, outside}
use Rattle.kernel_calls.proofs.PacketCalls.Departure.{owners-departed}
use Rattle.resident_tasks.specs.ResidentRequests.Answers.{OwnsRequest, returned}
use Rattle.resident_tasks.specs.ResidentRequests.Buffers.{is_count, is_readable, lies_inside}
use Rattle.resident_tasks.specs.ResidentRequests.Requests.{IsTaken, RunsResident, first_request, request_at, taken, taken_from, words_taken, words_taken_from, work}
use Rattle.resident_tasks.specs.declared.resident_requests.requests.Request.{Request}
use Rattle.resident_tasks.proofs.ResidentRequests.ResidentTurns.{keeper-taken, taken-plain, turn-changed}
use Rattle.resident_tasks.proofs.ResidentRequests.TakenRequest.{taken-running}
use Rattle.resident_tasks.specs.declared.console_handler.requests.TheConstants.{READ_LINE}
use Rattle.resident_tasks.specs.ConsoleHandler.ConsoleTurn.{answer_of, bytes_of, with_first, with_request, with_taken}
use Rattle.resident_tasks.specs.ConsoleHandler.TurnParts.{ConsoleStart, ConsoleTurn, IsDone, and_then}
use Rattle.resident_tasks.specs.ConsoleHandler.Reads.{put_off}
use Rattle.resident_tasks.proofs.ConsoleHandler.DoneParts.{bytes-done, done-residents, done-then}

-- a buffer that may be read has few bytes
pub readable-few : (s : List ℕ) (a n : ℕ) → is_readable s a n ≡ true → n ≤ 4096
readable-few s a n e = leb-true n 4096 (and_parts _ _ (and_parts (is_count n) (lies_inside s a n) e).0).1

-- the words of a request that was taken are owned no more
taken-owners : (s t : List ℕ) (l : Lists) (r : Request) → HoldsLists s l → Some r ≡ first_request t (work l) → OwnsRequest (taken l).lists l r
taken-owners s t l r h e = on (work l) refl e
  where
    on : (ps : List QueuedPacket) → work l ≡ ps → Some r ≡ first_request t ps → OwnsRequest (taken_from ps l).lists l r
    on [] is e = cc
    on (p ∷ ps) is e =
        let same : r ≡ request_at t p.address = cc in
        λ a. owners-departed s l (Work l.running) p [] ps h is a ∙ ap (λ (q : Request). owners a (owned (taken_from (p ∷ ps) l).lists) + times a (range_with_len q.packet 5)) (sym same)

module _ (b : ConsoleStart) (t : List ℕ) (tells : List ℕ → Type 0) (room : ℕ) (now : Outside) (c : Console) (k : List ℕ) (g : ConsoleTurn) (x : IsDone b t tells room now c k g) where
  module _ (v : List ℕ) (told : List ℕ → Type 0) (after : ℕ) (noted : Option (List KernelEvent)) (failed : Bool) (r : Request) (y : IsTaken t v told g.lists (Some r)) (room_is : after ≡ room)
      (notes : NotesAll now.noted noted now.failed failed (taken g.lists).events) where
    abbrev m : Lists
    m = (taken g.lists).lists

    pub request-keeper : HasKeeper v told after m
    request-keeper = keeper-taken t v tells told room after g.lists (Some r) (record { lists = x.lists.lists; knows = x.knows; enough = x.enough }) y room_is

    taken-residents : (ps : List QueuedPacket) → (taken_from ps g.lists).lists.residents ≡ g.lists.residents
    taken-residents [] = refl
    taken-residents (p ∷ ps) = refl

    pub request-residents : m.residents ≡ true
    request-residents = taken-residents (work g.lists) ∙ done-residents b t tells room now c k g x

    pub request-number : 3 ≡ m.running
    request-number = sym (taken-running g.lists ∙ x.is)

    -- its packet came into a queue again
    pub request-done : (u : List ℕ) (told' : List ℕ → Type 0) (after' : ℕ) (noted' : Option (List KernelEvent)) (failed' : Bool) (n : Lists) (events : List KernelEvent) → after' ≡ after → IsChanged v u n []
        → ((known : List ℕ) → ((a : ℕ) → times a known ≡ owners a (owned n)) → told' known) → OwnsRequest m n r → RunsResident n → n.running ≡ m.running → NotesAll noted noted' failed failed' events
        → IsDone b u told' after' (outside now.shown noted' failed') c k (and_then g n [] ((taken g.lists).events ++ events))
    request-done u told' after' noted' failed' n events room' z knows owns runs running notes' =
        let goes : OwnsRequest m g.lists r = taken-owners t v g.lists r x.lists.lists y.request in
        done-then b t tells room now c k g x u told' after' noted' failed' n [] ((taken g.lists).events ++ events) (room' ∙ room_is)
        (turn-changed t v u m n r.packet [] (subst (IsChanged t v m) (taken-plain v g.lists r (work g.lists) y.request) y.lists) z owns) knows (λ a. owns a ∙ sym (goes a))
        (notes-then now.noted noted noted' now.failed failed failed' (taken g.lists).events events notes notes') runs (running ∙ taken-running g.lists)

    -- the part of the turn that this is
    first-is : first_request (words_taken g.words g.lists) (work g.lists) ≡ Some r
    first-is = ap (λ z. first_request z (work g.lists)) (ap (λ z. words_taken z g.lists) (sym x.words) ∙ sym y.words) ∙ sym y.request

    part-is : with_first g ≡ with_request v m r g
    part-is = ap (λ o. with_taken o (words_taken g.words g.lists) m g) first-is ∙ ap (λ z. with_request z m r g) (ap (λ z. words_taken z g.lists) (sym x.words) ∙ sym y.words)

    -- a read waits
    pub read-done : (u : List ℕ) (told' : List ℕ → Type 0) (after' : ℕ) (noted' : Option (List KernelEvent)) (failed' : Bool) → r.kind ≡ READ_LINE → after' ≡ after → IsMade v u told' (Ok minus_one) (put_off v m r)
        → OwnsRequest m (put_off v m r).lists r → NotesAll noted noted' failed failed' (put_off v m r).events → IsDone b u told' after' (outside now.shown noted' failed') c k (with_first g)
    read-done u told' after' noted' failed' kind room' made owns notes' =
        subst (IsDone b u told' after' (outside now.shown noted' failed') c k)
        (sym (part-is ∙ ap (λ q. cond q (and_then g (put_off v m r).lists [] ((taken g.lists).events ++ (put_off v m r).events)) (answered v)) (eq-eqb r.kind READ_LINE kind)))
        (request-done u told' after' noted' failed' (put_off v m r).lists (put_off v m r).events room' made.leaves.lists made.knows owns
        (record { resident = y.runs.resident; there = y.runs.there; field = y.runs.field }) refl notes')
      where
        answered : List ℕ → ConsoleTurn
        answered z = record (and_then g (returned m r (answer_of z r)).lists [] ((taken g.lists).events ++ (returned m r (answer_of z r)).events)) { bytes = g.bytes ++ bytes_of z r }

    -- all else is answered
    pub answer-done : (u : List ℕ) (told' : List ℕ → Type 0) (after' : ℕ) (noted' : Option (List KernelEvent)) (failed' : Bool) (answer : Result ℕ ℕ) (shown : List ℕ) → (r.kind ≡ READ_LINE → ⊥) → answer ≡ answer_of v r
        → shown ≡ now.shown ++ bytes_of v r → after' ≡ after → IsMade v u told' (Ok minus_one) (returned m r answer) → OwnsRequest m (returned m r answer).lists r → RunsResident (returned m r answer).lists
        → NotesAll noted noted' failed failed' (returned m r answer).events → IsDone b u told' after' (outside shown noted' failed') c k (with_first g)
    answer-done u told' after' noted' failed' answer shown kind is_answer is_shown room' made owns runs notes' =
        subst (IsDone b u told' after' (outside shown noted' failed') c k)
        (sym (part-is ∙ (ap (λ q. cond q waiting (with-answer (answer_of v r))) (ne_eqb r.kind READ_LINE kind) ∙ sym (ap with-answer is_answer))))
        (bytes-done b u told' after' (outside now.shown noted' failed') c k _
        (request-done u told' after' noted' failed' (returned m r answer).lists (returned m r answer).events room' made.leaves.lists made.knows owns runs refl notes') (bytes_of v r) shown is_shown)
      where
        waiting : ConsoleTurn
        waiting = and_then g (put_off v m r).lists [] ((taken g.lists).events ++ (put_off v m r).events)

        with-answer : Result ℕ ℕ → ConsoleTurn
        with-answer a = record (and_then g (returned m r a).lists [] ((taken g.lists).events ++ (returned m r a).events)) { bytes = g.bytes ++ bytes_of v r }

  -- there was none
  pub none-done : (v : List ℕ) (told : List ℕ → Type 0) (after : ℕ) (noted : Option (List KernelEvent)) (failed : Bool) → IsTaken t v told g.lists None → after ≡ room
      → NotesAll now.noted noted now.failed failed (taken g.lists).events → IsDone b v told after (outside now.shown noted failed) c k (with_first g)
  none-done v told after noted failed y room_is notes = on (work g.lists) y.knows y.words y.request notes
    where
      on : (ps : List QueuedPacket) → ((known : List ℕ) → ((a : ℕ) → times a known ≡ owners a (owned (taken_from ps g.lists).lists)) → told known) → v ≡ words_taken_from ps t g.lists → None ≡ first_request v ps
          → NotesAll now.noted noted now.failed failed (taken_from ps g.lists).events
          → IsDone b v told after (outside now.shown noted failed) c k (with_taken (first_request (words_taken_from ps g.words g.lists) ps) (words_taken_from ps g.words g.lists) (taken_from ps g.lists).lists g)
      on [] knows words e notes =
          record {
            words = words ∙ x.words;
            lists = subst (λ z. IsChanged b.words z g.lists g.plain) (sym words) x.lists;
            knows = knows;
            enough = omega (arith, x.enough, ap (λ (z : List ℕ). length z) words, room_is);
            same = x.same;
            bytes = x.bytes;
            notes = subst (NotesAll b.outside.noted noted b.outside.failed failed) (append-nil g.events) (notes-then b.outside.noted now.noted noted b.outside.failed now.failed failed g.events [] x.notes notes);
            line = x.line;
            shell = x.shell;
            runs = x.runs;
            is = x.is;
          }
      on (p ∷ ps) knows words e notes = cc
