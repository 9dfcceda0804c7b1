-- What the console's turn keeps: who runs, the rule of the fault packet, and how long lines are.
use Rattle.std.proofs.Common.{◌≡◌, ℕ, ◌-◌, ◌≤◌, ◌&&◌, ◌||◌, ◌++◌, Bool, true, false, not, cond, eqb, length, ltb, take, Option, Some, None, Result, Ok, Err, List, [], ◌∷◌, is_some, refl, sym, ◌∙◌, subst, arith}
use Rattle.std.specs.List.{AllByRecursion}
use Rattle.std.proofs.lemmas.Bool.{ltb-true}
use Rattle.std.proofs.lemmas.List.{length-append, length-take}
use Rattle.word_store.proofs.Elements.{all-append}
use Rattle.kernel_lists.specs.PacketQueue.QueueWords.{QueuedPacket}
use Rattle.kernel_model.specs.KernelRecord.Changes.{HasPlace, change_of, queue_of, with_queue, with_task, with_work}
use Rattle.kernel_model.specs.KernelRecord.Kernel.{Console}
use Rattle.kernel_model.specs.KernelRecord.Lists.{Lists, has_task}
use Rattle.kernel_model.specs.KernelRecord.Residents.{fault_packet, key_packet}
use Rattle.kernel_model.specs.KernelRecord.Running.{RunsAlone}
use Rattle.kernel_model.specs.KernelRecord.Task.{Task}
use Rattle.kernel_model.specs.KernelRecord.ValidLists.{AreValid}
use Rattle.kernel_model.specs.KernelRecord.ValidQueues.{IsValidPacket, Place, is_key_packet}
use Rattle.kernel_model.specs.KernelRecord.ValidQueues.Place.{Keyboard, Pending, Work}
use Rattle.kernel_model.specs.KernelRecord.ValidTasks.{runs}
use Rattle.kernel_model.proofs.KernelRecord.EachMember.{all-each}
use Rattle.kernel_model.proofs.KernelRecord.QueuePlaces.{valid-at-place}
use Rattle.kernel_calls.specs.CallAnswers.Guests.{guest_tests}
use Rattle.kernel_calls.specs.CallAnswers.CallChange.{by_refusal, done}
use Rattle.kernel_calls.specs.CallAnswers.Refusals.{first_refusal}
use Rattle.kernel_calls.specs.PacketCalls.PacketMoves.{arrived, sent_packet, with_arrived}
use Rattle.kernel_calls.specs.TaskCalls.SetFlags.{flagged, set_flags}
use Rattle.kernel_calls.specs.PacketCalls.TaskWait.{waiting}
use Rattle.resident_tasks.specs.ResidentRequests.Answers.{answered_packet, finished, finished_by, returned}
use Rattle.resident_tasks.specs.ResidentRequests.Requests.{first_request, request_at, taken, taken_from, words_taken_from, work}
use Rattle.resident_tasks.specs.declared.resident_requests.requests.Request.{Request}
use Rattle.resident_tasks.specs.ConsoleHandler.ConsoleTurn.{all_parts, answer_of, bytes_of, ended, key_of, keys_sent, treated, with_first, with_key, with_keyed, with_keys_sent, with_keys_taken, with_request, with_taken}
use Rattle.resident_tasks.specs.ConsoleHandler.Deliveries.{command_after, delivered, delivery, handed, line_after, line_service, with_read}
use Rattle.resident_tasks.specs.ConsoleHandler.KeyPacket.{keys_taken, keys_taken_from}
use Rattle.resident_tasks.specs.ConsoleHandler.Line.{Keyed, flags_of, is_printed, key, keyed, with_end, with_finish, without_end}
use Rattle.resident_tasks.specs.ConsoleHandler.TurnParts.{ConsoleTurn, and_then, begun}
use Rattle.resident_tasks.specs.ConsoleHandler.Reads.{put_off, read_taken_from, words_read_from}
use Rattle.guest_turns.specs.GuestTurn.{Numbers, numbers_of}
use Rattle.guest_turns.proofs.RunningField.{RunsIn, one-runs, queue-runs}
use Rattle.resident_tasks.proofs.FaultReporter.FaultsKept.{KeepsFault, there-same, work-keeps}
use Rattle.kernel_model.specs.declared.kernel_record.numbers.TheConstants.{CONSOLE}
use Rattle.kernel_machine.proofs.KernelSteps.CallRules.{set_flags-keeps}
use Rattle.kernel_machine.proofs.KernelSteps.FaultRule.{HasRule, arrived-rule}
use Rattle.kernel_machine.proofs.KernelSteps.HandledRules.{finished-keeps, finished-runs, rest-keeps, returned-keeps}

-- none of these is the fault packet, where there is one
abbrev pub NoneIsFault : Lists → List QueuedPacket → Type 0
NoneIsFault l ps = has_task 2 l.tasks ≡ true → AllByRecursion (λ p. eqb p.address fault_packet ≡ false) ps

-- what holds of a turn of which some parts are done
pub record IsKept (nums : Numbers) (g : ConsoleTurn) : Type 0 where
  pub runs : RunsIn nums g.lists
  pub rule : HasRule g.lists
  pub reads : NoneIsFault g.lists g.lists.pending
  pub line : length g.console.line ≤ 120
  pub command : length g.command ≤ 120

-- the reporter of faults is there where it was
task-stays : (l : Lists) (n : ℕ) (f : Task → Task) → ((t : Task) → ((f t).id ≡ t.id) × ((f t).fault ≡ t.fault)) → has_task 2 (with_task n f l).tasks ≡ has_task 2 l.tasks
task-stays l n f same = there-same (change_of n f) each 2 l.tasks
  where
    each : KeepsFault (change_of n f)
    each t = on (eqb t.id n)
      where
        on : (b : Bool) → ((cond b (f t) t).id ≡ t.id) × ((cond b (f t) t).fault ≡ t.fault)
        on true = same t
        on false = (refl, refl)

-- ---- a key

-- a line has at most 120 bytes
most-keyed : (c : Console) (b : ℕ) → length c.line ≤ 120 → length (key c b).console.line ≤ 120
most-keyed c b most = on (is_printed b) (eqb b 8 || eqb b 127) (eqb b 10 || eqb b 13)
  where
    appended : (d : Bool) → ltb (length c.line) 120 ≡ d → length (cond d (keyed (record c { line = c.line ++ b ∷ [] }) (b ∷ []) 0) (keyed c (7 ∷ []) 0)).console.line ≤ 120
    appended true e = omega (arith, length-append c.line (b ∷ []), ltb-true (length c.line) 120 e)
    appended false e = most

    rubbed : (d : Bool) → length (cond d (keyed c [] 0) (keyed (record c { line = take (length c.line - 1) c.line }) (8 ∷ 32 ∷ 8 ∷ []) 0)).console.line ≤ 120
    rubbed true = most
    rubbed false = omega (arith, length-take (length c.line - 1) c.line, most)

    on : (x y z : Bool) → length (cond x (with_end b c) (cond y (without_end c) (cond z (with_finish c) (keyed c [] (flags_of b))))).console.line ≤ 120
    on true y z = appended (ltb (length c.line) 120) refl
    on false true z = rubbed (eqb (length c.line) 0)
    on false false true = most
    on false false false = most

flags-runs : (nums : Numbers) (l : Lists) (id flags : ℕ) → RunsIn nums l → RunsIn nums (set_flags l id flags).lists
flags-runs nums l id flags h = on (first_refusal (guest_tests l id))
  where
    on : (o : Option ℕ) → RunsIn nums (by_refusal o l (done (with_task id (flagged flags) l))).lists
    on None = one-runs nums l id (flagged flags) (λ t one. one) h
    on (Some code) = h

flags-reads : (l : Lists) (id flags : ℕ) → NoneIsFault l l.pending → NoneIsFault (set_flags l id flags).lists (set_flags l id flags).lists.pending
flags-reads l id flags none = on (first_refusal (guest_tests l id))
  where
    on : (o : Option ℕ) → NoneIsFault (by_refusal o l (done (with_task id (flagged flags) l))).lists (by_refusal o l (done (with_task id (flagged flags) l))).lists.pending
    on None = λ there. none (sym (task-stays l id (flagged flags) (λ t. (refl, refl))) ∙ there)
    on (Some code) = none

-- other packets are left on a task's queue
work-stays : (l : Lists) (i : ℕ) (ps : List QueuedPacket) → has_task 2 (with_queue (Work i) ps l).tasks ≡ has_task 2 l.tasks
work-stays l i ps = there-same (with_work i ps) (work-keeps i ps) 2 l.tasks

module _ (nums : Numbers) where
  keys_taken-kept : (g : ConsoleTurn) → IsKept nums g → IsKept nums (with_keys_taken g)
  keys_taken-kept g k = on (work g.lists) refl
    where
      on : (ps : List QueuedPacket) → work g.lists ≡ ps → IsKept nums (and_then g (keys_taken_from ps g.lists).lists [] (keys_taken_from ps g.lists).events)
      on [] is = record { runs = k.runs; rule = k.rule; reads = k.reads; line = k.line; command = k.command }
      on (p ∷ ps) is =
          let m : Lists = with_queue (Work g.lists.running) ps g.lists in
          let runs : RunsIn nums m = queue-runs nums g.lists (Work g.lists.running) ps k.runs in
          let rule : HasRule m = (rest-keeps g.lists p ps is).faults k.rule in
          record {
            runs = record { numbers = runs.numbers; alone = runs.alone };
            rule = λ there. (let x = rule there in record { waits = x.waits; sender = x.sender });
            reads = λ there. k.reads (sym (work-stays g.lists g.lists.running ps) ∙ there);
            line = k.line;
            command = k.command;
          }

  keyed-kept : (id : ℕ) (x : Keyed) (g : ConsoleTurn) → length x.console.line ≤ 120 → IsKept nums g → IsKept nums (with_keyed id x g)
  keyed-kept id x g most k = record {
    runs = flags-runs nums g.lists id x.flags k.runs;
    rule = (set_flags-keeps g.lists id x.flags).faults k.rule;
    reads = flags-reads g.lists id x.flags k.reads;
    line = most;
    command = k.command;
  }

  key-kept : (id : ℕ) (g : ConsoleTurn) → IsKept nums g → IsKept nums (with_key id g)
  key-kept id g k =
      keyed-kept id (key g.console (key_of (keys_taken g.lists).answer)) (with_keys_taken g) (most-keyed g.console (key_of (keys_taken g.lists).answer) k.line) (keys_taken-kept g k)

  -- ---- a request

  request-kept : (s : List ℕ) (l : Lists) (r : Request) (g : ConsoleTurn) → RunsIn nums l → HasRule l → NoneIsFault l l.pending → (has_task 2 l.tasks ≡ true → eqb r.packet fault_packet ≡ false) → IsKept nums g
      → IsKept nums (with_request s l r g)
  request-kept s l r g runs rule reads other k = on (eqb r.kind 1)
    where
      on : (b : Bool)
          → IsKept nums (cond b (and_then g (put_off s l r).lists [] ((taken g.lists).events ++ (put_off s l r).events))
          (record (and_then g (returned l r (answer_of s r)).lists [] ((taken g.lists).events ++ (returned l r (answer_of s r)).events)) { bytes = g.bytes ++ bytes_of s r }))
      on true =
          let p : QueuedPacket = sent_packet s l Pending r.packet r.sender in
          record {
            runs = queue-runs nums l Pending (arrived Pending p l.pending) runs;
            rule = arrived-rule l Pending p other rule;
            reads = λ there. all-append (λ q. eqb q.address fault_packet ≡ false) l.pending (p ∷ []) (reads there) (other there, tt);
            line = k.line;
            command = k.command;
          }
      on false =
          let answer : Result ℕ ℕ = answer_of s r in
          record {
            runs = queue-runs nums l (Work r.sender) (queue_of (Work r.sender) l ++ answered_packet l r answer ∷ []) runs;
            rule = (returned-keeps l r answer other).faults rule;
            reads = λ there. reads (sym (work-stays l r.sender (queue_of (Work r.sender) l ++ answered_packet l r answer ∷ [])) ∙ there);
            line = k.line;
            command = k.command;
          }

  first-kept : (g : ConsoleTurn) → NoneIsFault g.lists (work g.lists) → IsKept nums g → IsKept nums (with_first g)
  first-kept g others k = on (work g.lists) refl
    where
      on : (ps : List QueuedPacket) → work g.lists ≡ ps → IsKept nums (with_taken (first_request (words_taken_from ps g.words g.lists) ps) (words_taken_from ps g.words g.lists) (taken_from ps g.lists).lists g)
      on [] is = k
      on (p ∷ ps) is =
          let l : Lists = with_queue (Work g.lists.running) ps g.lists in
          let before : has_task 2 l.tasks ≡ true → has_task 2 g.lists.tasks ≡ true = λ there. sym (work-stays g.lists g.lists.running ps) ∙ there in
          request-kept (words_taken_from (p ∷ ps) g.words g.lists) l (request_at (words_taken_from (p ∷ ps) g.words g.lists) p.address) g (queue-runs nums g.lists (Work g.lists.running) ps k.runs)
          ((rest-keeps g.lists p ps is).faults k.rule) (λ there. k.reads (before there))
          (λ there. (subst (AllByRecursion (λ q. eqb q.address fault_packet ≡ false)) is (others (before there))).0) k

  treated-kept : (id : ℕ) (g : ConsoleTurn) (ps : List QueuedPacket) → NoneIsFault g.lists (work g.lists) → IsKept nums g → IsKept nums (treated id ps g)
  treated-kept id g [] others k = k
  treated-kept id g (p ∷ ps) others k = on (is_key_packet g.lists p)
    where
      on : (b : Bool) → IsKept nums (cond b (with_key id g) (with_first g))
      on true = key-kept id g k
      on false = first-kept g others k

  -- ---- the delivery

  most-after : (answer : Result ℕ ℕ) (c : Console) → length c.line ≤ 120 → length (line_after answer c).line ≤ 120
  most-after (Ok n) c most = omega arith
  most-after (Err code) c most = most

  most-command : (r : Request) (line command : List ℕ) → length line ≤ 120 → length command ≤ 120 → length (command_after r line command) ≤ 120
  most-command r line command one two = on (eqb r.sender 1)
    where
      on : (b : Bool) → length (cond b line command) ≤ 120
      on true = one
      on false = two

  handed-kept : (g : ConsoleTurn) → IsKept nums g → IsKept nums (handed g)
  handed-kept g k = on g.lists.pending refl
    where
      on : (ps : List QueuedPacket) → g.lists.pending ≡ ps → IsKept nums (with_read (first_request (words_read_from ps g.words) ps) (words_read_from ps g.words) (read_taken_from ps g.lists).lists g)
      on [] is = k
      on (p ∷ ps) is =
          let l : Lists = with_queue Pending ps g.lists in
          let s : List ℕ = words_read_from (p ∷ ps) g.words in
          let r : Request = request_at s p.address in
          let answer : Result ℕ ℕ = (line_service s l g.console.line r).answer in
          let others : has_task 2 l.tasks ≡ true → AllByRecursion (λ q. eqb q.address fault_packet ≡ false) (p ∷ ps) = λ there. subst (AllByRecursion (λ q. eqb q.address fault_packet ≡ false)) is (k.reads there) in
          let rule : HasRule l = λ there. (let x = k.rule there in record { waits = x.waits; sender = x.sender }) in
          record {
            runs = queue-runs nums l (Work r.sender) (queue_of (Work r.sender) l ++ answered_packet l r answer ∷ []) (queue-runs nums g.lists Pending ps k.runs);
            rule = (returned-keeps l r answer (λ there. (others there).0)).faults rule;
            reads = λ there. (others (sym (work-stays l r.sender (queue_of (Work r.sender) l ++ answered_packet l r answer ∷ [])) ∙ there)).1;
            line = most-after answer g.console k.line;
            command = most-command r g.console.line g.command k.line k.command;
          }

  delivered-kept : (ps : List QueuedPacket) (g : ConsoleTurn) → IsKept nums g → IsKept nums (delivered ps g)
  delivered-kept [] g k = k
  delivered-kept (p ∷ ps) g k = on g.console.finished (delivered-kept ps (handed g) (handed-kept g k))
    where
      on : (b : Bool) → IsKept nums (delivered ps (handed g)) → IsKept nums (cond b (delivered ps (handed g)) g)
      on true more = more
      on false more = k

  -- ---- the key packet

  sent-kept : (g : ConsoleTurn) → IsKept nums g → IsKept nums (with_keys_sent g)
  sent-kept g k = on (is_some g.lists.key && not g.console.finished)
    where
      on : (b : Bool) → IsKept nums (cond b (keys_sent g) g)
      on true =
          let p : QueuedPacket = sent_packet g.words g.lists Keyboard key_packet CONSOLE in
          let runs : RunsIn nums (with_arrived Keyboard p g.lists) = queue-runs nums g.lists Keyboard (arrived Keyboard p g.lists.keyboard) k.runs in
          record {
            runs = record { numbers = runs.numbers; alone = runs.alone };
            rule = λ there. (let x = k.rule there in record { waits = x.waits; sender = x.sender });
            reads = k.reads;
            line = k.line;
            command = k.command;
          }
      on false = k

  ended-kept : (g : ConsoleTurn) → IsKept nums g → IsKept nums (ended g)
  ended-kept g k = record {
    runs = finished-runs nums g.lists k.runs;
    rule = (finished-keeps g.lists).faults k.rule;
    reads = reads-after;
    line = k.line;
    command = k.command;
  }
    where
      reads-after : NoneIsFault (finished g.lists) (finished g.lists).pending
      reads-after = on (work g.lists)
        where
          on : (ps : List QueuedPacket) → NoneIsFault (finished_by ps g.lists) (finished_by ps g.lists).pending
          on [] = λ there. k.reads (sym (task-stays g.lists g.lists.running waiting (λ t. (refl, refl))) ∙ there)
          on (p ∷ ps) = k.reads

  -- ---- the turn

  parts-kept : (id : ℕ) (g : ConsoleTurn) → NoneIsFault g.lists (work g.lists) → IsKept nums g → IsKept nums (all_parts id g)
  parts-kept id g others k =
      let t : ConsoleTurn = treated id (work g.lists) g in
      ended-kept (with_keys_sent (delivery t)) (sent-kept (delivery t) (delivered-kept t.lists.pending t (treated-kept id g (work g.lists) others k)))

-- in valid lists the fault packet is on the queue of the reporter of faults alone
pub none-fault : (l : Lists) (at : Place) → AreValid l → HasPlace l at → (at ≡ Work 2 → ⊥) → has_task 2 l.tasks ≡ true → AllByRecursion (λ p. eqb p.address fault_packet ≡ false) (queue_of at l)
none-fault l at v place other there = all-each (IsValidPacket l at) (λ p. eqb p.address fault_packet ≡ false) each (queue_of at l) (valid-at-place l at v place)
  where
    each : (p : QueuedPacket) → IsValidPacket l at p → eqb p.address fault_packet ≡ false
    each p valid-packet = on (eqb p.address fault_packet) refl
      where
        on : (b : Bool) → eqb p.address fault_packet ≡ b → b ≡ false
        on true e = absurd (other (valid-packet.fault (λ i. there i && e i)).place)
        on false e = refl

pub console-kept : (id : ℕ) (s : List ℕ) (l : Lists) (c : Console) (k : List ℕ) → AreValid l → l.residents ≡ true → has_task 3 l.tasks ≡ true → l.running ≡ 3 → RunsAlone l → HasRule l
    → length c.line ≤ 120 → length k ≤ 120 → IsKept (numbers_of l) (all_parts id (begun s l c k))
console-kept id s l c k v residents there is alone rule line command =
    parts-kept (numbers_of l) id (begun s l c k) (λ two. subst (λ i. AllByRecursion (λ p. eqb p.address fault_packet ≡ false) (queue_of (Work i) l)) (sym is) (none-fault l (Work 3) v there (λ e. cc) two))
    (record {
      runs = record { numbers = refl; alone = alone };
      rule = rule;
      reads = none-fault l Pending v residents (λ e. cc);
      line = line;
      command = command;
    })
