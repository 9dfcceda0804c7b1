-- What holds of a store, its lists and the events of a shell's turn as far as it has come: before the first packet is taken, while the
-- shell has its own packet, and once it has sent it. It goes from one part to the next.
use Rattle.std.proofs.Common.{◌≡◌, ℕ, ◌≤◌, Bool, true, false, cond, eqb, Option, Result, Ok, Err, List, [], ◌∷◌, ◌++◌, refl, arith}
use Rattle.std.proofs.lemmas.Bool.{eqb-true, le-leb}
use Rattle.word_store.specs.Arithmetic.{signed}
use Rattle.ram_disc.specs.Disc.{Disc}
use Rattle.ram_disc.specs.DiscCalls.{after_delete, after_open_read, after_rename}
use Rattle.kernel_lists.specs.PacketQueue.Queue.{no_queue}
use Rattle.kernel_lists.specs.PacketQueue.QueueWords.{QueuedPacket}
use Rattle.kernel_lists.specs.declared.packet_queue.events.KernelEvent.{KernelEvent}
use Rattle.kernel_lists.specs.declared.packet_queue.events.KernelEvent.TheVariants.{Taken}
use Rattle.kernel_model.specs.KernelRecord.Changes.{with_queue}
use Rattle.kernel_model.specs.KernelRecord.Kernel.{Mode, Shell}
use Rattle.kernel_model.specs.KernelRecord.Kernel.Mode.{Prompt, Reading, Typing, Waiting}
use Rattle.kernel_model.specs.KernelRecord.Lists.{Lists, has_task}
use Rattle.kernel_model.specs.KernelRecord.StoreWithLists.{StoreWithLists, left_with, store_with_lists}
use Rattle.kernel_model.specs.KernelRecord.ValidQueues.{HasGuest}
use Rattle.kernel_model.specs.KernelRecord.ValidQueues.Place.{Work}
use Rattle.kernel_model.specs.declared.kernel_record.numbers.TheConstants.{CONSOLE, SHELL, SHELL_PACKET}
use Rattle.kernel_model.proofs.KernelRecord.RootCounts.{highest-high}
use Rattle.kernel_calls.specs.CallAnswers.CallChange.{CallChange}
use Rattle.kernel_calls.specs.TaskCalls.ChangePri.{change_pri}
use Rattle.kernel_calls.specs.TaskCalls.HoldTask.{hold}
use Rattle.kernel_calls.specs.TaskCalls.ReleaseTask.{release}
use Rattle.kernel_calls.specs.TaskCalls.SetFlags.{set_flags}
use Rattle.resident_tasks.specs.ResidentRequests.Answers.{finished, returned}
use Rattle.resident_tasks.specs.ResidentRequests.Requests.{first_request, request_at, taken_from, work}
use Rattle.resident_tasks.specs.declared.resident_requests.requests.Request.{Request}
use Rattle.resident_tasks.specs.declared.resident_requests.requests.TheConstants.{UNKNOWN_TYPE}
use Rattle.resident_tasks.specs.declared.console_handler.requests.TheConstants.{READ_LINE}
use Rattle.command_lines.specs.Command.{command_of}
use Rattle.command_lines.specs.declared.commands.Command.{Command}
use Rattle.command_lines.specs.declared.commands.Command.TheVariants.{Break, ChangePriority, Delete, Examine, Finish, Hold, Map, Nothing, Release, Rename, Run, Start, Status, «Type»}
use Rattle.shell.specs.ShellListings.BlockLine.{block_line}
use Rattle.shell.specs.ShellListings.FileLines.{file_lines}
use Rattle.shell.specs.ShellListings.NumberLines.{error_line, task_number_line}
use Rattle.shell.specs.ShellListings.TaskLines.{task_lines}
use Rattle.shell.specs.ShellPrograms.ClearedTasks.{cleared}
use Rattle.shell.specs.ShellPrograms.ShellPacket.{post_events, posted, requested}
use Rattle.shell.specs.ShellPrograms.StoresWithLists.{left_by}
use Rattle.shell.specs.ShellPrograms.StartedProgram.{begun, start_program}
use Rattle.shell.specs.declared.shell_programs.programs.Priority.{Priority}
use Rattle.shell.specs.declared.shell_programs.programs.Priority.TheVariants.{AboveShell}
use Rattle.shell.proofs.ShellPrograms.KeptSteps.{started-there}
use Rattle.shell.specs.Commands.{after_run, after_start, executed, executed_if, line_executed, program_request, run, run_priority, start, with_program_begun, with_started}
use Rattle.shell.specs.Prompts.{answered, prompted, refused}
use Rattle.shell.specs.ShellTurn.{all_parts, ended, first_treated, result_of, return_code, returned_unknown, shell_turn, treated, treated_in, with_cleared}
use Rattle.shell.specs.TurnParts.{ShellTurn, and_then, begun as turn_begun, called, shown, with_disc}
use Rattle.shell.specs.TypedFiles.{goes_on, is_typed, opened, typed, typed_if, with_piece, with_stream_closed}

-- the lists once the first packet was taken, the store that this leaves, and the event
abbrev pub without_first : List QueuedPacket → StoreWithLists → Lists
without_first ps k = with_queue (Work k.lists.running) ps k.lists

abbrev pub after_first : QueuedPacket → List QueuedPacket → StoreWithLists → StoreWithLists
after_first p ps k = left_with k.words (without_first ps k) ((p.address, no_queue) ∷ [])

abbrev pub first_event : QueuedPacket → StoreWithLists → KernelEvent
first_event p k = Taken (signed k.lists.running) p.address (signed p.sender)

-- the packet comes back to its sender
abbrev pub sent_back : QueuedPacket → List QueuedPacket → StoreWithLists → CallChange
sent_back p ps k = returned (without_first ps k) (request_at (after_first p ps k).words p.address) (Err UNKNOWN_TYPE)

-- Before it takes a packet the shell clears up. It has its own packet once it has taken it, and returns any other. It goes on having it
-- where a program is started, or refused, and begins, and at each call about a task. It sends it as a request to a task that is there, or
-- as it is to itself; or it finishes the machine, and keeps it. Then its turn ends, or stops.
pub record Allows (Before Has Sent : StoreWithLists → List KernelEvent → Type 0) (After : Lists → List KernelEvent → Type 0) : Type 0 where
  pub at_clearing : (k : StoreWithLists) (es : List KernelEvent) → Before k es → Before (cleared k) (es ++ [])
  pub at_waiting : (k : StoreWithLists) (es : List KernelEvent) → Before k es → Sent k es
  pub at_none : (k : StoreWithLists) (es : List KernelEvent) → Before k es → Sent (left_with k.words k.lists []) (es ++ [])
  pub at_own : (p : QueuedPacket) (ps : List QueuedPacket) (k : StoreWithLists) (es : List KernelEvent) → work k.lists ≡ p ∷ ps → p.address ≡ SHELL_PACKET → Before k es
      → Has (after_first p ps k) (es ++ first_event p k ∷ [])
  pub at_other : (p : QueuedPacket) (ps : List QueuedPacket) (k : StoreWithLists) (es : List KernelEvent) → work k.lists ≡ p ∷ ps → Before k es
      → Sent (left_by (after_first p ps k).words (sent_back p ps k)) ((es ++ first_event p k ∷ []) ++ (sent_back p ps k).events)
  pub console : (k : StoreWithLists) (es : List KernelEvent) → Has k es → has_task CONSOLE k.lists.tasks ≡ true
  pub at_start : (d : Disc) (name : List ℕ) (rest : Result (Unit {0}) ℕ) (pri : Priority) (k : StoreWithLists) (es : List KernelEvent) → Has k es → Has (start_program d name rest pri k).left (es ++ [])
  pub at_beginning : (id : ℕ) (k : StoreWithLists) (es : List KernelEvent) → HasGuest k.lists id → Has k es → Has (begun id k) (es ++ [])
  pub at_hold : (id : ℕ) (k : StoreWithLists) (es : List KernelEvent) → Has k es → Has (left_by k.words (hold k.lists id)) (es ++ (hold k.lists id).events)
  pub at_release : (id : ℕ) (k : StoreWithLists) (es : List KernelEvent) → Has k es → Has (left_by k.words (release k.lists id)) (es ++ (release k.lists id).events)
  pub at_priority : (id pri : ℕ) (k : StoreWithLists) (es : List KernelEvent) → Has k es → Has (left_by k.words (change_pri k.lists id pri)) (es ++ (change_pri k.lists id pri).events)
  pub at_flags : (id flags : ℕ) (k : StoreWithLists) (es : List KernelEvent) → Has k es → Has (left_by k.words (set_flags k.lists id flags)) (es ++ (set_flags k.lists id flags).events)
  pub at_request : (to kind : ℕ) (k : StoreWithLists) (es : List KernelEvent) → to ≤ 63 → has_task to k.lists.tasks ≡ true → Has k es → Sent (requested to kind k) (es ++ post_events to)
  pub at_going_on : (k : StoreWithLists) (es : List KernelEvent) → Has k es → Sent (posted SHELL k) (es ++ post_events SHELL)
  pub at_finish : (k : StoreWithLists) (es : List KernelEvent) → Has k es → Sent k es
  pub at_stop : (k : StoreWithLists) (es : List KernelEvent) → Sent k es → After k.lists es
  pub at_end : (k : StoreWithLists) (es : List KernelEvent) → Sent k es → After (finished k.lists) (es ++ [])

module _ (Before Has Sent : StoreWithLists → List KernelEvent → Type 0) (After : Lists → List KernelEvent → Type 0) (h : Allows Before Has Sent After) where
  abbrev On : ShellTurn → Type 0
  On x = Has x.store x.events

  abbrev Done : ShellTurn → Type 0
  Done x = Sent x.store x.events

  prompted-done : (x : ShellTurn) → On x → Done (prompted x)
  prompted-done x r = h.at_request CONSOLE READ_LINE x.store x.events (omega arith) (h.console x.store x.events r) r

  refused-done : (code : ℕ) (x : ShellTurn) → On x → Done (refused code x)
  refused-done code x r = prompted-done (shown (error_line code) x) r

  answered-done : {A : Type 0} (o : Result A ℕ) (x : ShellTurn) → On x → Done (answered o x)
  answered-done (Ok a) x r = prompted-done x r
  answered-done (Err code) x r = refused-done code x r

  -- ---- files

  typed-done : (x : ShellTurn) → On x → Done (typed x)
  typed-done x r = on (is_typed (with_piece x).disc)
    where
      on : (b : Bool) → Done (cond b (prompted (with_disc (with_stream_closed (with_piece x).disc) (with_piece x))) (goes_on (with_piece x)))
      on true = prompted-done (with_disc (with_stream_closed (with_piece x).disc) (with_piece x)) r
      on false = h.at_going_on x.store x.events r

  opened-done : (o : Result ℕ ℕ) (x : ShellTurn) → On x → Done (typed_if o x)
  opened-done (Ok stream) x r = typed-done x r
  opened-done (Err code) x r = refused-done code x r

  -- ---- programs

  run-done : (name : List ℕ) (priority : Option ℕ) (x : ShellTurn) → On x → Done (run name priority x)
  run-done name priority x r = on (start_program x.disc name (Ok tt) (run_priority priority) x.store).answer refl
    where
      y : ShellTurn
      y = with_started (start_program x.disc name (Ok tt) (run_priority priority) x.store) x

      q : On y
      q = h.at_start x.disc name (Ok tt) (run_priority priority) x.store x.events r

      on : (o : Result ℕ ℕ) → (start_program x.disc name (Ok tt) (run_priority priority) x.store).answer ≡ o → Done (after_run o y)
      on (Ok id) e =
          let there = started-there x.disc name (Ok tt) (run_priority priority) x.store id e in
          prompted-done (shown (task_number_line id) (with_program_begun id y)) (h.at_beginning id y.store y.events (le-leb 5 id there.low, there.there) q)
      on (Err code) e = refused-done code y q

  start-done : (name : List ℕ) (rest : Result (Unit {0}) ℕ) (x : ShellTurn) → On x → Done (start name rest x)
  start-done name rest x r = on (start_program x.disc name rest AboveShell x.store).answer refl
    where
      y : ShellTurn
      y = with_started (start_program x.disc name rest AboveShell x.store) x

      q : On y
      q = h.at_start x.disc name rest AboveShell x.store x.events r

      on : (o : Result ℕ ℕ) → (start_program x.disc name rest AboveShell x.store).answer ≡ o → Done (after_start o y)
      on (Ok id) e =
          let there = started-there x.disc name rest AboveShell x.store id e in
          h.at_request id program_request y.store y.events (omega (arith, there.high, highest-high x.store.lists.version)) there.there q
      on (Err code) e = refused-done code y q

  -- ---- commands

  executed-done : (c : Command) (x : ShellTurn) → On x → Done (executed c x)
  executed-done Nothing x r = prompted-done x r
  executed-done («Type» name) x r = opened-done (after_open_read x.disc name true).answer (opened (after_open_read x.disc name true) x) r
  executed-done Examine x r = prompted-done (shown (file_lines x.disc) x) r
  executed-done (Delete name) x r = answered-done (after_delete x.disc name).answer (with_disc (after_delete x.disc name).disc x) r
  executed-done (Rename from to) x r = answered-done (after_rename x.disc from to).answer (with_disc (after_rename x.disc from to).disc x) r
  executed-done Status x r = prompted-done (shown (task_lines x.store.lists.tasks) x) r
  executed-done Map x r = prompted-done (shown (block_line x.store.lists.blocks) x) r
  executed-done (Hold id) x r = answered-done (hold x.store.lists id).answer (called (hold x.store.lists id) x) (h.at_hold id x.store x.events r)
  executed-done (Release id) x r = answered-done (release x.store.lists id).answer (called (release x.store.lists id) x) (h.at_release id x.store x.events r)
  executed-done (ChangePriority id pri) x r = answered-done (change_pri x.store.lists id pri).answer (called (change_pri x.store.lists id pri) x) (h.at_priority id pri x.store x.events r)
  executed-done (Break id flags) x r = answered-done (set_flags x.store.lists id flags).answer (called (set_flags x.store.lists id flags) x) (h.at_flags id flags x.store x.events r)
  executed-done (Run program priority) x r = run-done program priority x r
  executed-done Finish x r = h.at_finish x.store x.events r
  executed-done (Start program rest) x r = start-done program rest x r

  line-done : (o : Result Command ℕ) (x : ShellTurn) → On x → Done (executed_if o x)
  line-done (Ok c) x r = executed-done c x r
  line-done (Err code) x r = refused-done code x r

  -- ---- its packet, by its mode

  own-done : (m : Mode) (q : Request) (x : ShellTurn) → On x → Done (treated_in m q x)
  own-done Prompt q x r = prompted-done x r
  own-done Reading q x r = on (eqb q.sender CONSOLE)
    where
      on : (b : Bool) → Done (cond b (line_executed x) (prompted x))
      on true = line-done (command_of x.shell.line) x r
      on false = prompted-done x r
  own-done (Waiting id) q x r = prompted-done (shown (return_code (result_of x)) x) r
  own-done Typing q x r = typed-done x r

  -- ---- the first packet

  -- where the shell has these packets
  abbrev first_of : List QueuedPacket → ShellTurn → ShellTurn
  first_of ps x = let t = taken_from ps x.store.lists in
      let y : ShellTurn = and_then (left_with x.store.words t.lists t.plain) t.events x in
      treated (first_request y.store.words ps) y

  first-done : (x : ShellTurn) → Before x.store x.events → Done (first_treated x)
  first-done x b = on (work x.store.lists) refl
    where
      on : (ps : List QueuedPacket) → work x.store.lists ≡ ps → Done (first_of ps x)
      on [] e = h.at_none x.store x.events b
      on (p ∷ ps) e = either (eqb p.address SHELL_PACKET) refl
        where
          y : ShellTurn
          y = and_then (after_first p ps x.store) (first_event p x.store ∷ []) x

          r : Request
          r = request_at y.store.words p.address

          either : (c : Bool) → eqb p.address SHELL_PACKET ≡ c → Done (cond c (treated_in y.shell.mode r y) (returned_unknown r y))
          either true own = own-done y.shell.mode r y (h.at_own p ps x.store x.events e (eqb-true p.address SHELL_PACKET own) b)
          either false other = h.at_other p ps x.store x.events e b

  -- ---- the turn

  ended-done : (x : ShellTurn) → Done x → After (ended x).store.lists (ended x).events
  ended-done x b = on x.finished
    where
      on : (c : Bool) → let y : ShellTurn = cond c x (and_then (left_with x.store.words (finished x.store.lists) []) [] x) in
          After y.store.lists y.events
      on true = h.at_stop x.store x.events b
      on false = h.at_end x.store x.events b

  pub turn-done : (s : List ℕ) (l : Lists) (sh : Shell) (d : Disc) → Before (store_with_lists s l) [] → After (shell_turn s l sh d).store.lists (shell_turn s l sh d).events
  unfolding shell_turn
  turn-done s l sh d b = on (work l)
    where
      x : ShellTurn
      x = turn_begun s l sh d

      on : (ps : List QueuedPacket) → let y : ShellTurn = ended (all_parts ps x) in
          After y.store.lists y.events
      on [] = ended-done x (h.at_waiting (store_with_lists s l) [] b)
      on (p ∷ ps) = ended-done (first_treated (with_cleared x)) (first-done (with_cleared x) (h.at_clearing (store_with_lists s l) [] b))
