-- What each part of the shell's turn keeps of the lists the whole turn keeps.
use Rattle.std.proofs.Common.{◌≡◌, ℕ, ◌≤◌, Bool, true, false, cond, eqb, Option, Result, Ok, Err, List, [], ◌∷◌, refl, arith}
use Rattle.std.proofs.lemmas.Bool.{le-leb}
use Rattle.kernel_lists.specs.OwnedWords.Owned.{written}
use Rattle.kernel_lists.specs.PacketQueue.QueueWords.{QueuedPacket}
use Rattle.kernel_model.specs.KernelRecord.Kernel.{Mode, Shell}
use Rattle.kernel_model.specs.KernelRecord.Kernel.Mode.{Prompt, Reading, Typing, Waiting}
use Rattle.kernel_model.specs.KernelRecord.Lists.{Lists}
use Rattle.kernel_model.specs.KernelRecord.Task.{is_guest_id}
use Rattle.kernel_model.proofs.KernelRecord.RootCounts.{highest-high}
use Rattle.ram_disc.specs.Disc.{Disc}
use Rattle.ram_disc.specs.DiscCalls.{after_delete, after_open_read, after_rename}
use Rattle.kernel_calls.specs.TaskCalls.ChangePri.{change_pri}
use Rattle.kernel_calls.specs.TaskCalls.HoldTask.{hold}
use Rattle.kernel_calls.specs.TaskCalls.ReleaseTask.{release}
use Rattle.kernel_calls.specs.TaskCalls.SetFlags.{set_flags}
use Rattle.kernel_model.specs.KernelRecord.StoreWithLists.{StoreWithLists, left_with, store_with_lists}
use Rattle.resident_tasks.specs.ResidentRequests.Answers.{finished, returned}
use Rattle.resident_tasks.specs.ResidentRequests.Requests.{first_request, request_at, taken, work}
use Rattle.resident_tasks.specs.declared.resident_requests.requests.Request.{Request}
use Rattle.command_lines.specs.Command.{command_of}
use Rattle.command_lines.specs.declared.commands.Command.{Command}
use Rattle.command_lines.specs.declared.commands.Command.TheVariants.{Break, ChangePriority, Delete, Examine, Finish, Hold, Map, Nothing, Release, Rename, Run, Start, Status, «Type»}
use Rattle.shell.specs.ShellListings.BlockLine.{block_line}
use Rattle.shell.specs.ShellListings.FileLines.{file_lines}
use Rattle.shell.specs.ShellListings.NumberLines.{error_line, task_number_line}
use Rattle.shell.specs.ShellListings.TaskLines.{task_lines}
use Rattle.shell.specs.ShellPrograms.ClearedTasks.{cleared}
use Rattle.shell.specs.ShellPrograms.ShellPacket.{posted, request_words}
use Rattle.shell.specs.ShellPrograms.StartedProgram.{begun, start_program}
use Rattle.shell.specs.declared.shell_programs.programs.Priority.{Priority}
use Rattle.shell.specs.declared.shell_programs.programs.Priority.TheVariants.{AboveShell}
use Rattle.shell.proofs.ShellPrograms.KeptSteps.{started-there}
use Rattle.kernel_model.specs.declared.kernel_record.numbers.TheConstants.{CONSOLE, SHELL, SHELL_PACKET}
use Rattle.resident_tasks.specs.declared.console_handler.requests.TheConstants.{READ_LINE}
use Rattle.shell.specs.Commands.{after_run, after_start, executed, executed_if, line_executed, program_request, run, run_priority, start, with_program_begun, with_started}
use Rattle.shell.specs.Prompts.{answered, prompt, prompted, refused, with_packet_sent}
use Rattle.shell.specs.ShellTurn.{all_parts, ended, first_treated, packet_taken, returned_unknown, result_of, return_code, shell_turn, treated, treated_in, with_cleared}
use Rattle.shell.specs.TurnParts.{ShellTurn, and_then, begun as turn_begun, called, shown, with_disc}
use Rattle.shell.specs.TypedFiles.{goes_on, is_typed, opened, typed, typed_if, with_piece, with_stream_closed}

-- Where Q holds of the lists, P holds once the first packet was taken, and once that of another task was returned, refused. P goes
-- over: where the shell's packet is sent; where a program is started, and begins; at each call about a task; and where the turn ends.
pub record Allows (Q P : Lists → Type 0) : Type 0 where
  pub at_taking : (l : Lists) → Q l → P (taken l).lists
  pub at_refusal : (l : Lists) (r : Request) (p : QueuedPacket) (ps : List QueuedPacket) → work l ≡ p ∷ ps → r.packet ≡ p.address → Q l → P (returned (taken l).lists r (Err 31)).lists
  pub at_sending : (to : ℕ) (k : StoreWithLists) → to ≤ 63 → P k.lists → P (posted to k).lists
  pub at_start : (d : Disc) (name : List ℕ) (rest : Result (Unit {0}) ℕ) (pri : Priority) (k : StoreWithLists) → P k.lists → P (start_program d name rest pri k).left.lists
  pub at_beginning : (id : ℕ) (k : StoreWithLists) → is_guest_id id ≡ true → P k.lists → P (begun id k).lists
  pub at_hold : (l : Lists) (id : ℕ) → P l → P (hold l id).lists
  pub at_release : (l : Lists) (id : ℕ) → P l → P (release l id).lists
  pub at_priority : (l : Lists) (id pri : ℕ) → P l → P (change_pri l id pri).lists
  pub at_flags : (l : Lists) (id flags : ℕ) → P l → P (set_flags l id flags).lists
  pub at_end : (l : Lists) → P l → P (finished l)

module _ (Q P : Lists → Type 0) (h : Allows Q P) where
  -- the lists of a turn so far
  abbrev On : ShellTurn → Type 0
  On x = P x.store.lists

  sent-keeps : (to kind : ℕ) (x : ShellTurn) → to ≤ 63 → On x → On (with_packet_sent to kind x)
  sent-keeps to kind x low p = h.at_sending to (store_with_lists (written (request_words kind) x.store.words) x.store.lists) low p

  prompted-keeps : (x : ShellTurn) → On x → On (prompted x)
  prompted-keeps x p = sent-keeps CONSOLE READ_LINE (shown prompt x) (omega arith) p

  refused-keeps : (code : ℕ) (x : ShellTurn) → On x → On (refused code x)
  refused-keeps code x p = prompted-keeps (shown (error_line code) x) p

  answered-keeps : {A : Type 0} (o : Result A ℕ) (x : ShellTurn) → On x → On (answered o x)
  answered-keeps (Ok a) x p = prompted-keeps x p
  answered-keeps (Err code) x p = refused-keeps code x p

  -- ---- files

  typed-keeps : (x : ShellTurn) → On x → On (typed x)
  typed-keeps x p = on (is_typed (with_piece x).disc)
    where
      on : (b : Bool) → On (cond b (prompted (with_disc (with_stream_closed (with_piece x).disc) (with_piece x))) (goes_on (with_piece x)))
      on true = prompted-keeps (with_disc (with_stream_closed (with_piece x).disc) (with_piece x)) p
      on false = h.at_sending SHELL x.store (omega arith) p

  opened-keeps : (o : Result ℕ ℕ) (x : ShellTurn) → On x → On (typed_if o x)
  opened-keeps (Ok stream) x p = typed-keeps x p
  opened-keeps (Err code) x p = refused-keeps code x p

  -- ---- programs

  run-keeps : (name : List ℕ) (priority : Option ℕ) (x : ShellTurn) → On x → On (run name priority x)
  run-keeps name priority x p = on (start_program x.disc name (Ok tt) (run_priority priority) x.store).answer refl
    where
      y : ShellTurn
      y = with_started (start_program x.disc name (Ok tt) (run_priority priority) x.store) x

      q : On y
      q = h.at_start x.disc name (Ok tt) (run_priority priority) x.store p

      on : (o : Result ℕ ℕ) → (start_program x.disc name (Ok tt) (run_priority priority) x.store).answer ≡ o → On (after_run o y)
      on (Ok id) e =
          prompted-keeps (shown (task_number_line id) (with_program_begun id y))
          (h.at_beginning id y.store (le-leb 5 id (started-there x.disc name (Ok tt) (run_priority priority) x.store id e).low) q)
      on (Err code) e = refused-keeps code y q

  start-keeps : (name : List ℕ) (rest : Result (Unit {0}) ℕ) (x : ShellTurn) → On x → On (start name rest x)
  start-keeps name rest x p = on (start_program x.disc name rest AboveShell x.store).answer refl
    where
      y : ShellTurn
      y = with_started (start_program x.disc name rest AboveShell x.store) x

      q : On y
      q = h.at_start x.disc name rest AboveShell x.store p

      on : (o : Result ℕ ℕ) → (start_program x.disc name rest AboveShell x.store).answer ≡ o → On (after_start o y)
      on (Ok id) e =
          let there = started-there x.disc name rest AboveShell x.store id e in
          sent-keeps id program_request y (omega (arith, there.high, highest-high x.store.lists.version)) q
      on (Err code) e = refused-keeps code y q

  -- ---- commands

  executed-keeps : (c : Command) (x : ShellTurn) → On x → On (executed c x)
  executed-keeps Nothing x p = prompted-keeps x p
  executed-keeps («Type» name) x p = opened-keeps (after_open_read x.disc name true).answer (opened (after_open_read x.disc name true) x) p
  executed-keeps Examine x p = prompted-keeps (shown (file_lines x.disc) x) p
  executed-keeps (Delete name) x p = answered-keeps (after_delete x.disc name).answer (with_disc (after_delete x.disc name).disc x) p
  executed-keeps (Rename from to) x p = answered-keeps (after_rename x.disc from to).answer (with_disc (after_rename x.disc from to).disc x) p
  executed-keeps Status x p = prompted-keeps (shown (task_lines x.store.lists.tasks) x) p
  executed-keeps Map x p = prompted-keeps (shown (block_line x.store.lists.blocks) x) p
  executed-keeps (Hold task) x p = answered-keeps (hold x.store.lists task).answer (called (hold x.store.lists task) x) (h.at_hold x.store.lists task p)
  executed-keeps (Release task) x p = answered-keeps (release x.store.lists task).answer (called (release x.store.lists task) x) (h.at_release x.store.lists task p)
  executed-keeps (ChangePriority task priority) x p =
      answered-keeps (change_pri x.store.lists task priority).answer (called (change_pri x.store.lists task priority) x) (h.at_priority x.store.lists task priority p)
  executed-keeps (Break task flags) x p = answered-keeps (set_flags x.store.lists task flags).answer (called (set_flags x.store.lists task flags) x) (h.at_flags x.store.lists task flags p)
  executed-keeps (Run program priority) x p = run-keeps program priority x p
  executed-keeps Finish x p = p
  executed-keeps (Start program rest) x p = start-keeps program rest x p

  line-keeps : (o : Result Command ℕ) (x : ShellTurn) → On x → On (executed_if o x)
  line-keeps (Ok c) x p = executed-keeps c x p
  line-keeps (Err code) x p = refused-keeps code x p

  -- ---- packets

  own-keeps : (m : Mode) (r : Request) (x : ShellTurn) → On x → On (treated_in m r x)
  own-keeps Prompt r x p = prompted-keeps x p
  own-keeps Reading r x p = on (eqb r.sender CONSOLE)
    where
      on : (b : Bool) → On (cond b (line_executed x) (prompted x))
      on true = line-keeps (command_of x.shell.line) x p
      on false = prompted-keeps x p
  own-keeps (Waiting id) r x p = prompted-keeps (shown (return_code (result_of x)) x) p
  own-keeps Typing r x p = typed-keeps x p

  first-keeps : (x : ShellTurn) → Q x.store.lists → On (first_treated x)
  first-keeps x p = on (work x.store.lists) refl
    where
      y : ShellTurn
      y = packet_taken x

      on : (ps : List QueuedPacket) → work x.store.lists ≡ ps → On (treated (first_request y.store.words ps) y)
      on [] e = h.at_taking x.store.lists p
      on (q ∷ qs) e = either (eqb q.address SHELL_PACKET)
        where
          r : Request
          r = request_at y.store.words q.address

          either : (b : Bool) → On (cond b (treated_in y.shell.mode r y) (returned_unknown r y))
          either true = own-keeps y.shell.mode r y (h.at_taking x.store.lists p)
          either false = h.at_refusal x.store.lists r q qs e refl p

  ended-keeps : (x : ShellTurn) → On x → On (ended x)
  ended-keeps x p = on x.finished
    where
      on : (b : Bool) → On (cond b x (and_then (left_with x.store.words (finished x.store.lists) []) [] x))
      on true = p
      on false = h.at_end x.store.lists p

  -- ---- the turn

  pub turn-keeps : (s : List ℕ) (l : Lists) (sh : Shell) (d : Disc) → P l → Q (cleared (store_with_lists s l)).lists → P (shell_turn s l sh d).store.lists
  unfolding shell_turn
  turn-keeps s l sh d p q = on (work l)
    where
      x : ShellTurn
      x = turn_begun s l sh d

      on : (ps : List QueuedPacket) → On (ended (all_parts ps x))
      on [] = ended-keeps x p
      on (r ∷ rs) = ended-keeps (first_treated (with_cleared x)) (first-keeps (with_cleared x) q)
