-- The turn of whoever runs leaves a valid disc.
use Rattle.std.proofs.Common.{◌≡◌, ℕ, Bool, true, false, cond, eqb, Option, Some, None, Result, Ok, Err, List, [], ◌∷◌, length, codes, refl, subst}
use Rattle.ram_disc.specs.Disc.{Disc, IsDisc, shell_stream}
use Rattle.ram_disc.specs.DiscCalls.{after_delete, after_open_read, after_rename}
use Rattle.ram_disc.specs.Name.{IsName, is_name}
use Rattle.ram_disc.proofs.NameLemmas.{IsName-from_test}
use Rattle.kernel_lists.specs.PacketQueue.QueueWords.{QueuedPacket}
use Rattle.kernel_model.specs.KernelRecord.Image.{image}
use Rattle.kernel_model.specs.KernelRecord.Kernel.{Kernel, Mode, Shell}
use Rattle.kernel_model.specs.KernelRecord.Kernel.Mode.{Prompt, Reading, Typing, Waiting}
use Rattle.kernel_model.specs.KernelRecord.Lists.{Lists}
use Rattle.kernel_model.specs.KernelRecord.StoreWithLists.{left_with}
use Rattle.kernel_model.specs.declared.kernel_record.numbers.TheConstants.{CONSOLE, SHELL_PACKET}
use Rattle.resident_tasks.specs.ResidentRequests.Answers.{finished}
use Rattle.resident_tasks.specs.ResidentRequests.Requests.{first_request, request_at, work}
use Rattle.resident_tasks.specs.declared.resident_requests.requests.Request.{Request}
use Rattle.command_lines.specs.Arguments.{arguments, name_of, number_of, on_ok, option_number_at, text_at}
use Rattle.command_lines.specs.Command.{command_by, command_of, file_in, named_command, nothing_in, task_in}
use Rattle.command_lines.specs.CommandNames.{command_named}
use Rattle.command_lines.specs.Words.{first_word, rest_of}
use Rattle.command_lines.specs.declared.command_names.CommandName.{CommandName}
use Rattle.command_lines.specs.declared.command_names.CommandName.TheVariants.{TypeFile, ListFiles, DeleteFile, RenameFile, ListTasks, CountBlocks, HoldTask, ReleaseTask, SetPriority, SetFlags, RunProgram, FinishMachine}
use Rattle.command_lines.specs.declared.commands.Command.{Command}
use Rattle.command_lines.specs.declared.commands.Command.TheVariants.{Break, ChangePriority, Delete, Examine, Finish, Hold, Map, Nothing, Release, Rename, Run, Start, Status, «Type»}
use Rattle.shell.specs.ShellPrograms.StartedProgram.{start_program}
use Rattle.shell.specs.declared.shell_programs.programs.Priority.TheVariants.{AboveShell}
use Rattle.shell.specs.Commands.{after_run, after_start, executed, executed_if, line_executed, run_priority, with_started}
use Rattle.shell.specs.Prompts.{answered, prompted}
use Rattle.shell.specs.ShellTurn.{all_parts, ended, first_treated, packet_taken, returned_unknown, shell_turn, treated, treated_in, with_cleared}
use Rattle.shell.specs.TurnParts.{ShellTurn, and_then, begun, with_disc}
use Rattle.shell.specs.TypedFiles.{goes_on, is_typed, opened, typed, typed_if, with_piece, with_stream_closed}
use Rattle.kernel_machine.specs.KernelSteps.Step.{turn}
use Rattle.kernel_machine.proofs.KernelSteps.TurnWays.{turn-ways}
use Rattle.tripos_machine.proofs.PacketHistory.ValidCalls.{close-valid, delete-valid, open_read-valid, read-valid, rename-valid}
use Rattle.tripos_machine.proofs.PacketHistory.DiscRequests.{handler-disc}

-- ---- the names in commands

-- a file gets a lawful name
abbrev IsLawful : Command → Type 0
IsLawful (Rename from to) = IsName to
IsLawful _ = Unit {0}

abbrev AreLawful : Result Command ℕ → Type 0
AreLawful (Ok c) = IsLawful c
AreLawful (Err code) = Unit {0}

ok-lawful : {A : Type 0} (r : Result A ℕ) (next : A → Result Command ℕ) → ((x : A) → r ≡ Ok x → AreLawful (next x)) → AreLawful (on_ok r next)
ok-lawful (Ok x) next each = each x refl
ok-lawful (Err code) next each = tt

name-lawful : (text to : List ℕ) → name_of text ≡ Ok to → IsName to
name-lawful text to = on (is_name text) refl
  where
    on : (b : Bool) → is_name text ≡ b → ◌≡◌ {A = Result (List ℕ) ℕ} (cond b (Ok text) (Err 40)) (Ok to) → IsName to
    on true is e = (let same : text ≡ to = cc in subst IsName same (IsName-from_test text is))
    on false is e = cc

named-lawful : (name : CommandName) (rest : List ℕ) → AreLawful (named_command name rest)
named-lawful TypeFile rest = ok-lawful (file_in rest) _ (λ name e. tt)
named-lawful ListFiles rest = ok-lawful (nothing_in rest) _ (λ none e. tt)
named-lawful DeleteFile rest = ok-lawful (file_in rest) _ (λ name e. tt)
named-lawful RenameFile rest =
    ok-lawful (arguments (codes "FROM/A,TO=AS/A") rest) _ (λ args e.
    ok-lawful (name_of (text_at rest args 0)) _ (λ from f. ok-lawful (name_of (text_at rest args 1)) (λ to. Ok (Rename from to)) (λ to g. name-lawful (text_at rest args 1) to g)))
named-lawful ListTasks rest = ok-lawful (nothing_in rest) _ (λ none e. tt)
named-lawful CountBlocks rest = ok-lawful (nothing_in rest) _ (λ none e. tt)
named-lawful HoldTask rest = ok-lawful (task_in rest) _ (λ task e. tt)
named-lawful ReleaseTask rest = ok-lawful (task_in rest) _ (λ task e. tt)
named-lawful SetPriority rest =
    ok-lawful (arguments (codes "TASK/A,PRI/A") rest) _ (λ args e.
    ok-lawful (number_of (text_at rest args 0)) _ (λ task f. ok-lawful (number_of (text_at rest args 1)) (λ priority. Ok (ChangePriority task priority)) (λ priority g. tt)))
named-lawful SetFlags rest =
    ok-lawful (arguments (codes "TASK/A,B/S,C/S,D/S,E/S") rest) _ (λ args e. ok-lawful (number_of (text_at rest args 0)) _ (λ task f. tt))
named-lawful RunProgram rest =
    ok-lawful (arguments (codes "PROGRAM/A,PRI/K") rest) _ (λ args e.
    ok-lawful (option_number_at rest args 1) _ (λ priority f. ok-lawful (name_of (text_at rest args 0)) (λ program. Ok (Run program priority)) (λ program g. tt)))
named-lawful FinishMachine rest = ok-lawful (nothing_in rest) _ (λ none e. tt)

command-lawful : (line : List ℕ) → AreLawful (command_of line)
unfolding command_of
command-lawful line = on (eqb (length (first_word line)) 0)
  where
    by : (o : Option CommandName) → AreLawful (command_by o (first_word line) (rest_of line))
    by (Some name) = named-lawful name (rest_of line)
    by None = ok-lawful (name_of (first_word line)) _ (λ program e. tt)

    on : (b : Bool) → AreLawful (cond b (Ok Nothing) (command_by (command_named (first_word line)) (first_word line) (rest_of line)))
    on true = tt
    on false = by (command_named (first_word line))

-- ---- the shell

abbrev On : ShellTurn → Type 0
On x = IsDisc x.disc

answered-disc : {A : Type 0} (o : Result A ℕ) (x : ShellTurn) → On x → On (answered o x)
answered-disc (Ok a) x h = h
answered-disc (Err code) x h = h

typed-disc : (x : ShellTurn) → On x → On (typed x)
typed-disc x h = on (is_typed y.disc)
  where
    y : ShellTurn
    y = with_piece x

    left : On y
    left = read-valid x.disc h shell_stream 512

    on : (b : Bool) → On (cond b (prompted (with_disc (with_stream_closed y.disc) y)) (goes_on y))
    on true = close-valid y.disc left shell_stream
    on false = left

opened-disc : (o : Result ℕ ℕ) (x : ShellTurn) → On x → On (typed_if o x)
opened-disc (Ok stream) x h = typed-disc x h
opened-disc (Err code) x h = h

run-disc : (o : Result ℕ ℕ) (x : ShellTurn) → On x → On (after_run o x)
run-disc (Ok id) x h = h
run-disc (Err code) x h = h

start-disc : (o : Result ℕ ℕ) (x : ShellTurn) → On x → On (after_start o x)
start-disc (Ok id) x h = h
start-disc (Err code) x h = h

executed-disc : (c : Command) (x : ShellTurn) → IsLawful c → On x → On (executed c x)
executed-disc Nothing x lawful h = h
executed-disc («Type» name) x lawful h = opened-disc (after_open_read x.disc name true).answer (opened (after_open_read x.disc name true) x) (open_read-valid x.disc h name true)
executed-disc Examine x lawful h = h
executed-disc (Delete name) x lawful h = answered-disc (after_delete x.disc name).answer (with_disc (after_delete x.disc name).disc x) (delete-valid x.disc h name)
executed-disc (Rename from to) x lawful h = answered-disc (after_rename x.disc from to).answer (with_disc (after_rename x.disc from to).disc x) (rename-valid x.disc h from to lawful)
executed-disc Status x lawful h = h
executed-disc Map x lawful h = h
executed-disc (Hold task) x lawful h = answered-disc _ _ h
executed-disc (Release task) x lawful h = answered-disc _ _ h
executed-disc (ChangePriority task priority) x lawful h = answered-disc _ _ h
executed-disc (Break task flags) x lawful h = answered-disc _ _ h
executed-disc (Run program priority) x lawful h =
    run-disc (start_program x.disc program (Ok tt) (run_priority priority) x.store).answer (with_started (start_program x.disc program (Ok tt) (run_priority priority) x.store) x) h
executed-disc Finish x lawful h = h
executed-disc (Start program rest) x lawful h = start-disc (start_program x.disc program rest AboveShell x.store).answer (with_started (start_program x.disc program rest AboveShell x.store) x) h

line-disc : (o : Result Command ℕ) (x : ShellTurn) → AreLawful o → On x → On (executed_if o x)
line-disc (Ok c) x lawful h = executed-disc c x lawful h
line-disc (Err code) x lawful h = h

own-disc : (m : Mode) (r : Request) (x : ShellTurn) → On x → On (treated_in m r x)
own-disc Prompt r x h = h
own-disc Reading r x h = on (eqb r.sender CONSOLE)
  where
    on : (b : Bool) → On (cond b (line_executed x) (prompted x))
    on true = line-disc (command_of x.shell.line) x (command-lawful x.shell.line) h
    on false = h
own-disc (Waiting id) r x h = h
own-disc Typing r x h = typed-disc x h

first-disc : (x : ShellTurn) → On x → On (first_treated x)
first-disc x h = on (work x.store.lists)
  where
    y : ShellTurn
    y = packet_taken x

    on : (ps : List QueuedPacket) → On (treated (first_request y.store.words ps) y)
    on [] = h
    on (q ∷ qs) = either (eqb q.address SHELL_PACKET)
      where
        r : Request
        r = request_at y.store.words q.address

        either : (b : Bool) → On (cond b (treated_in y.shell.mode r y) (returned_unknown r y))
        either true = own-disc y.shell.mode r y h
        either false = h

shell-disc : (s : List ℕ) (l : Lists) (sh : Shell) (d : Disc) → IsDisc d → IsDisc (shell_turn s l sh d).disc
unfolding shell_turn
shell-disc s l sh d h = on (work l)
  where
    ended-disc : (x : ShellTurn) → On x → On (ended x)
    ended-disc x h = by x.finished
      where
        by : (b : Bool) → On (cond b x (and_then (left_with x.store.words (finished x.store.lists) []) [] x))
        by true = h
        by false = h

    on : (ps : List QueuedPacket) → On (ended (all_parts ps (begun s l sh d)))
    on [] = ended-disc (begun s l sh d) h
    on (p ∷ ps) = ended-disc (first_treated (with_cleared (begun s l sh d))) (first-disc (with_cleared (begun s l sh d)) h)

-- ---- whoever runs

pub turn-disc : (k : Kernel) → IsDisc k.disc → IsDisc (turn k).kernel.disc
turn-disc k h =
    turn-ways (λ x. IsDisc x.kernel.disc) k
    (record {
      guest = λ e. h;
      shell = λ e. shell-disc (image k) k.lists k.shell k.disc h;
      reporter = λ e. h;
      console = λ e. h;
      files = λ e. handler-disc k.disc h (image k) k.lists;
      pipes = λ e f. h;
      nobody = λ e. h;
    })
