-- What a turn of the shell leaves of the shell and of its stream.
use Rattle.std.proofs.Common.{◌≡◌, ℕ, ◌-◌, ◌≤◌, Bool, true, false, not, cond, eqb, Option, Some, None, Result, Ok, Err, List, [], ◌∷◌, get_or, length, get_or-set_same, ◌⊎◌, refl, sym, ap, ◌∙◌, subst, arith, inl, inr, length-set}
use Rattle.std.specs.Prelude.{is_some}
use Rattle.kernel_lists.specs.PacketQueue.QueueWords.{QueuedPacket}
use Rattle.kernel_model.specs.KernelRecord.Between.{IsAwaited, is_typing}
use Rattle.kernel_model.specs.KernelRecord.Kernel.{Mode, Shell}
use Rattle.kernel_model.specs.KernelRecord.Kernel.Mode.{Prompt, Reading, Typing, Waiting}
use Rattle.kernel_model.specs.KernelRecord.Lists.{Lists}
use Rattle.kernel_model.specs.KernelRecord.Versions.{highest_id_of}
use Rattle.ram_disc.specs.Disc.{Disc, Stream, has_file, is_used, is_written, most_streams, shell_stream, stream_at}
use Rattle.ram_disc.specs.DiscCalls.{Outcome, after_delete, after_rename, bytes_read, is_reader, moved_on, reader, renamed, unless_refused, with_stream, without_file}
use Rattle.kernel_calls.specs.TaskCalls.ChangePri.{change_pri}
use Rattle.kernel_calls.specs.TaskCalls.HoldTask.{hold}
use Rattle.kernel_calls.specs.TaskCalls.ReleaseTask.{release}
use Rattle.kernel_calls.specs.TaskCalls.SetFlags.{set_flags}
use Rattle.kernel_model.specs.KernelRecord.StoreWithLists.{left_with, store_with_lists}
use Rattle.resident_tasks.specs.ResidentRequests.Answers.{finished}
use Rattle.resident_tasks.specs.ResidentRequests.Requests.{first_request, request_at, taken_from, work}
use Rattle.resident_tasks.specs.declared.resident_requests.requests.Request.{Request}
use Rattle.command_lines.specs.Command.{command_of}
use Rattle.command_lines.specs.declared.commands.Command.{Command}
use Rattle.command_lines.specs.declared.commands.Command.TheVariants.{Break, ChangePriority, Delete, Examine, Finish, Hold, Map, Nothing, Release, Rename, Run, Start, Status, «Type»}
use Rattle.shell.specs.ShellListings.BlockLine.{block_line}
use Rattle.shell.specs.ShellListings.FileLines.{file_lines}
use Rattle.shell.specs.ShellListings.NumberLines.{error_line, task_number_line}
use Rattle.shell.specs.ShellListings.TaskLines.{task_lines}
use Rattle.shell.specs.ShellPrograms.StartedProgram.{start_program}
use Rattle.shell.specs.declared.shell_programs.programs.Priority.TheVariants.{AboveShell}
use Rattle.shell.proofs.ShellPrograms.KeptRules.{cleared-residents}
use Rattle.shell.proofs.ShellPrograms.KeptSteps.{started-there}
use Rattle.kernel_model.specs.declared.kernel_record.numbers.TheConstants.{CONSOLE, SHELL_PACKET}
use Rattle.shell.specs.Commands.{after_run, after_start, executed, executed_if, line_executed, run, run_priority, start, with_program_begun, with_started}
use Rattle.shell.specs.Prompts.{answered, prompted, refused}
use Rattle.shell.specs.ShellTurn.{all_parts, ended, first_treated, packet_taken, return_code, result_of, returned_unknown, shell_turn, treated, treated_in, with_cleared}
use Rattle.shell.specs.TurnParts.{ShellTurn, and_then, begun, called, shown, with_disc}
use Rattle.shell.specs.TypedFiles.{goes_on, is_at_end, is_typed, opened, piece_size, typed, typed_if, with_file_typed, with_piece, with_stream_closed}

-- ---- calls on the disc

-- a call is accepted, with this answer and this disc, or refused, and the disc stays
accepted-or : {A : Type 0} (d : Disc) (tests : List (Bool × ℕ)) (answer : A) (next : Disc)
    → (unless_refused d tests answer next ≡ record { answer = Ok answer; disc = next }) ⊎ ((code : ℕ) × (unless_refused d tests answer next ≡ record { answer = Err code; disc = d }))
accepted-or d [] answer next = inl refl
accepted-or {A} d (test ∷ tests) answer next = on test.0 (accepted-or d tests answer next)
  where
    on : (b : Bool) → (unless_refused d tests answer next ≡ record { answer = Ok answer; disc = next }) ⊎ ((code : ℕ) × (unless_refused d tests answer next ≡ record { answer = Err code; disc = d }))
        → (cond b (unless_refused d tests answer next) (record { answer = Err test.1; disc = d }) ≡ record { answer = Ok answer; disc = next })
        ⊎ ((code : ℕ) × (cond b (unless_refused d tests answer next) (record { answer = Err test.1; disc = d }) ≡ record { answer = Err code; disc = d }))
    on true more = more
    on false more = inr (test.1, refl)

kept-streams : {A : Type 0} (d : Disc) (tests : List (Bool × ℕ)) (answer : A) (next : Disc) → next.streams ≡ d.streams → (unless_refused d tests answer next).disc.streams ≡ d.streams
kept-streams d tests answer next same =
    elim (accepted-or d tests answer next) [ inl e ↦ ap (λ o. o.disc.streams) e ∙ same | inr e ↦ ap (λ o. o.disc.streams) e.1 ]

-- the shell's stream is closed, or a stream is another, and there are as many streams
many-streams : {A : Type 0} (d : Disc) (tests : List (Bool × ℕ)) (answer : A) (k : ℕ) (s : Option Stream) → length (unless_refused d tests answer (with_stream d k s)).disc.streams ≡ length d.streams
many-streams d tests answer k s =
    elim (accepted-or d tests answer (with_stream d k s)) [ inl e ↦ ap (λ o. length o.disc.streams) e ∙ length-set d.streams (k - 1) s | inr e ↦ ap (λ o. length o.disc.streams) e.1 ]

closed-none : (d : Disc) → length d.streams ≡ most_streams → is_some (stream_at (with_stream_closed d) shell_stream) ≡ false
closed-none d many = on (is_some (stream_at d shell_stream)) refl
  where
    none : Unit {0}
    none = tt

    on : (b : Bool) → is_some (stream_at d shell_stream) ≡ b → is_some (stream_at (unless_refused d ((b, 46) ∷ []) none (with_stream d shell_stream None)).disc shell_stream) ≡ false
    on true e = ap is_some (get_or-set_same d.streams 16 None None (omega (arith, many)))
    on false e = e

-- ---- what holds while parts are done

-- the line is the same, and there are as many streams
record HasLine (w : List ℕ) (x : ShellTurn) : Type 0 where
  pub line : x.shell.line ≡ w
  pub streams : length x.disc.streams ≡ most_streams

-- and the shell's stream is closed
record IsClosed (w : List ℕ) (x : ShellTurn) : Type 0 where
  pub still : HasLine w x
  pub closed : is_some (stream_at x.disc shell_stream) ≡ false

-- what holds between turns
pub record IsSound (v : ℕ) (w : List ℕ) (x : ShellTurn) : Type 0 where
  pub line : x.shell.line ≡ w
  pub typing : is_some (stream_at x.disc shell_stream) ≡ is_typing x.shell.mode
  pub awaited : IsAwaited (highest_id_of v) x.shell.mode

module _ (v : ℕ) (w : List ℕ) where
  prompted-sound : (x : ShellTurn) → IsClosed w x → IsSound v w (prompted x)
  prompted-sound x h = record { line = h.still.line; typing = h.closed; awaited = tt }

  refused-sound : (code : ℕ) (x : ShellTurn) → IsClosed w x → IsSound v w (refused code x)
  refused-sound code x h = prompted-sound (shown (error_line code) x) (record { still = record { line = h.still.line; streams = h.still.streams }; closed = h.closed })

  answered-sound : {A : Type 0} (o : Result A ℕ) (x : ShellTurn) → IsClosed w x → IsSound v w (answered o x)
  answered-sound (Ok a) x h = prompted-sound x h
  answered-sound (Err code) x h = refused-sound code x h

  -- another part was done, which leaves the shell and the disc
  same-closed : (x y : ShellTurn) → y.shell ≡ x.shell → y.disc ≡ x.disc → IsClosed w x → IsClosed w y
  same-closed x y shell disc h =
      record {
        still = record { line = ap (λ (s : Shell). s.line) shell ∙ h.still.line; streams = ap (λ d. length d.streams) disc ∙ h.still.streams };
        closed = ap (λ d. is_some (stream_at d shell_stream)) disc ∙ h.closed;
      }

  -- ---- files

  typed-sound : (x : ShellTurn) → HasLine w x → IsSound v w (typed x)
  typed-sound x h = on (is_typed y.disc) refl
    where
      y : ShellTurn
      y = with_piece x

      streams : length y.disc.streams ≡ most_streams
      streams =
          many-streams x.disc ((is_reader (stream_at x.disc shell_stream), 46) ∷ []) (length (bytes_read x.disc shell_stream piece_size)) shell_stream
          (moved_on (length (bytes_read x.disc shell_stream piece_size)) (stream_at x.disc shell_stream))
          ∙ h.streams

      is_open : (s : Option Stream) → is_at_end y.disc s ≡ false → is_some s ≡ true
      is_open None e = cc
      is_open (Some s) e = refl

      on : (b : Bool) → is_typed y.disc ≡ b → IsSound v w (cond b (prompted (with_disc (with_stream_closed y.disc) y)) (goes_on y))
      on true e =
          prompted-sound (with_disc (with_stream_closed y.disc) y)
          (record {
            still = record { line = h.line; streams = many-streams y.disc ((is_some (stream_at y.disc shell_stream), 46) ∷ []) tt shell_stream None ∙ streams };
            closed = closed-none y.disc streams;
          })
      on false e = record { line = h.line; typing = is_open (stream_at y.disc shell_stream) e; awaited = tt }

  file-sound : (name : List ℕ) (x : ShellTurn) → IsClosed w x → IsSound v w (with_file_typed name x)
  file-sound name x h =
      elim (accepted-or d tests shell_stream next) [
        | inl e ↦ subst (λ o. IsSound v w (typed_if o.answer (opened o x))) (sym e) (typed-sound (with_disc next x) (record { line = h.still.line; streams = length-set d.streams 16 (Some (reader name 0)) ∙ h.still.streams }))
        | inr e ↦ subst (λ o. IsSound v w (typed_if o.answer (opened o x))) (sym e.1) (refused-sound e.0 x h)
      ]
    where
      d : Disc
      d = x.disc

      tests : List (Bool × ℕ)
      tests = (has_file d name, 41) ∷ (not (is_written d name), 47) ∷ (true, 45) ∷ []

      next : Disc
      next = with_stream d shell_stream (Some (reader name 0))

  disc-sound : {A : Type 0} (o : Outcome A) (x : ShellTurn) → o.disc.streams ≡ x.disc.streams → IsClosed w x → IsSound v w (answered o.answer (with_disc o.disc x))
  disc-sound o x same h =
      answered-sound o.answer (with_disc o.disc x)
      (record { still = record { line = h.still.line; streams = ap length same ∙ h.still.streams }; closed = ap (λ ss. is_some (get_or ss 16 None)) same ∙ h.closed })

  -- ---- programs

  run-sound : (name : List ℕ) (priority : Option ℕ) (x : ShellTurn) → IsClosed w x → IsSound v w (run name priority x)
  run-sound name priority x h = on (start_program x.disc name (Ok tt) (run_priority priority) x.store).answer
    where
      y : ShellTurn
      y = with_started (start_program x.disc name (Ok tt) (run_priority priority) x.store) x

      on : (o : Result ℕ ℕ) → IsSound v w (after_run o y)
      on (Ok id) = prompted-sound (shown (task_number_line id) (with_program_begun id y)) (same-closed x (shown (task_number_line id) (with_program_begun id y)) refl refl h)
      on (Err code) = refused-sound code y (same-closed x y refl refl h)

  start-sound : (name : List ℕ) (rest : Result (Unit {0}) ℕ) (x : ShellTurn) → x.store.lists.version ≡ v → IsClosed w x → IsSound v w (start name rest x)
  start-sound name rest x version h = on (start_program x.disc name rest AboveShell x.store).answer refl
    where
      y : ShellTurn
      y = with_started (start_program x.disc name rest AboveShell x.store) x

      on : (o : Result ℕ ℕ) → (start_program x.disc name rest AboveShell x.store).answer ≡ o → IsSound v w (after_start o y)
      on (Ok id) e =
          let there = started-there x.disc name rest AboveShell x.store id e in
          record { line = h.still.line; typing = h.closed; awaited = (there.low, subst (λ z. id ≤ highest_id_of z) version there.high) }
      on (Err code) e = refused-sound code y (same-closed x y refl refl h)

  -- ---- commands

  executed-sound : (c : Command) (x : ShellTurn) → x.store.lists.version ≡ v → IsSound v w x → IsClosed w x → IsSound v w (executed c x)
  executed-sound Nothing x version s h = prompted-sound x h
  executed-sound («Type» name) x version s h = file-sound name x h
  executed-sound Examine x version s h = prompted-sound (shown (file_lines x.disc) x) (same-closed x (shown (file_lines x.disc) x) refl refl h)
  executed-sound (Delete name) x version s h =
      disc-sound (after_delete x.disc name) x
      (kept-streams x.disc ((has_file x.disc name, 41) ∷ (not (is_used x.disc name), 47) ∷ []) tt (record x.disc { files = without_file name x.disc.files }) refl) h
  executed-sound (Rename from to) x version s h =
      disc-sound (after_rename x.disc from to) x
      (kept-streams x.disc ((has_file x.disc from, 41) ∷ (not (has_file x.disc to), 42) ∷ (not (is_used x.disc from), 47) ∷ []) tt (record x.disc { files = renamed x.disc from to }) refl) h
  executed-sound Status x version s h = prompted-sound (shown (task_lines x.store.lists.tasks) x) (same-closed x (shown (task_lines x.store.lists.tasks) x) refl refl h)
  executed-sound Map x version s h = prompted-sound (shown (block_line x.store.lists.blocks) x) (same-closed x (shown (block_line x.store.lists.blocks) x) refl refl h)
  executed-sound (Hold task) x version s h = answered-sound (hold x.store.lists task).answer (called (hold x.store.lists task) x) (same-closed x (called (hold x.store.lists task) x) refl refl h)
  executed-sound (Release task) x version s h = answered-sound (release x.store.lists task).answer (called (release x.store.lists task) x) (same-closed x (called (release x.store.lists task) x) refl refl h)
  executed-sound (ChangePriority task priority) x version s h =
      answered-sound (change_pri x.store.lists task priority).answer (called (change_pri x.store.lists task priority) x)
      (same-closed x (called (change_pri x.store.lists task priority) x) refl refl h)
  executed-sound (Break task flags) x version s h =
      answered-sound (set_flags x.store.lists task flags).answer (called (set_flags x.store.lists task flags) x) (same-closed x (called (set_flags x.store.lists task flags) x) refl refl h)
  executed-sound (Run program priority) x version s h = run-sound program priority x h
  executed-sound Finish x version s h = record { line = s.line; typing = s.typing; awaited = s.awaited }
  executed-sound (Start program rest) x version s h = start-sound program rest x version h

  line-sound : (o : Result Command ℕ) (x : ShellTurn) → x.store.lists.version ≡ v → IsSound v w x → IsClosed w x → IsSound v w (executed_if o x)
  line-sound (Ok c) x version s h = executed-sound c x version s h
  line-sound (Err code) x version s h = refused-sound code x h

  -- ---- packets

  still-closed : (x : ShellTurn) (m : Mode) → x.shell.mode ≡ m → is_typing m ≡ false → HasLine w x → IsSound v w x → IsClosed w x
  still-closed x m is other h s = record { still = h; closed = s.typing ∙ ap is_typing is ∙ other }

  own-sound : (m : Mode) (r : Request) (x : ShellTurn) → x.shell.mode ≡ m → x.store.lists.version ≡ v → HasLine w x → IsSound v w x → IsSound v w (treated_in m r x)
  own-sound Prompt r x is version h s = prompted-sound x (still-closed x Prompt is refl h s)
  own-sound Reading r x is version h s = on (eqb r.sender CONSOLE)
    where
      closed : IsClosed w x
      closed = still-closed x Reading is refl h s

      on : (b : Bool) → IsSound v w (cond b (line_executed x) (prompted x))
      on true = line-sound (command_of x.shell.line) x version s closed
      on false = prompted-sound x closed
  own-sound (Waiting id) r x is version h s =
      (let y = shown (return_code (result_of x)) x in prompted-sound y (same-closed x y refl refl (still-closed x (Waiting id) is refl h s)))
  own-sound Typing r x is version h s = typed-sound x h

  first-sound : (x : ShellTurn) → x.store.lists.version ≡ v → HasLine w x → IsSound v w x → IsSound v w (first_treated x)
  first-sound x version h s = on (work x.store.lists)
    where
      y : ShellTurn
      y = packet_taken x

      taken-version : (ps : List QueuedPacket) → (taken_from ps x.store.lists).lists.version ≡ v
      taken-version [] = version
      taken-version (p ∷ ps) = version

      sound : IsSound v w y
      sound = record { line = s.line; typing = s.typing; awaited = s.awaited }

      on : (ps : List QueuedPacket) → IsSound v w (treated (first_request y.store.words ps) y)
      on [] = sound
      on (q ∷ qs) = either (eqb q.address SHELL_PACKET)
        where
          r : Request
          r = request_at y.store.words q.address

          either : (b : Bool) → IsSound v w (cond b (treated_in y.shell.mode r y) (returned_unknown r y))
          either true = own-sound y.shell.mode r y refl (taken-version (work x.store.lists)) (record { line = h.line; streams = h.streams }) sound
          either false = record { line = s.line; typing = s.typing; awaited = s.awaited }

  ended-sound : (x : ShellTurn) → IsSound v w x → IsSound v w (ended x)
  ended-sound x s = on x.finished
    where
      on : (b : Bool) → IsSound v w (cond b x (and_then (left_with x.store.words (finished x.store.lists) []) [] x))
      on true = s
      on false = record { line = s.line; typing = s.typing; awaited = s.awaited }

-- ---- the turn

pub turn-sound : (words : List ℕ) (l : Lists) (sh : Shell) (d : Disc) → length d.streams ≡ most_streams → is_some (stream_at d shell_stream) ≡ is_typing sh.mode → IsAwaited (highest_id_of l.version) sh.mode
    → IsSound l.version sh.line (shell_turn words l sh d)
unfolding shell_turn
turn-sound words l sh d many typing awaited = on (work l)
  where
    x : ShellTurn
    x = begun words l sh d

    sound : IsSound l.version sh.line x
    sound = record { line = refl; typing = typing; awaited = awaited }

    on : (ps : List QueuedPacket) → IsSound l.version sh.line (ended (all_parts ps x))
    on [] = ended-sound l.version sh.line x sound
    on (p ∷ ps) =
        ended-sound l.version sh.line (first_treated (with_cleared x))
        (first-sound l.version sh.line (with_cleared x) (ap (λ (m : Lists). m.version) (cleared-residents (store_with_lists words l)).rest) (record { line = refl; streams = many })
        (record { line = refl; typing = typing; awaited = awaited }))
