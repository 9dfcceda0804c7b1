-- How a request ends: it is refused and changes nothing, or it is accepted and leaves the shell's stream alone.
use Rattle.std.proofs.Common.{◌≡◌, ◌≢◌, ◌⊎◌, ℕ, ◌+◌, ◌-◌, ◌&&◌, Bool, true, false, not, if◌then◌else◌, Option, Some, None, Ok, Err, List, [], ◌∷◌, length, take, inl, inr, refl, sym, ap, ◌∙◌, arith, get_or, get_or-set_other, unwrap_or}
use Rattle.std.specs.List.{position}
use Rattle.std.specs.Option.{is_none, is_some}
use Rattle.std.proofs.lemmas.Bool.{eq-eqb}
use Rattle.std.proofs.lemmas.List.{length-take}
use Rattle.kernel_model.specs.KernelRecord.Lists.{Lists}
use Rattle.ram_disc.specs.Disc.{Disc, Stream, has_file, is_used, is_written, shell_stream, stream_at}
use Rattle.ram_disc.specs.DiscCalls.{Outcome, after_append, after_close, after_delete, after_open_read, after_open_write, after_read_on, after_rename, bytes_left, bytes_read, free_stream, handler_streams, has_free_stream, has_place, has_room, is_reader, is_writer, moved_on, nth_of, reader, renamed, unless_refused as unless_call_refused, with_bytes, with_more, with_stream, without_file, writer}
use Rattle.ram_disc.proofs.Calls.{position-below}
use Rattle.resident_tasks.specs.ResidentRequests.Buffers.{bytes_in, is_readable, is_writable}
use Rattle.resident_tasks.specs.ResidentRequests.Names.{is_name_at}
use Rattle.resident_tasks.specs.ResidentRequests.Requests.{first_request, taken, words_taken, work}
use Rattle.resident_tasks.specs.declared.resident_requests.requests.Request.{Request}
use Rattle.resident_tasks.specs.FileHandler.FileCalls.{file_call}
use Rattle.resident_tasks.specs.FileHandler.FileRequests.{Handled, by_call, by_silent_call, call_handled, examined, file_request, first_name, handled, handler_stream, name_buffer, refused, second_name, unless_refused}
use Rattle.resident_tasks.specs.FileHandler.FileTurn.{disc_after, disc_after_turn}
use Rattle.resident_tasks.specs.declared.file_handler.calls.FileCall.{FileCall}
use Rattle.resident_tasks.specs.declared.file_handler.calls.FileCall.TheVariants.{Append, Close, Delete, Examine, OpenToRead, OpenToWrite, ReadOn, Rename}

abbrev Keeps : Disc → Disc → Type 0
Keeps d after = stream_at after shell_stream ≡ stream_at d shell_stream

-- it is accepted, or refused
abbrev Ends : Disc → Handled → Type 0
Ends d m = ((n : ℕ) × (m.answer ≡ Ok n) × Keeps d m.disc) ⊎ ((code : ℕ) × (m ≡ refused d code))

module _ (d : Disc) where
  -- after a test that tells something, and after two
  ends-one : (test : Bool) (code : ℕ) (m : Handled) → (test ≡ true → Ends d m) → Ends d (unless_refused d ((test, code) ∷ []) m)
  ends-one true code m h = h refl
  ends-one false code m h = inr (code, refl)

  ends-two : (test other : Bool) (code last : ℕ) (m : Handled) → (test ≡ true → Ends d m) → Ends d (unless_refused d ((test, code) ∷ (other, last) ∷ []) m)
  ends-two true other code last m h = ends-one other last m (λ _. h refl)
  ends-two false other code last m h = inr (code, refl)

  -- by a call on the disc
  ends-tested : (test : Bool) (code : ℕ) (o : Outcome ℕ) → Ends d (by_call o) → Ends d (by_call (if test then o else record { answer = Err code; disc = d }))
  ends-tested true code o h = h
  ends-tested false code o h = inr (code, refl)

  ends-call : (tests : List (Bool × ℕ)) (answer : ℕ) (next : Disc) → Keeps d next → Ends d (by_call (unless_call_refused d tests answer next))
  ends-call [] answer next keeps = inl (answer, refl, keeps)
  ends-call (test ∷ tests) answer next keeps = ends-tested test.0 test.1 (unless_call_refused d tests answer next) (ends-call tests answer next keeps)

  ends-tested-silent : (n : ℕ) (test : Bool) (code : ℕ) (o : Outcome (Unit {0})) → Ends d (by_silent_call n o) → Ends d (by_silent_call n (if test then o else record { answer = Err code; disc = d }))
  ends-tested-silent n true code o h = h
  ends-tested-silent n false code o h = inr (code, refl)

  ends-silent : (n : ℕ) (tests : List (Bool × ℕ)) (next : Disc) → Keeps d next → Ends d (by_silent_call n (unless_call_refused d tests tt next))
  ends-silent n [] next keeps = inl (n, refl, keeps)
  ends-silent n (test ∷ tests) next keeps = ends-tested-silent n test.0 test.1 (unless_call_refused d tests tt next) (ends-silent n tests next keeps)

  -- ---- another stream than the shell's

  other-stream : (files : Disc) (k : ℕ) (x : Option Stream) → files.streams ≡ d.streams → k ≢ shell_stream → Keeps d (with_stream files k x)
  other-stream files k x same other = get_or-set_other files.streams (k - 1) 16 x None (λ e. other (omega (arith, e))) ∙ ap (λ z. get_or z 16 None) same

  -- one that a test found to be the file handler's
  not-shell : (k : ℕ) (test : Option Stream → Bool) → test None ≡ false → test (handler_stream d k) ≡ true → k ≢ shell_stream
  not-shell k test none some e = let is : handler_stream d k ≡ None = ap (λ b. if b then None else stream_at d k) (eq-eqb k shell_stream e) in cc

  free-other : free_stream d ≢ shell_stream
  free-other = on (position is_none (handler_streams d)) refl
    where
      on : (o : Option ℕ) → position is_none (handler_streams d) ≡ o → unwrap_or o 0 + 1 ≢ shell_stream
      on None e = λ is. absurd (omega (arith, is))
      on (Some k) e = λ is. absurd (omega (arith, is, position-below is_none (handler_streams d) k e, length-take 16 d.streams))

  same-streams : (o : Option Stream) (bytes : List ℕ) → (with_more d o bytes).streams ≡ d.streams
  same-streams None bytes = refl
  same-streams (Some s) bytes = refl

  -- ---- requests

  module _ (name other : List ℕ) where
    ends-open_read : Ends d (by_call (after_open_read d name false))
    ends-open_read =
        ends-call ((has_file d name, 41) ∷ (not (is_written d name), 47) ∷ (has_free_stream d, 45) ∷ []) (free_stream d) (with_stream d (free_stream d) (Some (reader name 0)))
        (other-stream d (free_stream d) (Some (reader name 0)) refl free-other)

    ends-open_write : Ends d (by_call (after_open_write d name))
    ends-open_write =
        ends-call ((not (is_used d name), 47) ∷ (has_free_stream d, 45) ∷ (has_place d name, 44) ∷ []) (free_stream d) (with_stream (with_bytes d name []) (free_stream d) (Some (writer name 0)))
        (other-stream (with_bytes d name []) (free_stream d) (Some (writer name 0)) refl free-other)

    ends-delete : Ends d (by_silent_call 0 (after_delete d name))
    ends-delete = ends-silent 0 ((has_file d name, 41) ∷ (not (is_used d name), 47) ∷ []) (record d { files = without_file name d.files }) refl

    ends-rename : Ends d (by_silent_call 0 (after_rename d name other))
    ends-rename =
        ends-silent 0 ((has_file d name, 41) ∷ (not (has_file d other), 42) ∷ (not (is_used d name), 47) ∷ []) (record d { files = renamed d name other }) refl

  module _ (k : ℕ) (is : k ≢ shell_stream) where
    ends-read_on : (count : ℕ) → Ends d (record (by_call (after_read_on d k count)) { bytes = bytes_read d k count })
    ends-read_on count = on (is_reader (stream_at d k)) (take count (bytes_left d (stream_at d k)))
      where
        on : (b : Bool) (piece : List ℕ)
            → Ends d (record (by_call (unless_call_refused d ((b, 46) ∷ []) (length (if b then piece else [])) (with_stream d k (moved_on (length (if b then piece else [])) (stream_at d k))))) {
              bytes = if b then piece else [];
            })
        on true piece = inl (length piece, refl, other-stream d k (moved_on (length piece) (stream_at d k)) refl is)
        on false piece = inr (46, refl)

    ends-append : (bytes : List ℕ) (n : ℕ) → Ends d (by_silent_call n (after_append d k bytes))
    ends-append bytes n =
        ends-silent n ((is_writer (stream_at d k), 46) ∷ (has_room (with_more d (stream_at d k) bytes), 43) ∷ [])
        (with_stream (with_more d (stream_at d k) bytes) k (moved_on (length bytes) (stream_at d k)))
        (other-stream (with_more d (stream_at d k) bytes) k (moved_on (length bytes) (stream_at d k)) (same-streams (stream_at d k) bytes) is)

    ends-close : Ends d (by_silent_call 0 (after_close d k))
    ends-close = ends-silent 0 ((is_some (stream_at d k), 46) ∷ []) (with_stream d k None) (other-stream d k None refl is)

  module _ (s : List ℕ) (l : Lists) (r : Request) where
    ends-examined : (file : Option (List ℕ × ℕ)) → Ends d (examined d s l r file)
    ends-examined None = inr (41, refl)
    ends-examined (Some file) = ends-one (is_writable s l r.packet r.second 16) 48 (handled d (Ok file.1) (name_buffer file.0)) (λ _. inl (file.1, refl, refl))

    ends-asked : (asked : Option FileCall) → Ends d (call_handled d s l r asked)
    ends-asked (Some OpenToRead) = ends-one (is_name_at s r.first) 40 (by_call (after_open_read d (first_name s r) false)) (λ _. ends-open_read (first_name s r) [])
    ends-asked (Some OpenToWrite) = ends-one (is_name_at s r.first) 40 (by_call (after_open_write d (first_name s r))) (λ _. ends-open_write (first_name s r) [])
    ends-asked (Some ReadOn) =
        ends-two (is_reader (handler_stream d r.first)) (is_writable s l r.packet r.second r.third) 46 48
        (record (by_call (after_read_on d r.first r.third)) { bytes = bytes_read d r.first r.third })
        (λ e. ends-read_on r.first (not-shell r.first is_reader refl e) r.third)
    ends-asked (Some Append) =
        ends-two (is_writer (handler_stream d r.first)) (is_readable s r.second r.third) 46 48
        (by_silent_call r.third (after_append d r.first (bytes_in s r.second 0 r.third)))
        (λ e. ends-append r.first (not-shell r.first is_writer refl e) (bytes_in s r.second 0 r.third) r.third)
    ends-asked (Some Close) =
        ends-one (is_some (handler_stream d r.first)) 46 (by_silent_call 0 (after_close d r.first)) (λ e. ends-close r.first (not-shell r.first is_some refl e))
    ends-asked (Some Delete) = ends-one (is_name_at s r.first) 40 (by_silent_call 0 (after_delete d (first_name s r))) (λ _. ends-delete (first_name s r) [])
    ends-asked (Some Rename) =
        ends-one (is_name_at s r.first && is_name_at s r.second) 40 (by_silent_call 0 (after_rename d (first_name s r) (second_name s r)))
        (λ _. ends-rename (first_name s r) (second_name s r))
    ends-asked (Some Examine) = ends-examined (nth_of d r.first)
    ends-asked None = inr (31, refl)

ends-request : (d : Disc) (s : List ℕ) (l : Lists) (r : Request) → Ends d (file_request d s l r)
unfolding file_request
ends-request d s l r = ends-asked d s l r (file_call r.kind)

-- a request that is refused changes nothing
refused-nothing : (d : Disc) (m : Handled) → Ends d m → (code : ℕ) → m.answer ≡ Err code → m ≡ refused d code
refused-nothing d m (inl ok) code e = let is : m.answer ≡ Ok ok.0 = ok.1 in cc
refused-nothing d m (inr end) code e = let is : m ≡ refused d end.0 = end.1 in let told : Err end.0 ≡ Err code = ap (λ z. z.answer) (sym is) ∙ e in let same : end.0 ≡ code = cc in is ∙ ap (refused d) same

pub refusal-nothing : (d : Disc) (s : List ℕ) (l : Lists) (r : Request) (code : ℕ) → (file_request d s l r).answer ≡ Err code → file_request d s l r ≡ refused d code
refusal-nothing d s l r = refused-nothing d (file_request d s l r) (ends-request d s l r)

-- no turn changes the shell's stream
ended-keeps : (d : Disc) (m : Handled) → Ends d m → Keeps d m.disc
ended-keeps d m (inl ok) = ok.2
ended-keeps d m (inr end) = ap (λ z. stream_at z.disc shell_stream) end.1

pub turn-keeps : (d : Disc) (s : List ℕ) (l : Lists) → Keeps d (disc_after_turn d s l)
turn-keeps d s l = on (first_request (words_taken s l) (work l))
  where
    on : (o : Option Request) → Keeps d (disc_after o d (words_taken s l) (taken l).lists)
    on None = refl
    on (Some r) = ended-keeps d (file_request d (words_taken s l) (taken l).lists r) (ends-request d (words_taken s l) (taken l).lists r)
