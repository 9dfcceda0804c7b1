-- What is made of a request, by what it asks.
use Rattle.std.proofs.Common.{◌≡◌, ◌≤◌, ℕ, ◌++◌, ◌&&◌, Bool, true, false, if◌then◌else◌, Option, Some, None, Ok, List, [], ◌∷◌, length, replicate, take, inl, inr, refl, sym, ap, ◌∙◌, arith}
use Rattle.std.specs.Option.{is_some}
use Rattle.std.proofs.lemmas.List.{length-take}
use Rattle.kernel_model.specs.KernelRecord.Lists.{Lists}
use Rattle.ram_disc.specs.Disc.{Disc, stream_at}
use Rattle.ram_disc.specs.DiscCalls.{after_append, after_close, after_delete, after_open_read, after_open_write, after_read_on, after_rename, bytes_left, bytes_read, is_reader, is_writer, nth_of}
use Rattle.resident_tasks.specs.ResidentRequests.Buffers.{bytes_in, is_readable, is_writable}
use Rattle.resident_tasks.specs.ResidentRequests.Names.{is_name_at}
use Rattle.resident_tasks.specs.ResidentRequests.Turns.{CanServe}
use Rattle.resident_tasks.specs.declared.resident_requests.requests.Request.{Request}
use Rattle.resident_tasks.specs.FileHandler.FileCalls.{file_call}
use Rattle.resident_tasks.specs.FileHandler.FileRequests.{Handled, by_call, by_silent_call, call_handled, examined, file_request, first_name, handled, handler_stream, name_buffer, read_on, second_name, unless_refused}
use Rattle.resident_tasks.specs.FileHandler.FileTurn.{file_service, served}
use Rattle.resident_tasks.specs.declared.file_handler.calls.FileCall.{FileCall}
use Rattle.resident_tasks.specs.declared.file_handler.calls.FileCall.TheVariants.{Append, Close, Delete, Examine, OpenToRead, OpenToWrite, ReadOn, Rename}

-- it is made of the request, where the request asks this, or nothing
module _ (d : Disc) (s : List ℕ) (l : Lists) (r : Request) (m : Handled) where
  pub of-asked : (asked call : FileCall) → asked ≡ call → Some asked ≡ file_call r.kind → m ≡ call_handled d s l r (Some call) → m ≡ file_request d s l r
  unfolding file_request
  of-asked asked call is e f = f ∙ ap (call_handled d s l r) (ap Some (sym is) ∙ e)

  pub of-unasked : None ≡ file_call r.kind → m ≡ call_handled d s l r None → m ≡ file_request d s l r
  unfolding file_request
  of-unasked e f = f ∙ ap (call_handled d s l r) e

-- ---- its bytes may be written

-- a request without bytes has none where a test fails, or the first or the second of two
silent : (d : Disc) (test : Bool) (code : ℕ) (m : Handled) → m.bytes ≡ [] → (unless_refused d ((test, code) ∷ []) m).bytes ≡ []
silent d true code m e = e
silent d false code m e = refl

silent-two : (d : Disc) (test other : Bool) (code last : ℕ) (m : Handled) → m.bytes ≡ [] → (unless_refused d ((test, code) ∷ (other, last) ∷ []) m).bytes ≡ []
silent-two d true other code last m e = silent d other last m e
silent-two d false other code last m e = refl

pub taken-few : (n : ℕ) (xs : List ℕ) → length (take n xs) ≤ n
taken-few n xs = omega (arith, length-take n xs)

read-few : (d : Disc) (k count : ℕ) → length (bytes_read d k count) ≤ count
read-few d k count = on (is_reader (stream_at d k))
  where
    on : (b : Bool) → length (if b then take count (bytes_left d (stream_at d k)) else []) ≤ count
    on true = taken-few count (bytes_left d (stream_at d k))
    on false = omega arith

module _ (d : Disc) (s : List ℕ) (l : Lists) (r : Request) where
  -- a buffer that was tested has room for so many bytes
  buffered : (n : ℕ) (m : Handled) → length m.bytes ≤ n → CanServe s l r (served r (unless_refused d ((is_writable s l r.packet r.second n, 48) ∷ []) m))
  buffered n m few = on (is_writable s l r.packet r.second n) refl
    where
      on : (w : Bool) → is_writable s l r.packet r.second n ≡ w → CanServe s l r (served r (unless_refused d ((w, 48) ∷ []) m))
      on true e = inr (n, e, few)
      on false e = inl refl

  read-serves : CanServe s l r (served r (read_on d s l r))
  read-serves = on (is_reader (handler_stream d r.first))
    where
      m : Handled
      m = record (by_call (after_read_on d r.first r.third)) { bytes = bytes_read d r.first r.third }

      on : (b : Bool) → CanServe s l r (served r (unless_refused d ((b, 46) ∷ (is_writable s l r.packet r.second r.third, 48) ∷ []) m))
      on true = buffered r.third m (read-few d r.first r.third)
      on false = inl refl

  examine-serves : (file : Option (List ℕ × ℕ)) → CanServe s l r (served r (examined d s l r file))
  examine-serves None = inl refl
  examine-serves (Some file) = buffered 16 (handled d (Ok file.1) (name_buffer file.0)) (taken-few 16 (length file.0 ∷ file.0 ++ replicate 16 0))

  pub can-serve : CanServe s l r (file_service d s l r)
  unfolding file_request
  can-serve = on (file_call r.kind)
    where
      on : (asked : Option FileCall) → CanServe s l r (served r (call_handled d s l r asked))
      on (Some OpenToRead) = inl (silent d (is_name_at s r.first) 40 (by_call (after_open_read d (first_name s r) false)) refl)
      on (Some OpenToWrite) = inl (silent d (is_name_at s r.first) 40 (by_call (after_open_write d (first_name s r))) refl)
      on (Some ReadOn) = read-serves
      on (Some Append) =
          inl
          (silent-two d (is_writer (handler_stream d r.first)) (is_readable s r.second r.third) 46 48
          (by_silent_call r.third (after_append d r.first (bytes_in s r.second 0 r.third))) refl)
      on (Some Close) = inl (silent d (is_some (handler_stream d r.first)) 46 (by_silent_call 0 (after_close d r.first)) refl)
      on (Some Delete) = inl (silent d (is_name_at s r.first) 40 (by_silent_call 0 (after_delete d (first_name s r))) refl)
      on (Some Rename) =
          inl (silent d (is_name_at s r.first && is_name_at s r.second) 40 (by_silent_call 0 (after_rename d (first_name s r) (second_name s r))) refl)
      on (Some Examine) = examine-serves (nth_of d r.first)
      on None = inl refl
