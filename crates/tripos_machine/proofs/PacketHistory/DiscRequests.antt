-- A request to the file handler leaves a valid disc.
use Rattle.std.proofs.Common.{◌≡◌, ℕ, ◌&&◌, Bool, true, false, cond, eqb, Option, Some, None, List, [], ◌∷◌, refl, sym, subst}
use Rattle.std.proofs.lemmas.Bool.{and_parts, eqb-true}
use Rattle.ram_disc.specs.Disc.{Disc, IsDisc}
use Rattle.ram_disc.specs.DiscCalls.{after_close, after_delete, after_open_read, after_open_write, after_rename, nth_of}
use Rattle.ram_disc.specs.Name.{IsName}
use Rattle.kernel_model.specs.KernelRecord.Lists.{Lists}
use Rattle.resident_tasks.specs.ResidentRequests.Buffers.{bytes_in, lies_inside}
use Rattle.resident_tasks.specs.ResidentRequests.Names.{is_name, is_name_at, string_in}
use Rattle.resident_tasks.specs.ResidentRequests.Requests.{first_request, taken, work, words_taken}
use Rattle.resident_tasks.specs.declared.resident_requests.requests.Request.{Request}
use Rattle.resident_tasks.proofs.ResidentRequests.NamesRead.{is_name-lawful}
use Rattle.resident_tasks.specs.FileHandler.FileCalls.{file_call}
use Rattle.resident_tasks.specs.FileHandler.FileRequests.{Handled, by_call, by_silent_call, call_handled, examined, file_request, first_name, refused, second_name, unless_refused}
use Rattle.resident_tasks.specs.FileHandler.FileTurn.{disc_after, disc_after_turn}
use Rattle.tripos_machine.proofs.PacketHistory.ValidCalls.{append-valid, close-valid, delete-valid, open_read-valid, open_write-valid, read-valid, rename-valid}

module _ (d : Disc) (valid : IsDisc d) where
  -- refused it is the same disc
  tests-disc : (tests : List (Bool × ℕ)) (m : Handled) → IsDisc m.disc → IsDisc (unless_refused d tests m).disc
  tests-disc [] m after = after
  tests-disc (test ∷ tests) m after = on test.0 (tests-disc tests m after)
    where
      on : (b : Bool) → IsDisc (unless_refused d tests m).disc → IsDisc (cond b (unless_refused d tests m) (refused d test.1)).disc
      on true rest = rest
      on false rest = valid

  -- by one test, which it may rest on
  test-disc : (test : Bool) (code : ℕ) (m : Handled) → (test ≡ true → IsDisc m.disc) → IsDisc (unless_refused d ((test, code) ∷ []) m).disc
  test-disc test code m after = on test refl
    where
      on : (b : Bool) → test ≡ b → IsDisc (unless_refused d ((b, code) ∷ []) m).disc
      on true e = after e
      on false e = valid

  module _ (s : List ℕ) (l : Lists) (r : Request) where
    lawful : (a : ℕ) → is_name_at s a ≡ true → IsName (string_in s a)
    lawful a e = is_name-lawful (string_in s a) (and_parts (lies_inside s a _) (is_name (string_in s a)) e).1

    examined-disc : (o : Option (List ℕ × ℕ)) → IsDisc (examined d s l r o).disc
    examined-disc None = valid
    examined-disc (Some f) = tests-disc ((_, _) ∷ []) _ valid

    abbrev Left : ℕ → Type 0
    Left kind = IsDisc (call_handled d s l r (file_call kind)).disc

    open_read-disc : Left 10
    open_read-disc = test-disc (is_name_at s r.first) 40 (by_call (after_open_read d (first_name s r) false)) (λ e. open_read-valid d valid (first_name s r) false)

    open_write-disc : Left 11
    open_write-disc = test-disc (is_name_at s r.first) 40 (by_call (after_open_write d (first_name s r))) (λ e. open_write-valid d valid (first_name s r) (lawful r.first e))

    read-disc : Left 12
    read-disc = tests-disc ((_, _) ∷ (_, _) ∷ []) _ (read-valid d valid r.first r.third)

    append-disc : Left 13
    append-disc = tests-disc ((_, _) ∷ (_, _) ∷ []) _ (append-valid d valid r.first (bytes_in s r.second 0 r.third))

    close-disc : Left 14
    close-disc = tests-disc ((_, _) ∷ []) (by_silent_call 0 (after_close d r.first)) (close-valid d valid r.first)

    delete-disc : Left 15
    delete-disc = test-disc (is_name_at s r.first) 40 (by_silent_call 0 (after_delete d (first_name s r))) (λ e. delete-valid d valid (first_name s r))

    rename-disc : Left 16
    rename-disc =
        test-disc (is_name_at s r.first && is_name_at s r.second) 40 (by_silent_call 0 (after_rename d (first_name s r) (second_name s r)))
        (λ e. rename-valid d valid (first_name s r) (second_name s r) (lawful r.second (and_parts (is_name_at s r.first) (is_name_at s r.second) e).1))

    examine-disc : Left 17
    examine-disc = examined-disc (nth_of d r.first)

    -- the type is this one, or another
    either : (kind n : ℕ) → Left n → (eqb kind n ≡ false → Left kind) → Left kind
    either kind n this other = on (eqb kind n) refl
      where
        on : (b : Bool) → eqb kind n ≡ b → Left kind
        on true e = subst Left (sym (eqb-true kind n e)) this
        on false e = other e

    call-disc : (kind : ℕ) → Left kind
    call-disc kind =
        either kind 10 open_read-disc (λ a. either kind 11 open_write-disc (λ b. either kind 12 read-disc (λ c. either kind 13 append-disc (λ e.
        either kind 14 close-disc (λ f. either kind 15 delete-disc (λ g. either kind 16 rename-disc (λ h. either kind 17 examine-disc (λ i.
        rw (a, b, c, e, f, g, h, i) valid))))))))

    request-disc : IsDisc (file_request d s l r).disc
    unfolding file_request
    request-disc = call-disc r.kind

  pub handler-disc : (s : List ℕ) (l : Lists) → IsDisc (disc_after_turn d s l)
  handler-disc s l = on (first_request (words_taken s l) (work l))
    where
      on : (o : Option Request) → IsDisc (disc_after o d (words_taken s l) (taken l).lists)
      on None = valid
      on (Some r) = request-disc (words_taken s l) (taken l).lists r
