-- What requests for pipes give, and where it may be written.
use Rattle.std.proofs.Common.{◌≡◌, ℕ, ◌≤◌, Bool, true, false, cond, eqb, leb, ltb, not, ◌⊎◌, Option, Some, None, Result, Ok, Err, List, [], ◌∷◌, ◌++◌, length, set, take, drop, refl, ap, ◌∙◌, arith, inl, inr}
use Rattle.std.specs.Option.{is_some, unwrap_or}
use Rattle.std.proofs.lemmas.List.{length-take}
use Rattle.kernel_model.specs.KernelRecord.Kernel.{Pipe}
use Rattle.kernel_model.specs.KernelRecord.Lists.{Lists}
use Rattle.kernel_model.specs.KernelRecord.Pipes.{most_held}
use Rattle.resident_tasks.specs.ResidentRequests.Buffers.{is_readable, is_writable}
use Rattle.resident_tasks.specs.ResidentRequests.Names.{name_at}
use Rattle.resident_tasks.specs.ResidentRequests.Turns.{CanServe, service}
use Rattle.resident_tasks.specs.declared.resident_requests.requests.Request.{Request}
use Rattle.resident_tasks.specs.PipeHandler.Ends.{is_end, is_open, names_writer, pipe_of, place_for, place_of, without_end}
use Rattle.resident_tasks.specs.PipeHandler.PipeCalls.{Outcome, accepted, after_close, after_open, after_read, after_write, fitting, has_more, held_by, holding, pipe_in_place, with_end}
use Rattle.resident_tasks.specs.PipeHandler.PipeTurns.{after_open_named, bytes_of_buffer, call_outcome, pipe_service}
use Rattle.resident_tasks.specs.declared.pipe_handler.calls.PipeCall.TheVariants.{CloseEnd, OpenEnd, ReadBytes, WriteBytes}
use Rattle.resident_tasks.proofs.PipeHandler.AfterRequests.{by-tests}

abbrev GivesNone : Outcome → Type 0
GivesNone o = o.bytes ≡ []

module _ (ps : List (Option Pipe)) where
  open-gives-none : (name : List ℕ) (end : ℕ) → GivesNone (after_open ps name end)
  open-gives-none name end =
      by-tests GivesNone ps ((leb end 1, 71) ∷ (not (is_open (eqb end 1) (pipe_in_place ps (place_for ps name))), 47) ∷ (is_some (place_for ps name), 72) ∷ [])
      (with_end ps name (eqb end 1) (unwrap_or (place_for ps name) 0)) (λ all. refl) (λ code. refl)

  pub named-gives-none : (name : Result (List ℕ) ℕ) (end : ℕ) → GivesNone (after_open_named ps name end)
  named-gives-none (Err code) end = refl
  named-gives-none (Ok name) end = open-gives-none name end

  pub write-gives-none : (h : ℕ) (buffer : Bool) (bytes : List ℕ) → GivesNone (after_write ps h buffer bytes)
  write-gives-none h buffer bytes =
      by-tests GivesNone ps ((is_end ps h true, 46) ∷ (buffer, 48) ∷ (ltb (length (held_by (pipe_of ps h))) most_held, 73) ∷ [])
      (accepted (length (fitting (pipe_of ps h) bytes)) [] (set ps (place_of h) (holding (held_by (pipe_of ps h) ++ fitting (pipe_of ps h) bytes) (pipe_of ps h)))) (λ all. refl) (λ code. refl)

  close-gives-none : (h : ℕ) → GivesNone (after_close ps h)
  close-gives-none h =
      by-tests GivesNone ps ((is_end ps h (names_writer h), 46) ∷ []) (accepted 0 [] (set ps (place_of h) (without_end (names_writer h) (pipe_of ps h)))) (λ all. refl) (λ code. refl)

-- by what a request asks
pub opens-give-none : (ps : List (Option Pipe)) (s : List ℕ) (l : Lists) (packet name end : ℕ) → (call_outcome ps s l packet (Some (OpenEnd name end))).bytes ≡ []
opens-give-none ps s l packet name end = named-gives-none ps (name_at s name) end

pub writes-give-none : (ps : List (Option Pipe)) (s : List ℕ) (l : Lists) (packet handle buffer count : ℕ) → (call_outcome ps s l packet (Some (WriteBytes handle buffer count))).bytes ≡ []
writes-give-none ps s l packet handle buffer count = write-gives-none ps handle (is_readable s buffer count) (bytes_of_buffer s buffer count)

-- there are no bytes, or the buffer has room for them and may be written
abbrev HasBuffer : List ℕ → Lists → Request → Outcome → Type 0
HasBuffer s l r o = (o.bytes ≡ []) ⊎ ((n : ℕ) × (is_writable s l r.packet r.second n ≡ true) × (length o.bytes ≤ n))

-- only a reading gives bytes, and there its buffer has room for them
pub can-serve : (ps : List (Option Pipe)) (s : List ℕ) (l : Lists) (r : Request) → CanServe s l r (pipe_service ps s l r)
can-serve ps s l r = on (eqb r.kind 20) (eqb r.kind 21) (eqb r.kind 22) (eqb r.kind 23)
  where
    reads : HasBuffer s l r (after_read ps r.first (is_writable s l r.packet r.second r.third) r.third)
    reads =
        let held = held_by (pipe_of ps r.first) in
        by-tests (HasBuffer s l r) ps ((is_end ps r.first false, 46) ∷ (is_writable s l r.packet r.second r.third, 48) ∷ (has_more (pipe_of ps r.first), 70) ∷ [])
        (accepted (length (take r.third held)) (take r.third held) (set ps (place_of r.first) (holding (drop r.third held) (pipe_of ps r.first))))
        (λ all. inr (r.third, all.1.0, omega (arith, length-take r.third held))) (λ code. inl refl)

    on : (a b c d : Bool)
        → HasBuffer s l r (call_outcome ps s l r.packet (cond a (Some (OpenEnd r.first r.second)) (cond b (Some (ReadBytes r.first r.second r.third))
        (cond c (Some (WriteBytes r.first r.second r.third)) (cond d (Some (CloseEnd r.first)) None)))))
    on true b c d = inl (named-gives-none ps (name_at s r.first) r.second)
    on false true c d = reads
    on false false true d = inl (write-gives-none ps r.first (is_readable s r.second r.third) (bytes_of_buffer s r.second r.third))
    on false false false true = inl (close-gives-none ps r.first)
    on false false false false = inl refl

-- the answer and the bytes make the service
pub same-service : (answer other : Result ℕ ℕ) (at : ℕ) (bytes given : List ℕ) → answer ≡ other → bytes ≡ given → service answer at bytes ≡ service other at given
same-service answer other at bytes given e f = ap (λ a. service a at bytes) e ∙ ap (λ b. service other at b) f
