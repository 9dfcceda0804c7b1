-- What a packet comes to in a turn is one of the requests for pipes, or a refusal.
use Rattle.std.proofs.Common.{◌≡◌, ℕ, Option, Some, None, Result, Ok, Err, List, refl, ap, subst, ◌∙◌}
use Rattle.kernel_model.specs.KernelRecord.Kernel.{Pipe}
use Rattle.kernel_model.specs.KernelRecord.Lists.{Lists}
use Rattle.resident_tasks.specs.ResidentRequests.Buffers.{is_readable, is_writable}
use Rattle.resident_tasks.specs.ResidentRequests.Names.{name_at}
use Rattle.resident_tasks.specs.ResidentRequests.Requests.{first_request, taken, words_taken, work}
use Rattle.resident_tasks.specs.declared.resident_requests.requests.Request.{Request}
use Rattle.resident_tasks.specs.PipeHandler.Histories.{IsLawful, PipeRequest, pipes_after}
use Rattle.resident_tasks.specs.PipeHandler.Histories.PipeRequest.{Close, Open, Read, Write}
use Rattle.resident_tasks.specs.PipeHandler.PacketRequests.{asked, asked_by, opening, outcome_of, requests_by, requests_in_turn, requests_of}
use Rattle.resident_tasks.specs.PipeHandler.PipeTurns.{after_open_named, bytes_of_buffer, call_outcome, pipe_request, pipes_after_turn, pipes_by}
use Rattle.resident_tasks.specs.PipeHandler.RequestTypes.{pipe_call}
use Rattle.resident_tasks.specs.declared.pipe_handler.calls.PipeCall.{PipeCall}
use Rattle.resident_tasks.specs.declared.pipe_handler.calls.PipeCall.TheVariants.{CloseEnd, OpenEnd, ReadBytes, WriteBytes}
use Rattle.resident_tasks.proofs.PipeHandler.KeptTurns.{name-lawful}

module _ (s : List ℕ) (l : Lists) (r : Request) where
  pub request-asked : (ps : List (Option Pipe)) → pipe_request ps s l r ≡ outcome_of ps (asked s l r)
  request-asked ps = on (pipe_call r)
    where
      named : (x : Result (List ℕ) ℕ) (end : ℕ) → after_open_named ps x end ≡ outcome_of ps (opening x end)
      named (Ok name) end = refl
      named (Err code) end = refl

      on : (call : Option PipeCall) → call_outcome ps s l r.packet call ≡ outcome_of ps (asked_by s l r.packet call)
      on (Some (OpenEnd name end)) = named (name_at s name) end
      on (Some (ReadBytes handle buffer count)) = refl
      on (Some (WriteBytes handle buffer count)) = refl
      on (Some (CloseEnd handle)) = refl
      on None = refl

  pub asked-lawful : (q : PipeRequest) → asked s l r ≡ Ok q → IsLawful q
  asked-lawful q = on (pipe_call r)
    where
      named : (at end : ℕ) (x : Result (List ℕ) ℕ) → name_at s at ≡ x → opening x end ≡ Ok q → IsLawful q
      named at end (Ok name) f e = let is : Open name end ≡ q = cc in subst IsLawful is (name-lawful s at name f)
      named at end (Err code) f e = cc

      alone : (p : PipeRequest) → IsLawful p → ◌≡◌ {A = Result PipeRequest ℕ} (Ok p) (Ok q) → IsLawful q
      alone p lawful e = let is : p ≡ q = cc in subst IsLawful is lawful

      on : (call : Option PipeCall) → asked_by s l r.packet call ≡ Ok q → IsLawful q
      on (Some (OpenEnd name end)) is = named name end (name_at s name) refl is
      on (Some (ReadBytes handle buffer count)) is = alone (Read handle (is_writable s l r.packet buffer count) count) tt is
      on (Some (WriteBytes handle buffer count)) is = alone (Write handle (is_readable s buffer count) (bytes_of_buffer s buffer count)) tt is
      on (Some (CloseEnd handle)) is = alone (Close handle) tt is
      on None is = cc

pub turn-asked : (ps : List (Option Pipe)) (s : List ℕ) (l : Lists) → pipes_after_turn ps s l ≡ pipes_after ps (requests_in_turn s l)
turn-asked ps s l = on (first_request (words_taken s l) (work l))
  where
    made : (x : Result PipeRequest ℕ) → (outcome_of ps x).pipes ≡ pipes_after ps (requests_of x)
    made (Ok q) = refl
    made (Err code) = refl

    on : (o : Option Request) → pipes_by ps (words_taken s l) (taken l).lists o ≡ pipes_after ps (requests_by (words_taken s l) (taken l).lists o)
    on None = refl
    on (Some r) = ap (λ o. o.pipes) (request-asked (words_taken s l) (taken l).lists r ps) ∙ made (asked (words_taken s l) (taken l).lists r)
