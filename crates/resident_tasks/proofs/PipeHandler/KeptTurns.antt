-- Pipes stay lawful over a turn.
use Rattle.std.proofs.Common.{◌≡◌, ◌+◌, ℕ, Bool, true, false, cond, Option, Some, None, Result, Ok, Err, List, refl, subst}
use Rattle.std.proofs.lemmas.Bool.{and_parts}
use Rattle.ram_disc.specs.Name.{IsName}
use Rattle.kernel_model.specs.KernelRecord.Kernel.{Pipe}
use Rattle.kernel_model.specs.KernelRecord.Lists.{Lists}
use Rattle.kernel_model.specs.KernelRecord.Pipes.{ArePipes}
use Rattle.resident_tasks.specs.ResidentRequests.Buffers.{byte_in, is_readable, is_writable, lies_inside}
use Rattle.resident_tasks.specs.ResidentRequests.Names.{is_name, is_name_at, name_at, string_in}
use Rattle.resident_tasks.specs.ResidentRequests.Requests.{first_request, taken, words_taken, work}
use Rattle.resident_tasks.specs.declared.resident_requests.requests.Request.{Request}
use Rattle.resident_tasks.proofs.ResidentRequests.NamesRead.{is_name-lawful}
use Rattle.resident_tasks.specs.PipeHandler.Histories.PipeRequest.{Close, Open, Read, Write}
use Rattle.resident_tasks.specs.PipeHandler.PipeTurns.{after_open_named, bytes_of_buffer, call_outcome, pipe_request, pipes_after_turn, pipes_by}
use Rattle.resident_tasks.specs.PipeHandler.RequestTypes.{pipe_call}
use Rattle.resident_tasks.specs.declared.pipe_handler.calls.PipeCall.{PipeCall}
use Rattle.resident_tasks.specs.declared.pipe_handler.calls.PipeCall.TheVariants.{CloseEnd, OpenEnd, ReadBytes, WriteBytes}
use Rattle.resident_tasks.proofs.PipeHandler.AfterRequests.{kept-after}

-- a name that was read is lawful
pub name-lawful : (s : List ℕ) (a : ℕ) (name : List ℕ) → name_at s a ≡ Ok name → IsName name
name-lawful s a name e = on (is_name_at s a) refl e
  where
    on : (b : Bool) → is_name_at s a ≡ b → cond {A = Result (List ℕ) ℕ} b (Ok (string_in s a)) (Err 40) ≡ Ok name → IsName name
    on true t f =
        let is : string_in s a ≡ name = cc in
        subst IsName is (is_name-lawful (string_in s a) (and_parts (lies_inside s a (byte_in s a 0 + 1)) (is_name (string_in s a)) t).1)
    on false t f = cc

named-kept : (ps : List (Option Pipe)) (x : Result (List ℕ) ℕ) (end : ℕ) → ((name : List ℕ) → x ≡ Ok name → IsName name) → ArePipes ps → ArePipes (after_open_named ps x end).pipes
named-kept ps (Err code) end lawful a = a
named-kept ps (Ok name) end lawful a = kept-after ps a (Open name end) (lawful name refl)

request-kept : (ps : List (Option Pipe)) (s : List ℕ) (l : Lists) (r : Request) → ArePipes ps → ArePipes (pipe_request ps s l r).pipes
request-kept ps s l r a = on (pipe_call r)
  where
    on : (asked : Option PipeCall) → ArePipes (call_outcome ps s l r.packet asked).pipes
    on (Some (OpenEnd name end)) = named-kept ps (name_at s name) end (λ read f. name-lawful s name read f) a
    on (Some (ReadBytes handle buffer count)) = kept-after ps a (Read handle (is_writable s l r.packet buffer count) count) tt
    on (Some (WriteBytes handle buffer count)) = kept-after ps a (Write handle (is_readable s buffer count) (bytes_of_buffer s buffer count)) tt
    on (Some (CloseEnd handle)) = kept-after ps a (Close handle) tt
    on None = a

pub turn-kept : (ps : List (Option Pipe)) (s : List ℕ) (l : Lists) → ArePipes ps → ArePipes (pipes_after_turn ps s l)
turn-kept ps s l a = on (first_request (words_taken s l) (work l))
  where
    on : (o : Option Request) → ArePipes (pipes_by ps (words_taken s l) (taken l).lists o)
    on None = a
    on (Some r) = request-kept ps (words_taken s l) (taken l).lists r a
