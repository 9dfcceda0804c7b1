-- Between turns the line is finished exactly where the key packet is on no queue.
use Rattle.std.proofs.Common.{◌≡◌, ℕ, ◌&&◌, Bool, true, false, not, cond, eqb, is_some, Option, Some, None, Result, Ok, Err, List, [], ◌∷◌, refl, sym, ap, ◌∙◌, subst}
use Rattle.std.proofs.lemmas.Bool.{false≢true}
use Rattle.kernel_lists.specs.PacketQueue.QueueWords.{QueuedPacket}
use Rattle.kernel_model.specs.KernelRecord.Changes.{with_task}
use Rattle.kernel_model.specs.KernelRecord.Kernel.{Console}
use Rattle.kernel_model.specs.KernelRecord.Lists.{Lists}
use Rattle.kernel_model.specs.KernelRecord.ValidQueues.{is_key_packet}
use Rattle.kernel_calls.specs.CallAnswers.Guests.{guest_tests}
use Rattle.kernel_calls.specs.CallAnswers.CallChange.{by_refusal, done}
use Rattle.kernel_calls.specs.CallAnswers.Refusals.{first_refusal}
use Rattle.kernel_calls.specs.TaskCalls.SetFlags.{flagged}
use Rattle.resident_tasks.specs.ResidentRequests.Answers.{finished_by}
use Rattle.resident_tasks.specs.ResidentRequests.Requests.{first_request, taken_from, words_taken_from, work}
use Rattle.resident_tasks.specs.declared.resident_requests.requests.Request.{Request}
use Rattle.resident_tasks.specs.declared.console_handler.requests.TheConstants.{READ_LINE}
use Rattle.resident_tasks.specs.ConsoleHandler.ConsoleTurn.{LineFits, all_parts, ended, key_of, keys_sent, treated, with_key, with_keys_taken, with_first, with_keyed, with_keys_sent, with_request, with_taken}
use Rattle.resident_tasks.specs.ConsoleHandler.Deliveries.{delivered, delivery, handed, line_after, line_service, with_read}
use Rattle.resident_tasks.specs.ConsoleHandler.KeyPacket.{keys_taken, keys_taken_from}
use Rattle.resident_tasks.specs.ConsoleHandler.Line.{Keyed, key}
use Rattle.resident_tasks.specs.ConsoleHandler.TurnParts.{ConsoleTurn, begun}
use Rattle.resident_tasks.specs.ConsoleHandler.Reads.{read_taken_from, words_read_from}
use Rattle.resident_tasks.proofs.ConsoleHandler.WholeDelivery.{handed-pending}

-- a finished line has the key packet off
abbrev Off : ConsoleTurn → Type 0
Off g = g.console.finished ≡ true → is_some g.lists.key ≡ true

flags-key : (l : Lists) (id f : ℕ) (o : Option ℕ) → (by_refusal o l (done (with_task id (flagged f) l))).lists.key ≡ l.key
flags-key l id f None = refl
flags-key l id f (Some code) = refl

keyed-off : (id : ℕ) (k : Keyed) (g : ConsoleTurn) → is_some g.lists.key ≡ true → is_some (with_keyed id k g).lists.key ≡ true
keyed-off id k g e = ap is_some (flags-key g.lists id k.flags (first_refusal (guest_tests g.lists id))) ∙ e

taken-key : (ps : List QueuedPacket) (l : Lists) → (taken_from ps l).lists.key ≡ l.key
taken-key [] l = refl
taken-key (p ∷ ps) l = refl

off-either : (b : Bool) (p q : ConsoleTurn) → Off p → Off q → Off (cond b p q)
off-either true p q x y = x
off-either false p q x y = y

request-off : (s : List ℕ) (l : Lists) (r : Request) (g : ConsoleTurn) → l.key ≡ g.lists.key → Off g → Off (with_request s l r g)
request-off s l r g same off = off-either (eqb r.kind READ_LINE) _ _ (λ f. ap is_some same ∙ off f) (λ f. ap is_some same ∙ off f)

first-off : (g : ConsoleTurn) → Off g → Off (with_first g)
first-off g off = on (first_request (words_taken_from (work g.lists) g.words g.lists) (work g.lists))
  where
    on : (o : Option Request) → Off (with_taken o (words_taken_from (work g.lists) g.words g.lists) (taken_from (work g.lists) g.lists).lists g)
    on None = off
    on (Some r) = request-off (words_taken_from (work g.lists) g.words g.lists) (taken_from (work g.lists) g.lists).lists r g (taken-key (work g.lists) g.lists) off

key-off : (id : ℕ) (g : ConsoleTurn) (p : QueuedPacket) (ps : List QueuedPacket) → work g.lists ≡ p ∷ ps → Off (with_key id g)
key-off id g p ps is = λ f. keyed-off id (key g.console (key_of (keys_taken g.lists).answer)) (with_keys_taken g) (subst (λ z. is_some (keys_taken_from z g.lists).lists.key ≡ true) (sym is) refl)

treated-off : (id : ℕ) (g : ConsoleTurn) → Off g → Off (treated id (work g.lists) g)
treated-off id g off = on (work g.lists) refl
  where
    on : (ps : List QueuedPacket) → work g.lists ≡ ps → Off (treated id ps g)
    on [] is = off
    on (p ∷ ps) is = off-either (is_key_packet g.lists p) (with_key id g) (with_first g) (key-off id g p ps is) (first-off g off)

-- ---- the delivery

read-key : (ps : List QueuedPacket) (l : Lists) → (read_taken_from ps l).lists.key ≡ l.key
read-key [] l = refl
read-key (p ∷ ps) l = refl

handed-off : (g : ConsoleTurn) → Off g → Off (handed g)
handed-off g off = on (first_request (words_read_from g.lists.pending g.words) g.lists.pending)
  where
    served : (s : List ℕ) (l : Lists) (r : Request) (answer : Result ℕ ℕ) → l.key ≡ g.lists.key → (line_after answer g.console).finished ≡ true → is_some l.key ≡ true
    served s l r (Ok n) same f = cc
    served s l r (Err code) same f = ap is_some same ∙ off f

    on : (o : Option Request) → Off (with_read o (words_read_from g.lists.pending g.words) (read_taken_from g.lists.pending g.lists).lists g)
    on None = off
    on (Some r) =
        served (words_read_from g.lists.pending g.words) (read_taken_from g.lists.pending g.lists).lists r
        (line_service (words_read_from g.lists.pending g.words) (read_taken_from g.lists.pending g.lists).lists g.console.line r).answer (read-key g.lists.pending g.lists)

record AreServed (g : ConsoleTurn) : Type 0 where
  pub off : Off g
  pub none : g.console.finished ≡ true → g.lists.pending ≡ []

served-or : (ps : List QueuedPacket) (g : ConsoleTurn) → Off g → AreServed (delivered ps (handed g)) → AreServed (cond g.console.finished (delivered ps (handed g)) g)
served-or ps g off next = on g.console.finished refl
  where
    on : (f : Bool) → g.console.finished ≡ f → AreServed (cond f (delivered ps (handed g)) g)
    on true e = next
    on false e = record { off = off; none = λ f. absurd (false≢true (sym e ∙ f)) }

delivered-served : (ps : List QueuedPacket) (g : ConsoleTurn) → g.lists.pending ≡ ps → Off g → AreServed (delivered ps g)
delivered-served [] g is off = record { off = off; none = λ f. is }
delivered-served (p ∷ ps) g is off = served-or ps g off (delivered-served ps (handed g) is' (handed-off g off))
  where
    is' : (handed g).lists.pending ≡ ps
    is' = handed-pending g p ps is

-- ---- the key packet

sent-fits : (g : ConsoleTurn) → AreServed g → LineFits (with_keys_sent g).lists (with_keys_sent g).console
sent-fits g x = on (is_some g.lists.key) g.console.finished refl refl
  where
    on : (b f : Bool) → is_some g.lists.key ≡ b → g.console.finished ≡ f → LineFits (cond (b && not f) (keys_sent g) g).lists (cond (b && not f) (keys_sent g) g).console
    on true true k f = record { finished = f ∙ sym k; delivered = x.none }
    on true false k f = record { finished = f; delivered = λ e. absurd (false≢true (sym f ∙ e)) }
    on false true k f = absurd (false≢true (sym k ∙ x.off f))
    on false false k f = record { finished = f ∙ sym k; delivered = x.none }

ended-fits : (g : ConsoleTurn) → LineFits g.lists g.console → LineFits (ended g).lists (ended g).console
ended-fits g x = on (work g.lists)
  where
    on : (ps : List QueuedPacket) → LineFits (finished_by ps g.lists) g.console
    on [] = record { finished = x.finished; delivered = x.delivered }
    on (p ∷ ps) = x

pub line-fits-keys : (id : ℕ) (s : List ℕ) (l : Lists) (c : Console) (k : List ℕ) → LineFits l c → LineFits (all_parts id (begun s l c k)).lists (all_parts id (begun s l c k)).console
line-fits-keys id s l c k x =
    let g : ConsoleTurn = begun s l c k in
    let t : ConsoleTurn = treated id (work l) g in
    ended-fits (with_keys_sent (delivery t)) (sent-fits (delivery t) (delivered-served t.lists.pending t refl (treated-off id g (λ f. sym x.finished ∙ f))))
