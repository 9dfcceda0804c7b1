-- What holds of the words, the lists and the events of a console's turn as far as it has come: it goes from one part to the next.
use Rattle.std.proofs.Common.{◌≡◌, ℕ, ◌&&◌, not, Bool, true, false, cond, eqb, is_some, Some, Result, List, [], ◌∷◌, ◌++◌, refl, sym, subst}
use Rattle.word_store.specs.Arithmetic.{signed}
use Rattle.kernel_lists.specs.OwnedWords.Owned.{Pairs}
use Rattle.kernel_lists.specs.PacketQueue.QueueWords.{QueuedPacket}
use Rattle.kernel_lists.specs.declared.packet_queue.events.KernelEvent.{KernelEvent}
use Rattle.kernel_lists.specs.declared.packet_queue.events.KernelEvent.TheVariants.{Taken}
use Rattle.kernel_model.specs.KernelRecord.Changes.{with_key as with_key_word, with_queue}
use Rattle.kernel_model.specs.KernelRecord.Lists.{Lists}
use Rattle.kernel_model.specs.KernelRecord.Residents.{key_packet, keyboard}
use Rattle.kernel_model.specs.KernelRecord.ValidQueues.{is_key_packet}
use Rattle.kernel_model.specs.KernelRecord.ValidQueues.Place.{Pending, Work}
use Rattle.kernel_model.specs.declared.kernel_record.numbers.TheConstants.{CONSOLE, PENDING}
use Rattle.kernel_calls.specs.TaskCalls.SetFlags.{set_flags}
use Rattle.kernel_calls.specs.PacketCalls.Destinations.{queue_for}
use Rattle.kernel_calls.specs.PacketCalls.QueueWords.{unqueued}
use Rattle.kernel_calls.specs.PacketCalls.SendOwn.{send_own}
use Rattle.resident_tasks.specs.ResidentRequests.Answers.{returned}
use Rattle.resident_tasks.specs.ResidentRequests.Buffers.{written_buffer}
use Rattle.resident_tasks.specs.ResidentRequests.Requests.{first_request, request_at, taken, taken_from, words_taken_from, work}
use Rattle.resident_tasks.specs.ResidentRequests.Turns.{Served}
use Rattle.resident_tasks.specs.declared.resident_requests.requests.Request.{Request}
use Rattle.resident_tasks.specs.ConsoleHandler.ConsoleTurn.{answer_of, bytes_of, key_of, keys_sent, treated, with_first, with_key, with_keyed, with_keys_sent, with_keys_taken, with_taken}
use Rattle.resident_tasks.specs.ConsoleHandler.Deliveries.{delivered, delivery, handed, line_service, with_read}
use Rattle.resident_tasks.specs.ConsoleHandler.KeyPacket.{keys_taken, keys_taken_from}
use Rattle.resident_tasks.specs.ConsoleHandler.Line.{Keyed, key}
use Rattle.resident_tasks.specs.ConsoleHandler.TurnParts.{ConsoleTurn, and_then, settled_words}
use Rattle.resident_tasks.specs.ConsoleHandler.Reads.{put_off, read_taken_from, words_read_from}

-- the lists once the first packet of a place was taken, and its request, in the words that taking leaves
abbrev pub without_work : List QueuedPacket → Lists → Lists
without_work ps l = with_queue (Work l.running) ps l

abbrev pub work_request : List ℕ → Lists → QueuedPacket → Request
work_request s l p = request_at (unqueued s (queue_for l (Work l.running)) p.address) p.address

abbrev pub read_request : List ℕ → Lists → QueuedPacket → Request
read_request s l p = request_at (unqueued s (queue_for l Pending) p.address) p.address

abbrev pub work_event : Lists → QueuedPacket → KernelEvent
work_event l p = Taken (signed l.running) p.address (signed p.sender)

abbrev pub read_event : QueuedPacket → KernelEvent
read_event p = Taken (signed PENDING) p.address (signed p.sender)

-- It goes over: where the key packet is taken, as the first event; where a task gets flags; where the first packet, which is another one,
-- is returned or put off, likewise; where the first read is returned; and where the key packet, which is on no queue, is sent.
pub record Allows (On : List ℕ → Lists → List KernelEvent → Type 0) : Type 0 where
  pub at_keys : (s : List ℕ) (l : Lists) (es : List KernelEvent) (p : QueuedPacket) (ps : List QueuedPacket) → es ≡ [] → work l ≡ p ∷ ps → is_key_packet l p ≡ true → On s l es
      → let m : Lists = with_key_word (Some p.res1) (without_work ps l) in
      On (settled_words s m []) m (es ++ work_event l p ∷ [])
  pub at_flags : (s : List ℕ) (l : Lists) (es : List KernelEvent) (id flags : ℕ) → On s l es
      → let m : Lists = (set_flags l id flags).lists in
      On (settled_words s m []) m (es ++ [])
  pub at_answer : (s : List ℕ) (l : Lists) (es : List KernelEvent) (p : QueuedPacket) (ps : List QueuedPacket) (answer : Result ℕ ℕ) → es ≡ [] → work l ≡ p ∷ ps → is_key_packet l p ≡ false → On s l es
      → let m = returned (without_work ps l) (work_request s l p) answer in
      On (settled_words s m.lists []) m.lists (es ++ work_event l p ∷ m.events)
  pub at_read : (s : List ℕ) (l : Lists) (es : List KernelEvent) (p : QueuedPacket) (ps : List QueuedPacket) → es ≡ [] → work l ≡ p ∷ ps → is_key_packet l p ≡ false → On s l es
      → let m = put_off (unqueued s (queue_for l (Work l.running)) p.address) (without_work ps l) (work_request s l p) in
      On (settled_words s m.lists []) m.lists (es ++ work_event l p ∷ m.events)
  pub at_delivery : (s : List ℕ) (l : Lists) (es : List KernelEvent) (p : QueuedPacket) (ps : List QueuedPacket) (answer : Result ℕ ℕ) (plain : Pairs) → l.pending ≡ p ∷ ps → On s l es
      → let m = returned (with_queue Pending ps l) (read_request s l p) answer in
      On (settled_words s m.lists plain) m.lists (es ++ read_event p ∷ m.events)
  pub at_sending : (s : List ℕ) (l : Lists) (es : List KernelEvent) → is_some l.key ≡ true → On s l es
      → let m = send_own s l key_packet CONSOLE keyboard in
      On (settled_words s m.lists []) m.lists (es ++ m.events)

module _ (On : List ℕ → Lists → List KernelEvent → Type 0) (h : Allows On) where
  abbrev So : ConsoleTurn → Type 0
  So g = On g.words g.lists g.events

  -- ---- the first packet

  keys-on : (id : ℕ) (k : Keyed) (g : ConsoleTurn) (p : QueuedPacket) (ps : List QueuedPacket) → g.events ≡ [] → work g.lists ≡ p ∷ ps → is_key_packet g.lists p ≡ true → So g → So (with_keyed id k (with_keys_taken g))
  keys-on id k g p ps none is own x = h.at_flags t.words t.lists t.events id k.flags taken
    where
      t : ConsoleTurn
      t = with_keys_taken g

      taken : So t
      taken =
          subst (λ qs. On (settled_words g.words (keys_taken_from qs g.lists).lists []) (keys_taken_from qs g.lists).lists (g.events ++ (keys_taken_from qs g.lists).events)) (sym is)
          (h.at_keys g.words g.lists g.events p ps none is own x)

  first-on : (g : ConsoleTurn) (p : QueuedPacket) (ps : List QueuedPacket) → g.events ≡ [] → work g.lists ≡ p ∷ ps → is_key_packet g.lists p ≡ false → So g → So (with_first g)
  first-on g p ps none is other x =
      subst (λ qs. So (with_taken (first_request (words_taken_from qs g.words g.lists) qs) (words_taken_from qs g.words g.lists) (taken_from qs g.lists).lists g)) (sym is) (on (eqb r.kind 1))
    where
      z : List ℕ
      z = unqueued g.words (queue_for g.lists (Work g.lists.running)) p.address

      m : Lists
      m = without_work ps g.lists

      r : Request
      r = request_at z p.address

      on : (c : Bool)
          → So (cond c (and_then g (put_off z m r).lists [] ((taken g.lists).events ++ (put_off z m r).events))
          (record (and_then g (returned m r (answer_of z r)).lists [] ((taken g.lists).events ++ (returned m r (answer_of z r)).events)) { bytes = g.bytes ++ bytes_of z r }))
      on true =
          subst (λ qs. On (settled_words g.words (put_off z m r).lists []) (put_off z m r).lists (g.events ++ ((taken_from qs g.lists).events ++ (put_off z m r).events))) (sym is)
          (h.at_read g.words g.lists g.events p ps none is other x)
      on false =
          let answer : Result ℕ ℕ = answer_of z r in
          subst (λ qs. On (settled_words g.words (returned m r answer).lists []) (returned m r answer).lists (g.events ++ ((taken_from qs g.lists).events ++ (returned m r answer).events))) (sym is)
          (h.at_answer g.words g.lists g.events p ps answer none is other x)

  treated-on : (id : ℕ) (g : ConsoleTurn) → g.events ≡ [] → So g → So (treated id (work g.lists) g)
  treated-on id g none x = on (work g.lists) refl
    where
      on : (ps : List QueuedPacket) → work g.lists ≡ ps → So (treated id ps g)
      on [] is = x
      on (p ∷ ps) is = by (is_key_packet g.lists p) refl
        where
          by : (c : Bool) → is_key_packet g.lists p ≡ c → So (cond c (with_key id g) (with_first g))
          by true own = keys-on id (key g.console (key_of (keys_taken g.lists).answer)) g p ps none is own x
          by false other = first-on g p ps none is other x

  -- ---- the delivery

  handed-on : (g : ConsoleTurn) → So g → So (handed g)
  handed-on g x = on g.lists.pending refl
    where
      on : (ps : List QueuedPacket) → g.lists.pending ≡ ps → So (with_read (first_request (words_read_from ps g.words) ps) (words_read_from ps g.words) (read_taken_from ps g.lists).lists g)
      on [] is = x
      on (p ∷ ps) is =
          let y : List ℕ = unqueued g.words (queue_for g.lists Pending) p.address in
          let m : Lists = with_queue Pending ps g.lists in
          let r : Request = request_at y p.address in
          let w : Served = line_service y m g.console.line r in
          let plain : Pairs = written_buffer y w.at w.bytes in
          subst (λ qs. On (settled_words g.words (returned m r w.answer).lists plain) (returned m r w.answer).lists (g.events ++ ((read_taken_from qs g.lists).events ++ (returned m r w.answer).events))) (sym is)
          (h.at_delivery g.words g.lists g.events p ps w.answer plain is x)

  delivered-on : (ps : List QueuedPacket) (g : ConsoleTurn) → So g → So (delivered ps g)
  delivered-on [] g x = x
  delivered-on (p ∷ ps) g x = on g.console.finished (delivered-on ps (handed g) (handed-on g x))
    where
      on : (c : Bool) → So (delivered ps (handed g)) → So (cond c (delivered ps (handed g)) g)
      on true more = more
      on false more = x

  -- ---- the key packet

  sent-on : (g : ConsoleTurn) → So g → So (with_keys_sent g)
  sent-on g x = on (is_some g.lists.key) refl (not g.console.finished)
    where
      on : (c : Bool) → is_some g.lists.key ≡ c → (d : Bool) → So (cond (c && d) (keys_sent g) g)
      on true off true = h.at_sending g.words g.lists g.events off x
      on true off false = x
      on false off d = x

  -- up to the end, at which the console waits or goes on
  pub parts-on : (id : ℕ) (g : ConsoleTurn) → g.events ≡ [] → So g → So (with_keys_sent (delivery (treated id (work g.lists) g)))
  parts-on id g none x =
      let t : ConsoleTurn = treated id (work g.lists) g in
      sent-on (delivery t) (delivered-on t.lists.pending t (treated-on id g none x))
