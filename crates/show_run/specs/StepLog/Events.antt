-- The events of a step, in words.
use Rattle.std.specs.Prelude.{ℕ, ℤ, ◌==◌, if◌then◌else◌, List, [], ◌∷◌, codes, decimal}
use Rattle.std.specs.Fmt.{signed_decimal}
use Rattle.byte_streams.specs.Pieces.{joined, text_of}
use Rattle.word_store.specs.Arithmetic.{word_of}
use Rattle.kernel_model.specs.declared.kernel_record.numbers.TheConstants.{CLOCK, KEYBOARD, OUTPUT, PENDING}
use Rattle.kernel_lists.specs.declared.packet_queue.events.KernelEvent.{KernelEvent}
use Rattle.kernel_lists.specs.declared.packet_queue.events.KernelEvent.TheVariants.{Accepted, Taken, Dequeued, Runs}
use Rattle.show_run.specs.declared.step_log.moments.Moment.{Moment}
use Rattle.show_run.specs.declared.step_log.parties.Party.{Party}
use Rattle.show_run.specs.StepLog.Moments.{line}

-- Who has a queue or sends packets: words, and the number where it is a task.
pub record Named : Type 0 where
  -- the words
  pub words : List ℕ
  -- the number, or nothing
  pub number : List ℕ

-- somebody whom the words name
abbrev pub named : List ℕ → Named
named words = record { words = words; number = [] }

-- the same, as the code has it
abbrev pub party_seen : Party → Named
party_seen p = record { words = p.words.now; number = text_of p.number }

-- the devices and the console's reads by their numbers; all others are tasks
unfoldable pub party : ℤ → Named
party q =
    if word_of q == CLOCK then named (codes "the clock") else
    if word_of q == KEYBOARD then named (codes "the keyboard") else
    if word_of q == OUTPUT then named (codes "the output") else
    if word_of q == PENDING then named (codes "the reads at the console") else
    record { words = codes "task "; number = signed_decimal q }

-- a packet comes into a queue
abbrev pub accept_text : Named → ℕ → Named → List ℕ
accept_text to packet from =
    joined (codes "accept packet " ∷ decimal packet ∷ codes " from " ∷ from.words ∷ from.number ∷ codes " to " ∷ to.words ∷ to.number ∷ [])

-- the first packet of a queue is taken
abbrev pub take_text : Named → ℕ → Named → List ℕ
take_text taker packet from =
    joined (codes "take " ∷ taker.words ∷ taker.number ∷ codes " takes packet " ∷ decimal packet ∷ codes " of " ∷ from.words ∷ from.number ∷ [])

-- a packet leaves a queue before its turn
abbrev pub dequeue_text : Named → ℕ → List ℕ
dequeue_text owner packet =
    joined (codes "dequeue packet " ∷ decimal packet ∷ codes " leaves the queue of " ∷ owner.words ∷ owner.number ∷ [])

-- nobody has the number 0
abbrev pub run_text : ℕ → List ℕ
run_text task = if task == 0 then codes "run nobody runs" else joined (codes "run task " ∷ decimal task ∷ codes " runs" ∷ [])

-- an event, in words
abbrev pub event_text : KernelEvent → List ℕ
event_text (Accepted queue packet sender) = accept_text (party queue) packet (party sender)
event_text (Taken queue packet sender) = take_text (party queue) packet (party sender)
event_text (Dequeued queue packet) = dequeue_text (party queue) packet
event_text (Runs task) = run_text task

-- the line of an event in a step
abbrev pub event_line : Moment → KernelEvent → List ℕ
event_line m e = line m (event_text e)
