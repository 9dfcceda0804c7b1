-- The words of the packets that a step's events accept.
use Rattle.std.specs.Prelude.{ℕ, ◌+◌, List, [], ◌∷◌, Option, Some, None, codes, decimal, map, slice_index, take}
use Rattle.std.specs.Fmt.{signed_decimal}
use Rattle.std.specs.List.{flat_map}
use Rattle.byte_streams.specs.Pieces.{joined}
use Rattle.word_store.specs.Arithmetic.{signed}
use Rattle.kernel_model.specs.declared.kernel_record.numbers.TheConstants.{FIRST, KIND, RES1, RES2}
use Rattle.kernel_lists.specs.declared.packet_queue.events.KernelEvent.{KernelEvent}
use Rattle.kernel_lists.specs.declared.packet_queue.events.KernelEvent.TheVariants.{Accepted, Taken, Dequeued, Runs}
use Rattle.show_run.specs.declared.step_log.moments.Moment.{Moment}
use Rattle.show_run.specs.declared.step_log.packets.TheConstants.{MOST_TOLD}
use Rattle.show_run.specs.StepLog.Moments.{line}

-- the packet that an event accepts, if it accepts one
abbrev pub accepted : KernelEvent → Option ℕ
accepted (Accepted queue packet sender) = Some packet
accepted (Taken queue packet sender) = None
accepted (Dequeued queue packet) = None
accepted (Runs task) = None

-- for each of the first events of a step, the packet that it accepts, if it accepts one; of more events no packet is told
abbrev pub told_of : List KernelEvent → List (Option ℕ)
told_of events = map accepted (take MOST_TOLD events)

-- word i of the packet, as a signed number; 0 where it is outside the store
abbrev pub packet_word : List ℕ → ℕ → ℕ → List ℕ
packet_word words packet i = signed_decimal (signed (slice_index words (packet + i)))

-- its type, its results and its argument
abbrev pub packet_text : List ℕ → ℕ → List ℕ
packet_text words packet =
    joined (codes "packet " ∷ decimal packet ∷ codes " type " ∷ packet_word words packet KIND ∷ codes ", results " ∷ packet_word words packet RES1
    ∷ codes " and " ∷ packet_word words packet RES2 ∷ codes ", argument " ∷ packet_word words packet FIRST ∷ [])

-- the line of a packet, where an event has accepted one
abbrev pub packet_lines : Moment → List ℕ → Option ℕ → List ℕ
packet_lines m words None = []
packet_lines m words (Some packet) = line m (packet_text words packet)

-- the lines of all packets that are told, by the words of a store
abbrev pub told_lines : Moment → List ℕ → List (Option ℕ) → List ℕ
told_lines m words told = flat_map (packet_lines m words) told
