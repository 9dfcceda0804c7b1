-- What a turn takes: its first event may take any packet, and each later one only reads that wait for a line.
use Rattle.std.proofs.Common.{◌≡◌, ℕ, pos, Bool, Option, Some, None, List, [], ◌∷◌, ◌++◌, append-nil, sym, subst}
use Rattle.std.specs.List.{AllByRecursion}
use Rattle.kernel_lists.specs.declared.packet_queue.events.KernelEvent.{KernelEvent}
use Rattle.kernel_lists.specs.declared.packet_queue.events.KernelEvent.TheVariants.{Accepted, Taken, Dequeued, Runs}
use Rattle.kernel_model.specs.KernelRecord.Lists.{Lists}
use Rattle.kernel_calls.specs.CallAnswers.CallChange.{CallChange, by_refusal, unless_refused}
use Rattle.kernel_calls.specs.CallAnswers.Refusals.{first_refusal}
use Rattle.kernel_calls.specs.PacketCalls.Dqpkt.{pending_number}

-- a packet that it takes is one of the reads
abbrev pub IsOfReads : KernelEvent → Type 0
IsOfReads (Accepted q p s) = Unit {0}
IsOfReads (Taken q p s) = q ≡ pos pending_number
IsOfReads (Dequeued q p) = Unit {0}
IsOfReads (Runs t) = Unit {0}

abbrev pub TakesReads : List KernelEvent → Type 0
TakesReads es = AllByRecursion IsOfReads es

-- so are all but the first
abbrev pub TakesFirst : List KernelEvent → Type 0
TakesFirst [] = Unit {0}
TakesFirst (e ∷ es) = TakesReads es

reads-join : (es fs : List KernelEvent) → TakesReads es → TakesReads fs → TakesReads (es ++ fs)
reads-join [] fs x y = y
reads-join (e ∷ es) fs x y = (x.0, reads-join es fs x.1 y)

reads-first : (es : List KernelEvent) → TakesReads es → TakesFirst es
reads-first [] x = tt
reads-first (e ∷ es) x = x.1

pub first-join : (es fs : List KernelEvent) → TakesFirst es → TakesReads fs → TakesFirst (es ++ fs)
first-join [] fs x y = reads-first fs y
first-join (e ∷ es) fs x y = reads-join es fs x y

-- a call that is refused has no events
pub first-refused : (tests : List (Bool × ℕ)) (l : Lists) (m : CallChange) → TakesFirst m.events → TakesFirst (unless_refused tests l m).events
first-refused tests l m x = on (first_refusal tests)
  where
    on : (o : Option ℕ) → TakesFirst (by_refusal o l m).events
    on None = x
    on (Some code) = tt
