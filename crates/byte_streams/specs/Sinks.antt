-- What a call that writes to a sink says of it. `k` is what a sink tells of itself, and `old` and `new` are the sink before and after the
-- call.
use Rattle.std.specs.Prelude.{ℕ, List, Result}
use Rattle.byte_streams.specs.Pending.{Gathers}
use Rattle.byte_streams.specs.Write.{HasCause, Prints}
use Rattle.byte_streams.specs.declared.sink.Sink.{Ghosts}

-- the call fails only where the sink's count of faults rose
abbrev pub FailsBySink : {K T E : Type 0} (k : Ghosts K) (old new : K) → Result T E → Type 0
FailsBySink k old new result = HasCause (k.faults old) (k.faults new) result

-- the text is written to the sink, or a prefix of it where the call failed
abbrev pub PrintsTo : {K T E : Type 0} (k : Ghosts K) (old new : K) → List ℕ → Result T E → Type 0
PrintsTo k old new text result = Prints (k.holds old) (k.holds new) text result

-- the text is gathered on its way to the sink: it comes after what was pending `before`, and its end is pending `after`
abbrev pub GathersFor : {K T E : Type 0} (k : Ghosts K) (old new : K) (before after text : List ℕ)
    → Result T E → Type 0
GathersFor k old new before after text result = Gathers (k.holds old) (k.holds new) before after text result
