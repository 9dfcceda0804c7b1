-- What becomes of a text that is gathered before it goes to a sink.
use Rattle.std.specs.Prelude.{◌≡◌, ℕ, List, ◌++◌, Option, Result, Ok, Err}
use Rattle.std.specs.Io.KnownBytes.{Appends}
use Rattle.byte_streams.specs.Write.{AppendsPrefix}

-- What was pending, and the text after it, has gone to the sink, but for its end, which is
-- pending now.
pub record IsGathered (old new : Option (List ℕ)) (before after text : List ℕ) : Type 0 where
  -- the bytes that went out
  pub front : List ℕ
  -- they and what waits are what waited and the text
  pub whole : before ++ text ≡ front ++ after
  -- they went to the sink
  pub sent : Appends old new front

-- the sink failed, and has taken a prefix of what was pending and the text after it
pub record IsCut (old new : Option (List ℕ)) (before text : List ℕ) : Type 0 where
  -- a front of what waited and the text went to the sink
  pub prefix : AppendsPrefix old new (before ++ text)

-- the text is gathered, or the sink failed
abbrev pub Gathers : {T E : Type 0} → Option (List ℕ) → Option (List ℕ) → List ℕ → List ℕ → List ℕ
    → Result T E → Type 0
Gathers old new before after text (Ok x) = IsGathered old new before after text
Gathers old new before after text (Err e) = IsCut old new before text
