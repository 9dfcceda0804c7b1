-- Values in a row: spans.
use Rattle.std.specs.Prelude.{ℕ, ◌+◌, ◌-◌, ◌==◌, if◌then◌else◌, List, [], ◌∷◌}
use Rattle.std.specs.List.{range_with_len}
use Rattle.show_run.specs.declared.value_tries.spans.Span.{Span}

-- each value from the first to the last
abbrev pub values_of : Span → List ℕ
values_of span = range_with_len span.first (span.last + 1 - span.first)

-- one value
abbrev pub span_of : ℕ → Span
span_of value = record { first = value; last = value }

-- one more value after those of the spans: it makes the last span longer, where it follows on that
abbrev pub spans_with : ℕ → List Span → List Span
spans_with value [] = span_of value ∷ []
spans_with value (span ∷ []) =
    if span.last + 1 == value then record span { last = value } ∷ [] else span ∷ span_of value ∷ []
spans_with value (span ∷ spans) = span ∷ spans_with value spans

-- the spans of some values more
abbrev pub spans_after : List Span → List ℕ → List Span
spans_after spans [] = spans
spans_after spans (value ∷ values) = spans_after (spans_with value spans) values

-- the spans of values: as few as their order allows
abbrev pub spans_of : List ℕ → List Span
spans_of values = spans_after [] values
