-- How the bytes of a line are read: outside of quotes, or in them.
use Rattle.std.specs.Prelude.{ℕ, suc, ◌==◌, ◌||◌, Bool, false, List, [], ◌∷◌, take, drop, if◌then◌else◌}
use Rattle.std.specs.Str.Lines.{strip_carriage_return}
use Rattle.friendly_assembly.specs.declared.readings.Reading.{Reading}
use Rattle.friendly_assembly.specs.declared.readings.Reading.TheVariants.{Outside, Within, AfterStar}
use Rattle.friendly_assembly.specs.declared.readings.Stop.{Stop}
use Rattle.friendly_assembly.specs.declared.readings.Stop.TheVariants.{AtBlank, AtComment}

-- how the byte after this one is read: a quote ends at the same quote, but not right after a star
abbrev pub reading_after : Reading → ℕ → Reading
reading_after Outside c = if (c == 34) || (c == 39) then Within c else Outside
reading_after (Within quote) c = if c == 42 then AfterStar quote else if c == quote then Outside else Within quote
reading_after (AfterStar quote) c = Within quote

-- a blank, or a tab
abbrev pub is_blank : ℕ → Bool
is_blank c = (c == 32) || (c == 9)

-- whether a byte that is read so ends what comes before it: a blank or a semicolon in quotes ends nothing
abbrev pub ends_at : Stop → Reading → ℕ → Bool
ends_at AtBlank Outside c = is_blank c
ends_at AtComment Outside c = c == 59
ends_at stop reading c = false

-- how many bytes come before the first that ends them
abbrev pub bytes_before : Stop → Reading → List ℕ → ℕ
bytes_before stop reading [] = 0
bytes_before stop reading (c ∷ cs) = if ends_at stop reading c then 0 else suc (bytes_before stop (reading_after reading c) cs)

-- how many bytes of a line come before its comment, which begins with a semicolon outside of quotes, or before the CR of its end
unfoldable pub code_length : List ℕ → ℕ
code_length line = bytes_before AtComment Outside (strip_carriage_return line)

-- these bytes
abbrev pub code_of : List ℕ → List ℕ
code_of line = take (code_length line) line

-- the comment, with the CR of the line's end
abbrev pub comment_of : List ℕ → List ℕ
comment_of line = drop (code_length line) line
