-- Characters that look like a blank or a quote, and are none. They come into a text from a page or a word processor.
use Rattle.std.specs.Prelude.{ℕ, ◌+◌, ◌==◌, ◌&&◌, Bool, if◌then◌else◌, List, [], ◌∷◌, nat_le, Option, Some, None}
use Rattle.friendly_assembly.specs.declared.flaws.Flaw.{Flaw}
use Rattle.friendly_assembly.specs.declared.flaws.Wrong.{Wrong}
use Rattle.friendly_assembly.specs.declared.flaws.Wrong.TheVariants.{NoBreakSpace, TypographicQuote}
use Rattle.friendly_assembly.specs.Quotes.{flaw}

-- whether three bytes are a typographic quote, from U+2018 to U+201F
abbrev pub is_typographic : ℕ → ℕ → ℕ → Bool
is_typographic c d e = (c == 226) && (d == 128) && nat_le 152 e && nat_le e 159

-- what a text begins with, if it is such a character
abbrev pub strange_character : List ℕ → Option Wrong
strange_character [] = None
strange_character (c ∷ []) = None
strange_character (c ∷ d ∷ []) = if (c == 194) && (d == 160) then Some NoBreakSpace else None
strange_character (c ∷ d ∷ e ∷ cs) =
    if (c == 194) && (d == 160) then Some NoBreakSpace else
    if is_typographic c d e then Some TypographicQuote else
    None

-- the first of them, or what was found of one at this column
abbrev pub first_strange : ℕ → Option Wrong → Option Flaw → Option Flaw
first_strange column (Some wrong) later = Some (flaw column wrong)
first_strange column None later = later

-- the first such character of a text that begins at this column
abbrev pub strange_flaw : ℕ → List ℕ → Option Flaw
strange_flaw column [] = None
strange_flaw column (c ∷ cs) = first_strange column (strange_character (c ∷ cs)) (strange_flaw (column + 1) cs)
