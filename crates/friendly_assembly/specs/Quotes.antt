-- What is in quotes, and what is wrong there.
use Rattle.std.specs.Prelude.{ℕ, ◌+◌, ◌-◌, ◌==◌, ◌&&◌, ◌||◌, not, Bool, if◌then◌else◌, List, [], ◌∷◌, length, take, drop, nat_le, Option, Some, None, is_some}
use Rattle.std.specs.Option.{unwrap_or}
use Rattle.friendly_assembly.specs.declared.flaws.Flaw.{Flaw}
use Rattle.friendly_assembly.specs.declared.flaws.Wrong.{Wrong}
use Rattle.friendly_assembly.specs.declared.flaws.Wrong.TheVariants.{Backslash, GoesOn, NoCharacter, NotClosed, UnknownStar}
use Rattle.friendly_assembly.specs.declared.quotes.QuoteStep.{QuoteStep}
use Rattle.friendly_assembly.specs.declared.quotes.QuoteStep.TheVariants.{Ends, OneByte, TwoBytes}

-- something that is wrong so many bytes after a column
abbrev pub flaw_after : ℕ → ℕ → Wrong → Flaw
flaw_after column after wrong = record { column = column; after = after; wrong = wrong }

-- something that is wrong at a column
abbrev pub flaw : ℕ → Wrong → Flaw
flaw column wrong = flaw_after column 0 wrong

-- what a star and the byte after it stand for: a line end, a tab, a blank, or a quote or the star itself
abbrev pub starred : ℕ → Option ℕ
starred c =
    if c == 110 then Some 10 else
    if c == 116 then Some 9 else
    if c == 115 then Some 32 else
    if (c == 34) || (c == 39) || (c == 42) then Some c else
    None

-- a quoted character is one from the blank to `~`
abbrev pub is_character : ℕ → Bool
is_character c = nat_le 32 c && nat_le c 126

-- a backslash before the n or the t of another language
abbrev pub is_backslash : ℕ → ℕ → Bool
is_backslash c d = (c == 92) && ((d == 110) || (d == 116))

-- a byte in quotes that another one comes after, which is the last where nothing comes after it
abbrev pub pair_step : ℕ → ℕ → ℕ → ℕ → ℕ → Bool → QuoteStep
pair_step quote column after c d is_last =
    if c == quote then Ends (Some (flaw_after column (after + 1) GoesOn)) else
    if not (is_character c) then Ends (Some (flaw_after column after NoCharacter)) else
    if is_backslash c d then Ends (Some (flaw_after column after Backslash)) else
    if not (c == 42) then OneByte else
    if is_last || not (is_some (starred d)) then Ends (Some (flaw_after column after UnknownStar)) else
    TwoBytes

-- what is wrong, where the next bytes end the quote, or one byte is read, or two are
abbrev pub flaw_by : QuoteStep → Option Flaw → Option Flaw → Option Flaw
flaw_by (Ends wrong) after_one after_two = wrong
flaw_by OneByte after_one after_two = after_one
flaw_by TwoBytes after_one after_two = after_two

-- how many bytes are read
abbrev pub bytes_read : QuoteStep → ℕ
bytes_read (Ends wrong) = 0
bytes_read OneByte = 1
bytes_read TwoBytes = 2

-- What is wrong in what comes after a quote, so many bytes after it on; the quote is at this column. It has to end with the same quote,
-- and to have no other one but after a star.
abbrev pub quote_flaw : ℕ → ℕ → ℕ → List ℕ → Option Flaw
quote_flaw quote column after [] = Some (flaw column NotClosed)
quote_flaw quote column after (c ∷ []) = if c == quote then None else Some (flaw column NotClosed)
quote_flaw quote column after (c ∷ d ∷ cs) =
    flaw_by (pair_step quote column after c d (length cs == 0)) (quote_flaw quote column (after + 1) (d ∷ cs)) (quote_flaw quote column (after + 2) cs)

-- what is in the quotes of a part
abbrev pub quoted : List ℕ → List ℕ
quoted part = take (length part - 2) (drop 1 part)

-- the characters that it stands for
abbrev pub codes_in : List ℕ → List ℕ
codes_in [] = []
codes_in (c ∷ []) = c ∷ []
codes_in (c ∷ d ∷ cs) = if c == 42 then unwrap_or (starred d) d ∷ codes_in cs else c ∷ codes_in (d ∷ cs)
