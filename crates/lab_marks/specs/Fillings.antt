-- Texts with values in the place of expressions in braces.
use Rattle.std.specs.Prelude.{ℕ, zero, suc, ℤ, pos, negsuc, ◌+◌, ◌-◌, ◌%◌, ◌==◌, ◌&&◌, not, Bool, true, if◌then◌else◌, List, [], ◌∷◌, ◌++◌, length, drop, codes, decimal, Option, Result, Ok, Err}
use Rattle.std.specs.Char.{is_ascii_digit}
use Rattle.std.specs.Option.{option_map_or}
use Rattle.module_text.specs.TextReader.Fields.{after_word}
use Rattle.module_text.specs.TextReader.Steps.{◌>>=◌}
use Rattle.lab_marks.specs.declared.fillings.Filling.{Filling}
use Rattle.lab_marks.specs.declared.wrongs.Wrong.{Wrong}
use Rattle.lab_marks.specs.declared.wrongs.Wrong.TheVariants.{OpenBrace}
use Rattle.lab_marks.specs.Cuts.{cut}
use Rattle.lab_marks.specs.Expressions.{value_of}
use Rattle.lab_marks.specs.Tokens.{run_end}

-- a value in decimal
abbrev pub number_text : ℤ → List ℕ
number_text (pos n) = decimal n
number_text (negsuc n) = 45 ∷ decimal (n + 1)

-- the byte with this code, modulo 256
abbrev pub byte_of : ℤ → ℕ
byte_of (pos n) = n % 256
byte_of (negsuc n) = 255 - n % 256

-- whether what comes after the first number of an interval is nothing, or a comma and perhaps another number
abbrev pub is_last : List ℕ → Bool
is_last [] = true
is_last (c ∷ cs) = (c == 44) && (run_end is_ascii_digit cs == length cs)

-- whether this is how often something comes in a pattern
abbrev pub is_interval : List ℕ → Bool
is_interval text = not (run_end is_ascii_digit text == 0) && is_last (drop (run_end is_ascii_digit text) text)

-- the character whose code is the worth of an expression
abbrev pub character : (List ℕ → Option ℤ) → List ℕ → Result (List ℕ) Wrong
character known expression = do
  code ← value_of known expression
  Ok (byte_of code ∷ [])

-- what an expression is worth, in decimal
abbrev pub number : (List ℕ → Option ℤ) → List ℕ → Result (List ℕ) Wrong
number known expression = do
  value ← value_of known expression
  Ok (number_text value)

-- what comes in the place of braces around this
abbrev pub braced : (List ℕ → Option ℤ) → Bool → List ℕ → Result (List ℕ) Wrong
braced known is_pattern inner =
    if is_pattern && is_interval inner then Ok (codes "{" ++ inner ++ codes "}") else
    option_map_or (character known) (after_word (codes "c ") inner) (number known inner)

-- a text, with the one before a `{` and with what comes in the place of the braces, and what comes after the `}`
abbrev pub with_braces : (List ℕ → Option ℤ) → Bool → List ℕ → List ℕ → List ℕ → Result (List ℕ × List ℕ) Wrong
with_braces known is_pattern made before others =
    option_map_or (λ parts. braced known is_pattern parts.0 >>= (λ value. Ok ((made ++ before) ++ value, parts.1))) (cut 125 others) (Err OpenBrace)

-- a text that is made so far, with the rest of a text that has no more braces than so many
abbrev pub filled_after : ℕ → (List ℕ → Option ℤ) → Bool → List ℕ → List ℕ → Result (List ℕ) Wrong
filled_after zero known is_pattern made text = Ok (made ++ text)
filled_after (suc most) known is_pattern made text =
    option_map_or (λ parts. with_braces known is_pattern made parts.0 parts.1 >>= (λ filling. filled_after most known is_pattern filling.0 filling.1)) (cut 123 text) (Ok (made ++ text))

-- a text with the values of its `{EXPRESSION}`s, and the characters with these codes in the place of its `{c EXPRESSION}`s
abbrev pub filled : (List ℕ → Option ℤ) → Bool → List ℕ → Result (List ℕ) Wrong
filled known is_pattern text = filled_after (length text) known is_pattern [] text

-- what the code keeps of a text that it fills
abbrev pub filling_kept : Filling → List ℕ × List ℕ
filling_kept filling = (filling.made.items, filling.rest)
