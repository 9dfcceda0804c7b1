-- What a step of reading returns.
use Rattle.std.specs.Prelude.{ℕ, Result, Ok, Err}
use Rattle.module_text.specs.declared.text_reader.ends.TextEnd.{TextEnd}
use Rattle.module_text.specs.declared.text_reader.ends.TextEnd.TheVariants.{Bad}

-- a code as the refusal of this line
abbrev pub or_bad : {X : Type 0} → ℕ → Result X ℕ → Result X TextEnd
or_bad line (Ok x) = Ok x
or_bad line (Err code) = Err (Bad line code)
