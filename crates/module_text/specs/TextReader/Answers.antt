-- What a call that reads a text answers.
use Rattle.std.specs.Prelude.{◌≡◌, Result, Ok, Err}
use Rattle.module_text.specs.TextReader.Refusal.{Refusal, refusal}
use Rattle.module_text.specs.declared.text_reader.ends.TextEnd.{TextEnd}
use Rattle.module_text.specs.declared.text_reader.ends.TextEnd.TheVariants.{Bad, WantMemory}

-- an error is the refusal that the definition gives, unless memory ran out
abbrev pub EndsAs : {X : Type 0} → TextEnd → Result X Refusal → Type 0
EndsAs (Bad line code) read = read ≡ Err (refusal line code)
EndsAs WantMemory read = Unit {0}

-- what a call returned, seen by view, is what the definition gives, unless memory ran out
abbrev pub Gives : {X Y : Type 0} → (X → Y) → Result X TextEnd → Result Y Refusal → Type 0
Gives view (Ok x) read = read ≡ Ok (view x)
Gives view (Err e) read = EndsAs e read
