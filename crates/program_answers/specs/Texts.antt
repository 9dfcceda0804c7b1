-- The texts of an input that has no other answer.
use Rattle.std.specs.Prelude.{ℕ, List, [], ◌∷◌, codes, decimal}
use Rattle.byte_streams.specs.Pieces.{joined}
use Rattle.module_text.specs.TextReader.Refusal.{Refusal}

-- the line for an input that is too long
abbrev pub too_long_text : List ℕ
too_long_text = codes "* input too long\n"

-- the line for a text that is refused
abbrev pub refused_text : Refusal → List ℕ
refused_text r =
    joined (codes "* refused: line " ∷ decimal r.line ∷ codes " code " ∷ decimal r.code
    ∷ codes "\n" ∷ [])

-- the line for a session that does not boot
abbrev pub no_boot_text : Refusal → List ℕ
no_boot_text r =
    joined (codes "* no boot: line " ∷ decimal r.line ∷ codes " code " ∷ decimal r.code
    ∷ codes "\n" ∷ [])
