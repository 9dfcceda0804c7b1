-- The texts that the program writes besides the console bytes.
use Rattle.std.specs.Prelude.{ℕ, ◌+◌, List, [], ◌∷◌, ◌++◌, codes, decimal, ◌==◌, if◌then◌else◌}
use Rattle.byte_streams.specs.Pieces.{joined}
use Rattle.debugger.specs.Texts.{word_line}
use Rattle.kernel_model.specs.declared.kernel_record.stops.Stop.{Stop}
use Rattle.kernel_model.specs.declared.kernel_record.stops.Stop.TheVariants.{Steps, Quit, Finish, Fault}

-- the line that says which words the program takes
abbrev pub usage_text : List ℕ
usage_text =
    codes "* usage: tripos run, dump, trace, asm, disasm, debug, save, resume, ring or gen N\n"

-- the closing line, which begins on a line of its own: the steps taken, and why the machine has stopped
abbrev pub closing_text : ℕ → Stop → List ℕ
closing_text steps Steps =
    joined (codes "\n* stopped after " ∷ decimal steps ∷ codes " steps: steps\n" ∷ [])
closing_text steps (Quit code) =
    joined (codes "\n* stopped after " ∷ decimal steps ∷ codes " steps: quit " ∷ decimal code
    ∷ codes "\n" ∷ [])
closing_text steps Finish =
    joined (codes "\n* stopped after " ∷ decimal steps ∷ codes " steps: finish\n" ∷ [])
closing_text steps (Fault code address task) =
    joined (codes "\n* stopped after " ∷ decimal steps ∷ codes " steps: fault " ∷ decimal code
    ∷ codes " at " ∷ decimal address ∷ codes " in task " ∷ decimal task ∷ codes "\n" ∷ [])

-- the line of a word that is not 0
abbrev pub word_text : ℕ → ℕ → List ℕ
word_text a w =
    if w == 0 then [] else word_line a w

-- the lines of the words from address a on
abbrev pub dump_text : ℕ → List ℕ → List ℕ
dump_text a [] = []
dump_text a (w ∷ ws) = word_text a w ++ dump_text (a + 1) ws
