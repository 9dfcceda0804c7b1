-- Tokens are read one after another.
use Rattle.std.proofs.Common.{◌≡◌, ◌∙◌, ℕ, zero, suc, ℤ, List, Option, Some, None, Result, refl, sym, ap}
use Rattle.module_text.specs.TextReader.Steps.{◌>>=◌}
use Rattle.lab_marks.specs.declared.ends.Hindered.{Hindered}
use Rattle.lab_marks.specs.declared.tokens.Placed.{Placed}
use Rattle.lab_marks.specs.declared.ends.Hindered.TheVariants.{Refused, WantMemory}
use Rattle.lab_marks.specs.declared.wrongs.Wrong.{Wrong}
use Rattle.lab_marks.specs.Ends.{EndsAs}
use Rattle.lab_marks.specs.Expressions.{Reading, ended, value_after, with_token}
use Rattle.lab_marks.specs.Tokens.{next_token, tokens_within}

-- a text without tokens ends here
pub no_token : (known : List ℕ → Option ℤ) (text : List ℕ) (r : Reading) (most : ℕ) (rest : List ℕ) → next_token rest ≡ None
    → value_after known text r (tokens_within most rest) ≡ ended r
no_token known text r zero rest none = refl
no_token known text r (suc most) rest none = rw none refl

-- a token, and those after it
pub one_token : (known : List ℕ → Option ℤ) (text : List ℕ) (r : Reading) (most next : ℕ) (rest : List ℕ) (t : Placed × List ℕ) → most ≡ suc next → next_token rest ≡ Some t
    → value_after known text r (tokens_within most rest) ≡ (with_token known text r t.0 >>= (λ r. value_after known text r (tokens_within next t.1)))
one_token known text r most next rest t m some = rw (m, some) refl

-- what ends at a token ends there
pub ends-at_token : {X Y : Type 0} (e : Hindered) (step : Result X Wrong) (next : X → Result Y Wrong) (all : Result Y Wrong) → EndsAs e step → (step >>= next) ≡ all → EndsAs e all
ends-at_token (Refused wrong) step next all ends is = sym is ∙ ap (λ step. step >>= next) ends
ends-at_token WantMemory step next all ends is = tt
