-- Braces are filled one after another.
use Rattle.std.proofs.Common.{◌≡◌, ℕ, zero, suc, ℤ, Bool, List, ◌++◌, Option, Some, None, Ok, refl}
use Rattle.module_text.specs.TextReader.Steps.{◌>>=◌}
use Rattle.lab_marks.specs.Cuts.{cut}
use Rattle.lab_marks.specs.Fillings.{filled_after, with_braces}

-- a text without a `{` stays
pub no_braces : (most : ℕ) (known : List ℕ → Option ℤ) (is_pattern : Bool) (made text : List ℕ) → cut 123 text ≡ None
    → filled_after most known is_pattern made text ≡ Ok (made ++ text)
no_braces zero known is_pattern made text none = refl
no_braces (suc most) known is_pattern made text none = rw none refl

-- the first braces, and those after them
pub first_braces : (most next : ℕ) (known : List ℕ → Option ℤ) (is_pattern : Bool) (made text : List ℕ) (parts : List ℕ × List ℕ) → most ≡ suc next → cut 123 text ≡ Some parts
    → filled_after most known is_pattern made text
    ≡ (with_braces known is_pattern made parts.0 parts.1 >>= (λ filling. filled_after next known is_pattern filling.0 filling.1))
first_braces most next known is_pattern made text parts m some = rw (m, some) refl
