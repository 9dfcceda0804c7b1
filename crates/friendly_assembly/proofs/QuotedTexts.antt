-- What is wrong in a quote, byte by byte.
use Rattle.std.proofs.Common.{◌≡◌, ℕ, ◌+◌, ◌≤◌, ◌==◌, List, [], ◌∷◌, length, get_or, drop, refl, arith}
use Rattle.friendly_assembly.specs.Quotes.{flaw_by, pair_step, quote_flaw}

-- a byte and the next one
pub pair_flaw : (quote column after : ℕ) (text : List ℕ) → 2 ≤ length text
    → quote_flaw quote column after text
    ≡ flaw_by (pair_step quote column after (get_or text 0 0) (get_or text 1 0) (length (drop 2 text) == 0)) (quote_flaw quote column (after + 1) (drop 1 text)) (quote_flaw quote column (after + 2) (drop 2 text))
pair_flaw quote column after [] long = absurd (omega arith)
pair_flaw quote column after (c ∷ []) long = absurd (omega arith)
pair_flaw quote column after (c ∷ d ∷ cs) long = refl
