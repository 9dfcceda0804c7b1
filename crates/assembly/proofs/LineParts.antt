-- A line of parts, read.
use Rattle.std.proofs.Common.{◌≡◌, ◌≢◌, ◌∙◌, ℕ, suc, ◌+◌, ◌<◌, true, false, ◌==◌, List, [], ◌∷◌, ◌++◌, length, refl, ap, arith, nat_lt}
use Rattle.std.specs.Prelude.{filter}
use Rattle.std.specs.List.{AllByRecursion, join_with_byte, position_or_len, slice_split}
use Rattle.std.proofs.lemmas.Bool.Decides.{nat_tests}
use Rattle.module_text.proofs.TextReader.PlainLines.{IsPlain}
use Rattle.assembly.specs.AssemblyText.Parts.{parts_of, without_comment}
use Rattle.assembly.proofs.AssemblyText.PartLemmas.{kept_first}

-- a byte that ends neither a part nor a line, and begins no comment
abbrev pub IsPartByte : ℕ → Type 0
IsPartByte c = (c ≢ 10) × (c ≢ 13) × (c ≢ 32) × (c ≢ 59)

abbrev pub IsPart : List ℕ → Type 0
IsPart part = (0 < length part) × AllByRecursion IsPartByte part

-- a byte of a line of such parts
abbrev IsLineByte : ℕ → Type 0
IsLineByte c = (c ≢ 10) × (c ≢ 13) × (c ≢ 59)

-- ---- where parts end

split_at_space : (part rest : List ℕ) → AllByRecursion IsPartByte part → slice_split (λ c. c == 32) (part ++ 32 ∷ rest) ≡ part ∷ slice_split (λ c. c == 32) rest
split_at_space [] rest h = refl
split_at_space (c ∷ cs) rest h =
    let ne : c ≢ 32 = h.0.2 in
    let no : (c == 32) ≡ false = grind (arith, nat_tests) in
    rw (no, split_at_space cs rest h.1) refl

split_nowhere : (part : List ℕ) → AllByRecursion IsPartByte part → slice_split (λ c. c == 32) part ≡ part ∷ []
split_nowhere [] h = refl
split_nowhere (c ∷ cs) h =
    let ne : c ≢ 32 = h.0.2 in
    let no : (c == 32) ≡ false = grind (arith, nat_tests) in
    rw (no, split_nowhere cs h.1) refl

parts_of_joined : (parts : List (List ℕ)) → AllByRecursion IsPart parts → parts_of (join_with_byte 32 parts) ≡ parts
unfolding parts_of
parts_of_joined [] h = refl
parts_of_joined (p ∷ []) h = rw (split_nowhere p h.0.1, kept_first p [] h.0.0) refl
parts_of_joined (p ∷ q ∷ ps) h =
    rw (split_at_space p (join_with_byte 32 (q ∷ ps)) h.0.1, kept_first p (slice_split (λ c. c == 32) (join_with_byte 32 (q ∷ ps))) h.0.0)
    (ap (λ (l : List (List ℕ)). p ∷ l) (parts_of_joined (q ∷ ps) h.1))

-- ---- the bytes of the line

part_on_line : (part rest : List ℕ) → AllByRecursion IsPartByte part → AllByRecursion IsLineByte rest → AllByRecursion IsLineByte (part ++ rest)
part_on_line [] rest h k = k
part_on_line (c ∷ cs) rest h k = ((h.0.0, h.0.1, h.0.3), part_on_line cs rest h.1 k)

part_alone : (part : List ℕ) → AllByRecursion IsPartByte part → AllByRecursion IsLineByte part
part_alone [] h = tt
part_alone (c ∷ cs) h = ((h.0.0, h.0.1, h.0.3), part_alone cs h.1)

line_bytes : (parts : List (List ℕ)) → AllByRecursion IsPart parts → AllByRecursion IsLineByte (join_with_byte 32 parts)
line_bytes [] h = tt
line_bytes (p ∷ []) h = part_alone p h.0.1
line_bytes (p ∷ q ∷ ps) h =
    part_on_line p (32 ∷ join_with_byte 32 (q ∷ ps)) h.0.1 (((λ e. absurd (omega arith)), (λ e. absurd (omega arith)), (λ e. absurd (omega arith))), line_bytes (q ∷ ps) h.1)

plain_bytes : (line : List ℕ) → AllByRecursion IsLineByte line → IsPlain line
plain_bytes [] h = tt
plain_bytes (c ∷ cs) h = ((h.0.0, h.0.1), plain_bytes cs h.1)

no_comment : (line : List ℕ) → AllByRecursion IsLineByte line → without_comment line ≡ line
no_comment [] h = refl
no_comment (c ∷ cs) h =
    let ne : c ≢ 59 = h.0.2 in
    let no : (c == 59) ≡ false = grind (arith, nat_tests) in
    let next : 1 + position_or_len (λ b. b == 59) cs ≡ suc (position_or_len (λ b. b == 59) cs) = omega arith in
    rw (no, next) (ap (λ (l : List ℕ). c ∷ l) (no_comment cs h.1))

pub plain_joined : (parts : List (List ℕ)) → AllByRecursion IsPart parts → IsPlain (join_with_byte 32 parts)
plain_joined parts h = plain_bytes (join_with_byte 32 parts) (line_bytes parts h)

-- the parts that are read are those of the line
pub parts_read : (parts : List (List ℕ)) → AllByRecursion IsPart parts → parts_of (without_comment (join_with_byte 32 parts)) ≡ parts
parts_read parts h = ap parts_of (no_comment (join_with_byte 32 parts) (line_bytes parts h)) ∙ parts_of_joined parts h
