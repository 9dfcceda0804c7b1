-- Lines without LF and CR are the lines of their text.
use Rattle.std.proofs.Common.{◌≡◌, ◌≢◌, ◌∙◌, ℕ, ◌<◌, ◌^◌, Bool, true, not, ◌&&◌, ◌==◌, List, [], ◌∷◌, ◌++◌, refl, ap, subst, arith, append_assoc}
use Rattle.std.specs.Prelude.{decimal}
use Rattle.std.specs.List.{AllByRecursion, list_all}
use Rattle.std.specs.Str.Lines.{strip_carriage_return}
use Rattle.std.specs.Str.Parse.{AllDigits}
use Rattle.std.proofs.lemmas.Bool.{and_parts}
use Rattle.std.proofs.lemmas.Bool.Decides.{nat_tests}
use Rattle.std.proofs.lemmas.Fmt.{decimal_is_IsNumeral}
use Rattle.std.proofs.lemmas.Str.Parse.{digit_from_value}
use Rattle.hex.specs.Hex.{is_hex_digit}
use Rattle.module_text.specs.TextReader.Lines.{lines_of, text_of_lines}
use Rattle.module_text.proofs.TextReader.LineEnds.{HasNoLf, lines_at_lf, strip_behind}

-- a byte that is neither LF nor CR
abbrev pub IsPlainByte : ℕ → Type 0
IsPlainByte c = (c ≢ 10) × (c ≢ 13)

-- and a line of such bytes
abbrev pub IsPlain : List ℕ → Type 0
IsPlain line = AllByRecursion IsPlainByte line

-- ---- lines

-- such a line has no LF
plain_has_no_lf : (line : List ℕ) → IsPlain line → HasNoLf line
plain_has_no_lf [] h = tt
plain_has_no_lf (c ∷ cs) h = (h.0.0, plain_has_no_lf cs h.1)

-- and no CR at its end
strip_plain : (line : List ℕ) → IsPlain line → strip_carriage_return line ≡ line
strip_plain [] h = refl
strip_plain (c ∷ []) h = let ne : c ≢ 13 = h.0.1 in grind arith
strip_plain (c ∷ d ∷ more) h = strip_behind c d more ∙ ap (λ (l : List ℕ). c ∷ l) (strip_plain (d ∷ more) h.1)

-- such lines are the lines of their text
pub lines_of_text_of_lines : (lines : List (List ℕ)) → AllByRecursion IsPlain lines → lines_of (text_of_lines lines) ≡ lines
lines_of_text_of_lines [] h = refl
lines_of_text_of_lines (l ∷ ls) h =
    ap lines_of (append_assoc l (10 ∷ []) (text_of_lines ls)) ∙ lines_at_lf l (text_of_lines ls) (plain_has_no_lf l h.0)
    ∙ ap (λ (x : List ℕ). x ∷ lines_of (text_of_lines ls)) (strip_plain l h.0) ∙ ap (λ (x : List (List ℕ)). l ∷ x) (lines_of_text_of_lines ls h.1)

-- ---- which lines are plain

-- two such lines, one after the other
pub plain_append : (a b : List ℕ) → IsPlain a → IsPlain b → IsPlain (a ++ b)
plain_append [] b h k = k
plain_append (c ∷ cs) b h k = (h.0, plain_append cs b h.1 k)

-- the test of a literal, which computes
abbrev is_plain_byte : ℕ → Bool
is_plain_byte c = not (c == 10) && not (c == 13)

-- a literal that passes the test
pub plain_literal : (line : List ℕ) → list_all is_plain_byte line ≡ true → IsPlain line
plain_literal [] e = tt
plain_literal (c ∷ cs) e =
    let p = and_parts (is_plain_byte c) (list_all is_plain_byte cs) e in
    let q = and_parts (not (c == 10)) (not (c == 13)) p.0 in
    let lf : not (c == 10) ≡ true = q.0 in
    let cr : not (c == 13) ≡ true = q.1 in
    ((grind (arith, nat_tests), grind (arith, nat_tests)), plain_literal cs p.1)

-- decimal digits
pub plain_digits : (digits : List ℕ) → AllDigits 10 digits → IsPlain digits
plain_digits [] h = tt
plain_digits (c ∷ cs) h = let r = digit_from_value c h.0 in ((λ e. absurd (omega arith), λ e. absurd (omega arith)), plain_digits cs h.1)

-- a number that is printed
pub plain_decimal : (n : ℕ) → n < 2 ^ 64 → IsPlain (decimal n)
plain_decimal n lt = plain_digits (decimal n) (decimal_is_IsNumeral n lt).0.1

-- a hex digit
pub plain_hex_digit : (c : ℕ) → is_hex_digit c ≡ true → IsPlainByte c
plain_hex_digit c h = (λ e. cc (subst (λ (v : ℕ). is_hex_digit v ≡ true) e h), λ e. cc (subst (λ (v : ℕ). is_hex_digit v ≡ true) e h))
