-- Fields of a line, from the bytes and back.
use Rattle.std.proofs.Common.{◌≡◌, ◌∙◌, ℕ, true, cond, Option, Some, None, List, ◌∷◌, ◌++◌, refl, sym, ap, subst}
use Rattle.std.specs.Prelude.{codes, option_and_then}
use Rattle.std.proofs.lemmas.Option.{cond_some}
use Rattle.hex.specs.Hex.{IsBytes, encode_lower}
use Rattle.module_text.specs.TextReader.Fields.{after_word}
use Rattle.module_text.proofs.TextReader.FieldLemmas.{after_word-ok}
use Rattle.session_text.specs.Statements.{is_field, split_at_blank}
use Rattle.session_text.proofs.Blanks.{HasNoBlank-field, split_at_blank-again, split_at_blank-ok}
use Rattle.saved_text.specs.SavedLines.Heads.{hex_field}
use Rattle.saved_text.specs.SavedLines.HexText.{bytes_of, is_hex}
use Rattle.saved_text.specs.SavedLines.Statements.{field_before_blank}
use Rattle.saved_text.proofs.SavedLines.HexTexts.{bytes_of-bytes, bytes_of-ok, is_hex-encode}
use Rattle.session_text.proofs.StatementLines.{and_then-ok}

pub Some-same : {A : Type 0} (x y : A) → Some x ≡ Some y → x ≡ y
Some-same x y e = cc

-- ---- a field before a blank

pub field_before_blank-ok : (text : List ℕ) (x : List ℕ × List ℕ) → field_before_blank text ≡ Some x → (is_field x.0 ≡ true) × (text ≡ x.0 ++ 32 ∷ x.1)
field_before_blank-ok text x e =
    let a = and_then-ok (split_at_blank text) (λ parts. cond (is_field parts.0) (Some parts) None) x e in
    let p = cond_some (is_field a.0.0) a.0 x a.2 in
    subst (λ (y : List ℕ × List ℕ). (is_field y.0 ≡ true) × (text ≡ y.0 ++ 32 ∷ y.1)) p.1 (p.0, split_at_blank-ok text a.0 a.1)

pub field_before_blank-again : (field rest : List ℕ) → is_field field ≡ true → field_before_blank (field ++ 32 ∷ rest) ≡ Some (field, rest)
field_before_blank-again field rest h = rw (split_at_blank-again field rest (HasNoBlank-field field h), h) refl

-- ---- hex behind a colon

pub hex_field-ok : (text digits : List ℕ) → hex_field text ≡ Some digits → (is_hex digits ≡ true) × IsBytes (bytes_of digits) × (text ≡ codes ":" ++ encode_lower (bytes_of digits))
hex_field-ok text digits e =
    let a = and_then-ok (after_word (codes ":") text) (λ d. cond (is_hex d) (Some d) None) digits e in
    let p = cond_some (is_hex a.0) a.0 digits a.2 in
    let h : is_hex digits ≡ true = ap is_hex (sym p.1) ∙ p.0 in
    let colon : text ≡ codes ":" ++ a.0 = after_word-ok (codes ":") text a.0 a.1 in
    (h, (bytes_of-bytes digits h).1, colon ∙ ap (λ (d : List ℕ). codes ":" ++ d) (p.1 ∙ (bytes_of-ok digits h).1))

pub hex_field-again : (bytes : List ℕ) → IsBytes bytes → hex_field (codes ":" ++ encode_lower bytes) ≡ Some (encode_lower bytes)
hex_field-again bytes h = rw (is_hex-encode bytes h).0 refl
