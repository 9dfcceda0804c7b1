-- One byte in hex.
use Rattle.std.proofs.Common.{◌≡◌, ◌∙◌, ℕ, ◌*◌, Result, Ok, Err, Some, None, inl, inr, List, [], ◌∷◌, length, get_or, refl, sym, arith}
use Rattle.std.specs.Prelude.{MatchResult}
use Rattle.std.proofs.lemmas.Bool.{cases_eq}
use Rattle.hex.specs.Hex.{decode_of, decode_sized}
use Rattle.hex.specs.declared.error.FromHexError.{FromHexError}
use Rattle.hex.proofs.HexLemmas.{decode_of-ok, decode_sized-ok, decode_sized-twice}
use Rattle.session_text.specs.Statements.{one_byte}

-- what decoding into room for one byte answers
abbrev pub Decodes : List ℕ → Result (Unit {0}) FromHexError → List ℕ → Type 0
Decodes digits r out = MatchResult (decode_sized digits 1) (λ bytes. (r ≡ Ok tt) × (out ≡ bytes)) (λ e. r ≡ Err e)

-- as many bytes as there are not
other_count : (d : Result (List ℕ) FromHexError) (n : ℕ) → ((bytes : List ℕ) → d ≡ Ok bytes → n ≡ 2 * length bytes) → ¬ (n ≡ 2) → one_byte d ≡ None
other_count (Ok []) n h other = refl
other_count (Ok (b ∷ [])) n h other = let e = h (b ∷ []) refl in absurd (other (omega (arith, e)))
other_count (Ok (b ∷ c ∷ bytes)) n h other = refl
other_count (Err e) n h other = refl

err_is : (d : Result (List ℕ) FromHexError) (r : Result (Unit {0}) FromHexError) (out : List ℕ) (x : FromHexError) → MatchResult d (λ bytes. (r ≡ Ok tt) × (out ≡ bytes)) (λ e. r ≡ Err e) → r ≡ Err x → (y : FromHexError) × (d ≡ Err y)
err_is (Ok bytes) r out x m e = cc
err_is (Err y) r out x m e = (y, refl)

count_is : (digits bytes : List ℕ) → decode_of digits ≡ Ok bytes → length digits ≡ 2 * length bytes
count_is digits bytes e = (decode_of-ok digits bytes e).2

no_byte : (d : Result (List ℕ) FromHexError) (x : FromHexError) → d ≡ Err x → one_byte d ≡ None
no_byte d x e = rw e refl

-- where nothing was decoded there is none
pub one_byte-err : (digits : List ℕ) (r : Result (Unit {0}) FromHexError) (out : List ℕ) (x : FromHexError) → Decodes digits r out → r ≡ Err x → one_byte (decode_of digits) ≡ None
one_byte-err digits r out x m e =
    let none = err_is (decode_sized digits 1) r out x m e in
    elim (cases_eq (length digits) 2) [
      | inl two ↦ no_byte (decode_of digits) none.0 (sym (decode_sized-twice digits 1 (omega (arith, two))) ∙ none.1)
      | inr other ↦ other_count (decode_of digits) (length digits) (count_is digits) other
    ]
