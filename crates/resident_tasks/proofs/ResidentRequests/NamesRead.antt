-- Names, as they are read from a store.
use Rattle.std.proofs.Common.{◌≡◌, ℕ, ◌+◌, ◌<◌, ◌&&◌, Bool, true, false, Option, Some, None, Result, Ok, Err, List, cond, length, refl, sym, ap, ◌∙◌, arith}
use Rattle.std.specs.Option.{SomeIff, ok_or}
use Rattle.std.proofs.lemmas.Bool.{and_parts, le-leb, leb-true}
use Rattle.std.proofs.lemmas.List.FromFn.{length-map-range_with_len}
use Rattle.std.proofs.lemmas.List.Sums.{AllPass-from_list_all, list_all-from_AllPass}
use Rattle.std.proofs.Math.Bool.{and-false}
use Rattle.ram_disc.specs.Name.{IsName, is_name_byte}
use Rattle.resident_tasks.specs.ResidentRequests.Buffers.{byte_in, bytes_in, lies_inside}
use Rattle.resident_tasks.specs.ResidentRequests.Names.{is_name, name_at, string_in}

pub is_name-lawful : (bytes : List ℕ) → is_name bytes ≡ true → IsName bytes
is_name-lawful bytes e =
    let low = and_parts _ _ e in
    let rest = and_parts _ _ low.1 in
    (leb-true 1 (length bytes) low.0, leb-true (length bytes) 12 rest.0, AllPass-from_list_all is_name_byte bytes rest.1)

pub lawful-is_name : (bytes : List ℕ) → IsName bytes → is_name bytes ≡ true
lawful-is_name bytes h = λ i. le-leb 1 (length bytes) h.0 i && (le-leb (length bytes) 12 h.1 i && list_all-from_AllPass is_name_byte bytes h.2 i)

pub unlawful-is_name : (bytes : List ℕ) → (IsName bytes → ⊥) → is_name bytes ≡ false
unlawful-is_name bytes not_one = on (is_name bytes) refl
  where
    on : (b : Bool) → is_name bytes ≡ b → b ≡ false
    on true e = absurd (not_one (is_name-lawful bytes e))
    on false e = refl

module _ (s : List ℕ) (a n : ℕ) (is : n ≡ byte_in s a 0) where
  abbrev named : Bool → Result (List ℕ) ℕ
  named b = cond b (Ok (string_in s a)) (Err 40)

  unnamed : is_name (string_in s a) ≡ false → Err 40 ≡ name_at s a
  unnamed e = sym (ap named (ap (λ b. lies_inside s a (byte_in s a 0 + 1) && b) e ∙ and-false (lies_inside s a (byte_in s a 0 + 1))))

  -- it is too long
  pub long-name : 12 < n → Err 40 ≡ name_at s a
  long-name long =
      unnamed
      (unlawful-is_name (string_in s a) (λ h. absurd (omega (arith, h.1, long, is, length-map-range_with_len (byte_in s a) 1 (byte_in s a 0)))))

  -- it lies in the store
  module _ (inside : lies_inside s a (n + 1) ≡ true) (bytes : List ℕ) (are : bytes ≡ bytes_in s a 1 n) where
    string-is : string_in s a ≡ bytes
    string-is = ap (bytes_in s a 1) (sym is) ∙ sym are

    lies : lies_inside s a (byte_in s a 0 + 1) ≡ true
    lies = ap (λ z. lies_inside s a (z + 1)) (sym is) ∙ inside

    pub name-read : (o : Option (List ℕ)) → SomeIff o (IsName bytes) bytes → ok_or o 40 ≡ name_at s a
    name-read None not_one = unnamed (ap is_name string-is ∙ unlawful-is_name bytes not_one)
    name-read (Some x) some =
        ap Ok (some.1 ∙ sym string-is)
        ∙ sym (ap named (λ i. lies i && (ap is_name string-is ∙ lawful-is_name bytes some.0) i))
