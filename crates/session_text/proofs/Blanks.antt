-- Texts that are cut at blanks, and put together again.
use Rattle.std.proofs.Common.{◌≡◌, ◌≢◌, ◌∙◌, ℕ, suc, ◌+◌, ◌==◌, Bool, true, false, cond, Option, Some, None, List, [], ◌∷◌, ◌++◌, length, length-append, take, drop, nat_lt, refl, sym, ap, subst, arith, add-one, append-nil, get_or}
use Rattle.std.specs.Prelude.{option_and_then}
use Rattle.std.specs.Char.{is_ascii_graphic}
use Rattle.std.specs.List.{AllByRecursion, list_all, onto_first, position_or_len}
use Rattle.std.specs.Str.Parse.{AllDigits}
use Rattle.std.proofs.Math.Seq.{split_at}
use Rattle.std.proofs.lemmas.Bool.{and_parts}
use Rattle.std.proofs.lemmas.Bool.Decides.{nat_tests}
use Rattle.std.proofs.lemmas.List.Sums.{passes_at_first}
use Rattle.std.proofs.lemmas.Str.Parse.{digit_from_value}
use Rattle.module_text.specs.TextReader.Numbers.{IsNumber, number_of}
use Rattle.module_text.proofs.TextReader.NumberLemmas.{number_in-again, number_in-ok}
use Rattle.session_text.specs.Statements.{fields, is_field, names_text, number_field, split_at_blank}
use Rattle.session_text.proofs.FieldParts.{place_is}

abbrev blank : ℕ → Bool
blank c = c == 32

-- no byte is a blank
abbrev pub HasNoBlank : List ℕ → Type 0
HasNoBlank text = AllByRecursion (λ c. c ≢ 32) text

pub HasNoBlank-digits : (digits : List ℕ) → AllDigits 10 digits → HasNoBlank digits
HasNoBlank-digits [] h = tt
HasNoBlank-digits (c ∷ cs) h = let r = digit_from_value c h.0 in (λ e. absurd (omega arith), HasNoBlank-digits cs h.1)

pub HasNoBlank-graphic : (text : List ℕ) → list_all is_ascii_graphic text ≡ true → HasNoBlank text
HasNoBlank-graphic [] h = tt
HasNoBlank-graphic (c ∷ cs) h =
    let p = and_parts (is_ascii_graphic c) (list_all is_ascii_graphic cs) h in
    let g : is_ascii_graphic c ≡ true = p.0 in
    (grind (arith, nat_tests), HasNoBlank-graphic cs p.1)

pub HasNoBlank-field : (field : List ℕ) → is_field field ≡ true → HasNoBlank field
HasNoBlank-field field h = HasNoBlank-graphic field (and_parts _ (list_all is_ascii_graphic field) h).1

-- ---- the first blank

-- it is behind what has none
first_blank : (front rest : List ℕ) → HasNoBlank front → position_or_len blank (front ++ 32 ∷ rest) ≡ length front
first_blank [] rest h = refl
first_blank (c ∷ cs) rest h =
    let ne : c ≢ 32 = h.0 in
    let more = first_blank cs rest h.1 in
    grind (arith, nat_tests)

take_front : (front rest : List ℕ) → take (length front) (front ++ rest) ≡ front
take_front [] rest = refl
take_front (c ∷ cs) rest = ap (λ (t : List ℕ). c ∷ t) (take_front cs rest)

drop_beyond : (front : List ℕ) (c : ℕ) (rest : List ℕ) → drop (suc (length front)) (front ++ c ∷ rest) ≡ rest
drop_beyond [] c rest = refl
drop_beyond (x ∷ xs) c rest = drop_beyond xs c rest

drop_past : (front : List ℕ) (c : ℕ) (rest : List ℕ) → drop (length front + 1) (front ++ c ∷ rest) ≡ rest
drop_past front c rest = rw add-one (drop_beyond front c rest)

-- what was cut there
pub split_at_blank-again : (front rest : List ℕ) → HasNoBlank front → split_at_blank (front ++ 32 ∷ rest) ≡ Some (front, rest)
split_at_blank-again front rest h =
    let i = first_blank front rest h in
    let len : length (front ++ 32 ∷ rest) ≡ length front + suc (length rest) = length-append front (32 ∷ rest) in
    let lt : nat_lt (length front) (length (front ++ 32 ∷ rest)) ≡ true = grind (arith, nat_tests) in
    rw (i, lt, take_front front (32 ∷ rest), drop_past front 32 rest) refl

pub split_at_blank-ok : (text : List ℕ) (x : List ℕ × List ℕ) → split_at_blank text ≡ Some x → text ≡ x.0 ++ 32 ∷ x.1
split_at_blank-ok text x e =
    let i = position_or_len blank text in
    let p = place_is text i (nat_lt i (length text)) x refl e in
    let test : blank (get_or text i 0) ≡ true = passes_at_first blank text 0 p.0 in
    let at : get_or text i 0 ≡ 32 = grind (arith, nat_tests) in
    split_at text i 0 p.0 ∙ ap (λ (c : ℕ). take i text ++ c ∷ drop (suc i) text) at
    ∙ ap (λ (k : ℕ). take i text ++ 32 ∷ drop k text) (sym (add-one i)) ∙ ap (λ (y : List ℕ × List ℕ). y.0 ++ 32 ∷ y.1) p.1

-- ---- a number before a blank

pub number_field-again : (digits rest : List ℕ) (n : ℕ) → IsNumber digits n → number_field (digits ++ 32 ∷ rest) ≡ Some (n, rest)
number_field-again digits rest n h =
    rw (split_at_blank-again digits rest (HasNoBlank-digits digits h.numeral.1), number_in-again 10 10 digits n h) refl

value_by : (text : List ℕ) (x : ℕ × List ℕ) (parts : List ℕ × List ℕ) → text ≡ parts.0 ++ 32 ∷ parts.1 → (o : Option ℕ) → number_of parts.0 ≡ o
    → option_and_then (λ n. Some (n, parts.1)) o ≡ Some x → (digits : List ℕ) × IsNumber digits x.0 × (text ≡ digits ++ 32 ∷ x.1)
value_by text x parts t None e h = cc h
value_by text x parts t (Some n) e h =
    let same : (n, parts.1) ≡ x = cc in
    subst (λ (y : ℕ × List ℕ). (digits : List ℕ) × IsNumber digits y.0 × (text ≡ digits ++ 32 ∷ y.1)) same (parts.0, number_in-ok 10 10 parts.0 n e, t)

number_by : (text : List ℕ) (x : ℕ × List ℕ) (o : Option (List ℕ × List ℕ)) → split_at_blank text ≡ o
    → option_and_then (λ parts. option_and_then (λ n. Some (n, parts.1)) (number_of parts.0)) o ≡ Some x
    → (digits : List ℕ) × IsNumber digits x.0 × (text ≡ digits ++ 32 ∷ x.1)
number_by text x None e h = cc h
number_by text x (Some parts) e h = value_by text x parts (split_at_blank-ok text parts e) (number_of parts.0) refl h

pub number_field-ok : (text : List ℕ) (x : ℕ × List ℕ) → number_field text ≡ Some x → (digits : List ℕ) × IsNumber digits x.0 × (text ≡ digits ++ 32 ∷ x.1)
number_field-ok text x e = number_by text x (split_at_blank text) refl e

-- ---- fields

names_first : (c : ℕ) (parts : List (List ℕ)) (text : List ℕ) → 32 ∷ text ≡ names_text parts → 32 ∷ c ∷ text ≡ names_text (onto_first c parts)
names_first c [] text e = cc e
names_first c (part ∷ parts) text e = let same : text ≡ part ++ names_text parts = cc in ap (λ (t : List ℕ). 32 ∷ c ∷ t) same

fields_by : (c : ℕ) (b : Bool) (cs : List ℕ) → (c == 32) ≡ b → 32 ∷ cs ≡ names_text (fields cs) → 32 ∷ c ∷ cs ≡ names_text (cond b ([] ∷ fields cs) (onto_first c (fields cs)))
fields_by c true cs e h = let same : c ≡ 32 = grind (arith, nat_tests) in rw same (ap (λ (t : List ℕ). 32 ∷ t) h)
fields_by c false cs e h = names_first c (fields cs) cs h

-- the fields of a text, put together
pub names_text-fields : (text : List ℕ) → 32 ∷ text ≡ names_text (fields text)
names_text-fields [] = refl
names_text-fields (c ∷ cs) = fields_by c (c == 32) cs refl (names_text-fields cs)

-- a field in front
pub fields-field : (field : List ℕ) → HasNoBlank field → fields field ≡ field ∷ []
fields-field [] h = refl
fields-field (c ∷ cs) h = let ne : c ≢ 32 = h.0 in let more = fields-field cs h.1 in let no : (c == 32) ≡ false = grind (arith, nat_tests) in rw (no, more) refl

pub fields-behind : (field rest : List ℕ) → HasNoBlank field → fields (field ++ 32 ∷ rest) ≡ field ∷ fields rest
fields-behind [] rest h = refl
fields-behind (c ∷ cs) rest h = let ne : c ≢ 32 = h.0 in let more = fields-behind cs rest h.1 in let no : (c == 32) ≡ false = grind (arith, nat_tests) in rw (no, more) refl

-- fields that were put together
pub fields-again : (field : List ℕ) (more : List (List ℕ)) → list_all is_field (field ∷ more) ≡ true → fields (field ++ names_text more) ≡ field ∷ more
fields-again field [] h =
    let p = and_parts (is_field field) true h in
    rw (append-nil field) (fields-field field (HasNoBlank-field field p.0))
fields-again field (next ∷ more) h =
    let p = and_parts (is_field field) (list_all is_field (next ∷ more)) h in
    fields-behind field (next ++ names_text more) (HasNoBlank-field field p.0) ∙ ap (λ (ls : List (List ℕ)). field ∷ ls) (fields-again next more p.1)
