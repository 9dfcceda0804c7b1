-- The tokens of a text, found place by place.
use Rattle.std.proofs.Common.{◌≡◌, ◌∙◌, ℕ, suc, ◌<◌, ◌≤◌, ◌+◌, ◌-◌, Bool, true, false, Some, None, List, [], ◌∷◌, length, get_or, take, drop, refl, sym, ap, subst, arith, add-zero, drop-cons, nat_lt}
use Rattle.std.specs.Prelude.{not}
use Rattle.std.specs.List.{prefix_len}
use Rattle.std.proofs.lemmas.Bool.Decides.{nat_tests}
use Rattle.std.proofs.lemmas.List.{drop-drop, drop_all, get_or-drop, length-drop}
use Rattle.std.proofs.lemmas.List.Sums.{prefix_len-drop_yes, prefix_len-le-length, prefix_len_stops}
use Rattle.std.proofs.lemmas.Option.{cond_some}
use Rattle.module_text.specs.Tokens.{Token, is_blank, onto_first_token, tokens_from}
use Rattle.module_text.specs.Places.{bytes_in, next_span, span, token_end, token_start}
use Rattle.module_text.specs.declared.tokens.Span.{Span}

abbrev pub is_in_token : ℕ → Bool
is_in_token c = not (is_blank c)

abbrev pub token_of : ℕ → List ℕ → Token
token_of place bytes = record { place = place; bytes = bytes }

-- ---- blanks before a token

blanks_by : (n c : ℕ) (cs : List ℕ) (b : Bool) → is_blank c ≡ b → tokens_from (n + 1) cs ≡ tokens_from (n + 1 + prefix_len is_blank cs) (drop (prefix_len is_blank cs) cs)
    → tokens_from n (c ∷ cs) ≡ tokens_from (n + prefix_len is_blank (c ∷ cs)) (drop (prefix_len is_blank (c ∷ cs)) (c ∷ cs))
blanks_by n c cs true e next =
    let k = prefix_len is_blank cs in
    let one : 1 + k ≡ suc k = omega arith in
    let same : n + 1 + k ≡ n + suc k = omega arith in
    rw (e, one) (next ∙ ap (λ m. tokens_from m (drop k cs)) same)
blanks_by n c cs false e next = rw (e, add-zero n, e) refl

pub tokens_after_blanks : (n : ℕ) (bs : List ℕ) → tokens_from n bs ≡ tokens_from (n + prefix_len is_blank bs) (drop (prefix_len is_blank bs) bs)
tokens_after_blanks n [] = refl
tokens_after_blanks n (c ∷ cs) = blanks_by n c cs (is_blank c) refl (tokens_after_blanks (n + 1) cs)

-- ---- the bytes of a token

-- the token that begins with c, of so many bytes
abbrev cut : ℕ → ℕ → List ℕ → List Token
cut n k bs = token_of n (take k bs) ∷ tokens_from (n + k) (drop k bs)

first_by : (n c d : ℕ) (ds : List ℕ) (b : Bool) → is_blank c ≡ false → is_blank d ≡ b
    → (is_blank d ≡ false → tokens_from (n + 1) (d ∷ ds) ≡ cut (n + 1) (prefix_len is_in_token (d ∷ ds)) (d ∷ ds))
    → tokens_from n (c ∷ d ∷ ds) ≡ cut n (prefix_len is_in_token (c ∷ d ∷ ds)) (c ∷ d ∷ ds)
first_by n c d ds true e f next = rw (e, f, f) refl
first_by n c d ds false e f next =
    let k = prefix_len is_in_token ds in
    let one : 1 + (1 + k) ≡ suc (1 + k) = omega arith in
    let same : n + 1 + (1 + k) ≡ n + suc (1 + k) = omega arith in
    let n' = rw f at (next f) in
    rw (e, f, one) (ap (onto_first_token n c) n' ∙ ap (λ m. token_of n (c ∷ take (1 + k) (d ∷ ds)) ∷ tokens_from m (drop (1 + k) (d ∷ ds))) same)

pub token_first : (n c : ℕ) (cs : List ℕ) → is_blank c ≡ false → tokens_from n (c ∷ cs) ≡ cut n (prefix_len is_in_token (c ∷ cs)) (c ∷ cs)
token_first n c [] e = rw e refl
token_first n c (d ∷ ds) e = first_by n c d ds (is_blank d) e refl (token_first (n + 1) d ds)

pub token_in : (n c : ℕ) (cs bs : List ℕ) → c ∷ cs ≡ bs → is_blank c ≡ false → tokens_from n bs ≡ cut n (prefix_len is_in_token bs) bs
token_in n c cs bs same e = subst (λ (xs : List ℕ). tokens_from n xs ≡ cut n (prefix_len is_in_token xs) xs) same (token_first n c cs e)

-- ---- at a place

from_start : (text : List ℕ) (from : ℕ) → tokens_from from (drop from text) ≡ tokens_from (token_start text from) (drop (token_start text from) text)
from_start text from =
    tokens_after_blanks from (drop from text)
    ∙ ap (λ (bs : List ℕ). tokens_from (token_start text from) bs) (drop-drop (prefix_len is_blank (drop from text)) from text)

none_by : (text : List ℕ) (from : ℕ) (b : Bool) → nat_lt (token_start text from) (length text) ≡ b → next_span text from ≡ None → tokens_from from (drop from text) ≡ []
none_by text from true e f = let g = rw e at f in cc
none_by text from false e f =
    let past : length text ≤ token_start text from = grind (arith, nat_tests) in
    from_start text from ∙ ap (λ (bs : List ℕ). tokens_from (token_start text from) bs) (drop_all (token_start text from) text past)

-- no token is left
pub no_token : (text : List ℕ) (from : ℕ) → next_span text from ≡ None → tokens_from from (drop from text) ≡ []
no_token text from e = none_by text from (nat_lt (token_start text from) (length text)) refl e

at_start : (text : List ℕ) (from : ℕ) → token_start text from < length text → is_blank (get_or text (token_start text from) 0) ≡ false
at_start text from lt =
    let k = prefix_len is_blank (drop from text) in
    let short : k < length (drop from text) = omega (arith, length-drop from text) in
    rw (get_or-drop from text k 0) at (prefix_len_stops is_blank (drop from text) 0 short)

-- a token has a byte, and ends inside the text
pub span_inside : (text : List ℕ) (start : ℕ) → start < length text → is_blank (get_or text start 0) ≡ false → (start < token_end text start) × (token_end text start ≤ length text)
span_inside text start lt e =
    let yes : is_in_token (get_or text start 0) ≡ true = rw e refl in
    let more = prefix_len-drop_yes is_in_token text start 0 lt yes in
    let most = prefix_len-le-length is_in_token (drop start text) in
    (omega (arith, more), omega (arith, most, length-drop start text))

pub start_inside : (text : List ℕ) (from : ℕ) → token_start text from < length text
    → (token_start text from < token_end text (token_start text from)) × (token_end text (token_start text from) ≤ length text)
start_inside text from lt = span_inside text (token_start text from) lt (at_start text from lt)

some_at : (text : List ℕ) (start : ℕ) → start < length text → is_blank (get_or text start 0) ≡ false
    → tokens_from start (drop start text) ≡ token_of start (bytes_in text (span start (token_end text start))) ∷ tokens_from (token_end text start) (drop (token_end text start) text)
some_at text start lt e =
    let k = prefix_len is_in_token (drop start text) in
    let same : start + k - start ≡ k = omega arith in
    rw (same, ← drop-drop k start text) (token_in start (get_or text start 0) (drop (suc start) text) (drop start text) (sym (drop-cons text start 0 lt)) e)

some_by : (text : List ℕ) (from : ℕ) (t : Span) (b : Bool) → nat_lt (token_start text from) (length text) ≡ b → next_span text from ≡ Some t
    → tokens_from from (drop from text) ≡ token_of t.start (bytes_in text t) ∷ tokens_from t.end (drop t.end text)
some_by text from t false e f = let g = rw e at f in cc
some_by text from t true e f =
    let start = token_start text from in
    let lt : start < length text = grind (arith, nat_tests) in
    let is : span start (token_end text start) ≡ t = (cond_some true (span start (token_end text start)) t (rw e at f)).1 in
    let T : Span → Type 0 = λ s. tokens_from from (drop from text) ≡ token_of s.start (bytes_in text s) ∷ tokens_from s.end (drop s.end text) in
    subst T is (from_start text from ∙ some_at text start lt (at_start text from lt))

-- a token, and those after it
pub some_token : (text : List ℕ) (from : ℕ) (t : Span) → next_span text from ≡ Some t → tokens_from from (drop from text) ≡ token_of t.start (bytes_in text t) ∷ tokens_from t.end (drop t.end text)
some_token text from t e = some_by text from t (nat_lt (token_start text from) (length text)) refl e
