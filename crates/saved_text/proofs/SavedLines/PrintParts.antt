-- Lines that are printed part by part.
use Rattle.std.proofs.Common.{◌≡◌, ◌∙◌, ℕ, zero, suc, ◌<◌, ◌≤◌, ◌+◌, ◌-◌, Some, List, [], ◌∷◌, ◌++◌, length, get_or, take, drop, refl, sym, ap, arith, append_assoc, drop-cons}
use Rattle.std.specs.Prelude.{codes, decimal, slice_get, slice_range}
use Rattle.std.proofs.Math.Seq.{take-add}
use Rattle.std.proofs.lemmas.List.{take_all}
use Rattle.hex.specs.Hex.{encode_lower, encode_with}
use Rattle.saved_text.specs.SavedLines.Canonical.{printed_console, printed_shell, statement_text}
use Rattle.saved_text.specs.SavedLines.Statements.{Pipe}
use Rattle.word_store.proofs.Rows.{range_none}
use Rattle.session_text.proofs.PrintedTexts.{encode_lower-append}

-- ---- ranges

-- all of a text
pub whole_range : (text : List ℕ) → slice_range text 0 (length text) ≡ text
whole_range text = take_all (length text - 0) text (omega arith)

drop_none : (k : ℕ) → drop {A = ℕ} k [] ≡ []
drop_none zero = refl
drop_none (suc k) = refl

drop_sum : (a b : ℕ) (xs : List ℕ) → drop a (drop b xs) ≡ drop (b + a) xs
drop_sum a zero xs = let same : a ≡ 0 + a = omega arith in ap (λ (k : ℕ). drop k xs) same
drop_sum a (suc b) [] = drop_none a ∙ sym (drop_none (suc b + a))
drop_sum a (suc b) (x ∷ xs) = let same : suc (b + a) ≡ suc b + a = omega arith in drop_sum a b xs ∙ ap (λ (k : ℕ). drop k (x ∷ xs)) same

-- a range, cut before a byte of it
range_at : (text : List ℕ) (from i to : ℕ) → from ≤ i → i < to → to ≤ length text → slice_range text from to ≡ slice_range text from i ++ get_or text i 0 ∷ slice_range text (i + 1) to
range_at text from i to low high inside =
    let parts : to - from ≡ (i - from) + (to - i) = omega arith in
    let place : from + (i - from) ≡ i = omega arith in
    let first : to - i ≡ suc (to - (i + 1)) = omega arith in
    let next : suc i ≡ i + 1 = omega arith in
    let lt : i < length text = omega arith in
    ap (λ (k : ℕ). take k (drop from text)) parts ∙ take-add (i - from) (to - i) (drop from text)
    ∙ ap (λ (ys : List ℕ). slice_range text from i ++ take (to - i) ys) (drop_sum (i - from) from text ∙ ap (λ (k : ℕ). drop k text) place ∙ drop-cons text i 0 lt)
    ∙ ap (λ (k : ℕ). slice_range text from i ++ take k (get_or text i 0 ∷ drop (suc i) text)) first
    ∙ ap (λ (k : ℕ). slice_range text from i ++ get_or text i 0 ∷ take (to - (i + 1)) (drop k text)) next

-- the byte at a place inside
pub byte_inside : (text : List ℕ) (i : ℕ) → i < length text → slice_get text i ≡ Some (get_or text i 0)
byte_inside [] i lt = absurd (omega arith)
byte_inside (c ∷ text) zero lt = refl
byte_inside (c ∷ text) (suc i) lt = byte_inside text i (omega arith)

-- ---- hex

-- no bytes
pub no_hex : (text : List ℕ) (from : ℕ) → encode_lower (slice_range text from from) ≡ []
unfolding encode_with
no_hex text from = ap encode_lower (range_none text from)

-- the hex of a range, cut round a byte of it
pub hex_at : (text : List ℕ) (from i to : ℕ) → from ≤ i → i < to → to ≤ length text
    → encode_lower (slice_range text from to) ≡ encode_lower (slice_range text from i) ++ (encode_lower (get_or text i 0 ∷ []) ++ encode_lower (slice_range text (i + 1) to))
hex_at text from i to low high inside =
    ap encode_lower (range_at text from i to low high inside) ∙ encode_lower-append (slice_range text from i) (get_or text i 0 ∷ slice_range text (i + 1) to)
    ∙ ap (λ t. encode_lower (slice_range text from i) ++ t) (encode_lower-append (get_or text i 0 ∷ []) (slice_range text (i + 1) to))

-- one byte more
pub hex_more : (text : List ℕ) (from i : ℕ) → from ≤ i → i < length text → encode_lower (slice_range text from (i + 1)) ≡ encode_lower (slice_range text from i) ++ encode_lower (get_or text i 0 ∷ [])
hex_more text from i low inside =
    ap encode_lower (range_at text from i (i + 1) low (omega arith) (omega arith) ∙ ap (λ (t : List ℕ). slice_range text from i ++ get_or text i 0 ∷ t) (range_none text (i + 1)))
    ∙ encode_lower-append (slice_range text from i) (get_or text i 0 ∷ [])

-- ---- lines with bytes

-- the hex of all bytes, behind a colon
abbrev pub hex_line : List ℕ → List ℕ
hex_line text = codes ":" ++ (encode_lower (slice_range text 0 (length text)) ++ 10 ∷ [])

pub hex_line_is : (text : List ℕ) → hex_line text ≡ codes ":" ++ (encode_lower text ++ 10 ∷ [])
hex_line_is text = ap (λ (t : List ℕ). codes ":" ++ (encode_lower t ++ 10 ∷ [])) (whole_range text)

pub console_parts : (d : ℕ) (text : List ℕ) → (codes "CONSOLE " ++ (decimal d ++ codes " ")) ++ hex_line text ≡ printed_console d text ++ 10 ∷ []
console_parts d text = ap (λ (t : List ℕ). (codes "CONSOLE " ++ (decimal d ++ codes " ")) ++ t) (hex_line_is text) ∙ simp append_assoc

pub shell_parts : (m x : ℕ) (text : List ℕ) → (codes "SHELL " ++ (decimal m ++ (codes " " ++ (decimal x ++ codes " ")))) ++ hex_line text ≡ printed_shell m x text ++ 10 ∷ []
shell_parts m x text = ap (λ (t : List ℕ). (codes "SHELL " ++ (decimal m ++ (codes " " ++ (decimal x ++ codes " ")))) ++ t) (hex_line_is text) ∙ simp append_assoc

-- the front of a pipe's line
abbrev pub pipe_front : ℕ → ℕ → ℕ → ℕ → List ℕ → List ℕ
pipe_front k r w e name =
    codes "PIPE " ++ (decimal k ++ (codes " " ++ (decimal r ++ (codes " " ++ (decimal w ++ (codes " " ++ (decimal e ++ (codes " " ++ (name ++ codes " ")))))))))

pub pipe_parts : (k r w e : ℕ) (name text : List ℕ) → pipe_front k r w e name ++ hex_line text ≡ statement_text (Pipe k r w e name text) ++ 10 ∷ []
pipe_parts k r w e name text = ap (λ (t : List ℕ). pipe_front k r w e name ++ t) (hex_line_is text) ∙ simp append_assoc
