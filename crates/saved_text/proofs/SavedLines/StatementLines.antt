-- What a line states, from its bytes and back.
use Rattle.std.proofs.Common.{◌≡◌, ◌∙◌, ℕ, zero, suc, ◌<◌, ◌≤◌, ◌^◌, ◌==◌, ◌&&◌, true, cond, Option, Some, None, List, [], ◌∷◌, ◌++◌, length, slice_index, nat_le, refl, sym, ap, subst, arith}
use Rattle.std.specs.Prelude.{codes, option_map}
use Rattle.std.specs.Int.{w32, from_be_bytes, to_be_bytes}
use Rattle.std.specs.Option.{option_map_or}
use Rattle.std.proofs.lemmas.Bool.{and_parts, eqb-true}
use Rattle.std.proofs.lemmas.Bool.Decides.{nat_tests}
use Rattle.std.proofs.lemmas.Nat.{be_bytes_4, from_be_bytes-to_be_bytes_4}
use Rattle.std.proofs.lemmas.Option.{cond_some}
use Rattle.hex.specs.Hex.{IsBytes, encode_lower}
use Rattle.byte_streams.specs.Pieces.{hex_digits_of}
use Rattle.module_text.specs.TextReader.Fields.{after_word}
use Rattle.module_text.specs.TextReader.Numbers.{number_of}
use Rattle.module_text.proofs.TextReader.FieldLemmas.{after_word-ok}
use Rattle.module_text.proofs.TextReader.NumberLemmas.{number_in-again, number_in-ok}
use Rattle.session_text.specs.Statements.{is_field, number_field}
use Rattle.session_text.proofs.Blanks.{number_field-again, number_field-ok}
use Rattle.saved_text.specs.SavedLines.Heads.{hex_field}
use Rattle.saved_text.specs.SavedLines.HexText.{bytes_of, is_hex}
use Rattle.saved_text.specs.SavedLines.Statements.{Statement, File, Bytes, Stream, Pipe, Key, Word, Go, States, byte_line_of, byte_of, field_before_blank, file_of, go_of, key_of, pipe_of, statement_of, stream_of, word_line_of, word_of}
use Rattle.saved_text.proofs.SavedLines.HexTexts.{bytes_of-bytes, bytes_of-ok, is_hex-encode, length-digits}
use Rattle.saved_text.proofs.SavedLines.LineFields.{Some-same, field_before_blank-again, field_before_blank-ok, hex_field-again, hex_field-ok}
use Rattle.session_text.proofs.StatementLines.{and_then-ok}
use Rattle.session_text.proofs.StatementTexts.{IsBytes-one}

-- ---- from what was stated to the bytes

file-ok : (rest : List ℕ) (x : Statement) → file_of rest ≡ Some x → States x (codes "FILE " ++ rest)
file-ok rest x e =
    let p = cond_some (is_field rest) (File rest) x e in
    subst (λ (y : Statement). States y (codes "FILE " ++ rest)) p.1 (p.0, refl)

bytes-ok : (rest : List ℕ) (x : Statement) → byte_line_of rest ≡ Some x → States x (codes ":" ++ rest)
bytes-ok rest x e =
    let p = cond_some (is_hex rest && nat_le 2 (length rest) && nat_le (length rest) 64) (Bytes (bytes_of rest)) x e in
    let a = and_parts (is_hex rest && nat_le 2 (length rest)) (nat_le (length rest) 64) p.0 in
    let b = and_parts (is_hex rest) (nat_le 2 (length rest)) a.0 in
    let few : nat_le (length rest) 64 ≡ true = a.1 in
    let some : nat_le 2 (length rest) ≡ true = b.1 in
    let len = (bytes_of-bytes rest b.0).0 in
    let most : length rest ≤ 64 = grind (arith, nat_tests) in
    let least : 2 ≤ length rest = grind (arith, nat_tests) in
    subst (λ (y : Statement). States y (codes ":" ++ rest)) p.1
    (omega (arith, len, least), omega (arith, len, most), (bytes_of-bytes rest b.0).1, ap (λ (t : List ℕ). codes ":" ++ t) (bytes_of-ok rest b.0).1)

stream-ok : (rest : List ℕ) (x : Statement) → stream_of rest ≡ Some x → States x (codes "STREAM " ++ rest)
stream-ok rest x e =
    let a = and_then-ok (number_field rest) _ x e in
    let b = and_then-ok (number_field a.0.1) _ x a.2 in
    let c = and_then-ok (number_field b.0.1) (λ pos. cond (is_field pos.1) (Some (Stream a.0.0 b.0.0 pos.0 pos.1)) None) x b.2 in
    let p = cond_some (is_field c.0.1) (Stream a.0.0 b.0.0 c.0.0 c.0.1) x c.2 in
    let i = number_field-ok rest a.0 a.1 in
    let j = number_field-ok a.0.1 b.0 b.1 in
    let k = number_field-ok b.0.1 c.0 c.1 in
    let text : rest ≡ i.0 ++ 32 ∷ (j.0 ++ 32 ∷ (k.0 ++ 32 ∷ c.0.1))
    = i.2 ∙ ap (λ (t : List ℕ). i.0 ++ 32 ∷ t) (j.2 ∙ ap (λ (t : List ℕ). j.0 ++ 32 ∷ t) k.2) in
    subst (λ (y : Statement). States y (codes "STREAM " ++ rest)) p.1 (i.0, j.0, k.0, i.1, j.1, k.1, p.0, ap (λ (t : List ℕ). codes "STREAM " ++ t) text)

pipe-ok : (rest : List ℕ) (x : Statement) → pipe_of rest ≡ Some x → States x (codes "PIPE " ++ rest)
pipe-ok rest x e =
    let a = and_then-ok (number_field rest) _ x e in
    let b = and_then-ok (number_field a.0.1) _ x a.2 in
    let c = and_then-ok (number_field b.0.1) _ x b.2 in
    let d = and_then-ok (number_field c.0.1) _ x c.2 in
    let f = and_then-ok (field_before_blank d.0.1) _ x d.2 in
    let h = and_then-ok (hex_field f.0.1) (λ digits. Some (Pipe a.0.0 b.0.0 c.0.0 d.0.0 f.0.0 (bytes_of digits))) x f.2 in
    let same : Pipe a.0.0 b.0.0 c.0.0 d.0.0 f.0.0 (bytes_of h.0) ≡ x = Some-same _ x h.2 in
    let i = number_field-ok rest a.0 a.1 in
    let j = number_field-ok a.0.1 b.0 b.1 in
    let k = number_field-ok b.0.1 c.0 c.1 in
    let l = number_field-ok c.0.1 d.0 d.1 in
    let m = field_before_blank-ok d.0.1 f.0 f.1 in
    let n = hex_field-ok f.0.1 h.0 h.1 in
    let tail : d.0.1 ≡ f.0.0 ++ 32 ∷ (codes ":" ++ encode_lower (bytes_of h.0)) = m.1 ∙ ap (λ (t : List ℕ). f.0.0 ++ 32 ∷ t) n.2 in
    let text : rest ≡ i.0 ++ 32 ∷ (j.0 ++ 32 ∷ (k.0 ++ 32 ∷ (l.0 ++ 32 ∷ (f.0.0 ++ 32 ∷ (codes ":" ++ encode_lower (bytes_of h.0))))))
    = i.2 ∙ ap (λ (t : List ℕ). i.0 ++ 32 ∷ t) (j.2 ∙ ap (λ (t : List ℕ). j.0 ++ 32 ∷ t) (k.2 ∙ ap (λ (t : List ℕ). k.0 ++ 32 ∷ t) (l.2 ∙ ap (λ (t : List ℕ). l.0 ++ 32 ∷ t) tail))) in
    subst (λ (y : Statement). States y (codes "PIPE " ++ rest)) same (i.0, j.0, k.0, l.0, i.1, j.1, k.1, l.1, m.0, n.1, ap (λ (t : List ℕ). codes "PIPE " ++ t) text)

-- one byte is the bytes of two digits
one_of : (bytes : List ℕ) → length bytes ≡ 1 → bytes ≡ slice_index bytes 0 ∷ []
one_of [] e = absurd (omega (arith, e))
one_of (b ∷ []) e = refl
one_of (b ∷ c ∷ bytes) e = absurd (omega (arith, e))

byte-ok : (digits : List ℕ) (byte : ℕ) → byte_of digits ≡ Some byte → (byte < 256) × (digits ≡ encode_lower (byte ∷ []))
byte-ok digits byte e =
    let p = cond_some (is_hex digits && (length digits == 2)) (slice_index (bytes_of digits) 0) byte e in
    let a = and_parts (is_hex digits) (length digits == 2) p.0 in
    let two = eqb-true (length digits) 2 a.1 in
    let b = bytes_of-bytes digits a.0 in
    let len = b.0 in
    let one : bytes_of digits ≡ byte ∷ [] = one_of (bytes_of digits) (omega (arith, len, two)) ∙ ap (λ (c : ℕ). c ∷ []) p.1 in
    (subst (λ (c : ℕ). c < 256) p.1 (b.1 0), (bytes_of-ok digits a.0).1 ∙ ap encode_lower one)

key-ok : (rest : List ℕ) (x : Statement) → key_of rest ≡ Some x → States x (codes "KEY " ++ rest)
key-ok rest x e =
    let a = and_then-ok (number_field rest) _ x e in
    let b = and_then-ok (byte_of a.0.1) (λ byte. Some (Key a.0.0 byte)) x a.2 in
    let same : Key a.0.0 b.0 ≡ x = Some-same _ x b.2 in
    let i = number_field-ok rest a.0 a.1 in
    let k = byte-ok a.0.1 b.0 b.1 in
    subst (λ (y : Statement). States y (codes "KEY " ++ rest)) same
    (i.0, i.1, k.0, ap (λ (t : List ℕ). codes "KEY " ++ t) (i.2 ∙ ap (λ (t : List ℕ). i.0 ++ 32 ∷ t) k.1))

-- four bytes are those of their word
word_is : (bytes : List ℕ) → length bytes ≡ 4 → IsBytes bytes → (from_be_bytes w32 bytes < 2 ^ 32) × (to_be_bytes w32 (from_be_bytes w32 bytes) ≡ bytes)
word_is bytes len h = (let a = h 0 in let b = h 1 in let c = h 2 in let d = h 3 in omega (arith, a, b, c, d), be_bytes_4 bytes (from_be_bytes w32 bytes) len h refl)

word-ok : (digits : List ℕ) (word : ℕ) → word_of digits ≡ Some word → (word < 2 ^ 32) × (digits ≡ hex_digits_of word)
word-ok digits word e =
    let p = cond_some (is_hex digits && (length digits == 8)) (from_be_bytes w32 (bytes_of digits)) word e in
    let a = and_parts (is_hex digits) (length digits == 8) p.0 in
    let eight = eqb-true (length digits) 8 a.1 in
    let b = bytes_of-bytes digits a.0 in
    let len = b.0 in
    let w = word_is (bytes_of digits) (omega (arith, len, eight)) b.1 in
    (subst (λ (c : ℕ). c < 2 ^ 32) p.1 w.0, (bytes_of-ok digits a.0).1 ∙ ap encode_lower (sym w.1) ∙ ap hex_digits_of p.1)

word_line-ok : (rest : List ℕ) (x : Statement) → word_line_of rest ≡ Some x → States x (codes "W " ++ rest)
word_line-ok rest x e =
    let a = and_then-ok (number_field rest) _ x e in
    let b = and_then-ok (word_of a.0.1) (λ word. Some (Word a.0.0 word)) x a.2 in
    let same : Word a.0.0 b.0 ≡ x = Some-same _ x b.2 in
    let i = number_field-ok rest a.0 a.1 in
    let k = word-ok a.0.1 b.0 b.1 in
    subst (λ (y : Statement). States y (codes "W " ++ rest)) same
    (i.0, i.1, k.0, ap (λ (t : List ℕ). codes "W " ++ t) (i.2 ∙ ap (λ (t : List ℕ). i.0 ++ 32 ∷ t) k.1))

go_by : (rest : List ℕ) (x : Statement) (o : Option ℕ) → number_of rest ≡ o → option_map (λ n. Go n) o ≡ Some x → States x (codes "GO " ++ rest)
go_by rest x None e h = cc h
go_by rest x (Some n) e h =
    let same : Go n ≡ x = cc in
    subst (λ (y : Statement). States y (codes "GO " ++ rest)) same (rest, refl, number_in-ok 10 10 rest n e)

go-ok : (rest : List ℕ) (x : Statement) → go_of rest ≡ Some x → States x (codes "GO " ++ rest)
go-ok rest x e = go_by rest x (number_of rest) refl e

-- what follows a word, or is found otherwise
word_by : (word line : List ℕ) (f : List ℕ → Option Statement) (d : Option Statement) (x : Statement) (o : Option (List ℕ)) → after_word word line ≡ o
    → ((rest : List ℕ) → f rest ≡ Some x → States x (word ++ rest)) → (d ≡ Some x → States x line) → option_map_or f o d ≡ Some x → States x line
word_by word line f d x None w here else_ e = else_ e
word_by word line f d x (Some rest) w here else_ e = subst (States x) (sym (after_word-ok word line rest w)) (here rest e)

module _ (line : List ℕ) (x : Statement) where
  or_word : (word : List ℕ) (f : List ℕ → Option Statement) (d : Option Statement)
      → ((rest : List ℕ) → f rest ≡ Some x → States x (word ++ rest)) → (d ≡ Some x → States x line) → option_map_or f (after_word word line) d ≡ Some x → States x line
  or_word word f d here else_ e = word_by word line f d x (after_word word line) refl here else_ e

-- what a line gave, it states
pub statement_of-ok : (line : List ℕ) (x : Statement) → statement_of line ≡ Some x → States x line
unfolding statement_of
statement_of-ok line x e =
    or_word line x (codes "FILE ") file_of _ (λ rest h. file-ok rest x h)
    (or_word line x (codes ":") byte_line_of _ (λ rest h. bytes-ok rest x h)
    (or_word line x (codes "STREAM ") stream_of _ (λ rest h. stream-ok rest x h)
    (or_word line x (codes "PIPE ") pipe_of _ (λ rest h. pipe-ok rest x h)
    (or_word line x (codes "KEY ") key_of _ (λ rest h. key-ok rest x h)
    (or_word line x (codes "W ") word_line_of _ (λ rest h. word_line-ok rest x h)
    (or_word line x (codes "GO ") go_of None (λ rest h. go-ok rest x h) (λ h. cc h))))))) e

-- ---- and back

bytes_again : (bytes : List ℕ) → 1 ≤ length bytes → length bytes ≤ 32 → IsBytes bytes → byte_line_of (encode_lower bytes) ≡ Some (Bytes bytes)
bytes_again bytes some few h =
    let p = is_hex-encode bytes h in
    let len = length-digits bytes in
    let a : nat_le 2 (length (encode_lower bytes)) ≡ true = grind (arith, nat_tests) in
    let b : nat_le (length (encode_lower bytes)) 64 ≡ true = grind (arith, nat_tests) in
    rw (p.0, a, b, p.1) refl

byte_by : (digits bytes : List ℕ) → is_hex digits ≡ true → length digits ≡ 2 → bytes_of digits ≡ bytes → byte_of digits ≡ Some (slice_index bytes 0)
byte_by digits bytes h two e =
    let test : (length digits == 2) ≡ true = grind (arith, nat_tests) in
    rw (h, test) (ap (λ (b : List ℕ). Some (slice_index b 0)) e)

byte_again : (byte : ℕ) → byte < 256 → byte_of (encode_lower (byte ∷ [])) ≡ Some byte
byte_again byte h =
    let p = is_hex-encode (byte ∷ []) (IsBytes-one byte h) in
    byte_by (encode_lower (byte ∷ [])) (byte ∷ []) p.0 (length-digits (byte ∷ [])) p.1

pub word_bytes : (w : ℕ) → IsBytes (to_be_bytes w32 w)
word_bytes w zero = omega arith
word_bytes w (suc zero) = omega arith
word_bytes w (suc (suc zero)) = omega arith
word_bytes w (suc (suc (suc zero))) = omega arith
word_bytes w (suc (suc (suc (suc i)))) = omega arith

eight_by : (digits bytes : List ℕ) → is_hex digits ≡ true → length digits ≡ 8 → bytes_of digits ≡ bytes → word_of digits ≡ Some (from_be_bytes w32 bytes)
eight_by digits bytes h eight e =
    let test : (length digits == 8) ≡ true = grind (arith, nat_tests) in
    rw (h, test) (ap (λ (b : List ℕ). Some (from_be_bytes w32 b)) e)

word_again : (w : ℕ) → w < 2 ^ 32 → word_of (hex_digits_of w) ≡ Some w
word_again w h =
    let p = is_hex-encode (to_be_bytes w32 w) (word_bytes w) in
    eight_by (hex_digits_of w) (to_be_bytes w32 w) p.0 (length-digits (to_be_bytes w32 w)) p.1 ∙ ap Some (from_be_bytes-to_be_bytes_4 w h)

-- what a line states it gives
pub statement_of-again : (line : List ℕ) (x : Statement) → States x line → statement_of line ≡ Some x
unfolding statement_of
statement_of-again line (File name) h = ap statement_of h.1 ∙ rw h.0 refl
statement_of-again line (Bytes bytes) h = ap statement_of h.3 ∙ rw (bytes_again bytes h.0 h.1 h.2) refl
statement_of-again line (Stream k m pos name) h =
    ap statement_of h.7
    ∙ rw (number_field-again h.0 (h.1 ++ 32 ∷ (h.2 ++ 32 ∷ name)) k h.3, number_field-again h.1 (h.2 ++ 32 ∷ name) m h.4, number_field-again h.2 name pos h.5, h.6) refl
statement_of-again line (Pipe k r w e name bytes) h =
    let tail = 32 ∷ (name ++ 32 ∷ (codes ":" ++ encode_lower bytes)) in
    ap statement_of h.10
    ∙ rw (
      number_field-again h.0 (h.1 ++ 32 ∷ (h.2 ++ 32 ∷ (h.3 ++ tail))) k h.4,
      number_field-again h.1 (h.2 ++ 32 ∷ (h.3 ++ tail)) r h.5,
      number_field-again h.2 (h.3 ++ tail) w h.6,
      number_field-again h.3 (name ++ 32 ∷ (codes ":" ++ encode_lower bytes)) e h.7,
      field_before_blank-again name (codes ":" ++ encode_lower bytes) h.8,
      hex_field-again bytes h.9,
      (is_hex-encode bytes h.9).1,
    ) refl
statement_of-again line (Key step byte) h =
    ap statement_of h.3 ∙ rw (number_field-again h.0 (encode_lower (byte ∷ [])) step h.1, byte_again byte h.2) refl
statement_of-again line (Word address word) h =
    ap statement_of h.3 ∙ rw (number_field-again h.0 (hex_digits_of word) address h.1, word_again word h.2) refl
statement_of-again line (Go steps) h =
    ap statement_of h.1 ∙ rw (number_in-again 10 10 h.0 steps h.2) refl
