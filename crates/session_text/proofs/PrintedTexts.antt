-- Texts that are printed one after another.
use Rattle.std.proofs.Common.{◌≡◌, ◌∙◌, ℕ, suc, ◌<◌, ◌+◌, Bool, true, false, cond, List, [], ◌∷◌, ◌++◌, length, get_or, take, drop, map, refl, sym, ap, append_assoc, append-nil, drop-cons, add-one}
use Rattle.std.specs.Prelude.{codes, decimal}
use Rattle.std.proofs.Math.Seq.{split_at, take-suc}
use Rattle.std.proofs.lemmas.Grind.{flat_map-append}
use Rattle.std.proofs.lemmas.List.{map-append, take-append-drop}
use Rattle.hex.specs.Hex.{encode_lower, encode_with}
use Rattle.module_text.specs.TextReader.Lines.{lines_of, text_of_lines}
use Rattle.session_text.specs.Canonical.{canonical, form_text, head_text, keys_text, lines_text, machine_text, statement_text}
use Rattle.session_text.specs.Entries.{colon_line}
use Rattle.session_text.specs.Statements.{Go, Key, Task, names_text}
use Rattle.session_text.specs.declared.sessions.Session.{Session}
use Rattle.session_text.specs.declared.sessions.SessionLine.{SessionLine}

-- the text of lines, one after another
pub text_of_lines-append : (a b : List (List ℕ)) → text_of_lines (a ++ b) ≡ text_of_lines a ++ text_of_lines b
text_of_lines-append a b = flat_map-append (λ line. line ++ 10 ∷ []) a b

-- ---- hex

-- the hex digits of bytes, one after another
pub encode_lower-append : (a b : List ℕ) → encode_lower (a ++ b) ≡ encode_lower a ++ encode_lower b
unfolding encode_with
encode_lower-append [] b = refl
encode_lower-append (x ∷ a) b = ap (λ t. encode_lower (x ∷ []) ++ t) (encode_lower-append a b)

-- hex digits, cut round a byte
pub hex_at : (bytes : List ℕ) (i : ℕ) → i < length bytes → encode_lower bytes ≡ encode_lower (take i bytes) ++ (encode_lower (get_or bytes i 0 ∷ []) ++ encode_lower (drop (suc i) bytes))
hex_at bytes i lt =
    ap encode_lower (sym (take-append-drop i bytes)) ∙ encode_lower-append (take i bytes) (drop i bytes)
    ∙ ap (λ t. encode_lower (take i bytes) ++ t) (ap encode_lower (drop-cons bytes i 0 lt) ∙ encode_lower-append (get_or bytes i 0 ∷ []) (drop (suc i) bytes))

-- one more byte
pub hex_more : (bytes : List ℕ) (i : ℕ) → i < length bytes → encode_lower (take (i + 1) bytes) ≡ encode_lower (take i bytes) ++ encode_lower (get_or bytes i 0 ∷ [])
hex_more bytes i lt = ap encode_lower (rw add-one (take-suc bytes i 0 lt)) ∙ encode_lower-append (take i bytes) (get_or bytes i 0 ∷ [])

-- ---- lists of lines, names and keys, cut round one

-- the lines of code, files and tasks
pub lines_at : (lines : List SessionLine) (i : ℕ) (line : SessionLine) → i < length lines → line ≡ get_or lines i line
    → text_of_lines (lines_text lines) ≡ text_of_lines (lines_text (take i lines)) ++ (text_of_lines (form_text line.form) ++ text_of_lines (lines_text (drop (suc i) lines)))
lines_at lines i line lt e =
    let cut : lines ≡ take i lines ++ line ∷ drop (suc i) lines = split_at lines i line lt ∙ ap (λ (x : SessionLine). take i lines ++ x ∷ drop (suc i) lines) (sym e) in
    let f = λ (x : SessionLine). form_text x.form in
    ap (λ (ls : List SessionLine). text_of_lines (lines_text ls)) cut
    ∙ ap text_of_lines (flat_map-append f (take i lines) (line ∷ drop (suc i) lines))
    ∙ text_of_lines-append (lines_text (take i lines)) (form_text line.form ++ lines_text (drop (suc i) lines))
    ∙ ap (λ (t : List ℕ). text_of_lines (lines_text (take i lines)) ++ t) (text_of_lines-append (form_text line.form) (lines_text (drop (suc i) lines)))

pub names_at : (names : List (List ℕ)) (i : ℕ) (name : List ℕ) → i < length names → name ≡ get_or names i name
    → names_text names ≡ names_text (take i names) ++ ((32 ∷ (name ++ [])) ++ names_text (drop (suc i) names))
names_at names i name lt e =
    let cut : names ≡ take i names ++ name ∷ drop (suc i) names = split_at names i name lt ∙ ap (λ (x : List ℕ). take i names ++ x ∷ drop (suc i) names) (sym e) in
    ap names_text cut ∙ flat_map-append (λ (n : List ℕ). 32 ∷ n) (take i names) (name ∷ drop (suc i) names)
    ∙ ap (λ (n : List ℕ). names_text (take i names) ++ ((32 ∷ n) ++ names_text (drop (suc i) names))) (sym (append-nil name))

pub keys_at : (keys : List (ℕ × ℕ)) (i : ℕ) (d : ℕ × ℕ) → i < length keys
    → text_of_lines (keys_text keys)
    ≡ text_of_lines (keys_text (take i keys)) ++ (text_of_lines (statement_text (Key (get_or keys i d).0 (get_or keys i d).1) ∷ []) ++ text_of_lines (keys_text (drop (suc i) keys)))
keys_at keys i d lt =
    let key = get_or keys i d in
    let cut : keys ≡ take i keys ++ key ∷ drop (suc i) keys = split_at keys i d lt in
    let f = λ (k : ℕ × ℕ). statement_text (Key k.0 k.1) in
    ap (λ (ks : List (ℕ × ℕ)). text_of_lines (keys_text ks)) cut
    ∙ ap text_of_lines (map-append f (take i keys) (key ∷ drop (suc i) keys))
    ∙ text_of_lines-append (keys_text (take i keys)) (f key ∷ keys_text (drop (suc i) keys))
    ∙ ap (λ (t : List ℕ). text_of_lines (keys_text (take i keys)) ++ t) (text_of_lines-append (f key ∷ []) (keys_text (drop (suc i) keys)))

-- ---- the text of a file

-- what is printed of the rest of a text
abbrev pub colon_text : List ℕ → List ℕ
colon_text text = text_of_lines (map colon_line (lines_of text))

-- the next of its lines
pub colon_text-more : (text front rest line others : List ℕ) → lines_of rest ≡ line ∷ lines_of others → colon_text text ≡ front ++ colon_text rest
    → colon_text text ≡ front ++ ((58 ∷ (line ++ 10 ∷ [])) ++ colon_text others)
colon_text-more text front rest line others l e = e ∙ ap (λ (ls : List (List ℕ)). front ++ text_of_lines (map colon_line ls)) l

-- ---- lines, in the pieces that they are printed in

pub head_pieces : (version store : ℕ) → text_of_lines (head_text version store) ≡ codes "TRIPOS " ++ (decimal version ++ (codes "\nSTORE " ++ (decimal store ++ codes "\n")))
head_pieces version store =
    ap (λ t. codes "TRIPOS " ++ t) (append_assoc (decimal version) (10 ∷ []) (codes "STORE " ++ ((decimal store ++ 10 ∷ []) ++ [])))
    ∙ ap (λ t. codes "TRIPOS " ++ (decimal version ++ (codes "\nSTORE " ++ t))) (append_assoc (decimal store) (10 ∷ []) [])

pub clock_pieces : (period : ℕ) (resident debug : Bool) → text_of_lines (machine_text false period resident debug)
    ≡ (codes "TICK " ++ (decimal period ++ codes "\n")) ++ (cond resident (codes "RESIDENT\n") [] ++ cond debug (codes "DEBUG\n") [])
clock_pieces period true true = refl
clock_pieces period true false = refl
clock_pieces period false true = refl
clock_pieces period false false = refl

pub task_pieces : (id pri stack : ℕ) (names : List (List ℕ)) → text_of_lines (statement_text (Task id pri stack names) ∷ [])
    ≡ (codes "TASK " ++ (decimal id ++ (codes " " ++ (decimal pri ++ (codes " " ++ (decimal stack ++ [])))))) ++ (names_text names ++ codes "\n")
task_pieces id pri stack names = simp (append_assoc, append-nil)

pub key_pieces : (step byte : ℕ) → text_of_lines (statement_text (Key step byte) ∷ []) ≡ codes "KEY " ++ (decimal step ++ (codes " " ++ (encode_lower (byte ∷ []) ++ codes "\n")))
key_pieces step byte = simp append_assoc

-- the canonical text, part by part
pub canonical_parts : (s : Session) → canonical s
    ≡ text_of_lines (head_text s.version s.store) ++ (text_of_lines (machine_text s.bare s.period s.resident s.debug)
    ++ (text_of_lines (lines_text s.lines) ++ (text_of_lines (keys_text s.keys) ++ text_of_lines (statement_text (Go s.go) ∷ []))))
unfolding canonical
canonical_parts s =
    let head = head_text s.version s.store in
    let machine = machine_text s.bare s.period s.resident s.debug in
    let go = statement_text (Go s.go) ∷ [] in
    text_of_lines-append head (machine ++ (lines_text s.lines ++ (keys_text s.keys ++ go)))
    ∙ ap (λ (t : List ℕ). text_of_lines head ++ t) (text_of_lines-append machine (lines_text s.lines ++ (keys_text s.keys ++ go))
    ∙ ap (λ (t : List ℕ). text_of_lines machine ++ t) (text_of_lines-append (lines_text s.lines) (keys_text s.keys ++ go)
    ∙ ap (λ (t : List ℕ). text_of_lines (lines_text s.lines) ++ t) (text_of_lines-append (keys_text s.keys) go)))

pub canonical_third : (s : Session) → canonical s
    ≡ (text_of_lines (head_text s.version s.store) ++ text_of_lines (machine_text s.bare s.period s.resident s.debug))
    ++ (text_of_lines (lines_text s.lines) ++ (text_of_lines (keys_text s.keys) ++ text_of_lines (statement_text (Go s.go) ∷ [])))
canonical_third s = canonical_parts s ∙ sym (append_assoc (text_of_lines (head_text s.version s.store)) (text_of_lines (machine_text s.bare s.period s.resident s.debug)) _)

pub canonical_fourth : (s : Session) → canonical s
    ≡ ((text_of_lines (head_text s.version s.store) ++ text_of_lines (machine_text s.bare s.period s.resident s.debug)) ++ text_of_lines (lines_text s.lines))
    ++ (text_of_lines (keys_text s.keys) ++ text_of_lines (statement_text (Go s.go) ∷ []))
canonical_fourth s = canonical_third s ∙ sym (append_assoc (text_of_lines (head_text s.version s.store) ++ text_of_lines (machine_text s.bare s.period s.resident s.debug)) (text_of_lines (lines_text s.lines)) _)
