-- The text of a session, in front of its keys and its last line.
use Rattle.std.proofs.Common.{◌≡◌, ◌∙◌, ℕ, ◌-◌, List, [], ◌∷◌, ◌++◌, length, take, append_assoc, append-nil, length-append, sym, ap, arith}
use Rattle.std.specs.Prelude.{codes, decimal}
use Rattle.std.specs.List.{flat_map}
use Rattle.std.proofs.Math.Seq.{take-append_seam}
use Rattle.module_text.specs.TextReader.Lines.{text_of_lines}
use Rattle.session_text.specs.Canonical.{canonical, canonical_lines, head_text, keys_text, lines_text, machine_text}
use Rattle.session_text.specs.declared.sessions.Session.{Session}
use Rattle.session_text.proofs.PrintedTexts.{text_of_lines-append}
use Rattle.session_making.specs.Sessions.{front_text, go_text, session_text, typed_line}
use Rattle.session_making.specs.declared.makings.Typed.{Typed}

-- the line `GO`
go_line : (steps : ℕ) → text_of_lines ((codes "GO " ++ decimal steps) ∷ []) ≡ go_text steps
unfolding go_text
go_line steps = append-nil ((codes "GO " ++ decimal steps) ++ 10 ∷ []) ∙ append_assoc (codes "GO ") (decimal steps) (10 ∷ [])

-- the lines of a session without keys
lines_without_keys : (a b c d : List (List ℕ)) → a ++ (b ++ (c ++ ([] ++ d))) ≡ (a ++ (b ++ c)) ++ d
lines_without_keys a b c d = sym (append_assoc a (b ++ c) d ∙ ap (λ (ls : List (List ℕ)). a ++ ls) (append_assoc b c d))

-- the printed text of a session without keys
pub printed_front : (s : Session) → s.keys ≡ [] → canonical s ≡ front_text s ++ go_text s.go
unfolding canonical front_text
printed_front s none =
    let head = head_text s.version s.store in
    let machine = machine_text s.bare s.period s.resident s.debug in
    let lines = lines_text s.lines in
    let go = (codes "GO " ++ decimal s.go) ∷ [] in
    let keys : canonical_lines s ≡ head ++ (machine ++ (lines ++ ([] ++ go))) =
    ap (λ (keys : List (ℕ × ℕ)). head ++ (machine ++ (lines ++ (keys_text keys ++ go)))) none in
    ap text_of_lines (keys ∙ lines_without_keys head machine lines go)
    ∙ text_of_lines-append (head ++ (machine ++ lines)) go
    ∙ ap (λ (t : List ℕ). front_text s ++ t) (go_line s.go)

-- a text without its end
pub without_end : (xs ys : List ℕ) → take (length (xs ++ ys) - length ys) (xs ++ ys) ≡ xs
without_end xs ys =
    let same : length (xs ++ ys) - length ys ≡ length xs = omega (arith, length-append xs ys) in
    rw same (take-append_seam xs ys)

-- the text of a session, made of its printed text
pub whole_text : (s : Session) (typed : List Typed) → s.keys ≡ []
    → (take (length (canonical s) - length (go_text s.go)) (canonical s) ++ flat_map typed_line typed) ++ go_text s.go ≡ session_text s typed
unfolding session_text
whole_text s typed none =
    rw (printed_front s none)
    (ap (λ (t : List ℕ). (t ++ flat_map typed_line typed) ++ go_text s.go) (without_end (front_text s) (go_text s.go))
    ∙ append_assoc (front_text s) (flat_map typed_line typed) (go_text s.go))
