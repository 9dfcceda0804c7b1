-- The lines of a front, and the place after them.
use Rattle.std.proofs.Common.{◌≡◌, ◌∙◌, ℕ, zero, suc, ◌+◌, ◌-◌, ◌<◌, ◌≤◌, ◌==◌, ◌&&◌, Bool, true, false, cond, List, [], ◌∷◌, length, get_or, take, drop, refl, sym, ap, subst, arith, add-one, drop-cons, nat_eq, Result}
use Rattle.std.specs.Prelude.{codes}
use Rattle.std.specs.List.{onto_first, starts_with}
use Rattle.std.proofs.lemmas.Bool.Decides.{nat_tests}
use Rattle.std.proofs.lemmas.List.{drop_all}
use Rattle.module_text.specs.TextReader.Lines.{lines_of}
use Rattle.module_text.specs.TextReader.Answers.{EndsAs}
use Rattle.module_text.specs.TextReader.Refusal.{Refusal}
use Rattle.module_text.specs.declared.text_reader.ends.TextEnd.{TextEnd}
use Rattle.session_text.specs.SessionOfText.{session_lines, session_of}
use Rattle.session_text.specs.declared.sessions.Session.{Session}
use Rattle.session_text.specs.Front.{front_count, front_lines, place_after}

-- ---- how many lines

length-front_by : (b : Bool) (line : List ℕ) (lines : List (List ℕ)) → length (take (front_count lines) lines) ≡ front_count lines
    → length (take (cond b 1 (front_count lines + 1)) (line ∷ lines)) ≡ cond b 1 (front_count lines + 1)
length-front_by true line lines h = refl
length-front_by false line lines h = rw add-one (ap (λ (k : ℕ). suc k) h)

-- a front has as many lines as are counted
length-front : (lines : List (List ℕ)) → length (take (front_count lines) lines) ≡ front_count lines
length-front [] = refl
length-front (line ∷ lines) = length-front_by (starts_with nat_eq line (codes "GO ")) line lines (length-front lines)

pub length-front_lines : (text : List ℕ) → length (front_lines text) ≡ front_count (lines_of text)
length-front_lines text = length-front (lines_of text)

-- ---- the place

place_after-nothing : (left : ℕ) → place_after left [] ≡ 0
place_after-nothing zero = refl
place_after-nothing (suc left) = refl

place_by : (b : Bool) (i k : ℕ) (next : ℕ) (rest : List ℕ) → next ≡ cond b (suc k - 1) (suc k) → i + 1 + place_after next rest ≡ i + (cond b (place_after k rest) (place_after (suc k) rest) + 1)
place_by true i k next rest e = let same : next ≡ k = omega arith in rw same (omega arith)
place_by false i k next rest e = rw e (omega arith)

-- one byte on
pub place_after-more : (left i next : ℕ) (text : List ℕ) → i < length text → 0 < left → next ≡ cond (get_or text i 0 == 10) (left - 1) left
    → i + 1 + place_after next (drop (i + 1) text) ≡ i + place_after left (drop i text)
place_after-more zero i next text lt some e = absurd (omega arith)
place_after-more (suc k) i next text lt some e =
    let more = place_by (get_or text i 0 == 10) i k next (drop (suc i) text) e in
    ap (λ (m : ℕ). i + 1 + place_after next (drop m text)) (add-one i) ∙ more ∙ ap (λ (t : List ℕ). i + place_after (suc k) t) (sym (drop-cons text i 0 lt))

-- at the end
pub place_after-end : (left i : ℕ) (text : List ℕ) → length text ≤ i → i + place_after left (drop i text) ≡ i
place_after-end left i text past = rw (drop_all i text past, place_after-nothing left) (omega arith)

-- ---- the lines before it

onto_first-take : (c n : ℕ) (lines : List (List ℕ)) → onto_first c (take (suc n) lines) ≡ take (suc n) (onto_first c lines)
onto_first-take c zero [] = refl
onto_first-take c (suc n) [] = refl
onto_first-take c n (line ∷ lines) = refl

starts_lf : (n : ℕ) (text : List ℕ) → starts_with nat_eq (take (place_after (suc n) text) text) (10 ∷ []) ≡ starts_with nat_eq text (10 ∷ [])
starts_lf n [] = refl
starts_lf n (c ∷ cs) = rw add-one refl

other_by : (b : Bool) (c n : ℕ) (lines : List (List ℕ)) → cond b (take (suc n) lines) (onto_first c (take (suc n) lines)) ≡ take (suc n) (cond b lines (onto_first c lines))
other_by true c n lines = refl
other_by false c n lines = onto_first-take c n lines

-- a byte that is no LF
take_by : (n c : ℕ) (cs : List ℕ) → lines_of (take (place_after (suc n) cs) cs) ≡ take (suc n) (lines_of cs)
    → cond ((c == 13) && starts_with nat_eq (take (place_after (suc n) cs) cs) (10 ∷ [])) (lines_of (take (place_after (suc n) cs) cs)) (onto_first c (lines_of (take (place_after (suc n) cs) cs)))
    ≡ take (suc n) (cond ((c == 13) && starts_with nat_eq cs (10 ∷ [])) (lines_of cs) (onto_first c (lines_of cs)))
take_by n c cs h = rw (starts_lf n cs, h) (other_by ((c == 13) && starts_with nat_eq cs (10 ∷ [])) c n (lines_of cs))

-- a byte, by what it is
lines_by : (b : Bool) (n c : ℕ) (cs : List ℕ) → (c == 10) ≡ b → lines_of (take (place_after n cs) cs) ≡ take n (lines_of cs) → lines_of (take (place_after (suc n) cs) cs) ≡ take (suc n) (lines_of cs)
    → lines_of (c ∷ take (cond b (place_after n cs) (place_after (suc n) cs)) cs) ≡ take (suc n) (lines_of (c ∷ cs))
lines_by true n c cs e h k = rw e (ap (λ (ls : List (List ℕ)). [] ∷ ls) h)
lines_by false n c cs e h k = rw e (take_by n c cs k)

-- the lines of the text before the place are the first so many
pub lines_of-take : (n : ℕ) (text : List ℕ) → lines_of (take (place_after n text) text) ≡ take n (lines_of text)
lines_of-take zero [] = refl
lines_of-take (suc n) [] = refl
lines_of-take zero (c ∷ cs) = refl
lines_of-take (suc n) (c ∷ cs) =
    ap (λ (m : ℕ). lines_of (take m (c ∷ cs))) (add-one (cond (c == 10) (place_after n cs) (place_after (suc n) cs)))
    ∙ lines_by (c == 10) n c cs refl (lines_of-take n cs) (lines_of-take (suc n) cs)

pub place_after-within : (n : ℕ) (text : List ℕ) → place_after n text ≤ length text
place_after-within zero [] = omega arith
place_after-within (suc n) [] = omega arith
place_after-within zero (c ∷ cs) = omega arith
place_after-within (suc n) (c ∷ cs) = let a = place_after-within n cs in let b = place_after-within (suc n) cs in grind (arith, nat_tests)

-- a session of the text before the place is one of those lines
pub session_of-front : (text : List ℕ) (n m : ℕ) → n ≡ front_count (lines_of text) → m ≡ place_after n text → session_of (take m text) ≡ session_lines (front_lines text)
session_of-front text n m e f = ap session_lines (ap (λ (k : ℕ). lines_of (take k text)) (f ∙ ap (λ (k : ℕ). place_after k text) e) ∙ lines_of-take (front_count (lines_of text)) text)

-- and so is its refusal
pub refusal-front : (x d : TextEnd) (read lines : Result Session Refusal) → x ≡ d → read ≡ lines → EndsAs d read → EndsAs x lines
refusal-front x d read lines e f h = subst (λ (r : Result Session Refusal). EndsAs x r) f (subst (λ (y : TextEnd). EndsAs y read) (sym e) h)
