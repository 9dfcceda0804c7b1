-- How many lines a text has, and those behind a place.
use Rattle.std.proofs.Common.{◌≡◌, ◌∙◌, ℕ, zero, suc, ◌+◌, ◌≤◌, ◌==◌, ◌&&◌, Bool, true, false, cond, List, [], ◌∷◌, length, drop, nat_eq, refl, sym, ap, arith, add-one}
use Rattle.std.specs.Prelude.{codes}
use Rattle.std.specs.List.{onto_first, starts_with}
use Rattle.module_text.specs.TextReader.Lines.{lines_of}
use Rattle.session_text.specs.Front.{front_count, place_after}

-- ---- a byte in front of a text

-- what holds of the lines with a byte in front holds in three cases: of a LF, of a CR before one, and of any other byte
lines_cons : (P : List (List ℕ) → Type 0) (lf cr : Bool) (c : ℕ) (lines : List (List ℕ)) → P ([] ∷ lines) → P lines → P (onto_first c lines)
    → P (cond lf ([] ∷ lines) (cond cr lines (onto_first c lines)))
lines_cons P true cr c lines one two three = one
lines_cons P false true c lines one two three = two
lines_cons P false false c lines one two three = three

-- ---- how many lines there are

length-onto_first : (c n : ℕ) (lines : List (List ℕ)) → length lines ≤ n → length (onto_first c lines) ≤ n + 1
length-onto_first c n [] h = omega arith
length-onto_first c n (line ∷ lines) h = omega arith

-- each line has a byte
pub length-lines_of : (text : List ℕ) → length (lines_of text) ≤ length text
length-lines_of [] = omega arith
length-lines_of (c ∷ cs) =
    let h = length-lines_of cs in
    let more = length-onto_first c (length cs) (lines_of cs) h in
    lines_cons (λ lines. length lines ≤ length (c ∷ cs)) (c == 10) ((c == 13) && starts_with nat_eq cs (10 ∷ [])) c (lines_of cs)
    (omega arith) (omega arith) (omega (arith, more))

front_count-by : (b : Bool) (n m : ℕ) → n ≤ m → cond b 1 (n + 1) ≤ m + 1
front_count-by true n m h = omega arith
front_count-by false n m h = omega arith

-- a front has no more lines than there are
pub front_count-within : (lines : List (List ℕ)) → front_count lines ≤ length lines
front_count-within [] = omega arith
front_count-within (line ∷ lines) =
    let more = front_count-by (starts_with nat_eq line (codes "GO ")) (front_count lines) (length lines) (front_count-within lines) in
    omega (arith, more)

-- ---- the place behind some lines

few-onto_first : (c n : ℕ) (lines : List (List ℕ)) (place : ℕ) → (suc n ≤ length lines → suc n ≤ place) → suc n ≤ length (onto_first c lines) → suc n ≤ place + 1
few-onto_first c n [] place h few = omega arith
few-onto_first c n (line ∷ lines) place h few = let more : suc n ≤ place = h few in omega arith

place_few : (b cr : Bool) (n c : ℕ) (cs : List ℕ) (lines : List (List ℕ)) → (n ≤ length lines → n ≤ place_after n cs) → (suc n ≤ length lines → suc n ≤ place_after (suc n) cs)
    → suc n ≤ length (cond b ([] ∷ lines) (cond cr lines (onto_first c lines))) → suc n ≤ cond b (place_after n cs) (place_after (suc n) cs) + 1
place_few true cr n c cs lines one more few = let h = one (omega arith) in omega arith
place_few false true n c cs lines one more few = let h = more few in omega arith
place_few false false n c cs lines one more few = few-onto_first c n lines (place_after (suc n) cs) more few

-- it is behind as many bytes at least
pub place_after-few : (n : ℕ) (text : List ℕ) → n ≤ length (lines_of text) → n ≤ place_after n text
place_after-few zero text few = omega arith
place_after-few (suc n) [] few = few
place_after-few (suc n) (c ∷ cs) few =
    place_few (c == 10) ((c == 13) && starts_with nat_eq cs (10 ∷ [])) n c cs (lines_of cs) (place_after-few n cs) (place_after-few (suc n) cs) few

-- ---- the lines behind it

drop-onto_first : (c n : ℕ) (lines : List (List ℕ)) → drop (suc n) (onto_first c lines) ≡ drop (suc n) lines
drop-onto_first c zero [] = refl
drop-onto_first c (suc n) [] = refl
drop-onto_first c n (line ∷ lines) = refl

drop_by : (b cr : Bool) (n c : ℕ) (cs : List ℕ) (lines : List (List ℕ)) → lines_of (drop (place_after n cs) cs) ≡ drop n lines
    → lines_of (drop (place_after (suc n) cs) cs) ≡ drop (suc n) lines
    → lines_of (drop (cond b (place_after n cs) (place_after (suc n) cs)) cs) ≡ drop (suc n) (cond b ([] ∷ lines) (cond cr lines (onto_first c lines)))
drop_by true cr n c cs lines one more = one
drop_by false true n c cs lines one more = more
drop_by false false n c cs lines one more = more ∙ sym (drop-onto_first c n lines)

-- they are all but the first so many
pub lines_of-drop : (n : ℕ) (text : List ℕ) → lines_of (drop (place_after n text) text) ≡ drop n (lines_of text)
lines_of-drop zero text = refl
lines_of-drop (suc n) [] = refl
lines_of-drop (suc n) (c ∷ cs) =
    ap (λ (m : ℕ). lines_of (drop m (c ∷ cs))) (add-one (cond (c == 10) (place_after n cs) (place_after (suc n) cs)))
    ∙ drop_by (c == 10) ((c == 13) && starts_with nat_eq cs (10 ∷ [])) n c cs (lines_of cs) (lines_of-drop n cs) (lines_of-drop (suc n) cs)
