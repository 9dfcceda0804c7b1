-- The shape of a module, counted token by token.
use Rattle.std.proofs.Common.{◌≡◌, ℕ, ◌+◌, ◌<◌, ◌≤◌, Result, Ok, Err, Some, None, List, [], length, drop, refl, ap, arith}
use Rattle.std.proofs.lemmas.List.Sums.{sum_by-cons}
use Rattle.module_text.specs.Tokens.{tokens_from, tokens_of}
use Rattle.module_text.specs.Places.{bytes_in, next_span}
use Rattle.module_text.specs.Grammar.{finish}
use Rattle.module_text.specs.ModuleOfText.{Rest, Stop, hunk, module_of, module_or_refusal, or_stop, put, read_token, rest, rest_of}
use Rattle.module_text.specs.TextReader.Steps.{◌>>=◌}
use Rattle.module_text.specs.Shapes.{check, check_of, counted, shape, words_in}
use Rattle.module_text.specs.declared.modules.Hunk.{Hunk}
use Rattle.module_text.specs.declared.tokens.Span.{Span}
use Rattle.module_text.specs.declared.check.Shape.{Shape}
use Rattle.module_text.specs.declared.step.Step.{Step}
use Rattle.module_text.specs.declared.grammar.Expects.{Expects}
use Rattle.module_text.specs.declared.grammar.Expects.TheVariants.{FirstType, NextType, Length, Word, Count, Offset, Nothing}
use Rattle.module_text.proofs.Spans.{no_token, some_token}
use Rattle.module_text.proofs.Runs.{tokens_ok}
use Rattle.module_text.proofs.Sound.{form}

-- the shape that was counted, with the rest after it
abbrev pub checked : Shape → Result Rest Stop → Result Shape ℕ
checked s (Ok r) = Ok (shape (s.hunks + length r.hunks) (s.words + (length r.words + words_in r.hunks)))
checked s (Err d) = Err d.code

abbrev shaped : ℕ → ℕ → Result Shape ℕ
shaped hunks words = Ok (shape hunks words)

shape_same : (a b x y : ℕ) → a ≡ b → x ≡ y → shaped a x ≡ shaped b y
shape_same a b x y e f = rw (e, f) refl

first_by : (text : List ℕ) (r : Result Rest Stop) → rest_of FirstType (length text) (tokens_of text) ≡ r → checked (shape 0 0) r ≡ check (module_or_refusal text r)
first_by text (Err d) e = refl
first_by text (Ok r) e =
    let k = tokens_ok FirstType (length text) (tokens_of text) r e in
    let none = ap length (form FirstType k.0 r k.2).0 in
    shape_same _ _ _ _ (omega arith) (omega (arith, none))

-- before the first token
pub check_first : (text : List ℕ) → checked (shape 0 0) (rest_of FirstType (length text) (tokens_of text)) ≡ check_of text
unfolding module_of
check_first text = first_by text (rest_of FirstType (length text) (tokens_of text)) refl

abbrev pub putting : Expects → ℕ → Result Rest Stop → Result Rest Stop
putting e w r = r >>= λ q. Ok (put e w q)

more_by : (s : Shape) (e : Expects) (w : ℕ) (r : Result Rest Stop) → checked (counted s e) r ≡ checked s (putting e w r)
more_by s e w (Err d) = refl
more_by s FirstType w (Ok r) = refl
more_by s (NextType n) w (Ok r) = refl
more_by s Length w (Ok r) =
    let words = sum_by-cons (λ (h : Hunk). length h.words) (hunk r.words r.relocations) r.hunks in
    shape_same _ _ _ _ (omega arith) (omega (arith, words))
more_by s (Word more n) w (Ok r) = shape_same _ _ _ _ refl (omega arith)
more_by s (Count n) w (Ok r) = refl
more_by s (Offset more n) w (Ok r) = refl
more_by s Nothing w (Ok r) = refl

-- what is left to read of a text from a place on
abbrev pub left : List ℕ → Expects → ℕ → Result Rest Stop
left text e place = rest_of e (length text) (tokens_from place (drop place text))

-- after a token
pub check_more : (text : List ℕ) (place : ℕ) (t : Span) (s : Shape) (e : Expects) (step : Step) → next_span text place ≡ Some t → read_token e (bytes_in text t) ≡ Ok step
    → checked (counted s e) (left text step.next t.end) ≡ checked s (left text e place)
check_more text place t s e step f h = rw (some_token text place t f, h) (more_by s e step.word (left text step.next t.end))

-- at a token that cannot follow
pub check_refused : (text : List ℕ) (place : ℕ) (t : Span) (s : Shape) (e : Expects) (code : ℕ) → next_span text place ≡ Some t → read_token e (bytes_in text t) ≡ Err code → checked s (left text e place) ≡ Err code
check_refused text place t s e code f h = rw (some_token text place t f, h) refl

-- at the end
end_by : (s : Shape) (end : ℕ) (r : Result Unit ℕ) → checked s (or_stop end r >>= λ u. Ok (rest [] [] [])) ≡ (r >>= λ u. Ok s)
end_by s end (Ok u) = shape_same _ _ _ _ (omega arith) (omega arith)
end_by s end (Err code) = refl

pub check_end : (text : List ℕ) (place : ℕ) (s : Shape) (e : Expects) → next_span text place ≡ None → checked s (left text e place) ≡ (finish e >>= λ u. Ok s)
check_end text place s e f = rw (no_token text place f) (end_by s (length text) (finish e))

-- a word more leaves the counts below the place
pub counted_few : (s : Shape) (e : Expects) (place end : ℕ) → s.hunks + s.words ≤ place → place < end → (counted s e).hunks + (counted s e).words ≤ end
counted_few s FirstType place end few lt = omega arith
counted_few s (NextType n) place end few lt = omega arith
counted_few s Length place end few lt = omega arith
counted_few s (Word more n) place end few lt = omega arith
counted_few s (Count n) place end few lt = omega arith
counted_few s (Offset more n) place end few lt = omega arith
counted_few s Nothing place end few lt = omega arith
