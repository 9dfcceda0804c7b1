-- A module's words, without their tokens.
use Rattle.std.proofs.Common.{◌≡◌, ℕ, Option, Some, None, Result, Ok, Err, List, [], ◌∷◌, refl, ap, subst}
use Rattle.std.specs.Option.{ok_or}
use Rattle.module_text.specs.Tokens.{Token}
use Rattle.module_text.specs.Words.{word_of}
use Rattle.module_text.specs.ModuleForm.{AreWords}
use Rattle.module_text.specs.Grammar.{finish, follow}
use Rattle.module_text.specs.ModuleOfText.{Rest, or_stop, put, read_token, rest, rest_of}
use Rattle.module_text.specs.TextReader.Steps.{◌>>=◌}
use Rattle.module_text.specs.declared.grammar.Expects.{Expects}
use Rattle.module_text.specs.declared.step.Step.{Step}
use Rattle.module_text.proofs.TextReader.StepLemmas.{Ok-same, bind-ok}
use Rattle.module_text.proofs.TextReader.NumberLemmas.{number_in-again, number_in-ok}

-- the rest that the words are
abbrev pub run : Expects → List ℕ → Result Rest ℕ
run expects [] = finish expects >>= λ u. Ok (rest [] [] [])
run expects (w ∷ ws) = follow expects w >>= λ next. run next ws >>= λ r. Ok (put expects w r)

stop_ok : {A : Type 0} (place : ℕ) (r : Result A ℕ) (x : A) → or_stop place r ≡ Ok x → r ≡ Ok x
stop_ok place (Ok y) x e = cc
stop_ok place (Err code) x e = cc

abbrev or_one : Option ℕ → Result ℕ ℕ
or_one o = ok_or o 1

or_code_some : (o : Option ℕ) (w : ℕ) → or_one o ≡ Ok w → o ≡ Some w
or_code_some None w e = cc
or_code_some (Some x) w e = cc

abbrev step_of : ℕ → Expects → Step
step_of word next = record { word = word; next = next }

pub token_ok : (e : Expects) (bytes : List ℕ) (s : Step) → read_token e bytes ≡ Ok s → (word_of bytes ≡ Some s.word) × (follow e s.word ≡ Ok s.next)
token_ok e bytes s h =
    let a = bind-ok (or_one (word_of bytes)) (λ word. follow e word >>= λ next. Ok (step_of word next)) s h in
    let b = bind-ok (follow e a.0) (λ next. Ok (step_of a.0 next)) s a.2 in
    let same : step_of a.0 b.0 ≡ s = Ok-same (step_of a.0 b.0) s b.2 in
    let P : Step → Type 0 = λ x. (word_of bytes ≡ Some x.word) × (follow e x.word ≡ Ok x.next) in
    subst P same (or_code_some (word_of bytes) a.0 a.1, b.1)

token_again : (e next : Expects) (bytes : List ℕ) (w : ℕ) → word_of bytes ≡ Some w → follow e w ≡ Ok next → read_token e bytes ≡ Ok (step_of w next)
token_again e next bytes w a b = rw (a, b) refl

-- the tokens that were read are words
pub tokens_ok : (e : Expects) (end : ℕ) (ts : List Token) (r : Rest) → rest_of e end ts ≡ Ok r → (ws : List ℕ) × AreWords ts ws × (run e ws ≡ Ok r)
tokens_ok e end [] r h =
    let a = bind-ok (or_stop end (finish e)) (λ u. Ok (rest [] [] [])) r h in
    ([], tt, rw (stop_ok end (finish e) a.0 a.1) (ap (λ (x : Rest). Ok x) (Ok-same (rest [] [] []) r a.2)))
tokens_ok e end (t ∷ ts) r h =
    let a = bind-ok (or_stop t.place (read_token e t.bytes)) (λ s. rest_of s.next end ts >>= λ q. Ok (put e s.word q)) r h in
    let b = bind-ok (rest_of a.0.next end ts) (λ q. Ok (put e a.0.word q)) r a.2 in
    let one = token_ok e t.bytes a.0 (stop_ok t.place (read_token e t.bytes) a.0 a.1) in
    let more = tokens_ok a.0.next end ts b.0 b.1 in
    (a.0.word ∷ more.0, (number_in-ok 16 8 t.bytes a.0.word one.0, more.1), rw (one.1, more.2) (ap (λ (x : Rest). Ok x) (Ok-same (put e a.0.word b.0) r b.2)))

-- and words are read again
pub tokens_again : (e : Expects) (end : ℕ) (ts : List Token) (ws : List ℕ) (r : Rest) → AreWords ts ws → run e ws ≡ Ok r → rest_of e end ts ≡ Ok r
tokens_again e end [] [] r h k =
    let a = bind-ok (finish e) (λ u. Ok (rest [] [] [])) r k in
    rw a.1 (ap (λ (x : Rest). Ok x) (Ok-same (rest [] [] []) r a.2))
tokens_again e end [] (w ∷ ws) r h k = absurd h
tokens_again e end (t ∷ ts) [] r h k = absurd h
tokens_again e end (t ∷ ts) (w ∷ ws) r h k =
    let a = bind-ok (follow e w) (λ next. run next ws >>= λ q. Ok (put e w q)) r k in
    let b = bind-ok (run a.0 ws) (λ q. Ok (put e w q)) r a.2 in
    rw (token_again e a.0 t.bytes w (number_in-again 16 8 t.bytes w h.0) a.1, tokens_again a.0 end ts ws b.0 h.1 b.1) (ap (λ (x : Rest). Ok x) (Ok-same (put e w b.0) r b.2))
