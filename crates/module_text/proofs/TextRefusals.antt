-- A text is refused exactly where and why it is by the rules.
use Rattle.std.proofs.Common.{◌≡◌, ◌∙◌, ℕ, zero, suc, ◌≤◌, ◌==◌, ◌⊎◌, ◌↔◌, inl, inr, cond, Option, Some, None, Result, Ok, Err, List, [], ◌∷◌, ◌++◌, length, refl, sym, ap, subst, arith, nat_lt}
use Rattle.std.specs.Option.{ok_or}
use Rattle.module_text.proofs.TextReader.NumberLemmas.{number_in-again, number_in-ok}
use Rattle.module_text.proofs.TextReader.StepLemmas.{Err-same, Ok-same, bind-ok, cond-cases}
use Rattle.module_text.specs.FirstError.{EndsEarly, HasWord, IsBeyond, IsFirstError, IsInsideItem, IsNoOffset, IsNoType, IsNoWord, IsTypeDue}
use Rattle.module_text.specs.Grammar.{finish, first_type, follow, offsets_or_type}
use Rattle.module_text.specs.ModuleForm.{AreWords, end_word, hunk_type, relocation_type}
use Rattle.module_text.specs.ModuleOfText.{Rest, Stop, module_of, module_or_refusal, or_stop, put, read_token, rest, rest_of, stop}
use Rattle.module_text.specs.TextReader.Refusal.{Refusal, refusal}
use Rattle.module_text.specs.TextReader.Steps.{◌>>=◌}
use Rattle.module_text.specs.Tokens.{Token, line_at, tokens_of}
use Rattle.module_text.specs.Words.{IsWord, word_of}
use Rattle.module_text.specs.declared.grammar.Expects.{Expects}
use Rattle.module_text.specs.declared.grammar.Expects.TheVariants.{FirstType, NextType, Length, Word, Count, Offset, Nothing}
use Rattle.module_text.specs.declared.modules.Module.{Module}
use Rattle.module_text.specs.declared.step.Step.{Step}
use Rattle.module_text.proofs.Progress.{ExpectsPart, ExpectsType, after, after_none, after_one, begun_reaches, inside_part, is_begun, is_inside, is_offset_due, is_type_due, is_whole, offset_due, type_due, whole_reaches}
use Rattle.module_text.proofs.Runs.{token_ok}

-- the reading stops at a token that cannot follow
pub record StopsAt (e : Expects) (ts : List Token) (d : Stop) : Type 0 where
  pub front : List Token
  pub token : Token
  pub behind : List Token
  pub words : List ℕ
  pub next : Expects
  pub all : ts ≡ front ++ token ∷ behind
  pub before : AreWords front words
  pub reached : after e words ≡ Ok next
  pub refused : read_token next token.bytes ≡ Err d.code
  pub place : d.place ≡ token.place

-- the reading stops at the end
pub record EndsAt (e : Expects) (end : ℕ) (ts : List Token) (d : Stop) : Type 0 where
  pub words : List ℕ
  pub next : Expects
  pub all : AreWords ts words
  pub reached : after e words ≡ Ok next
  pub refused : finish next ≡ Err d.code
  pub place : d.place ≡ end

abbrev stopped : Stop → Result Rest Stop
stopped d = Err d

end_by : (e : Expects) (end : ℕ) (d : Stop) (f : Result Unit ℕ) → finish e ≡ f → (or_stop end f >>= λ u. Ok (rest [] [] [])) ≡ stopped d → EndsAt e end [] d
end_by e end d (Ok u) g h = cc h
end_by e end d (Err code) g h =
    let same = Err-same {A = Rest} (stop end code) d h in
    let P : Stop → Type 0 = λ x. EndsAt e end [] x in
    subst P same (record { words = []; next = e; all = tt; reached = refl; refused = g; place = refl })

more_at : (e : Expects) (t : Token) (ts : List Token) (s : Step) (d : Stop) → read_token e t.bytes ≡ Ok s → StopsAt s.next ts d → StopsAt e (t ∷ ts) d
more_at e t ts s d r h =
    let one = token_ok e t.bytes s r in
    record {
      front = t ∷ h.front;
      token = h.token;
      behind = h.behind;
      words = s.word ∷ h.words;
      next = h.next;
      all = ap (λ (xs : List Token). t ∷ xs) h.all;
      before = (number_in-ok 16 8 t.bytes s.word one.0, h.before);
      reached = rw one.1 h.reached;
      refused = h.refused;
      place = h.place;
    }

more_end : (e : Expects) (end : ℕ) (t : Token) (ts : List Token) (s : Step) (d : Stop) → read_token e t.bytes ≡ Ok s → EndsAt s.next end ts d → EndsAt e end (t ∷ ts) d
more_end e end t ts s d r h =
    let one = token_ok e t.bytes s r in
    record { words = s.word ∷ h.words; next = h.next; all = (number_in-ok 16 8 t.bytes s.word one.0, h.all); reached = rw one.1 h.reached; refused = h.refused; place = h.place }

more_stop : (e : Expects) (end : ℕ) (t : Token) (ts : List Token) (s : Step) (d : Stop) → read_token e t.bytes ≡ Ok s → StopsAt s.next ts d ⊎ EndsAt s.next end ts d → StopsAt e (t ∷ ts) d ⊎ EndsAt e end (t ∷ ts) d
more_stop e end t ts s d r (inl h) = inl (more_at e t ts s d r h)
more_stop e end t ts s d r (inr h) = inr (more_end e end t ts s d r h)

rest_err : (e : Expects) (w : ℕ) (r : Result Rest Stop) (d : Stop) → (r >>= λ q. Ok (put e w q)) ≡ stopped d → r ≡ stopped d
rest_err e w (Ok q) d h = cc h
rest_err e w (Err k) d h = h

token_by : (e : Expects) (end : ℕ) (t : Token) (ts : List Token) (d : Stop) (f : Result Step ℕ) → read_token e t.bytes ≡ f
    → ((s : Step) → rest_of s.next end ts ≡ stopped d → StopsAt s.next ts d ⊎ EndsAt s.next end ts d)
    → (or_stop t.place f >>= λ s. rest_of s.next end ts >>= λ q. Ok (put e s.word q)) ≡ stopped d → StopsAt e (t ∷ ts) d ⊎ EndsAt e end (t ∷ ts) d
token_by e end t ts d (Ok s) g next h = more_stop e end t ts s d g (next s (rest_err e s.word (rest_of s.next end ts) d h))
token_by e end t ts d (Err code) g next h =
    let same = Err-same {A = Rest} (stop t.place code) d h in
    let P : Stop → Type 0 = λ x. StopsAt e (t ∷ ts) x in
    inl (subst P same (record { front = []; token = t; behind = ts; words = []; next = e; all = refl; before = tt; reached = refl; refused = g; place = refl }))

stops : (e : Expects) (end : ℕ) (ts : List Token) (d : Stop) → rest_of e end ts ≡ stopped d → StopsAt e ts d ⊎ EndsAt e end ts d
stops e end [] d h = inr (end_by e end d (finish e) refl h)
stops e end (t ∷ ts) d h = token_by e end t ts d (read_token e t.bytes) refl (λ s k. stops s.next end ts d k) h

-- ---- why a word or an end is refused

abbrev refused_word : ℕ → Result Expects ℕ
refused_word code = Err code

-- an offset is expected
abbrev ExpectsOffset : Expects → Type 0
ExpectsOffset e = (more n : ℕ) × (e ≡ Offset more n)

-- a refused word has code 3 where a type is expected, 4 where an offset is, and 6 where nothing is
abbrev WordCode : Expects → ℕ → Type 0
WordCode e code = ((3 ≡ code) × ExpectsType e) ⊎ (((4 ≡ code) × ExpectsOffset e) ⊎ ((6 ≡ code) × (e ≡ Nothing)))

first_code : (w code : ℕ) → first_type w ≡ refused_word code → 3 ≡ code
first_code w code h =
    elim (cond-cases (w == hunk_type) (Ok Length) (cond (w == end_word) (Ok Nothing) (refused_word 3)) (refused_word code) h) [
      | inl p ↦ cc p.1
      | inr p ↦
          elim (cond-cases (w == end_word) (Ok Nothing) (refused_word 3) (refused_word code) p.1) [
            | inl q ↦ cc q.1
            | inr q ↦ Err-same {A = Expects} 3 code q.1
          ]
    ]

follow_code : (e : Expects) (w code : ℕ) → follow e w ≡ refused_word code → WordCode e code
follow_code FirstType w code h = inl (first_code w code h, tt)
follow_code (NextType n) w code h =
    elim (cond-cases (w == relocation_type) (Ok (Count n)) (first_type w) (refused_word code) h) [
      | inl p ↦ cc p.1
      | inr p ↦ inl (first_code w code p.1, tt)
    ]
follow_code Length w code h = cc h
follow_code (Word more n) w code h = cc h
follow_code (Count n) w code h = cc h
follow_code (Offset more n) w code h =
    elim (cond-cases (nat_lt w n) (Ok (offsets_or_type more n)) (refused_word 4) (refused_word code) h) [
      | inl p ↦ cc p.1
      | inr p ↦ inr (inl (Err-same {A = Expects} 4 code p.1, (more, n, refl)))
    ]
follow_code Nothing w code h = inr (inr (Err-same {A = Expects} 6 code h, refl))

abbrev no_end : ℕ → Result (Unit {0}) ℕ
no_end code = Err code

-- an end has code 2 inside an item, and 5 where a type is expected
abbrev EndCode : Expects → ℕ → Type 0
EndCode e code = ((2 ≡ code) × ExpectsPart e) ⊎ ((5 ≡ code) × ExpectsType e)

finish_code : (e : Expects) (code : ℕ) → finish e ≡ no_end code → EndCode e code
finish_code FirstType code h = inr (Err-same {A = Unit {0}} 5 code h, tt)
finish_code (NextType n) code h = inr (Err-same {A = Unit {0}} 5 code h, tt)
finish_code Length code h = inl (Err-same {A = Unit {0}} 2 code h, tt)
finish_code (Word more n) code h = inl (Err-same {A = Unit {0}} 2 code h, tt)
finish_code (Count n) code h = inl (Err-same {A = Unit {0}} 2 code h, tt)
finish_code (Offset more n) code h = inl (Err-same {A = Unit {0}} 2 code h, tt)
finish_code Nothing code h = cc h

abbrev with_next : ℕ → Result Expects ℕ → Result Step ℕ
with_next w f = f >>= λ next. Ok (record { word = w; next = next })

abbrev no_step : ℕ → Result Step ℕ
no_step code = Err code

step_err : (w code : ℕ) (f : Result Expects ℕ) → with_next w f ≡ no_step code → f ≡ refused_word code
step_err w code (Ok x) h = cc h
step_err w code (Err k) h = ap refused_word (Err-same {A = Step} k code h)

-- a refused token is no word, with code 1, or a word that cannot follow
abbrev TokenCode : Expects → List ℕ → ℕ → Type 0
TokenCode e bytes code = ((1 ≡ code) × ¬ HasWord bytes) ⊎ ((w : ℕ) × IsWord bytes w × (follow e w ≡ refused_word code))

no_word : (bytes : List ℕ) → word_of bytes ≡ None → ¬ HasWord bytes
no_word bytes e h = cc (sym e ∙ number_in-again 16 8 bytes h.0 h.1)

token_code_by : (e : Expects) (bytes : List ℕ) (code : ℕ) (o : Option ℕ) → word_of bytes ≡ o → (ok_or o 1 >>= λ w. with_next w (follow e w)) ≡ no_step code → TokenCode e bytes code
token_code_by e bytes code (Some w) g h = inr (w, number_in-ok 16 8 bytes w g, step_err w code (follow e w) h)
token_code_by e bytes code None g h = inl (Err-same {A = Step} 1 code h, no_word bytes g)

token_code : (e : Expects) (bytes : List ℕ) (code : ℕ) → read_token e bytes ≡ no_step code → TokenCode e bytes code
token_code e bytes code h = token_code_by e bytes code (word_of bytes) refl h

-- a word that is refused as a token is refused
word_refused : (e : Expects) (bytes : List ℕ) (w code : ℕ) → IsWord bytes w → read_token e bytes ≡ no_step code → follow e w ≡ refused_word code
word_refused e bytes w code is h = step_err w code (follow e w) (rw (number_in-again 16 8 bytes w is) at h)

-- ---- what a refusal says

-- what a code says of a text
abbrev Meaning : List ℕ → ℕ → ℕ → Type 0
Meaning text line zero = ⊥
Meaning text line (suc zero) = IsFirstError text line IsNoWord
Meaning text line (suc (suc zero)) = EndsEarly text line IsInsideItem
Meaning text line (suc (suc (suc zero))) = IsFirstError text line IsNoType
Meaning text line (suc (suc (suc (suc zero)))) = IsFirstError text line IsNoOffset
Meaning text line (suc (suc (suc (suc (suc zero))))) = EndsEarly text line IsTypeDue
Meaning text line (suc (suc (suc (suc (suc (suc zero)))))) = IsFirstError text line IsBeyond
Meaning text line (suc (suc (suc (suc (suc (suc (suc code))))))) = ⊥

-- the same of two codes that are one
meaning_of : (text : List ℕ) (line k code : ℕ) → k ≡ code → Meaning text line k → Meaning text line code
meaning_of text line k code e m = subst (λ (c : ℕ). Meaning text line c) e m

at_token : (text : List ℕ) (line : ℕ) (d : Stop) (Why : List ℕ → List ℕ → Type 0) (s : StopsAt FirstType (tokens_of text) d) → line_at text d.place ≡ line → Why s.words s.token.bytes → IsFirstError text line Why
at_token text line d Why s e why = record {
  front = s.front;
  token = s.token;
  after = s.behind;
  words = s.words;
  all = s.all;
  at = sym e ∙ ap (line_at text) s.place;
  before = s.before;
  begun = is_begun s.words s.next s.reached;
  up_to = λ w is b.
      let r = begun_reaches (s.words ++ w ∷ []) b in
      after_none FirstType s.next r.0 s.words w d.code s.reached (word_refused s.next s.token.bytes w d.code is s.refused) r.1;
  why = why;
}

says_at : (text : List ℕ) (line code : ℕ) (d : Stop) (s : StopsAt FirstType (tokens_of text) d) → line_at text d.place ≡ line → d.code ≡ code → TokenCode s.next s.token.bytes d.code → Meaning text line code
says_at text line code d s e c (inl t) = meaning_of text line 1 code (t.0 ∙ c) (at_token text line d IsNoWord s e t.1)
says_at text line code d s e c (inr t) =
    let has : HasWord s.token.bytes = (t.0, t.1) in
    elim (follow_code s.next t.0 d.code t.2) [
      | inl p ↦ meaning_of text line 3 code (p.0 ∙ c) (at_token text line d IsNoType s e (has, is_type_due s.words s.next s.reached p.1))
      | inr p ↦
          elim p [
            | inl q ↦
                let here = s.reached ∙ ap (λ (x : Expects). Ok x) q.1.2 in
                meaning_of text line 4 code (q.0 ∙ c) (at_token text line d IsNoOffset s e (has, is_offset_due s.words q.1.0 q.1.1 here))
            | inr q ↦
                let here = s.reached ∙ ap (λ (x : Expects). Ok x) q.1 in
                meaning_of text line 6 code (q.0 ∙ c) (at_token text line d IsBeyond s e (has, is_whole s.words here))
          ]
    ]

at_end : (text : List ℕ) (line : ℕ) (d : Stop) (Why : List ℕ → Type 0) (s : EndsAt FirstType (length text) (tokens_of text) d) → line_at text d.place ≡ line → Why s.words → EndsEarly text line Why
at_end text line d Why s e why = record { words = s.words; all = s.all; at = sym e ∙ ap (line_at text) s.place; why = why }

says_end : (text : List ℕ) (line code : ℕ) (d : Stop) (s : EndsAt FirstType (length text) (tokens_of text) d) → line_at text d.place ≡ line → d.code ≡ code → EndCode s.next d.code → Meaning text line code
says_end text line code d s e c (inl t) = meaning_of text line 2 code (t.0 ∙ c) (at_end text line d IsInsideItem s e (is_inside s.words s.next s.reached t.1))
says_end text line code d s e c (inr t) = meaning_of text line 5 code (t.0 ∙ c) (at_end text line d IsTypeDue s e (is_type_due s.words s.next s.reached t.1))

abbrev no_module : Refusal → Result Module Refusal
no_module r = Err r

says_by : (text : List ℕ) (line code : ℕ) (r : Result Rest Stop) → rest_of FirstType (length text) (tokens_of text) ≡ r → module_or_refusal text r ≡ no_module (refusal line code) → Meaning text line code
says_by text line code (Ok r) g h = cc h
says_by text line code (Err d) g h =
    let same = Err-same {A = Module} (refusal (line_at text d.place) d.code) (refusal line code) h in
    let at = ap (λ (r : Refusal). r.line) same in
    let with = ap (λ (r : Refusal). r.code) same in
    elim (stops FirstType (length text) (tokens_of text) d g) [
      | inl s ↦ says_at text line code d s at with (token_code s.next s.token.bytes d.code s.refused)
      | inr s ↦ says_end text line code d s at with (finish_code s.next d.code s.refused)
    ]

says : (text : List ℕ) (line code : ℕ) → module_of text ≡ Err (refusal line code) → Meaning text line code
unfolding module_of
says text line code h = says_by text line code (rest_of FirstType (length text) (tokens_of text)) refl h

-- ---- and back

rest_more : (e : Expects) (end : ℕ) (t : Token) (ts : List Token) (w : ℕ) (next : Expects) (d : Stop) → word_of t.bytes ≡ Some w → follow e w ≡ Ok next → rest_of next end ts ≡ stopped d → rest_of e end (t ∷ ts) ≡ stopped d
rest_more e end t ts w next d a b h = rw (a, b, h) refl

-- a reading that stops at a token
rest_stops : (e : Expects) (end : ℕ) (front : List Token) (t : Token) (behind : List Token) (words : List ℕ) (next : Expects) (code : ℕ) → AreWords front words → after e words ≡ Ok next → read_token next t.bytes ≡ Err code
    → rest_of e end (front ++ t ∷ behind) ≡ stopped (stop t.place code)
rest_stops e end [] t behind [] next code h a r =
    let here = subst (λ (x : Expects). read_token x t.bytes ≡ no_step code) (sym (Ok-same {E = ℕ} e next a)) r in
    rw here refl
rest_stops e end [] t behind (w ∷ ws) next code h a r = absurd h
rest_stops e end (f ∷ fs) t behind [] next code h a r = absurd h
rest_stops e end (f ∷ fs) t behind (w ∷ ws) next code h a r =
    let s = bind-ok (follow e w) (λ x. after x ws) next a in
    rest_more e end f (fs ++ t ∷ behind) w s.0 (stop t.place code) (number_in-again 16 8 f.bytes w h.0) s.1 (rest_stops s.0 end fs t behind ws next code h.1 s.2 r)

-- a reading that ends early
rest_ends : (e : Expects) (end : ℕ) (ts : List Token) (words : List ℕ) (next : Expects) (code : ℕ) → AreWords ts words → after e words ≡ Ok next → finish next ≡ Err code → rest_of e end ts ≡ stopped (stop end code)
rest_ends e end [] [] next code h a r =
    let here = subst (λ (x : Expects). finish x ≡ no_end code) (sym (Ok-same {E = ℕ} e next a)) r in
    rw here refl
rest_ends e end [] (w ∷ ws) next code h a r = absurd h
rest_ends e end (t ∷ ts) [] next code h a r = absurd h
rest_ends e end (t ∷ ts) (w ∷ ws) next code h a r =
    let s = bind-ok (follow e w) (λ x. after x ws) next a in
    rest_more e end t ts w s.0 (stop end code) (number_in-again 16 8 t.bytes w h.0) s.1 (rest_ends s.0 end ts ws next code h.1 s.2 r)

stopped_module : (text : List ℕ) (place line code : ℕ) → line ≡ line_at text place → rest_of FirstType (length text) (tokens_of text) ≡ stopped (stop place code) → module_of text ≡ Err (refusal line code)
unfolding module_of
stopped_module text place line code e h = rw h (ap (λ (k : ℕ). Err (refusal k code)) (sym e))

-- a text whose first token in error is refused with a code
error_again : (text : List ℕ) (line code : ℕ) (Why : List ℕ → List ℕ → Type 0) (f : IsFirstError text line Why) (next : Expects) → after FirstType f.words ≡ Ok next → read_token next f.token.bytes ≡ Err code
    → module_of text ≡ Err (refusal line code)
error_again text line code Why f next a r =
    stopped_module text f.token.place line code f.at
    (ap (rest_of FirstType (length text)) f.all ∙ rest_stops FirstType (length text) f.front f.token f.after f.words next code f.before a r)

end_again : (text : List ℕ) (line code : ℕ) (Why : List ℕ → Type 0) (f : EndsEarly text line Why) (next : Expects) → after FirstType f.words ≡ Ok next → finish next ≡ Err code → module_of text ≡ Err (refusal line code)
end_again text line code Why f next a r =
    stopped_module text (length text) line code f.at (rest_ends FirstType (length text) (tokens_of text) f.words next code f.all a r)

none_word : (bytes : List ℕ) (o : Option ℕ) → word_of bytes ≡ o → ¬ HasWord bytes → word_of bytes ≡ None
none_word bytes None e h = e
none_word bytes (Some w) e h = absurd (h (w, number_in-ok 16 8 bytes w e))

-- a token that is no word is refused with code 1
no_word_refused : (e : Expects) (bytes : List ℕ) → ¬ HasWord bytes → read_token e bytes ≡ no_step 1
no_word_refused e bytes h = rw (none_word bytes (word_of bytes) refl h) refl

refused_step : (e : Expects) (bytes : List ℕ) (w code : ℕ) → IsWord bytes w → follow e w ≡ refused_word code → read_token e bytes ≡ no_step code
refused_step e bytes w code is h = rw (number_in-again 16 8 bytes w is, h) refl

-- the word of a token in error is refused, with some code
followed_by : (text : List ℕ) (line : ℕ) (Why : List ℕ → List ℕ → Type 0) (f : IsFirstError text line Why) (w : ℕ) → IsWord f.token.bytes w → (next : Expects) → after FirstType f.words ≡ Ok next
    → (r : Result Expects ℕ) → follow next w ≡ r → (code : ℕ) × (follow next w ≡ refused_word code)
followed_by text line Why f w is next a (Err code) e = (code, e)
followed_by text line Why f w is next a (Ok then_next) e = absurd (f.up_to w is (is_begun (f.words ++ w ∷ []) then_next (after_one FirstType next then_next f.words w a e)))

code_again : (text : List ℕ) (line code : ℕ) (Why : List ℕ → List ℕ → Type 0) (f : IsFirstError text line Why) → HasWord f.token.bytes → (next : Expects) → after FirstType f.words ≡ Ok next
    → ((k : ℕ) → WordCode next k → code ≡ k) → module_of text ≡ Err (refusal line code)
code_again text line code Why f has next a only =
    let r = followed_by text line Why f has.0 has.1 next a (follow next has.0) refl in
    let same = only r.0 (follow_code next has.0 r.0 r.1) in
    error_again text line code Why f next a (refused_step next f.token.bytes has.0 code has.1 (r.1 ∙ ap refused_word (sym same)))

type_only : (e : Expects) (k : ℕ) → ExpectsType e → WordCode e k → 3 ≡ k
type_only e k t (inl p) = p.0
type_only e k t (inr (inl p)) = absurd (rw p.1.2 at t)
type_only e k t (inr (inr p)) = absurd (rw p.1 at t)

offset_only : (more n k : ℕ) → WordCode (Offset more n) k → 4 ≡ k
offset_only more n k (inl p) = absurd p.1
offset_only more n k (inr (inl p)) = p.0
offset_only more n k (inr (inr p)) = cc p.1

nothing_only : (k : ℕ) → WordCode Nothing k → 6 ≡ k
nothing_only k (inl p) = absurd p.1
nothing_only k (inr (inl p)) = cc p.1.2
nothing_only k (inr (inr p)) = p.0

part_ends : (e : Expects) → ExpectsPart e → finish e ≡ no_end 2
part_ends FirstType h = absurd h
part_ends (NextType n) h = absurd h
part_ends Length h = refl
part_ends (Word more n) h = refl
part_ends (Count n) h = refl
part_ends (Offset more n) h = refl
part_ends Nothing h = absurd h

type_ends : (e : Expects) → ExpectsType e → finish e ≡ no_end 5
type_ends FirstType h = refl
type_ends (NextType n) h = refl
type_ends Length h = absurd h
type_ends (Word more n) h = absurd h
type_ends (Count n) h = absurd h
type_ends (Offset more n) h = absurd h
type_ends Nothing h = absurd h

-- ---- the codes

bounds_of : (text : List ℕ) (line code : ℕ) → Meaning text line code → (1 ≤ code) × (code ≤ 6)
bounds_of text line zero m = absurd m
bounds_of text line (suc zero) m = (omega arith, omega arith)
bounds_of text line (suc (suc zero)) m = (omega arith, omega arith)
bounds_of text line (suc (suc (suc zero))) m = (omega arith, omega arith)
bounds_of text line (suc (suc (suc (suc zero)))) m = (omega arith, omega arith)
bounds_of text line (suc (suc (suc (suc (suc zero))))) m = (omega arith, omega arith)
bounds_of text line (suc (suc (suc (suc (suc (suc zero)))))) m = (omega arith, omega arith)
bounds_of text line (suc (suc (suc (suc (suc (suc (suc code))))))) m = absurd m

pub code_bounds : (text : List ℕ) (line code : ℕ) → module_of text ≡ Err (refusal line code) → (1 ≤ code) × (code ≤ 6)
code_bounds text line code h = bounds_of text line code (says text line code h)

pub no_word_law : (text : List ℕ) (line : ℕ) → (module_of text ≡ Err (refusal line 1)) ↔ IsFirstError text line IsNoWord
no_word_law text line = (
  λ h. says text line 1 h,
  λ f. let r = begun_reaches f.words f.begun in error_again text line 1 IsNoWord f r.0 r.1 (no_word_refused r.0 f.token.bytes f.why),
)

pub inside_law : (text : List ℕ) (line : ℕ) → (module_of text ≡ Err (refusal line 2)) ↔ EndsEarly text line IsInsideItem
inside_law text line = (
  λ h. says text line 2 h,
  λ f. let r = inside_part f.words f.why in end_again text line 2 IsInsideItem f r.next r.reached (part_ends r.next r.part),
)

pub no_type_law : (text : List ℕ) (line : ℕ) → (module_of text ≡ Err (refusal line 3)) ↔ IsFirstError text line IsNoType
no_type_law text line = (
  λ h. says text line 3 h,
  λ f. let r = type_due f.words f.why.1 in code_again text line 3 IsNoType f f.why.0 r.next r.reached (λ k. type_only r.next k r.type),
)

pub no_offset_law : (text : List ℕ) (line : ℕ) → (module_of text ≡ Err (refusal line 4)) ↔ IsFirstError text line IsNoOffset
no_offset_law text line = (
  λ h. says text line 4 h,
  λ f. let r = offset_due f.words f.why.1 in code_again text line 4 IsNoOffset f f.why.0 (Offset r.more r.size) r.reached (offset_only r.more r.size),
)

pub between_law : (text : List ℕ) (line : ℕ) → (module_of text ≡ Err (refusal line 5)) ↔ EndsEarly text line IsTypeDue
between_law text line = (
  λ h. says text line 5 h,
  λ f. let r = type_due f.words f.why in end_again text line 5 IsTypeDue f r.next r.reached (type_ends r.next r.type),
)

pub beyond_law : (text : List ℕ) (line : ℕ) → (module_of text ≡ Err (refusal line 6)) ↔ IsFirstError text line IsBeyond
beyond_law text line = (
  λ h. says text line 6 h,
  λ f. code_again text line 6 IsBeyond f f.why.0 Nothing (whole_reaches f.words f.why.1) nothing_only,
)
