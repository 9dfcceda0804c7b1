-- The hunks of a module, gathered token by token.
use Rattle.std.proofs.Common.{◌≡◌, ◌∙◌, ℕ, zero, suc, ◌+◌, arith, set, get_or, Result, Ok, Err, Some, None, List, [], ◌∷◌, ◌++◌, length, refl, ap, append_assoc, append-nil}
use Rattle.module_text.specs.Tokens.{line_at}
use Rattle.module_text.specs.Places.{bytes_in, next_span}
use Rattle.module_text.specs.Grammar.{finish}
use Rattle.module_text.specs.ModuleOfText.{Rest, Stop, hunk, module_of, module_or_refusal, put, read_token, rest, with_rest}
use Rattle.module_text.specs.TextReader.Refusal.{Refusal, refusal}
use Rattle.module_text.specs.Answers.{or_bad}
use Rattle.module_text.specs.TextReader.Answers.{Gives}
use Rattle.module_text.specs.declared.text_reader.ends.TextEnd.{TextEnd}
use Rattle.module_text.specs.declared.text_reader.ends.TextEnd.TheVariants.{Bad}
use Rattle.module_text.specs.declared.modules.Hunk.{Hunk}
use Rattle.module_text.specs.declared.modules.Module.{Module}
use Rattle.module_text.specs.declared.tokens.Span.{Span}
use Rattle.module_text.specs.declared.step.Step.{Step}
use Rattle.module_text.specs.declared.grammar.Expects.{Expects}
use Rattle.module_text.specs.declared.grammar.Expects.TheVariants.{FirstType}
use Rattle.module_text.proofs.Spans.{no_token, some_token}
use Rattle.module_text.proofs.ShapeCounts.{left, putting}

abbrev pub module_with : List Hunk → Module
module_with hunks = record { hunks = hunks }

-- the hunks that were gathered, with the rest after them
abbrev pub gathered : List ℕ → List Hunk → Result Rest Stop → Result Module Refusal
gathered text hunks (Ok r) = Ok (module_with (with_rest hunks r))
gathered text hunks (Err s) = Err (refusal (line_at text s.place) s.code)

first_by : (text : List ℕ) (r : Result Rest Stop) → gathered text [] r ≡ module_or_refusal text r
first_by text (Ok r) = refl
first_by text (Err s) = refl

-- before the first token
pub gather_first : (text : List ℕ) → gathered text [] (left text FirstType 0) ≡ module_of text
unfolding module_of
gather_first text = first_by text (left text FirstType 0)

more_by : (text : List ℕ) (before after : List Hunk) (e : Expects) (w : ℕ) (r : Result Rest Stop) → ((q : Rest) → with_rest after q ≡ with_rest before (put e w q))
    → gathered text after r ≡ gathered text before (putting e w r)
more_by text before after e w (Err s) h = refl
more_by text before after e w (Ok r) h = ap (λ (hunks : List Hunk). Ok (module_with hunks)) (h r)

-- after a token
pub gather_more : (text : List ℕ) (place : ℕ) (t : Span) (before after : List Hunk) (e : Expects) (step : Step) → next_span text place ≡ Some t → read_token e (bytes_in text t) ≡ Ok step
    → ((q : Rest) → with_rest after q ≡ with_rest before (put e step.word q)) → gathered text after (left text step.next t.end) ≡ gathered text before (left text e place)
gather_more text place t before after e step f h k = rw (some_token text place t f, h) (more_by text before after e step.word (left text step.next t.end) k)

-- at a token that cannot follow
pub gather_refused : (text : List ℕ) (place : ℕ) (t : Span) (hunks : List Hunk) (e : Expects) (code : ℕ) → next_span text place ≡ Some t → read_token e (bytes_in text t) ≡ Err code
    → gathered text hunks (left text e place) ≡ Err (refusal (line_at text t.start) code)
gather_refused text place t hunks e code f h = rw (some_token text place t f, h) refl

-- hunks with nothing after them
with_nothing : (hunks : List Hunk) → with_rest hunks (rest [] [] []) ≡ hunks
with_nothing [] = refl
with_nothing (h ∷ []) = rw (append-nil h.words, append-nil h.relocations) refl
with_nothing (h ∷ k ∷ hs) = ap (λ (xs : List Hunk). h ∷ xs) (with_nothing (k ∷ hs))

-- at the end
pub gather_end : (text : List ℕ) (place : ℕ) (hunks : List Hunk) (e : Expects) (u : Unit {0}) → next_span text place ≡ None → finish e ≡ Ok u
    → gathered text hunks (left text e place) ≡ Ok (module_with hunks)
gather_end text place hunks e u f h = rw (no_token text place f, h) (ap (λ (xs : List Hunk). Ok (module_with xs)) (with_nothing hunks))

-- at an end that is none
pub gather_cut : (text : List ℕ) (place : ℕ) (hunks : List Hunk) (e : Expects) (code : ℕ) → next_span text place ≡ None → finish e ≡ Err code
    → gathered text hunks (left text e place) ≡ Err (refusal (line_at text (length text)) code)
gather_cut text place hunks e code f h = rw (no_token text place f, h) refl

-- ---- a word more

-- a hunk begins
pub hunk_begun : (hunks : List Hunk) (q : Rest) → with_rest (hunks ++ hunk [] [] ∷ []) q ≡ with_rest hunks (rest [] [] (hunk q.words q.relocations ∷ q.hunks))
hunk_begun [] q = refl
hunk_begun (h ∷ []) q = rw (append-nil h.words, append-nil h.relocations) refl
hunk_begun (h ∷ k ∷ hs) q = ap (λ (xs : List Hunk). h ∷ xs) (hunk_begun (k ∷ hs) q)

beyond_first : (x y z : Hunk) (ys : List Hunk) (i : ℕ) (q : Rest) → with_rest (x ∷ set (y ∷ ys) i z) q ≡ x ∷ with_rest (set (y ∷ ys) i z) q
beyond_first x y z ys zero q = refl
beyond_first x y z ys (suc i) q = refl

-- the last hunk changes
with_last : (hs : List Hunk) (i : ℕ) (h z : Hunk) (q p : Rest) → i + 1 ≡ length hs → h ≡ get_or hs i h
    → hunk (z.words ++ q.words) (z.relocations ++ q.relocations) ≡ hunk (h.words ++ p.words) (h.relocations ++ p.relocations) → q.hunks ≡ p.hunks → with_rest (set hs i z) q ≡ with_rest hs p
with_last [] i h z q p e f k l = l
with_last (x ∷ []) zero h z q p e f k l = rw (← f, k, l) refl
with_last (x ∷ []) (suc i) h z q p e f k l = absurd (omega arith)
with_last (x ∷ y ∷ ys) zero h z q p e f k l = absurd (omega arith)
with_last (x ∷ y ∷ ys) (suc i) h z q p e f k l =
    beyond_first x y z ys i q ∙ ap (λ (hs : List Hunk). x ∷ hs) (with_last (y ∷ ys) i h z q p (omega arith) f k l)

-- a word of the last hunk
pub word_pushed : (hs : List Hunk) (i : ℕ) (h : Hunk) (w : ℕ) (q : Rest) → i + 1 ≡ length hs → h ≡ get_or hs i h
    → with_rest (set hs i (hunk (h.words ++ w ∷ []) h.relocations)) q ≡ with_rest hs (rest (w ∷ q.words) q.relocations q.hunks)
word_pushed hs i h w q e f =
    with_last hs i h (hunk (h.words ++ w ∷ []) h.relocations) q (rest (w ∷ q.words) q.relocations q.hunks) e f
    (ap (λ (ws : List ℕ). hunk ws (h.relocations ++ q.relocations)) (append_assoc h.words (w ∷ []) q.words)) refl

-- an offset into the last hunk
pub offset_pushed : (hs : List Hunk) (i : ℕ) (h : Hunk) (o : ℕ) (q : Rest) → i + 1 ≡ length hs → h ≡ get_or hs i h
    → with_rest (set hs i (hunk h.words (h.relocations ++ o ∷ []))) q ≡ with_rest hs (rest q.words (o ∷ q.relocations) q.hunks)
offset_pushed hs i h o q e f =
    with_last hs i h (hunk h.words (h.relocations ++ o ∷ [])) q (rest q.words (o ∷ q.relocations) q.hunks) e f
    (ap (λ (os : List ℕ). hunk (h.words ++ q.words) os) (append_assoc h.relocations (o ∷ []) q.relocations)) refl

-- ---- what the reading call returns

pub ok_from : {X : Type 0} (line : ℕ) (r : Result X ℕ) (x : X) → Ok x ≡ or_bad line r → r ≡ Ok x
ok_from line (Ok y) x e = cc
ok_from line (Err code) x e = cc

pub bad_from : {X : Type 0} (line : ℕ) (r : Result X ℕ) (end : TextEnd) → Err end ≡ or_bad line r → (code : ℕ) × (r ≡ Err code) × (end ≡ Bad line code)
bad_from line (Ok y) end e = cc
bad_from line (Err code) end e = (code, refl, cc)

pub gives_bad : (r : Result Module TextEnd) (read : Result Module Refusal) (end : TextEnd) (line code : ℕ) → r ≡ Err end → end ≡ Bad line code → read ≡ Err (refusal line code) → Gives (λ m. m) r read
gives_bad r read end line code e f h = rw (e, f) h
