-- The lines before the sessions, from what was read and back.
use Rattle.std.proofs.Common.{◌≡◌, ◌∙◌, ℕ, Bool, true, false, cond, ◌&&◌, Option, Some, None, Ok, Err, List, [], ◌∷◌, ◌++◌, length, refl, ap, subst}
use Rattle.std.specs.Prelude.{codes, option_and_then}
use Rattle.std.specs.List.{list_all}
use Rattle.std.specs.Option.{ok_or}
use Rattle.std.specs.Str.{bytes_eq}
use Rattle.std.proofs.lemmas.Bool.{and_parts}
use Rattle.std.proofs.lemmas.Slice.Eq.{bytes_eq-Decides}
use Rattle.module_text.specs.TextReader.Fields.{after_word}
use Rattle.module_text.specs.TextReader.Numbers.{number_of}
use Rattle.module_text.specs.TextReader.Refusal.{refusal}
use Rattle.module_text.proofs.TextReader.FieldLemmas.{after_word-again, after_word-ok}
use Rattle.module_text.proofs.TextReader.NumberLemmas.{number_in-again, number_in-ok}
use Rattle.module_text.proofs.TextReader.StepLemmas.{bind-ok, guard-ok, ok_or-ok}
use Rattle.session_text.specs.Statements.{number_field}
use Rattle.session_text.proofs.Blanks.{number_field-again, number_field-ok}
use Rattle.machine_ring.specs.RingLink.Heads.{head_lines, is_letter, is_letter_count, is_round_count, is_wait, letters, letters_after, letters_line, numbers, numbers_line}
use Rattle.machine_ring.specs.RingLink.NextLines.{line_after, next_line}
use Rattle.machine_ring.specs.RingLink.RingForm.{AreLetters}
use Rattle.machine_ring.specs.RingLink.TwoNumbers.{SaysTwoNumbers, two_numbers}
use Rattle.machine_ring.specs.declared.ring_link.heads.Head.{Head}
use Rattle.session_text.proofs.StatementLines.{and_then-ok}

-- ---- one line after another

next_line-ok : (n : ℕ) (lines : List (List ℕ)) (x : List ℕ × List (List ℕ)) → next_line n lines ≡ Ok x → lines ≡ x.0 ∷ x.1
next_line-ok n [] x e = cc e
next_line-ok n (line ∷ lines) x e = cc e

pub line_after-ok : (word : List ℕ) (n : ℕ) (lines rest : List (List ℕ)) → line_after word n lines ≡ Ok rest → lines ≡ word ∷ rest
line_after-ok word n lines rest e =
    let a = bind-ok (next_line n lines) (λ first. cond (bytes_eq first.0 word) (Ok first.1) (Err (refusal n 1))) rest e in
    let g = guard-ok (bytes_eq a.0.0 word) a.0.1 rest (refusal n 1) a.2 in
    next_line-ok n lines a.0 a.1 ∙ (λ i. (bytes_eq-Decides a.0.0 word).0 g.0 i ∷ g.1 i)

-- ---- the two numbers

two_numbers-ok : (line : List ℕ) (both : ℕ × ℕ) → two_numbers line ≡ Some both → SaysTwoNumbers both line
two_numbers-ok line both e =
    let a = and_then-ok (after_word (codes "RING ") line) (λ text. option_and_then (λ rounds. option_and_then (λ wait. Some (rounds.0, wait)) (number_of rounds.1)) (number_field text)) both e in
    let b = and_then-ok (number_field a.0) (λ rounds. option_and_then (λ wait. Some (rounds.0, wait)) (number_of rounds.1)) both a.2 in
    let c = and_then-ok (number_of b.0.1) (λ wait. Some (b.0.0, wait)) both b.2 in
    let same : (b.0.0, c.0) ≡ both = cc c.2 in
    let field = number_field-ok a.0 b.0 b.1 in
    let is = after_word-ok (codes "RING ") line a.0 a.1 ∙ ap (λ (text : List ℕ). codes "RING " ++ text) field.2 in
    subst (λ (x : ℕ × ℕ). SaysTwoNumbers x line) same (field.0, b.0.1, field.1, number_in-ok 10 10 b.0.1 c.0 c.1, is)

two_numbers-again : (line : List ℕ) (both : ℕ × ℕ) → SaysTwoNumbers both line → two_numbers line ≡ Some both
two_numbers-again line both h =
    rw (h.4, number_field-again h.0 h.1 both.0 h.2, number_in-again 10 10 h.1 both.1 h.3) refl

numbers-ok : (line : List ℕ) (both : ℕ × ℕ) → numbers line ≡ Ok both → SaysTwoNumbers both line × (is_round_count both.0 ≡ true) × (is_wait both.1 ≡ true)
numbers-ok line both e =
    let b = bind-ok (ok_or (two_numbers line) (refusal 1 1)) (λ x. cond (is_round_count x.0 && is_wait x.1) (Ok x) (Err (refusal 1 2))) both e in
    let g = guard-ok (is_round_count b.0.0 && is_wait b.0.1) b.0 both (refusal 1 2) b.2 in
    let t = and_parts (is_round_count b.0.0) (is_wait b.0.1) g.0 in
    subst (λ (x : ℕ × ℕ). SaysTwoNumbers x line × (is_round_count x.0 ≡ true) × (is_wait x.1 ≡ true)) g.1 (two_numbers-ok line b.0 (ok_or-ok _ _ b.0 b.1), t.0, t.1)

pub numbers-again : (line : List ℕ) (both : ℕ × ℕ) → SaysTwoNumbers both line → is_round_count both.0 ≡ true → is_wait both.1 ≡ true → numbers line ≡ Ok both
numbers-again line both h r w = rw (two_numbers-again line both h, r, w) refl

-- ---- letters

letters_by : (n : ℕ) (text x : List ℕ) (all few : Bool) → list_all is_letter text ≡ all → is_letter_count (length text) ≡ few
    → cond all (cond few (Ok text) (Err (refusal n 2))) (Err (refusal n 1)) ≡ Ok x → (text ≡ x) × AreLetters text
letters_by n text x true true a b e = (cc e, (a, b))
letters_by n text x true false a b e = cc e
letters_by n text x false few a b e = cc e

letters_after-ok : (word : List ℕ) (n : ℕ) (line x : List ℕ) → letters_after word n line ≡ Ok x → (line ≡ word ++ x) × AreLetters x
letters_after-ok word n line x e =
    let b = bind-ok (ok_or (after_word word line) (refusal n 1)) (letters n) x e in
    let l = letters_by n b.0 x (list_all is_letter b.0) (is_letter_count (length b.0)) refl refl b.2 in
    subst (λ (y : List ℕ). (line ≡ word ++ y) × AreLetters y) l.0 (after_word-ok word line b.0 (ok_or-ok _ _ b.0 b.1), l.1)

pub letters_after-again : (word : List ℕ) (n : ℕ) (x : List ℕ) → AreLetters x → letters_after word n (word ++ x) ≡ Ok x
letters_after-again word n x h = rw (after_word-again word x, h.0, h.1) refl

-- ---- all four

numbers_line-ok : (lines : List (List ℕ)) (x : (ℕ × ℕ) × List (List ℕ)) → numbers_line lines ≡ Ok x
    → (line : List ℕ) × (lines ≡ line ∷ x.1) × SaysTwoNumbers x.0 line × (is_round_count x.0.0 ≡ true) × (is_wait x.0.1 ≡ true)
numbers_line-ok [] x e = cc e
numbers_line-ok (line ∷ lines) x e =
    let b = bind-ok (numbers line) (λ both. Ok (both, lines)) x e in
    let same : (b.0, lines) ≡ x = cc b.2 in
    let both = numbers-ok line b.0 b.1 in
    subst (λ (y : (ℕ × ℕ) × List (List ℕ)). (l : List ℕ) × (line ∷ lines ≡ l ∷ y.1) × SaysTwoNumbers y.0 l × (is_round_count y.0.0 ≡ true) × (is_wait y.0.1 ≡ true)) same
    (line, refl, both.0, both.1, both.2)

letters_line-ok : (word : List ℕ) (n : ℕ) (lines : List (List ℕ)) (x : List ℕ × List (List ℕ)) → letters_line word n lines ≡ Ok x → (lines ≡ (word ++ x.0) ∷ x.1) × AreLetters x.0
letters_line-ok word n [] x e = cc e
letters_line-ok word n (line ∷ lines) x e =
    let b = bind-ok (letters_after word n line) (λ found. Ok (found, lines)) x e in
    let l = letters_after-ok word n line b.0 b.1 in
    let same : (b.0, lines) ≡ x = cc b.2 in
    subst (λ (y : List ℕ × List (List ℕ)). (line ∷ lines ≡ (word ++ y.0) ∷ y.1) × AreLetters y.0) same (ap (λ (first : List ℕ). first ∷ lines) l.0, l.1)

-- what these lines say
pub record AreHeadLines (head : Head) (lines rest : List (List ℕ)) : Type 0 where
  -- the line of the numbers
  pub first : List ℕ
  -- the lines after these
  pub all : lines ≡ first ∷ (codes "LINK :" ++ head.link) ∷ (codes "ACKS :" ++ head.acks) ∷ codes "LEFT" ∷ rest
  -- the first line has the rounds and the wait
  pub numbers : SaysTwoNumbers (head.rounds, head.wait) first
  -- in their ranges
  pub rounds : is_round_count head.rounds ≡ true
  pub wait : is_wait head.wait ≡ true
  -- the next two have letters
  pub link : AreLetters head.link
  pub acks : AreLetters head.acks

pub head_lines-ok : (lines : List (List ℕ)) (x : Head × List (List ℕ)) → head_lines lines ≡ Ok x → AreHeadLines x.0 lines x.1
head_lines-ok lines x e =
    let a = bind-ok (numbers_line lines) _ x e in
    let b = bind-ok (letters_line (codes "LINK :") 2 a.0.1) _ x a.2 in
    let c = bind-ok (letters_line (codes "ACKS :") 3 b.0.1) _ x b.2 in
    let d = bind-ok (line_after (codes "LEFT") 4 c.0.1) _ x c.2 in
    let first = numbers_line-ok lines a.0 a.1 in
    let link = letters_line-ok (codes "LINK :") 2 a.0.1 b.0 b.1 in
    let acks = letters_line-ok (codes "ACKS :") 3 b.0.1 c.0 c.1 in
    let left = line_after-ok (codes "LEFT") 4 c.0.1 d.0 d.1 in
    let head : Head = record { rounds = a.0.0.0; wait = a.0.0.1; link = b.0.0; acks = c.0.0 } in
    let same : (head, d.0) ≡ x = cc d.2 in
    subst (λ (y : Head × List (List ℕ)). AreHeadLines y.0 lines y.1) same (record {
      first = first.0;
      all = first.1 ∙ ap (λ (ls : List (List ℕ)). first.0 ∷ ls) (link.0 ∙ ap (λ (ls : List (List ℕ)). (codes "LINK :" ++ b.0.0) ∷ ls) (acks.0 ∙ ap (λ (ls : List (List ℕ)). (codes "ACKS :" ++ c.0.0) ∷ ls) left));
      numbers = first.2;
      rounds = first.3;
      wait = first.4;
      link = link.1;
      acks = acks.1;
    })

pub head_lines-again : (head : Head) (lines rest : List (List ℕ)) → AreHeadLines head lines rest → head_lines lines ≡ Ok (head, rest)
head_lines-again head lines rest h =
    rw (h.all, numbers-again h.first (head.rounds, head.wait) h.numbers h.rounds h.wait, letters_after-again (codes "LINK :") 2 head.link h.link, letters_after-again (codes "ACKS :") 3 head.acks h.acks) refl
