-- The reading of a ring, one line or session after another.
use Rattle.std.proofs.Common.{◌≡◌, ℕ, ◌+◌, ◌⊎◌, inl, inr, Bool, true, false, cond, ◌&&◌, Result, Ok, Err, List, [], ◌∷◌, ◌++◌, length, refl, sym, ap}
use Rattle.std.specs.Prelude.{codes}
use Rattle.std.specs.List.{list_all}
use Rattle.std.specs.Option.{ok_or}
use Rattle.std.specs.Str.{bytes_eq}
use Rattle.std.proofs.lemmas.Slice.Eq.{bytes_eq-Decides}
use Rattle.module_text.specs.TextReader.Fields.{after_word}
use Rattle.module_text.specs.TextReader.Refusal.{Refusal, refusal}
use Rattle.module_text.specs.TextReader.Steps.{◌>>=◌}
use Rattle.module_text.proofs.TextReader.StepLemmas.{bind-err, guard-err, ok_or-err}
use Rattle.session_text.specs.declared.sessions.Session.{Session}
use Rattle.machine_ring.specs.RingLink.Heads.{is_letter, is_letter_count, is_round_count, is_wait, letters, letters_after, letters_line, numbers}
use Rattle.machine_ring.specs.RingLink.Machines.{behind, kernel_lines, left_lines}
use Rattle.machine_ring.specs.RingLink.NextLines.{line_after}
use Rattle.machine_ring.specs.RingLink.RingOfText.{ring_lines}
use Rattle.machine_ring.specs.RingLink.TwoNumbers.{two_numbers}
use Rattle.machine_ring.specs.declared.ring_link.heads.Head.{Head}
use Rattle.machine_ring.specs.declared.ring_link.inputs.RingInput.{RingInput}
use Rattle.machine_ring.specs.declared.ring_link.inputs.TheConstants.{LEFT_LINE}
use Rattle.machine_ring.proofs.RingLink.HeadLines.{letters_after-again}
use Rattle.machine_ring.proofs.RingLink.LeftStops.{by_left, by_left-reader}
use Rattle.machine_ring.proofs.RingLink.RightStops.{by_right, by_right-reader}
use Rattle.machine_ring.proofs.RingLink.Stops.{IsLineCode, IsReader, IsTest, Reader, by_line, by_line-reader}

-- ---- the parts

-- line n is this word
abbrev word_result : Bool → ℕ → Result (Unit {0}) Refusal
word_result b n = cond b (Ok tt) (Err (refusal n 1))

abbrev word_test : List ℕ → ℕ → List ℕ → Result (Unit {0}) Refusal
word_test word n line = word_result (bytes_eq line word) n

abbrev made : ℕ × ℕ → List ℕ → List ℕ → Session → ℕ → Session → RingInput
made both link acks left count right = record {
  rounds = both.0;
  wait = both.1;
  link = link;
  acks = acks;
  left = left;
  right = right;
  left_line = LEFT_LINE;
  right_line = LEFT_LINE + count + 1;
}

abbrev right_part : ℕ × ℕ → List ℕ → List ℕ → Session → ℕ → Reader
right_part both link acks left count =
    by_line (LEFT_LINE + count + 1) (word_test (codes "RIGHT") (LEFT_LINE + count + 1)) (λ _. by_right (made both link acks left count) (LEFT_LINE + count + 1))

abbrev left_part : ℕ × ℕ → List ℕ → List ℕ → Reader
left_part both link acks = by_line 4 (word_test (codes "LEFT") 4) (λ _. by_left (right_part both link acks))

abbrev acks_part : ℕ × ℕ → List ℕ → Reader
acks_part both link = by_line 3 (letters_after (codes "ACKS :") 3) (left_part both link)

abbrev link_part : ℕ × ℕ → Reader
link_part both = by_line 2 (letters_after (codes "LINK :") 2) (acks_part both)

abbrev pub by_parts : Reader
by_parts = by_line 1 numbers link_part

-- ---- each says where it stops

numbers-test : IsTest 1 numbers link_part
numbers-test = record {
  line = codes "RING 0 1";
  value = (0, 1);
  accepts = refl;
  refuses = λ line r e. elim (bind-err (ok_or (two_numbers line) (refusal 1 1)) (λ x. cond (is_round_count x.0 && is_wait x.1) (Ok x) (Err (refusal 1 2))) r e) [
    | inl p ↦
        let w = ok_or-err (two_numbers line) (refusal 1 1) r p in
        (sym (ap (λ (x : Refusal). x.line) w.1), inl (sym (ap (λ (x : Refusal). x.code) w.1)))
    | inr p ↦
        let w = guard-err (is_round_count p.0.0 && is_wait p.0.1) p.0 (refusal 1 2) r p.2 in
        (sym (ap (λ (x : Refusal). x.line) w.1), inr (sym (ap (λ (x : Refusal). x.code) w.1)))
  ];
}

letters_by : (n : ℕ) (text : List ℕ) (all few : Bool) (r : Refusal) → cond all (cond few (Ok text) (Err (refusal n 2))) (Err (refusal n 1)) ≡ Err r → (r.line ≡ n) × IsLineCode r.code
letters_by n text true few r e =
    let w = guard-err few text (refusal n 2) r e in
    (sym (ap (λ (x : Refusal). x.line) w.1), inr (sym (ap (λ (x : Refusal). x.code) w.1)))
letters_by n text false few r e =
    let w = guard-err false text (refusal n 1) r e in
    (sym (ap (λ (x : Refusal). x.line) w.1), inl (sym (ap (λ (x : Refusal). x.code) w.1)))

letters-test : (word : List ℕ) (n : ℕ) (g : List ℕ → Reader) → IsTest n (letters_after word n) g
letters-test word n g = record {
  line = word ++ codes "D";
  value = codes "D";
  accepts = letters_after-again word n (codes "D") (refl, refl);
  refuses = λ line r e. elim (bind-err (ok_or (after_word word line) (refusal n 1)) (letters n) r e) [
    | inl p ↦
        let w = ok_or-err (after_word word line) (refusal n 1) r p in
        (sym (ap (λ (x : Refusal). x.line) w.1), inl (sym (ap (λ (x : Refusal). x.code) w.1)))
    | inr p ↦ letters_by n p.0 (list_all is_letter p.0) (is_letter_count (length p.0)) r p.2
  ];
}

word-test : (word : List ℕ) (n : ℕ) (g : Unit {0} → Reader) → IsTest n (word_test word n) g
word-test word n g = record {
  line = word;
  value = tt;
  accepts = rw ((bytes_eq-Decides word word).1 refl) refl;
  refuses = λ line r e.
      let w = guard-err {A = Unit {0}} (bytes_eq line word) tt (refusal n 1) r e in
      (sym (ap (λ (x : Refusal). x.line) w.1), inl (sym (ap (λ (x : Refusal). x.code) w.1)));
}

module _ (both : ℕ × ℕ) where
  right-reader : (link acks : List ℕ) (left : Session) (count : ℕ) → IsReader (right_part both link acks left count) (LEFT_LINE + count + 1)
  right-reader link acks left count =
      let n = LEFT_LINE + count + 1 in
      by_line-reader n (word_test (codes "RIGHT") n) (λ _. by_right (made both link acks left count) n) (word-test (codes "RIGHT") n (λ _. by_right (made both link acks left count) n))
      (λ _. by_right-reader (made both link acks left count) n)

  left-reader : (link acks : List ℕ) → IsReader (left_part both link acks) 4
  left-reader link acks =
      by_line-reader 4 (word_test (codes "LEFT") 4) (λ _. by_left (right_part both link acks)) (word-test (codes "LEFT") 4 (λ _. by_left (right_part both link acks)))
      (λ _. by_left-reader (right_part both link acks) (right-reader link acks))

  acks-reader : (link : List ℕ) → IsReader (acks_part both link) 3
  acks-reader link = by_line-reader 3 (letters_after (codes "ACKS :") 3) (left_part both link) (letters-test (codes "ACKS :") 3 (left_part both link)) (left-reader link)

  link-reader : IsReader (link_part both) 2
  link-reader = by_line-reader 2 (letters_after (codes "LINK :") 2) (acks_part both) (letters-test (codes "LINK :") 2 (acks_part both)) acks-reader

pub parts-reader : IsReader by_parts 1
parts-reader = by_line-reader 1 numbers link_part numbers-test link-reader

-- ---- they are the reading of a ring

ok_cases : {X E : Type 0} (r : Result X E) → ((x : X) × (r ≡ Ok x)) ⊎ ((e : E) × (r ≡ Err e))
ok_cases (Ok x) = inl (x, refl)
ok_cases (Err e) = inr (e, refl)

-- what follows the head
abbrev after_head : Head × List (List ℕ) → Result RingInput Refusal
after_head head =
    behind LEFT_LINE (left_lines head.1) >>= λ left.
    line_after (codes "RIGHT") (LEFT_LINE + left.1.1 + 1) left.1.0 >>= λ rest.
    behind (LEFT_LINE + left.1.1 + 1) (kernel_lines rest) >>= λ right.
    Ok (made (head.0.rounds, head.0.wait) head.0.link head.0.acks left.0 left.1.1 right)

abbrev head_of : ℕ × ℕ → List ℕ → List ℕ → Head
head_of both link acks = record { rounds = both.0; wait = both.1; link = link; acks = acks }

abbrev after_acks : ℕ × ℕ → List ℕ → List ℕ → List (List ℕ) → Result (Head × List (List ℕ)) Refusal
after_acks both link acks lines = line_after (codes "LEFT") 4 lines >>= λ rest. Ok (head_of both link acks, rest)

abbrev after_link : ℕ × ℕ → List ℕ → List (List ℕ) → Result (Head × List (List ℕ)) Refusal
after_link both link lines = letters_line (codes "ACKS :") 3 lines >>= λ acks. after_acks both link acks.0 acks.1

abbrev after_numbers : ℕ × ℕ → List (List ℕ) → Result (Head × List (List ℕ)) Refusal
after_numbers both lines = letters_line (codes "LINK :") 2 lines >>= λ link. after_link both link.0 link.1

module _ (both : ℕ × ℕ) (link acks : List ℕ) where
  right_is-by : (left : Session) (count : ℕ) (lines : List (List ℕ)) (b : Bool) → (cond b (Ok lines) (Err (refusal (LEFT_LINE + count + 1) 1)) >>= by_right (made both link acks left count) (LEFT_LINE + count + 1))
      ≡ (word_result b (LEFT_LINE + count + 1) >>= λ _. by_right (made both link acks left count) (LEFT_LINE + count + 1) lines)
  right_is-by left count lines true = refl
  right_is-by left count lines false = refl

  right_is : (left : Session) (count : ℕ) (lines : List (List ℕ)) → (line_after (codes "RIGHT") (LEFT_LINE + count + 1) lines >>= by_right (made both link acks left count) (LEFT_LINE + count + 1)) ≡ right_part both link acks left count lines
  right_is left count [] = refl
  right_is left count (line ∷ lines) = right_is-by left count lines (bytes_eq line (codes "RIGHT"))

  machines_are : (lines : List (List ℕ)) → after_head (head_of both link acks, lines) ≡ by_left (right_part both link acks) lines
  machines_are lines =
      elim (ok_cases (left_lines lines)) [
        | inl x ↦ rw x.1 (right_is x.0.0 x.0.1.1 x.0.1.0)
        | inr x ↦ rw x.1 refl
      ]

  left_is-by : (lines : List (List ℕ)) (b : Bool) → ((cond b (Ok lines) (Err (refusal 4 1)) >>= λ rest. Ok (head_of both link acks, rest)) >>= after_head)
      ≡ (word_result b 4 >>= λ _. by_left (right_part both link acks) lines)
  left_is-by lines true = machines_are lines
  left_is-by lines false = refl

  left_is : (lines : List (List ℕ)) → (after_acks both link acks lines >>= after_head) ≡ left_part both link acks lines
  left_is [] = refl
  left_is (line ∷ lines) = left_is-by lines (bytes_eq line (codes "LEFT"))

acks_are : (both : ℕ × ℕ) (link : List ℕ) (lines : List (List ℕ)) → (after_link both link lines >>= after_head) ≡ acks_part both link lines
acks_are both link [] = refl
acks_are both link (line ∷ lines) =
    elim (ok_cases (letters_after (codes "ACKS :") 3 line)) [
      | inl x ↦ rw x.1 (left_is both link x.0 lines)
      | inr x ↦ rw x.1 refl
    ]

link_is : (both : ℕ × ℕ) (lines : List (List ℕ)) → (after_numbers both lines >>= after_head) ≡ link_part both lines
link_is both [] = refl
link_is both (line ∷ lines) =
    elim (ok_cases (letters_after (codes "LINK :") 2 line)) [
      | inl x ↦ rw x.1 (acks_are both x.0 lines)
      | inr x ↦ rw x.1 refl
    ]

pub ring_lines-parts : (lines : List (List ℕ)) → ring_lines lines ≡ by_parts lines
ring_lines-parts [] = refl
ring_lines-parts (line ∷ lines) =
    elim (ok_cases (numbers line)) [
      | inl x ↦ rw x.1 (link_is x.0 lines)
      | inr x ↦ rw x.1 refl
    ]
