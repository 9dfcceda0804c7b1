-- A text is refused exactly at its first line in error, or where it ends too early.
use Rattle.std.proofs.Common.{◌≡◌, ◌∙◌, ℕ, ◌<◌, ◌≤◌, ◌⊎◌, ◌↔◌, inl, inr, Result, Ok, Err, List, [], ◌∷◌, ◌++◌, length, refl, sym, ap, subst, arith, append_assoc, append-nil, length-append}
use Rattle.module_text.specs.TextReader.Lines.{lines_of}
use Rattle.module_text.specs.TextReader.Refusal.{Refusal, refusal}
use Rattle.machine_ring.specs.RingLink.FirstError.{BeginRing, EndsEarly, IsFirstError, IsRefused}
use Rattle.machine_ring.specs.RingLink.RingForm.{AreRingLines}
use Rattle.machine_ring.specs.RingLink.RingOfText.{ring_lines, ring_of}
use Rattle.machine_ring.specs.declared.ring_link.inputs.RingInput.{RingInput}
use Rattle.machine_ring.proofs.RingLink.RingReaders.{by_parts, parts-reader, ring_lines-parts}
use Rattle.machine_ring.proofs.RingLink.RingTexts.{complete_ring, sound_ring}
use Rattle.machine_ring.proofs.RingLink.Stops.{Begins, IsLineCode, Stops}

-- ---- what stopping says of rings

begins_ring : (front : List (List ℕ)) → Begins by_parts front → BeginRing front
begins_ring front b = (b.1, b.0, sound_ring (front ++ b.0) b.1 (ring_lines-parts (front ++ b.0) ∙ b.2))

-- no ring begins with lines that are refused whatever follows
none_begins : (front : List (List ℕ)) (line : List ℕ) (r : Refusal) → ((more : List (List ℕ)) → by_parts (front ++ line ∷ more) ≡ Err r) → ¬ BeginRing (front ++ line ∷ [])
none_begins front line r again b =
    let lines = (front ++ line ∷ []) ++ b.1 in
    let read = sym (ring_lines-parts lines) ∙ complete_ring lines b.0 b.2 in
    let refused = ap by_parts (append_assoc front (line ∷ []) b.1) ∙ again b.1 in
    cc (sym read ∙ refused)

-- the front of lines with which a ring begins
begins_front : (front more : List (List ℕ)) → BeginRing (front ++ more) → BeginRing front
begins_front front more b = (b.0, more ++ b.1, subst (AreRingLines b.0) (append_assoc front more b.1) b.2)

stops_at : (lines : List (List ℕ)) (r : Refusal) → ring_lines lines ≡ Err r → Stops by_parts 1 lines r
stops_at lines r e = parts-reader.stops lines r (sym (ring_lines-parts lines) ∙ e)

-- ---- two fronts of the same lines

-- the shorter one is a front of the other
record IsFront (a b c d : List (List ℕ)) : Type 0 where
  pub middle : List (List ℕ)
  pub longer : c ≡ a ++ middle
  pub left : b ≡ middle ++ d

front_is : (a b c d : List (List ℕ)) → a ++ b ≡ c ++ d → length a ≤ length c → IsFront a b c d
front_is [] b c d e h = record { middle = c; longer = refl; left = e }
front_is (x ∷ xs) b [] d e h = absurd (omega arith)
front_is (x ∷ xs) b (y ∷ ys) d e h =
    let first : x ≡ y = cc e in
    let others : xs ++ b ≡ ys ++ d = cc e in
    let f = front_is xs b ys d others (omega arith) in
    record { middle = f.middle; longer = (λ i. sym first i ∷ f.longer i); left = f.left }

same_length : (a b : ℕ) → ¬ (a < b) → ¬ (b < a) → a ≡ b
same_length a b h k = grind arith

-- ---- a line

code_is : (code : ℕ) → IsLineCode code → code ≡ 3 → ⊥
code_is code (inl e) f = absurd (omega arith)
code_is code (inr e) f = absurd (omega arith)

first_error : (text : List ℕ) (n code : ℕ) → IsLineCode code → ring_lines (lines_of text) ≡ Err (refusal n code) → IsFirstError text n
first_error text n code is e =
    let s = stops_at (lines_of text) (refusal n code) e in
    elim s.why [
      | inl w ↦ absurd (code_is code is w.1)
      | inr w ↦ record {
        front = s.front;
        line = w.0;
        rest = w.1;
        all = s.all ∙ ap (λ (ls : List (List ℕ)). s.front ++ ls) w.2;
        number = let number = s.number in omega arith;
        before = begins_ring s.front s.before;
        up_to = none_begins s.front w.0 (refusal n code) w.4;
      }
    ]

refused_is : (text : List ℕ) (n code : ℕ) → IsLineCode code → ring_lines (lines_of text) ≡ Err (refusal n code) → IsRefused text n 1 ⊎ IsRefused text n 2
unfolding ring_of
refused_is text n code (inl is) e = inl (e ∙ ap (λ (c : ℕ). Err (refusal n c)) is)
refused_is text n code (inr is) e = inr (e ∙ ap (λ (c : ℕ). Err (refusal n c)) is)

module _ (text : List ℕ) (n : ℕ) (f : IsFirstError text n) where
  not_read : (ring : RingInput) → ring_lines (lines_of text) ≡ Ok ring → ⊥
  not_read ring e =
      let are = subst (AreRingLines ring) (f.all ∙ sym (append_assoc f.front (f.line ∷ []) f.rest)) (sound_ring (lines_of text) ring e) in
      f.up_to (ring, f.rest, are)

  -- it stops there, and not before
  not_before : (r : Refusal) (s : Stops by_parts 1 (lines_of text) r) → length s.front < length f.front → ⊥
  not_before r s less =
      let i = front_is s.front s.back f.front (f.line ∷ f.rest) (sym s.all ∙ f.all) (omega arith) in
      let size = ap length i.longer in
      let longer = length-append s.front i.middle in
      elim s.why [
        | inl w ↦
            let none = ap length (sym w.0 ∙ i.left) in
            absurd (omega (arith, none, length-append i.middle (f.line ∷ f.rest)))
        | inr w ↦ line_before r s i.middle i.longer i.left w.0 w.1 w.2 w.4 (omega arith)
      ]
    where
      line_before : (r : Refusal) (s : Stops by_parts 1 (lines_of text) r) (middle : List (List ℕ)) → f.front ≡ s.front ++ middle → s.back ≡ middle ++ f.line ∷ f.rest → (line : List ℕ) (rest : List (List ℕ)) → s.back ≡ line ∷ rest
          → ((more : List (List ℕ)) → by_parts (s.front ++ line ∷ more) ≡ Err r) → 0 < length middle → ⊥
      line_before r s [] longer left line rest back again some = absurd (omega arith)
      line_before r s (m ∷ ms) longer left line rest back again some =
          let same : m ≡ line = cc (sym left ∙ back) in
          let front : f.front ≡ (s.front ++ line ∷ []) ++ ms = longer ∙ ap (λ (l : List ℕ). s.front ++ l ∷ ms) same ∙ sym (append_assoc s.front (line ∷ []) ms) in
          none_begins s.front line r again (begins_front (s.front ++ line ∷ []) ms (subst BeginRing front f.before))

  -- and not behind
  not_behind : (r : Refusal) (s : Stops by_parts 1 (lines_of text) r) → length f.front < length s.front → ⊥
  not_behind r s more =
      let i = front_is f.front (f.line ∷ f.rest) s.front s.back (sym f.all ∙ s.all) (omega arith) in
      let size = ap length i.longer in
      line_behind i.middle i.longer i.left (omega (arith, length-append f.front i.middle))
    where
      line_behind : (middle : List (List ℕ)) → s.front ≡ f.front ++ middle → f.line ∷ f.rest ≡ middle ++ s.back → 0 < length middle → ⊥
      line_behind [] longer left some = absurd (omega arith)
      line_behind (m ∷ ms) longer left some =
          let same : m ≡ f.line = cc left in
          let front : s.front ≡ (f.front ++ f.line ∷ []) ++ ms = longer ∙ ap (λ (l : List ℕ). f.front ++ l ∷ ms) same ∙ sym (append_assoc f.front (f.line ∷ []) ms) in
          f.up_to (begins_front (f.front ++ f.line ∷ []) ms (subst BeginRing front (begins_ring s.front s.before)))

  line_code : (r : Refusal) (s : Stops by_parts 1 (lines_of text) r) → length s.front ≡ length f.front → IsLineCode r.code
  line_code r s same =
      elim s.why [
        | inl w ↦
            let all = ap length (sym f.all ∙ s.all) in
            let none = ap length w.0 in
            absurd (omega (arith, all, none, length-append f.front (f.line ∷ f.rest), length-append s.front s.back))
        | inr w ↦ w.3
      ]

  there : (r : Refusal) → ring_lines (lines_of text) ≡ Err r → (s : Stops by_parts 1 (lines_of text) r) → length s.front ≡ length f.front → IsRefused text n 1 ⊎ IsRefused text n 2
  there r e s same =
      let number = s.number in
      let first = f.number in
      let line : r.line ≡ n = omega arith in
      refused_is text n r.code (line_code r s same) (e ∙ ap (λ (k : ℕ). Err (refusal k r.code)) line)

  by_read : (o : Result RingInput Refusal) → ring_lines (lines_of text) ≡ o → IsRefused text n 1 ⊎ IsRefused text n 2
  by_read (Ok ring) e = absurd (not_read ring e)
  by_read (Err r) e =
      let s = stops_at (lines_of text) r e in
      there r e s (same_length (length s.front) (length f.front) (not_before r s) (not_behind r s))

-- ---- the end

ends_early : (text : List ℕ) (n : ℕ) → ring_lines (lines_of text) ≡ Err (refusal n 3) → EndsEarly text n
ends_early text n e =
    let s = stops_at (lines_of text) (refusal n 3) e in
    elim s.why [
      | inl w ↦
          let all : lines_of text ≡ s.front = s.all ∙ ap (λ (ls : List (List ℕ)). s.front ++ ls) w.0 ∙ append-nil s.front in
          record {
            next = let number = s.number in let size = ap length all in omega arith;
            before = subst BeginRing (sym all) (begins_ring s.front s.before);
            short = λ ring are. cc (sym (complete_ring (lines_of text) ring are) ∙ e);
          }
      | inr w ↦ absurd (code_is 3 w.3 refl)
    ]

module _ (text : List ℕ) (n : ℕ) (f : EndsEarly text n) where
  end_line : (r : Refusal) (s : Stops by_parts 1 (lines_of text) r) → (r.line ≡ n) × (r.code ≡ 3)
  end_line r s =
      elim s.why [
        | inl w ↦
            let all = ap length (s.all ∙ ap (λ (ls : List (List ℕ)). s.front ++ ls) w.0 ∙ append-nil s.front) in
            let number = s.number in
            let next = f.next in
            (omega arith, w.1)
        | inr w ↦
            let all : lines_of text ≡ (s.front ++ w.0 ∷ []) ++ w.1 = s.all ∙ ap (λ (ls : List (List ℕ)). s.front ++ ls) w.2 ∙ sym (append_assoc s.front (w.0 ∷ []) w.1) in
            absurd (none_begins s.front w.0 r w.4 (begins_front (s.front ++ w.0 ∷ []) w.1 (subst BeginRing all f.before)))
      ]

  by_end : (o : Result RingInput Refusal) → ring_lines (lines_of text) ≡ o → ring_lines (lines_of text) ≡ Err (refusal n 3)
  by_end (Ok ring) e = absurd (f.short ring (sound_ring (lines_of text) ring e))
  by_end (Err r) e =
      let is = end_line r (stops_at (lines_of text) r e) in
      e ∙ (λ i. Err (refusal (is.0 i) (is.1 i)))

-- ---- the laws

pub line_law : (text : List ℕ) (n : ℕ) → (IsRefused text n 1 ⊎ IsRefused text n 2) ↔ IsFirstError text n
unfolding ring_of
line_law text n = (
  λ e. elim e [
    | inl a ↦ first_error text n 1 (inl refl) a
    | inr b ↦ first_error text n 2 (inr refl) b
  ],
  λ f. by_read text n f (ring_lines (lines_of text)) refl,
)

pub end_law : (text : List ℕ) (n : ℕ) → IsRefused text n 3 ↔ EndsEarly text n
unfolding ring_of
end_law text n = (λ e. ends_early text n e, λ f. by_end text n f (ring_lines (lines_of text)) refl)

code_bound : (n code : ℕ) (s : IsLineCode code ⊎ (code ≡ 3)) → (1 ≤ code) × (code ≤ 3)
code_bound n code (inl (inl e)) = (omega arith, omega arith)
code_bound n code (inl (inr e)) = (omega arith, omega arith)
code_bound n code (inr e) = (omega arith, omega arith)

pub codes_law : (text : List ℕ) (n code : ℕ) → IsRefused text n code → (1 ≤ code) × (code ≤ 3)
unfolding ring_of
codes_law text n code e =
    let s = stops_at (lines_of text) (refusal n code) e in
    elim s.why [
      | inl w ↦ code_bound n code (inr w.1)
      | inr w ↦ code_bound n code (inl w.3)
    ]
