-- A text is refused exactly where it is by the rules.
use Rattle.std.proofs.Common.{◌≡◌, ◌∙◌, ℕ, ◌≤◌, ◌+◌, ◌↔◌, ◌⊎◌, inl, inr, Result, Ok, Err, List, [], ◌∷◌, ◌++◌, length, refl, sym, ap, subst, arith, append-nil}
use Rattle.module_text.specs.TextReader.Lines.{lines_of, text_of_lines}
use Rattle.module_text.specs.TextReader.Refusal.{Refusal, refusal}
use Rattle.module_text.proofs.TextReader.PlainLines.{lines_of_text_of_lines}
use Rattle.saved_text.specs.FirstError.{BeginImage, EndsEarly, IsFirstError}
use Rattle.saved_text.specs.ImageForm.{AreImageLines, IsImage}
use Rattle.saved_text.specs.ImageOfText.{IsRefused, ended, first_draft, image_of, read_on, step}
use Rattle.saved_text.specs.declared.drafts.Draft.{Draft}
use Rattle.saved_text.specs.declared.images.Image.{Image}
use Rattle.saved_text.proofs.Advances.{BeginLines, IsOf, StopsAt, advance, advance-begin, advance-more, begin_lines-advance, ended_err, read_on-behind, read_on-err, step-err}
use Rattle.saved_text.proofs.CompleteText.{complete}
use Rattle.saved_text.proofs.PrintedText.{plain_image}
use Rattle.saved_text.proofs.Sound.{sound}
use Rattle.session_text.proofs.TextRefusals.{line_of-same}

-- ---- lines and texts

-- lines that begin a machine's lines begin a text of it
begin_text : (front : List (List ℕ)) → BeginLines front → BeginImage front
begin_text front b =
    let lines = front ++ b.1 in
    let same = lines_of_text_of_lines lines (plain_image b.0 lines b.2) in
    (text_of_lines lines, b.0, b.1, subst (AreImageLines b.0) (sym same) b.2, same)

begin_lines : (front : List (List ℕ)) → BeginImage front → BeginLines front
begin_lines front b = (b.1, b.2, subst (AreImageLines b.1) b.4 b.3)

-- ---- behind lines that were accepted

module _ (front : List (List ℕ)) (at : Draft) (before : advance first_draft 1 front ≡ Ok at) where
  next_begins : (line : List ℕ) (e : Draft) → step at (1 + length front) line ≡ Ok e → BeginImage (front ++ line ∷ [])
  next_begins line e ok =
      begin_text (front ++ line ∷ []) (begin_lines-advance (front ++ line ∷ []) e (advance-more first_draft at 1 (1 + length front) front line refl before ∙ ok))

  next_accepted : (line : List ℕ) → BeginImage (front ++ line ∷ []) → (e : Draft) × (step at (1 + length front) line ≡ Ok e)
  next_accepted line b =
      let a = advance-begin (front ++ line ∷ []) (begin_lines (front ++ line ∷ []) b) in
      (a.0, sym (advance-more first_draft at 1 (1 + length front) front line refl before) ∙ a.1)

  refused_begins : (line : List ℕ) (r : Refusal) → step at (1 + length front) line ≡ Err r → ¬ BeginImage (front ++ line ∷ [])
  refused_begins line r e b = let a = next_accepted line b in cc (sym a.1 ∙ e)

-- ---- what a refusal says

first_error : (text : List ℕ) (n : ℕ) (r : Refusal) (s : StopsAt first_draft 1 (lines_of text) r) → 1 + length s.front ≡ n → IsFirstError text n
first_error text n r s number = record {
  front = s.front;
  line = s.line;
  rest = s.after;
  all = s.all;
  number = omega (arith, number);
  before = begin_text s.front (begin_lines-advance s.front s.at s.before);
  up_to = refused_begins s.front s.at s.before s.line r s.stops;
}

-- what a code says of a text
abbrev Meaning : List ℕ → ℕ → ℕ → Type 0
Meaning text n code = (((code ≡ 1) ⊎ (code ≡ 2)) × IsFirstError text n) ⊎ ((code ≡ 3) × EndsEarly text n)

says_at : (text : List ℕ) (n code : ℕ) (s : StopsAt first_draft 1 (lines_of text) (refusal n code)) → IsOf (1 + length s.front) (refusal n code) → Meaning text n code
says_at text n code s (inl w) = let e = line_of-same (1 + length s.front) n 1 code w in inl (inl (sym e.1), first_error text n (refusal n code) s e.0)
says_at text n code s (inr w) = let e = line_of-same (1 + length s.front) n 2 code w in inl (inr (sym e.1), first_error text n (refusal n code) s e.0)

not_read : (text : List ℕ) (x : Image) (r : Refusal) → image_of text ≡ Err r → ¬ IsImage text x
not_read text x r e h = cc (sym (complete text x h) ∙ e)

says : (text : List ℕ) (n code : ℕ) → image_of text ≡ Err (refusal n code) → Meaning text n code
says text n code e =
    elim (read_on-err first_draft 1 (lines_of text) (refusal n code) e) [
      | inl s ↦ says_at text n code s (step-err s.at (1 + length s.front) s.line (refusal n code) s.stops)
      | inr s ↦
          let same = line_of-same (1 + length (lines_of text)) n 3 code s.refused in
          inr (
            sym same.1,
            record {
              next = omega (arith, same.0);
              before = begin_text (lines_of text) (begin_lines-advance (lines_of text) s.at s.before);
              short = λ k. not_read text k (refusal n code) e;
            },
          )
    ]

says_first : (text : List ℕ) (n code : ℕ) → (code ≡ 1) ⊎ (code ≡ 2) → Meaning text n code → IsFirstError text n
says_first text n code h (inl m) = m.1
says_first text n code (inl h) (inr m) = let e = m.0 in absurd (omega (arith, h, e))
says_first text n code (inr h) (inr m) = let e = m.0 in absurd (omega (arith, h, e))

says_end : (text : List ℕ) (n code : ℕ) → code ≡ 3 → Meaning text n code → EndsEarly text n
says_end text n code h (inr m) = m.1
says_end text n code h (inl (inl e, m)) = absurd (omega (arith, h, e))
says_end text n code h (inl (inr e, m)) = absurd (omega (arith, h, e))

bound_of : (text : List ℕ) (n code : ℕ) → Meaning text n code → (1 ≤ code) × (code ≤ 3)
bound_of text n code (inl (inl e, m)) = (omega (arith, e), omega (arith, e))
bound_of text n code (inl (inr e, m)) = (omega (arith, e), omega (arith, e))
bound_of text n code (inr m) = let e = m.0 in (omega (arith, e), omega (arith, e))

pub code_bound : (text : List ℕ) (n code : ℕ) → IsRefused text n code → (1 ≤ code) × (code ≤ 3)
code_bound text n code e = bound_of text n code (says text n code e)

-- ---- and back

stops : (front : List (List ℕ)) (line : List ℕ) (rest : List (List ℕ)) (at : Draft) (r : Refusal) → advance first_draft 1 front ≡ Ok at → step at (1 + length front) line ≡ Err r
    → read_on first_draft 1 (front ++ line ∷ rest) ≡ Err r
stops front line rest at r before e = read_on-behind first_draft at 1 (1 + length front) front (line ∷ rest) refl before ∙ rw e refl

refused_is : (text : List ℕ) (m n : ℕ) (w : Refusal) → m ≡ n → IsOf m w → image_of text ≡ Err w → IsRefused text n 1 ⊎ IsRefused text n 2
refused_is text m n w number (inl p) e = inl (e ∙ ap (λ (d : Refusal). Err d) (sym p ∙ ap (λ (k : ℕ). refusal k 1) number))
refused_is text m n w number (inr p) e = inr (e ∙ ap (λ (d : Refusal). Err d) (sym p ∙ ap (λ (k : ℕ). refusal k 2) number))

module _ (text : List ℕ) (n : ℕ) (f : IsFirstError text n) where
  refused_by : (at : Draft) (before : advance first_draft 1 f.front ≡ Ok at) (r : Result Draft Refusal) → step at (1 + length f.front) f.line ≡ r → IsRefused text n 1 ⊎ IsRefused text n 2
  refused_by at before (Ok e) h = absurd (f.up_to (next_begins f.front at before f.line e h))
  refused_by at before (Err w) h =
      let number : 1 + length f.front ≡ n = let k = f.number in omega arith in
      refused_is text (1 + length f.front) n w number (step-err at (1 + length f.front) f.line w h)
      (ap (read_on first_draft 1) f.all ∙ stops f.front f.line f.rest at w before h)

first_back : (text : List ℕ) (n : ℕ) → IsFirstError text n → IsRefused text n 1 ⊎ IsRefused text n 2
first_back text n f =
    let a = advance-begin f.front (begin_lines f.front f.before) in
    refused_by text n f a.0 a.1 (step a.0 (1 + length f.front) f.line) refl

module _ (text : List ℕ) (n : ℕ) (f : EndsEarly text n) (at : Draft) where
  end_by : (r : Result Image Refusal) → image_of text ≡ r → ended at.place at.image (1 + length (lines_of text)) ≡ r → IsRefused text n 3
  end_by (Ok x) e h = absurd (f.short x (sound text x e))
  end_by (Err r) e h =
      let code = ended_err at.place at.image (1 + length (lines_of text)) r h in
      let number : 1 + length (lines_of text) ≡ n = let k = f.next in omega arith in
      e ∙ ap (λ (d : Refusal). Err d) (sym code ∙ ap (λ (k : ℕ). refusal k 3) number)

end_back : (text : List ℕ) (n : ℕ) → EndsEarly text n → IsRefused text n 3
end_back text n f =
    let lines = lines_of text in
    let a = advance-begin lines (begin_lines lines f.before) in
    let behind : image_of text ≡ ended a.0.place a.0.image (1 + length lines)
    = ap (read_on first_draft 1) (sym (append-nil lines)) ∙ read_on-behind first_draft a.0 1 (1 + length lines) lines [] refl a.1 in
    end_by text n f a.0 (ended a.0.place a.0.image (1 + length lines)) behind refl

-- ---- the codes

first_says : (text : List ℕ) (n : ℕ) → IsRefused text n 1 ⊎ IsRefused text n 2 → IsFirstError text n
first_says text n (inl e) = says_first text n 1 (inl refl) (says text n 1 e)
first_says text n (inr e) = says_first text n 2 (inr refl) (says text n 2 e)

pub first_law : (text : List ℕ) (n : ℕ) → (IsRefused text n 1 ⊎ IsRefused text n 2) ↔ IsFirstError text n
first_law text n = (first_says text n, first_back text n)

pub end_law : (text : List ℕ) (n : ℕ) → IsRefused text n 3 ↔ EndsEarly text n
end_law text n = (λ e. says_end text n 3 refl (says text n 3 e), end_back text n)
