-- Spans, with one value more.
use Rattle.std.proofs.Common.{◌≡◌, ◌∙◌, ℕ, suc, ◌+◌, ◌-◌, ◌≤◌, Bool, true, false, cond, eqb, List, [], ◌∷◌, ◌++◌, refl, sym, ap, arith, append-nil, zero}
use Rattle.std.specs.List.{flat_map, range_with_len}
use Rattle.std.specs.List.{AllByRecursion}
use Rattle.std.proofs.lemmas.Bool.{eqb-true}
use Rattle.std.proofs.lemmas.List.{append_assoc}
use Rattle.show_run.specs.ValueTries.Spans.{span_of, spans_after, spans_of, spans_with, values_of}
use Rattle.show_run.specs.declared.value_tries.spans.Span.{Span}

-- only the last span may become longer
pub spans_with-append : (value : ℕ) (spans : List Span) (last : Span) → spans_with value (spans ++ last ∷ []) ≡ spans ++ spans_with value (last ∷ [])
spans_with-append value [] last = refl
spans_with-append value (span ∷ []) last = refl
spans_with-append value (span ∷ next ∷ spans) last = ap (λ ss. span ∷ ss) (spans_with-append value (next ∷ spans) last)

-- ---- the values of spans

range-more : (a n : ℕ) → range_with_len a (n + 1) ≡ range_with_len a n ++ (a + n) ∷ []
range-more a zero = let e : a + 0 ≡ a = omega arith in rw e
range-more a (suc n) =
    let e : suc n + 1 ≡ suc (n + 1) = omega arith in
    let f : a + 1 + n ≡ a + suc n = omega arith in
    ap (range_with_len a) e ∙ (ap (λ ns. a ∷ ns) (range-more (a + 1) n) ∙ ap (λ m. a ∷ (range_with_len (a + 1) n ++ m ∷ [])) f)

-- a span has a value at least
abbrev pub IsSpan : Span → Type 0
IsSpan span = span.first ≤ span.last

one-value : (v : ℕ) → values_of (span_of v) ≡ v ∷ []
one-value v = let e : v + 1 - v ≡ 1 = omega arith in rw e

longer-span : (span : Span) (v : ℕ) → IsSpan span → span.last + 1 ≡ v → values_of (record span { last = v }) ≡ values_of span ++ v ∷ []
longer-span span v is next =
    let e : v + 1 - span.first ≡ span.last + 1 - span.first + 1 = omega (arith, is, next) in
    let f : span.first + (span.last + 1 - span.first) ≡ v = omega (arith, is, next) in
    ap (range_with_len span.first) e ∙ (range-more span.first (span.last + 1 - span.first) ∙ ap (λ m. range_with_len span.first (span.last + 1 - span.first) ++ m ∷ []) f)

spans-are : (v : ℕ) (spans : List Span) → AllByRecursion IsSpan spans → AllByRecursion IsSpan (spans_with v spans)
spans-are v [] h = (omega arith, tt)
spans-are v (span ∷ []) h = go (eqb (span.last + 1) v) refl
  where
    go : (b : Bool) → eqb (span.last + 1) v ≡ b → AllByRecursion IsSpan (cond b (record span { last = v } ∷ []) (span ∷ span_of v ∷ []))
    go true e = let is : span.first ≤ span.last = h.0 in (omega (arith, is, eqb-true (span.last + 1) v e), tt)
    go false e = (h.0, (omega arith, tt))
spans-are v (span ∷ next ∷ spans) h = (h.0, spans-are v (next ∷ spans) h.1)

values-more : (v : ℕ) (spans : List Span) → AllByRecursion IsSpan spans → flat_map values_of (spans_with v spans) ≡ flat_map values_of spans ++ v ∷ []
values-more v [] h = ap (λ vs. vs ++ []) (one-value v)
values-more v (span ∷ []) h = go (eqb (span.last + 1) v) refl
  where
    go : (b : Bool) → eqb (span.last + 1) v ≡ b → flat_map values_of (cond b (record span { last = v } ∷ []) (span ∷ span_of v ∷ [])) ≡ (values_of span ++ []) ++ v ∷ []
    go true e = append-nil (values_of (record span { last = v })) ∙ (longer-span span v h.0 (eqb-true (span.last + 1) v e) ∙ ap (λ vs. vs ++ v ∷ []) (sym (append-nil (values_of span))))
    go false e = ap (λ vs. values_of span ++ (vs ++ [])) (one-value v) ∙ ap (λ vs. vs ++ v ∷ []) (sym (append-nil (values_of span)))
values-more v (span ∷ next ∷ spans) h =
    ap (λ vs. values_of span ++ vs) (values-more v (next ∷ spans) h.1) ∙ sym (append_assoc (values_of span) (flat_map values_of (next ∷ spans)) (v ∷ []))

values-after : (vs : List ℕ) (spans : List Span) → AllByRecursion IsSpan spans → flat_map values_of (spans_after spans vs) ≡ flat_map values_of spans ++ vs
values-after [] spans h = sym (append-nil (flat_map values_of spans))
values-after (v ∷ vs) spans h =
    values-after vs (spans_with v spans) (spans-are v spans h) ∙ (ap (λ us. us ++ vs) (values-more v spans h) ∙ append_assoc (flat_map values_of spans) (v ∷ []) vs)

pub values-of-spans : (vs : List ℕ) → flat_map values_of (spans_of vs) ≡ vs
values-of-spans vs = values-after vs [] tt
