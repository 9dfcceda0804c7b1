-- The tries of values, one more at a time, in a session that has some of the values.
use Rattle.std.proofs.Common.{◌≡◌, ◌∙◌, ℕ, ◌+◌, ◌-◌, ◌<◌, ◌≤◌, ◌&&◌, true, cond, List, [], ◌∷◌, ◌++◌, map, length, take, get_or, refl, sym, ap, subst, arith, append-nil}
use Rattle.std.specs.List.{flat_map, range_with_len}
use Rattle.std.proofs.lemmas.List.{append_assoc, map-append}
use Rattle.std.proofs.lemmas.List.FromFn.{map-range_with_len_more}
use Rattle.byte_streams.proofs.AppendedTexts.{flat_map-more}
use Rattle.session_text.specs.Canonical.{IsLawful}
use Rattle.session_text.specs.declared.sessions.Session.{Session}
use Rattle.show_run.specs.ValueTries.Runs.{SameTries, has_session, no_session, session_try}
use Rattle.show_run.specs.ValueTries.Settings.{is_in_range, is_there, session_with}
use Rattle.show_run.specs.ValueTries.Spans.{span_of, values_of}
use Rattle.show_run.specs.declared.value_tries.outcomes.Try.{Try}
use Rattle.show_run.specs.declared.value_tries.settings.Setting.{Setting}
use Rattle.show_run.specs.declared.value_tries.spans.Span.{Span}
use Rattle.show_run.proofs.ValueTries.LawfulSettings.{both, lawful-with, set-twice, there-with}

-- ---- sessions of which all tries are the same

pub same-itself : (k : Setting) (s : Session) → IsLawful s → SameTries k s s
same-itself k s h = record { lawful = h; same = λ w. refl }

pub same-then : (k : Setting) (s t u : Session) → SameTries k s t → SameTries k t u → SameTries k s u
same-then k s t u a b = record { lawful = b.lawful; same = λ w. b.same w ∙ a.same w }

pub same-with : (k : Setting) (v : ℕ) (s : Session) → IsLawful s → has_session k s v ≡ true → SameTries k s (session_with k v s)
same-with k v s h has =
    let p = both (is_there k s) (is_in_range k v) has in
    record {
      lawful = lawful-with k v s h p.0 p.1;
      same = λ w. ap (λ b. cond (b && is_in_range k w) (session_try w (session_with k w (session_with k v s))) (no_session w)) (there-with k v s)
          ∙ ap (λ (t : Session). cond (has_session k s w) (session_try w t) (no_session w)) (set-twice k v w s);
    }

-- ---- values in a row

pub none-tried : {X : Type 0} (f : ℕ → X) (xs : List X) (a : ℕ) → xs ++ map f (range_with_len a (a - a)) ≡ xs
none-tried f xs a = let e : a - a ≡ 0 = omega arith in rw e (append-nil xs)

pub one-more : {X : Type 0} (f : ℕ → X) (xs : List X) (a v : ℕ) → a ≤ v → xs ++ map f (range_with_len a (v + 1 - a)) ≡ (xs ++ map f (range_with_len a (v - a))) ++ f v ∷ []
one-more f xs a v le =
    let e : v + 1 - a ≡ v - a + 1 = omega (arith, le) in
    ap (λ n. xs ++ map f (range_with_len a n)) e ∙ (ap (λ ys. xs ++ ys) (map-range_with_len_more f a (v - a) v (omega (arith, le))) ∙ sym (append_assoc xs (map f (range_with_len a (v - a))) (f v ∷ [])))

-- what holds of the tries so far and one more holds of one value more
pub tried-more : (P : List Try → Type 0) (f : ℕ → Try) (tries : List Try) (a v : ℕ) (one : Try) → a ≤ v → one ≡ f v
    → P ((tries ++ map f (range_with_len a (v - a))) ++ one ∷ []) → P (tries ++ map f (range_with_len a (v + 1 - a)))
tried-more P f tries a v one le is h =
    subst P (sym (one-more f tries a v le)) (subst (λ (o : Try). P ((tries ++ map f (range_with_len a (v - a))) ++ o ∷ [])) is h)

map-same : {X Y : Type 0} (f g : X → Y) → ((x : X) → f x ≡ g x) → (xs : List X) → map f xs ≡ map g xs
map-same f g each [] = refl
map-same f g each (x ∷ xs) = ap (λ y. y ∷ map f xs) (each x) ∙ ap (λ ys. g x ∷ ys) (map-same f g each xs)

-- the same of one span more
pub tried-span : (P : List Try → Type 0) (f g : ℕ → Try) (spans : List Span) (i : ℕ) → i < length spans → ((v : ℕ) → f v ≡ g v)
    → P (map g (flat_map values_of (take i spans)) ++ map f (values_of (get_or spans i (span_of 0)))) → P (map g (flat_map values_of (take (i + 1) spans)))
tried-span P f g spans i lt each h =
    let values = flat_map values_of (take i spans) in
    let next = values_of (get_or spans i (span_of 0)) in
    subst P (sym (ap (map g) (flat_map-more values_of spans i (span_of 0) lt) ∙ map-append g values next))
    (subst (λ (ts : List Try). P (map g values ++ ts)) (map-same f g each next) h)
