-- The groups of tries, with one try more.
use Rattle.std.proofs.Common.{◌≡◌, ◌∙◌, ℕ, ◌==◌, ◌&&◌, ◌||◌, not, Bool, true, false, List, [], ◌∷◌, ◌++◌, map, cond, min, max, refl, sym, ap, arith, length-append, append-nil}
use Rattle.std.specs.List.{filter, list_any}
use Rattle.std.specs.Str.{bytes_eq}
use Rattle.std.proofs.lemmas.Bool.{eq-eqb, eqb-true, false≢true}
use Rattle.std.proofs.lemmas.List.{map-append}
use Rattle.std.proofs.lemmas.List.Elements.{filter-append}
use Rattle.std.proofs.lemmas.Slice.Eq.{bytes_eq-Decides}
use Rattle.kernel_model.specs.declared.kernel_record.stops.Stop.{Stop}
use Rattle.kernel_model.specs.declared.kernel_record.stops.Stop.TheVariants.{Steps, Quit, Finish, Fault}
use Rattle.byte_streams.specs.Faults.{one_more}
use Rattle.show_run.specs.ValueTries.Groups.{count_of, first_tries, group_of, group_with, groups_of, groups_with, is_alike, least_of, most_of, new_group}
use Rattle.show_run.specs.ValueTries.Outcomes.{is_same_ending, is_same_outcome, is_same_stop}
use Rattle.show_run.specs.ValueTries.Spans.{spans_after, spans_of, spans_with}
use Rattle.show_run.specs.declared.value_tries.groups.Group.{Group}
use Rattle.show_run.specs.declared.value_tries.outcomes.Ending.{Ending}
use Rattle.show_run.specs.declared.value_tries.outcomes.Ending.TheVariants.{Stopped, NoBoot, NoSession}
use Rattle.show_run.specs.declared.value_tries.outcomes.Outcome.{Outcome}
use Rattle.show_run.specs.declared.value_tries.outcomes.Try.{Try}
use Rattle.show_run.specs.declared.value_tries.spans.Span.{Span}

-- ---- outcomes that are the same are equal

both-true : (a b : Bool) → (a && b) ≡ true → (a ≡ true) × (b ≡ true)
both-true true true h = (refl, refl)
both-true true false h = absurd (false≢true h)
both-true false b h = absurd (false≢true h)

same-stop : (a b : Stop) → is_same_stop a b ≡ true → a ≡ b
same-stop Steps Steps h = refl
same-stop (Quit code) (Quit other) h = ap (λ c. Quit c) (eqb-true code other h)
same-stop Finish Finish h = refl
same-stop (Fault code address task) (Fault code2 address2 task2) h =
    let p = both-true ((code == code2) && (address == address2)) (task == task2) h in
    let q = both-true (code == code2) (address == address2) p.0 in
    ap (λ c. Fault c address task) (eqb-true code code2 q.0) ∙ (ap (λ a. Fault code2 a task) (eqb-true address address2 q.1) ∙ ap (λ t. Fault code2 address2 t) (eqb-true task task2 p.1))
same-stop _ _ h = absurd (false≢true h)

stop-itself : (a : Stop) → is_same_stop a a ≡ true
stop-itself Steps = refl
stop-itself (Quit code) = eq-eqb code code refl
stop-itself Finish = refl
stop-itself (Fault code address task) = rw (eq-eqb code code refl, eq-eqb address address refl, eq-eqb task task refl)

same-ending : (a b : Ending) → is_same_ending a b ≡ true → a ≡ b
same-ending (Stopped stop) (Stopped other) h = ap (λ s. Stopped s) (same-stop stop other h)
same-ending (NoBoot line code) (NoBoot line2 code2) h =
    let p = both-true (line == line2) (code == code2) h in
    ap (λ l. NoBoot l code) (eqb-true line line2 p.0) ∙ ap (λ c. NoBoot line2 c) (eqb-true code code2 p.1)
same-ending NoSession NoSession h = refl
same-ending _ _ h = absurd (false≢true h)

ending-itself : (a : Ending) → is_same_ending a a ≡ true
ending-itself (Stopped stop) = stop-itself stop
ending-itself (NoBoot line code) = rw (eq-eqb line line refl, eq-eqb code code refl)
ending-itself NoSession = refl

same-bytes : (xs ys : List ℕ) → bytes_eq xs ys ≡ true → xs ≡ ys
same-bytes xs ys h = grind (arith, h, bytes_eq-Decides)

bytes-itself : (xs : List ℕ) → bytes_eq xs xs ≡ true
bytes-itself xs = grind (arith, bytes_eq-Decides)

pub same-outcome : (a b : Outcome) → is_same_outcome a b ≡ true → a ≡ b
same-outcome a b h =
    let p = both-true (is_same_ending a.ending b.ending) (bytes_eq a.bytes b.bytes) h in
    ap (λ (e : Ending). record { bytes = a.bytes; ending = e }) (same-ending a.ending b.ending p.0)
    ∙ ap (λ (bs : List ℕ). record { bytes = bs; ending = b.ending }) (same-bytes a.bytes b.bytes p.1)

pub outcome-itself : (a : Outcome) → is_same_outcome a a ≡ true
outcome-itself a = rw (ending-itself a.ending) (bytes-itself a.bytes)

alike-outcomes : (a b : Try) → is_alike a b ≡ true → a.outcome ≡ b.outcome
alike-outcomes a b h = same-outcome a.outcome b.outcome h

-- tests with the same answers at `true` are one
same-test : (a b : Bool) → (a ≡ true → b ≡ true) → (b ≡ true → a ≡ true) → a ≡ b
same-test true b f g = sym (f refl)
same-test false true f g = g refl
same-test false false f g = refl

alike-sym : (a b : Try) → is_alike a b ≡ is_alike b a
alike-sym a b = same-test (is_alike a b) (is_alike b a) (turned a b) (turned b a)
  where
    turned : (x y : Try) → is_alike x y ≡ true → is_alike y x ≡ true
    turned x y h = ap (λ (o : Outcome). is_same_outcome y.outcome o) (alike-outcomes x y h) ∙ outcome-itself y.outcome

-- ---- filters

-- whether one of them came to what this one did
abbrev pub is_among : Try → List Try → Bool
is_among u ts = list_any (λ t. is_alike t u) ts

no-one-true : (a b : Bool) → (a || b) ≡ false → (a ≡ false) × (b ≡ false)
no-one-true true b h = absurd (false≢true (sym h))
no-one-true false b h = (refl, h)

none-alike : (u : Try) (ts : List Try) → is_among u ts ≡ false → filter (is_alike u) ts ≡ []
none-alike u [] h = refl
none-alike u (t ∷ ts) h =
    let p = no-one-true (is_alike t u) (is_among u ts) h in
    ap (λ b. cond b (t ∷ filter (is_alike u) ts) (filter (is_alike u) ts)) (alike-sym u t ∙ p.0) ∙ none-alike u ts p.1

-- what came to something else than t is still there
among-others : (t u : Try) (ts : List Try) → is_alike t u ≡ false → is_among u (filter (λ o. not (is_alike t o)) ts) ≡ is_among u ts
among-others t u [] h = refl
among-others t u (o ∷ ts) h = go (among-others t u ts h) (is_alike t o) refl
  where
    rest : List Try
    rest = filter (λ o. not (is_alike t o)) ts

    go : is_among u rest ≡ is_among u ts → (b : Bool) → is_alike t o ≡ b → is_among u (cond (not (is_alike t o)) (o ∷ rest) rest) ≡ (is_alike o u || is_among u ts)
    go more true e =
        let other : is_alike o u ≡ false = ap (λ (x : Outcome). is_same_outcome x u.outcome) (sym (alike-outcomes t o e)) ∙ h in
        rw (e, other) more
    go more false e = rw e (ap (λ b. is_alike o u || b) more)

pub among-first : (u : Try) (ts : List Try) → is_among u (first_tries ts) ≡ is_among u ts
among-first u [] = refl
among-first u (t ∷ ts) = go (among-first u ts) (is_alike t u) refl
  where
    others : List Try
    others = filter (λ o. not (is_alike t o)) (first_tries ts)

    go : is_among u (first_tries ts) ≡ is_among u ts → (b : Bool) → is_alike t u ≡ b → (is_alike t u || is_among u others) ≡ (is_alike t u || is_among u ts)
    go more true e = rw e
    go more false e = rw e (among-others t u (first_tries ts) e ∙ more)

-- ---- the first tries

pub first_tries-more : (u : Try) (ts : List Try) → first_tries (ts ++ u ∷ []) ≡ cond (is_among u ts) (first_tries ts) (first_tries ts ++ u ∷ [])
first_tries-more u [] = refl
first_tries-more u (t ∷ ts) = ap (λ fs. t ∷ filter differs fs) (first_tries-more u ts) ∙ go (is_alike t u) refl (is_among u ts)
  where
    differs : Try → Bool
    differs o = not (is_alike t o)

    go : (b : Bool) → is_alike t u ≡ b → (d : Bool) → (t ∷ filter differs (cond d (first_tries ts) (first_tries ts ++ u ∷ [])))
        ≡ cond (is_alike t u || d) (t ∷ filter differs (first_tries ts)) (t ∷ (filter differs (first_tries ts) ++ u ∷ []))
    go true e true = rw e
    go false e true = rw e
    go true e false = rw e (ap (λ fs. t ∷ fs) (filter-append differs (first_tries ts) (u ∷ []) ∙ (ap (λ b. filter differs (first_tries ts) ++ cond (not b) (u ∷ []) []) e ∙ append-nil (filter differs (first_tries ts)))))
    go false e false = rw e (ap (λ fs. t ∷ fs) (filter-append differs (first_tries ts) (u ∷ []) ∙ ap (λ b. filter differs (first_tries ts) ++ cond (not b) (u ∷ []) []) e))

-- no two of them came to the same
abbrev pub AreApart : List Try → Type 0
AreApart [] = Unit {0}
AreApart (f ∷ fs) = (is_among f fs ≡ false) × AreApart fs

not-among-fewer : (p : Try → Bool) (u : Try) (fs : List Try) → is_among u fs ≡ false → is_among u (filter p fs) ≡ false
not-among-fewer p u [] h = refl
not-among-fewer p u (f ∷ fs) h =
    let both = no-one-true (is_alike f u) (is_among u fs) h in
    go both.0 (not-among-fewer p u fs both.1) (p f)
  where
    go : is_alike f u ≡ false → is_among u (filter p fs) ≡ false → (b : Bool) → is_among u (cond b (f ∷ filter p fs) (filter p fs)) ≡ false
    go other more true = rw other more
    go other more false = more

apart-fewer : (p : Try → Bool) (fs : List Try) → AreApart fs → AreApart (filter p fs)
apart-fewer p [] h = tt
apart-fewer p (f ∷ fs) h = go (apart-fewer p fs h.1) (p f)
  where
    go : AreApart (filter p fs) → (b : Bool) → AreApart (cond b (f ∷ filter p fs) (filter p fs))
    go more true = (not-among-fewer p f fs h.0, more)
    go more false = more

not-among-others : (t : Try) (ts : List Try) → is_among t (filter (λ o. not (is_alike t o)) ts) ≡ false
not-among-others t [] = refl
not-among-others t (o ∷ ts) = go (not-among-others t ts) (is_alike t o) refl
  where
    rest : List Try
    rest = filter (λ o. not (is_alike t o)) ts

    go : is_among t rest ≡ false → (b : Bool) → is_alike t o ≡ b → is_among t (cond (not (is_alike t o)) (o ∷ rest) rest) ≡ false
    go more true e = rw e more
    go more false e = rw e (ap (λ b. b || is_among t rest) (alike-sym o t ∙ e) ∙ more)

pub first-apart : (ts : List Try) → AreApart (first_tries ts)
first-apart [] = tt
first-apart (t ∷ ts) = (not-among-others t (first_tries ts), apart-fewer (λ o. not (is_alike t o)) (first_tries ts) (first-apart ts))

-- ---- groups

least-more : (n m : ℕ) (ms : List ℕ) → least_of n (ms ++ m ∷ []) ≡ min (least_of n ms) m
least-more n m [] = refl
least-more n m (x ∷ ms) = least-more (min n x) m ms

most-more : (n m : ℕ) (ms : List ℕ) → most_of n (ms ++ m ∷ []) ≡ max (most_of n ms) m
most-more n m [] = refl
most-more n m (x ∷ ms) = most-more (max n x) m ms

spans-more : (spans : List Span) (v : ℕ) (vs : List ℕ) → spans_after spans (vs ++ v ∷ []) ≡ spans_with v (spans_after spans vs)
spans-more spans v [] = refl
spans-more spans v (x ∷ vs) = spans-more (spans_with x spans) v vs

pub count-more : {X : Type 0} (x : X) (xs : List X) → count_of (xs ++ x ∷ []) ≡ one_more (count_of xs)
count-more x xs = rw length-append (omega arith)

-- a group with these fields
abbrev group_from : Outcome → ℕ → ℕ → ℕ → List Span → Group
group_from outcome count least most spans = record { outcome = outcome; count = count; least = least; most = most; spans = spans }

group-more : (f u : Try) (ts : List Try) → group_of f (ts ++ u ∷ []) ≡ group_with u.value u.steps (group_of f ts)
group-more f u ts =
    let o = f.outcome in
    let steps = map (λ (t : Try). t.steps) ts in
    let values = map (λ (t : Try). t.value) ts in
    let all-steps : map (λ (t : Try). t.steps) (ts ++ u ∷ []) ≡ steps ++ u.steps ∷ [] = map-append (λ (t : Try). t.steps) ts (u ∷ []) in
    let all-values : map (λ (t : Try). t.value) (ts ++ u ∷ []) ≡ values ++ u.value ∷ [] = map-append (λ (t : Try). t.value) ts (u ∷ []) in
    let count : count_of (ts ++ u ∷ []) ≡ one_more (count_of ts) = count-more u ts in
    let least : least_of f.steps (map (λ (t : Try). t.steps) (ts ++ u ∷ [])) ≡ min (least_of f.steps steps) u.steps = ap (least_of f.steps) all-steps ∙ least-more f.steps u.steps steps in
    let most : most_of f.steps (map (λ (t : Try). t.steps) (ts ++ u ∷ [])) ≡ max (most_of f.steps steps) u.steps = ap (most_of f.steps) all-steps ∙ most-more f.steps u.steps steps in
    let spans : spans_of (map (λ (t : Try). t.value) (ts ++ u ∷ [])) ≡ spans_with u.value (spans_of values) = ap spans_of all-values ∙ spans-more [] u.value values in
    rw (count, least, most, spans)

group-new : (u : Try) → group_of u (u ∷ []) ≡ new_group u
group-new u =
    let least : min u.steps u.steps ≡ u.steps = omega arith in
    let most : max u.steps u.steps ≡ u.steps = omega arith in
    rw (least, most)

-- the group of which this try is the first
abbrev group_in : List Try → Try → Group
group_in ts f = group_of f (filter (is_alike f) ts)

filter-alike : (f u : Try) (ts : List Try) (b : Bool) → is_alike f u ≡ b → filter (is_alike f) (ts ++ u ∷ []) ≡ filter (is_alike f) ts ++ cond b (u ∷ []) []
filter-alike f u ts b e = filter-append (is_alike f) ts (u ∷ []) ∙ ap (λ d. filter (is_alike f) ts ++ cond d (u ∷ []) []) e

in-same : (f u : Try) (ts : List Try) → is_alike f u ≡ true → group_in (ts ++ u ∷ []) f ≡ group_with u.value u.steps (group_in ts f)
in-same f u ts e = ap (group_of f) (filter-alike f u ts true e) ∙ group-more f u (filter (is_alike f) ts)

in-other : (f u : Try) (ts : List Try) → is_alike f u ≡ false → group_in (ts ++ u ∷ []) f ≡ group_in ts f
in-other f u ts e = ap (group_of f) (filter-alike f u ts false e ∙ append-nil (filter (is_alike f) ts))

all-other : (u : Try) (ts fs : List Try) → is_among u fs ≡ false → map (group_in (ts ++ u ∷ [])) fs ≡ map (group_in ts) fs
all-other u ts [] h = refl
all-other u ts (f ∷ fs) h =
    let p = no-one-true (is_alike f u) (is_among u fs) h in
    ap (λ g. g ∷ map (group_in (ts ++ u ∷ [])) fs) (in-other f u ts p.0) ∙ ap (λ gs. group_in ts f ∷ gs) (all-other u ts fs p.1)

with-other : (u : Try) (ts fs : List Try) → is_among u fs ≡ false → groups_with u (map (group_in ts) fs) ≡ map (group_in ts) fs ++ new_group u ∷ []
with-other u ts [] h = refl
with-other u ts (f ∷ fs) h =
    let p = no-one-true (is_alike f u) (is_among u fs) h in
    rw p.0 (ap (λ gs. group_in ts f ∷ gs) (with-other u ts fs p.1))

with-same : (u : Try) (ts fs : List Try) → AreApart fs → is_among u fs ≡ true → map (group_in (ts ++ u ∷ [])) fs ≡ groups_with u (map (group_in ts) fs)
with-same u ts [] apart h = absurd (false≢true h)
with-same u ts (f ∷ fs) apart h = go (λ there. with-same u ts fs apart.1 there) (is_alike f u) refl
  where
    go : (is_among u fs ≡ true → map (group_in (ts ++ u ∷ [])) fs ≡ groups_with u (map (group_in ts) fs)) → (b : Bool) → is_alike f u ≡ b → map (group_in (ts ++ u ∷ [])) (f ∷ fs) ≡ groups_with u (map (group_in ts) (f ∷ fs))
    go more true e =
        let none : is_among u fs ≡ false = ap (λ (o : Outcome). list_any (λ (t : Try). is_same_outcome t.outcome o) fs) (sym (alike-outcomes f u e)) ∙ apart.0 in
        ap (λ g. g ∷ map (group_in (ts ++ u ∷ [])) fs) (in-same f u ts e) ∙ (ap (λ gs. group_with u.value u.steps (group_in ts f) ∷ gs) (all-other u ts fs none)
        ∙ ap (λ b. cond b (group_with u.value u.steps (group_in ts f) ∷ map (group_in ts) fs) (group_in ts f ∷ groups_with u (map (group_in ts) fs))) (sym e))
    go more false e =
        let there : is_among u fs ≡ true = ap (λ b. b || is_among u fs) (sym e) ∙ h in
        ap (λ g. g ∷ map (group_in (ts ++ u ∷ [])) fs) (in-other f u ts e) ∙ (ap (λ gs. group_in ts f ∷ gs) (more there)
        ∙ ap (λ b. cond b (group_with u.value u.steps (group_in ts f) ∷ map (group_in ts) fs) (group_in ts f ∷ groups_with u (map (group_in ts) fs))) (sym e))

-- one try more comes into the groups as it was said
pub groups-more : (u : Try) (ts : List Try) → groups_of (ts ++ u ∷ []) ≡ groups_with u (groups_of ts)
groups-more u ts = ap (map (group_in (ts ++ u ∷ []))) (first_tries-more u ts) ∙ go (is_among u ts) refl
  where
    fs : List Try
    fs = first_tries ts

    go : (b : Bool) → is_among u ts ≡ b → map (group_in (ts ++ u ∷ [])) (cond (is_among u ts) fs (fs ++ u ∷ [])) ≡ groups_with u (map (group_in ts) fs)
    go true e = rw e (with-same u ts fs (first-apart ts) (among-first u ts ∙ e))
    go false e =
        let none : is_among u fs ≡ false = among-first u ts ∙ e in
        let alone : filter (is_alike u) (ts ++ u ∷ []) ≡ u ∷ [] =
        filter-alike u u ts true (outcome-itself u.outcome) ∙ ap (λ us. us ++ u ∷ []) (none-alike u ts e) in
        rw e (map-append (group_in (ts ++ u ∷ [])) fs (u ∷ []) ∙ (ap (λ gs. gs ++ group_in (ts ++ u ∷ []) u ∷ []) (all-other u ts fs none)
        ∙ (ap (λ g. map (group_in ts) fs ++ g ∷ []) (ap (group_of u) alone ∙ group-new u) ∙ sym (with-other u ts fs none))))
