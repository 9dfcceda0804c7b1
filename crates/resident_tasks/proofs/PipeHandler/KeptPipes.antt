-- Pipes stay lawful, whatever request is made.
use Rattle.std.proofs.Common.{◌≡◌, ◌≢◌, ℕ, zero, suc, ◌+◌, ◌<◌, ◌≤◌, Bool, true, false, cond, not, ◌||◌, Option, Some, None, List, [], ◌∷◌, length, get_or, set, ltb, refl, sym, ap, subst, ◌∙◌, arith, inl, inr}
use Rattle.std.specs.List.{list_any, position, position_or_len}
use Rattle.std.specs.Option.{is_none, option_or}
use Rattle.std.specs.Str.{bytes_eq}
use Rattle.std.proofs.lemmas.Bool.{and_parts, cases_eq, ltb-false, or_right, true≢false, or_parts}
use Rattle.std.proofs.lemmas.List.{get_or-set_other, get_or-set_same, length-set}
use Rattle.std.proofs.lemmas.List.Quantifiers.{position-Some}
use Rattle.std.proofs.lemmas.Slice.Eq.{bytes_eq-Decides}
use Rattle.ram_disc.specs.Name.{IsName}
use Rattle.word_store.proofs.EqualTexts.{bytes_eq-self}
use Rattle.kernel_model.specs.KernelRecord.Kernel.{Pipe}
use Rattle.kernel_model.specs.KernelRecord.Pipes.{ArePipes, IsPipe, most_held, pipe_at}
use Rattle.resident_tasks.specs.PipeHandler.Ends.{closed, is_named, opened, place_for, without_end}
use Rattle.resident_tasks.specs.PipeHandler.PipeCalls.{are_ends, holding, pipe_with}

-- ---- one place changes

-- no other pipe has this name
abbrev pub IsNew : List (Option Pipe) → ℕ → List ℕ → Type 0
IsNew ps j name = (k : ℕ) (p : Pipe) → k ≢ j → pipe_at ps k ≡ Some p → p.name ≢ name

pub set-kept : (ps : List (Option Pipe)) (j : ℕ) (o : Option Pipe) → ArePipes ps → j < length ps → ((q : Pipe) → o ≡ Some q → IsPipe q) → ((q : Pipe) → o ≡ Some q → IsNew ps j q.name) → ArePipes (set ps j o)
set-kept ps j o a inside good new =
    record {
      places = length-set ps j o ∙ a.places;
      each = each;
      distinct = distinct;
    }
  where
    here : (i : ℕ) (p : Pipe) → i ≡ j → pipe_at (set ps j o) i ≡ Some p → o ≡ Some p
    here i p is e = sym (get_or-set_same ps j o None inside) ∙ (ap (λ n. pipe_at (set ps j o) n) (sym is) ∙ e)

    there : (i : ℕ) (p : Pipe) → i ≢ j → pipe_at (set ps j o) i ≡ Some p → pipe_at ps i ≡ Some p
    there i p ne e = sym (get_or-set_other ps j i o None ne) ∙ e

    each : (i : ℕ) (p : Pipe) → pipe_at (set ps j o) i ≡ Some p → IsPipe p
    each i p e = elim (cases_eq i j) [ inl is ↦ good p (here i p is e) | inr ne ↦ a.each i p (there i p ne e) ]

    distinct : (i k : ℕ) (p q : Pipe) → pipe_at (set ps j o) i ≡ Some p → pipe_at (set ps j o) k ≡ Some q → p.name ≡ q.name → i ≡ k
    distinct i k p q ep eq same =
        elim (cases_eq i j) [
          | inl is ↦
              elim (cases_eq k j) [
                | inl at ↦ is ∙ sym at
                | inr ne ↦ absurd (new p (here i p is ep) k q ne (there k q ne eq) (sym same))
              ]
          | inr ne ↦
              elim (cases_eq k j) [
                | inl at ↦ absurd (new q (here k q at eq) i p ne (there i p ne ep) same)
                | inr far ↦ a.distinct i k p q (there i p ne ep) (there k q far eq) same
              ]
        ]

-- a pipe that is there is inside
pub there-inside : (ps : List (Option Pipe)) (j : ℕ) (p : Pipe) → pipe_at ps j ≡ Some p → j < length ps
there-inside [] j p e = cc
there-inside (o ∷ ps) zero p e = omega arith
there-inside (o ∷ ps) (suc j) p e = omega (arith, there-inside ps j p e)

-- where a pipe keeps its name, no other has it
name-kept : (ps : List (Option Pipe)) (j : ℕ) (p : Pipe) (name : List ℕ) → ArePipes ps → pipe_at ps j ≡ Some p → name ≡ p.name → IsNew ps j name
name-kept ps j p name a e same = λ k q ne f is. ne (a.distinct k j q p f e (is ∙ same))

-- ---- it holds other bytes

pub hold-kept : (ps : List (Option Pipe)) (j : ℕ) (bytes : List ℕ) → ArePipes ps → j < length ps → length bytes ≤ most_held → ArePipes (set ps j (holding bytes (pipe_at ps j)))
hold-kept ps j bytes a inside few = on (pipe_at ps j) refl
  where
    on : (o : Option Pipe) → pipe_at ps j ≡ o → ArePipes (set ps j (holding bytes o))
    on None e = set-kept ps j None a inside (λ q f. cc) (λ q f. cc)
    on (Some p) e =
        let old = a.each j p e in
        let good : IsPipe (record p { held = bytes }) = record { name = old.name; end_open = old.end_open; ever = old.ever; room = few } in
        set-kept ps j (Some (record p { held = bytes })) a inside
        (λ q f. (let is : record p { held = bytes } ≡ q = cc in subst IsPipe is good))
        (λ q f. (let is : record p { held = bytes } ≡ q = cc in name-kept ps j p q.name a e (sym (ap (λ r. r.name) is))))

-- ---- an end is closed

pub close-kept : (ps : List (Option Pipe)) (j : ℕ) (writes : Bool) → ArePipes ps → j < length ps → ArePipes (set ps j (without_end writes (pipe_at ps j)))
close-kept ps j writes a inside = on (pipe_at ps j) refl
  where
    closed-name : (w : Bool) (p : Pipe) → (closed w p).name ≡ p.name
    closed-name true p = refl
    closed-name false p = refl

    good : (w : Bool) (p : Pipe) → IsPipe p → ((closed w p).reading || (closed w p).writing) ≡ true → IsPipe (closed w p)
    good true p old some = record { name = old.name; end_open = some; ever = λ e. absurd (true≢false (sym e)); room = old.room }
    good false p old some = record { name = old.name; end_open = some; ever = old.ever; room = old.room }

    left : (p : Pipe) (b : Bool) → ((closed writes p).reading || (closed writes p).writing) ≡ b → pipe_at ps j ≡ Some p → ArePipes (set ps j (cond b (Some (closed writes p)) None))
    left p false some e = set-kept ps j None a inside (λ q f. cc) (λ q f. cc)
    left p true some e =
        set-kept ps j (Some (closed writes p)) a inside
        (λ q f. (let is : closed writes p ≡ q = cc in subst IsPipe is (good writes p (a.each j p e) some)))
        (λ q f. (let is : closed writes p ≡ q = cc in name-kept ps j p q.name a e (sym (ap (λ r. r.name) is) ∙ closed-name writes p)))

    on : (o : Option Pipe) → pipe_at ps j ≡ o → ArePipes (set ps j (without_end writes o))
    on None e = set-kept ps j None a inside (λ q f. cc) (λ q f. cc)
    on (Some p) e = left p ((closed writes p).reading || (closed writes p).writing) refl e

-- ---- an end is opened

-- a new pipe
pub new-kept : (ps : List (Option Pipe)) (j : ℕ) (q : Pipe) → ArePipes ps → j < length ps → IsPipe q → IsNew ps j q.name → ArePipes (set ps j (Some q))
new-kept ps j q a inside good new =
    set-kept ps j (Some q) a inside (λ r f. (let is : q ≡ r = cc in subst IsPipe is good)) (λ r f. (let is : q ≡ r = cc in subst (λ (z : Pipe). IsNew ps j z.name) is new))

-- where the first that passes a test is past the end, none passes
any-false : (g : Option Pipe → Bool) (ps : List (Option Pipe)) → length ps ≤ position_or_len g ps → (k : ℕ) → k < length ps → g (get_or ps k None) ≡ false
any-false g [] past k h = absurd (omega (arith, h))
any-false g (o ∷ ps) past zero h = (on (g o) (position_or_len g ps) past).0
  where
    on : (b : Bool) (n : ℕ) → suc (length ps) ≤ cond (not b) (1 + n) 0 → (b ≡ false) × (length ps ≤ n)
    on true n f = absurd (omega (arith, f))
    on false n f = (refl, omega (arith, f))
any-false g (o ∷ ps) past (suc k) h = any-false g ps (on (g o) (position_or_len g ps) past).1 k (omega (arith, h))
  where
    on : (b : Bool) (n : ℕ) → suc (length ps) ≤ cond (not b) (1 + n) 0 → (b ≡ false) × (length ps ≤ n)
    on true n f = absurd (omega (arith, f))
    on false n f = (refl, omega (arith, f))

position-none : (g : Option Pipe → Bool) (ps : List (Option Pipe)) → position g ps ≡ None → (k : ℕ) → k < length ps → g (get_or ps k None) ≡ false
position-none g ps e = on (ltb (position_or_len g ps) (length ps)) refl e
  where
    on : (b : Bool) → ltb (position_or_len g ps) (length ps) ≡ b → cond b (Some (position_or_len g ps)) None ≡ None → (k : ℕ) → k < length ps → g (get_or ps k None) ≡ false
    on true t f = cc
    on false t f = any-false g ps (ltb-false (position_or_len g ps) (length ps) t)

-- where no pipe passes the test of a name, none has it
pub none-named : (ps : List (Option Pipe)) (j : ℕ) (name : List ℕ) → ((k : ℕ) → k < length ps → is_named name (get_or ps k None) ≡ false) → IsNew ps j name
none-named ps j name none = λ k p ne e same.
    true≢false (sym (ap (λ m. bytes_eq m name) same ∙ bytes_eq-self name) ∙ (sym (ap (is_named name) e) ∙ none k (there-inside ps k p e)))

-- the place for a name: that of its pipe, or a free one, where no pipe has the name
pub data IsPlaceFor (ps : List (Option Pipe)) (name : List ℕ) (i : ℕ) : Type 0 where
  Has : (p : Pipe) → pipe_at ps i ≡ Some p → p.name ≡ name → IsPlaceFor ps name i
  Free : pipe_at ps i ≡ None → ((k : ℕ) → k < length ps → is_named name (get_or ps k None) ≡ false) → IsPlaceFor ps name i

pub place-for : (ps : List (Option Pipe)) (name : List ℕ) (i : ℕ) → place_for ps name ≡ Some i → (i < length ps) × IsPlaceFor ps name i
place-for ps name i e = on (position (is_named name) ps) refl e
  where
    named : (o : Option Pipe) → pipe_at ps i ≡ o → is_named name o ≡ true → IsPlaceFor ps name i
    named None e t = absurd (true≢false (sym t))
    named (Some p) e t = Has p e ((bytes_eq-Decides p.name name).0 t)

    free : (o : Option Pipe) → pipe_at ps i ≡ o → is_none o ≡ true → ((k : ℕ) → k < length ps → is_named name (get_or ps k None) ≡ false) → IsPlaceFor ps name i
    free None e t none = Free e none
    free (Some p) e t none = absurd (true≢false (sym t))

    on : (o : Option ℕ) → position (is_named name) ps ≡ o → option_or o (position is_none ps) ≡ Some i → (i < length ps) × IsPlaceFor ps name i
    on (Some j) f g =
        let same : position (is_named name) ps ≡ Some i = f ∙ g in
        let at = position-Some (is_named name) ps i None same in
        (at.0, named (pipe_at ps i) refl at.1)
    on None f g = (let at = position-Some is_none ps i None g in (at.0, free (pipe_at ps i) refl at.1 (position-none (is_named name) ps f)))

pub open-kept : (ps : List (Option Pipe)) (i : ℕ) (name : List ℕ) (writes : Bool) → ArePipes ps → IsName name → place_for ps name ≡ Some i
    → ArePipes (set ps i (Some (opened name writes (pipe_at ps i))))
open-kept ps i name writes a lawful e = (let at = place-for ps name i e in on at.0 at.1)
  where
    old-good : (w : Bool) (p : Pipe) → IsPipe p → IsPipe (opened name w (Some p))
    old-good true p old = record { name = old.name; end_open = or_right p.reading true refl; ever = λ t. refl; room = old.room }
    old-good false p old = record { name = old.name; end_open = refl; ever = old.ever; room = old.room }

    old-name : (w : Bool) (p : Pipe) → (opened name w (Some p)).name ≡ p.name
    old-name true p = refl
    old-name false p = refl

    new-good : (w : Bool) → IsPipe (opened name w None)
    new-good true = record { name = lawful; end_open = refl; ever = λ t. refl; room = omega arith }
    new-good false = record { name = lawful; end_open = refl; ever = λ t. absurd (true≢false (sym t)); room = omega arith }

    new-name : (w : Bool) → (opened name w None).name ≡ name
    new-name true = refl
    new-name false = refl

    on : i < length ps → IsPlaceFor ps name i → ArePipes (set ps i (Some (opened name writes (pipe_at ps i))))
    on inside (Has p is same) =
        subst (λ o. ArePipes (set ps i (Some (opened name writes o)))) (sym is)
        (new-kept ps i (opened name writes (Some p)) a inside (old-good writes p (a.each i p is)) (name-kept ps i p (opened name writes (Some p)).name a is (old-name writes p)))
    on inside (Free is none) =
        subst (λ o. ArePipes (set ps i (Some (opened name writes o)))) (sym is)
        (new-kept ps i (opened name writes None) a inside (new-good writes) (subst (IsNew ps i) (sym (new-name writes)) (none-named ps i name none)))

-- ---- a pipe is restored

any-none : (g : Option Pipe → Bool) (ps : List (Option Pipe)) → list_any g ps ≡ false → (k : ℕ) → k < length ps → g (get_or ps k None) ≡ false
any-none g [] none k h = absurd (omega (arith, h))
any-none g (p ∷ ps) none zero h = (or_parts (g p) (list_any g ps) none).0
any-none g (p ∷ ps) none (suc k) h = any-none g ps (or_parts (g p) (list_any g ps) none).1 k (omega (arith, h))

pub restore-kept : (ps : List (Option Pipe)) (j : ℕ) (ends : Bool × Bool × Bool) (name bytes : List ℕ) → ArePipes ps → j < length ps → IsName name → list_any (is_named name) ps ≡ false → are_ends ends ≡ true
    → length bytes ≤ most_held → ArePipes (set ps j (Some (pipe_with ends name bytes)))
restore-kept ps j ends name bytes a inside lawful none good few =
    let both = and_parts (ends.0 || ends.1) (not ends.1 || ends.2) good in
    new-kept ps j (pipe_with ends name bytes) a inside (record { name = lawful; end_open = both.0; ever = λ t. ever ends.1 ends.2 both.1 t; room = few })
    (none-named ps j name (any-none (is_named name) ps none))
  where
    ever : (w e : Bool) → (not w || e) ≡ true → w ≡ true → e ≡ true
    ever true e t u = t
    ever false e t u = absurd (true≢false (sym u))
