-- The places of insertion and removal, as a front and a back of the list.
use Rattle.std.proofs.Common.{◌≡◌, ℕ, List, [], ◌∷◌, ◌++◌, cond, eqb, Bool, true, false, ◌||◌, refl, sym, ap, ◌∙◌, arith}
use Rattle.std.specs.List.{list_any}
use Rattle.std.proofs.lemmas.Bool.{false≢true}
use Rattle.std.proofs.lemmas.Bool.Decides.{nat_tests}
use Rattle.kernel_lists.specs.LinkedList.Chain.{last_cell}
use Rattle.kernel_lists.specs.LinkedList.Places.{cell_after, cell_before, has, insert_after, without}

-- where a node comes in behind the last one that passes a test
pub record IsPlace {X : Type 0} (f : X → Bool) (link : X → ℕ) (at : ℕ) (p : X) (ps : List X) : Type 0 where
  pub front : List X
  pub back : List X
  pub whole : ps ≡ front ++ back
  pub cell : cell_after f link at ps ≡ last_cell link at front
  pub list : insert_after f p ps ≡ front ++ p ∷ back
  pub behind : list_any f back ≡ false

-- where none passes, the place is the front
cell_after-none : {X : Type 0} (f : X → Bool) (link : X → ℕ) (at : ℕ) (ps : List X) → list_any f ps ≡ false → cell_after f link at ps ≡ at
cell_after-none f link at [] e = refl
cell_after-none f link at (q ∷ qs) e = on (f q) refl e (λ at'. cell_after-none f link at' qs)
  where
    on : (b : Bool) → f q ≡ b → (b || list_any f qs) ≡ false → ((at' : ℕ) → list_any f qs ≡ false → cell_after f link at' qs ≡ at') → cell_after f link (cond (f q) (link q) at) qs ≡ at
    on true t e more = cc
    on false t e more = ap (λ b. cell_after f link (cond b (link q) at) qs) t ∙ more at e

-- where one passes, the cell of before does not matter
cell_after-some : {X : Type 0} (f : X → Bool) (link : X → ℕ) (at at' : ℕ) (ps : List X) → list_any f ps ≡ true → cell_after f link at ps ≡ cell_after f link at' ps
cell_after-some f link at at' [] e = cc
cell_after-some f link at at' (q ∷ qs) e = on (f q) refl e (λ a a'. cell_after-some f link a a' qs)
  where
    on : (b : Bool) → f q ≡ b → (b || list_any f qs) ≡ true → ((a a' : ℕ) → list_any f qs ≡ true → cell_after f link a qs ≡ cell_after f link a' qs)
        → cell_after f link (cond (f q) (link q) at) qs ≡ cell_after f link (cond (f q) (link q) at') qs
    on true t e more = ap (λ b. cell_after f link (cond b (link q) at) qs) t ∙ sym (ap (λ b. cell_after f link (cond b (link q) at') qs) t)
    on false t e more = more (cond (f q) (link q) at) (cond (f q) (link q) at') e

passes : {X : Type 0} (f : X → Bool) (q : X) (qs : List X) (b : Bool) → f q ≡ b → list_any f qs ≡ false → list_any f (q ∷ qs) ≡ true → f q ≡ true
passes f q qs true t none e = t
passes f q qs false t none e = absurd (false≢true (sym none ∙ sym (ap (λ b. b || list_any f qs) t) ∙ e))

moved : {X : Type 0} (f : X → Bool) (link : X → ℕ) (at : ℕ) (q : X) (qs : List X) (c : Bool) → list_any f qs ≡ c → list_any f (q ∷ qs) ≡ true → cell_after f link at (q ∷ qs) ≡ cell_after f link (link q) qs
moved f link at q qs true any e = cell_after-some f link (cond (f q) (link q) at) (link q) qs any
moved f link at q qs false none e = ap (λ b. cell_after f link (cond b (link q) at) qs) (passes f q qs (f q) refl none e)

pub place : {X : Type 0} (f : X → Bool) (link : X → ℕ) (at : ℕ) (p : X) (ps : List X) → IsPlace f link at p ps
place f link at p [] = record { front = []; back = []; whole = refl; cell = refl; list = refl; behind = refl }
place f link at p (q ∷ qs) = on (list_any f (q ∷ qs)) refl (list_any f qs) refl (place f link (link q) p qs)
  where
    on : (b : Bool) → list_any f (q ∷ qs) ≡ b → (c : Bool) → list_any f qs ≡ c → IsPlace f link (link q) p qs → IsPlace f link at p (q ∷ qs)
    on false none c c_is r =
        record {
          front = [];
          back = q ∷ qs;
          whole = refl;
          cell = cell_after-none f link at (q ∷ qs) none;
          list = ap (λ b. cond b (q ∷ insert_after f p qs) (p ∷ q ∷ qs)) none;
          behind = none;
        }
    on true some c c_is r =
        record {
          front = q ∷ r.front;
          back = r.back;
          whole = ap (λ z. q ∷ z) r.whole;
          cell = moved f link at q qs c c_is some ∙ r.cell;
          list = ap (λ b. cond b (q ∷ insert_after f p qs) (p ∷ q ∷ qs)) some ∙ ap (λ z. q ∷ z) r.list;
          behind = r.behind;
        }

-- where a node is
pub record NodePlace (link : ℕ → ℕ) (at p : ℕ) (ps : List ℕ) : Type 0 where
  pub front : List ℕ
  pub back : List ℕ
  pub whole : ps ≡ front ++ p ∷ back
  pub cell : cell_before link p at ps ≡ last_cell link at front
  pub list : without p ps ≡ front ++ back
  pub before : has p front ≡ false

pub member-place : (link : ℕ → ℕ) (at p : ℕ) (ps : List ℕ) → has p ps ≡ true → NodePlace link at p ps
member-place link at p [] e = cc
member-place link at p (q ∷ qs) e = on (eqb p q) refl e (member-place link (link q) p qs)
  where
    on : (b : Bool) → eqb p q ≡ b → (b || has p qs) ≡ true → (has p qs ≡ true → NodePlace link (link q) p qs) → NodePlace link at p (q ∷ qs)
    on true t e more =
        let same : p ≡ q = grind (arith, nat_tests) in
        record {
          front = [];
          back = qs;
          whole = ap (λ z. z ∷ qs) (sym same);
          cell = ap (λ b. cond b at (cell_before link p (link q) qs)) t;
          list = ap (λ b. cond b qs (q ∷ without p qs)) t;
          before = refl;
        }
    on false t e more =
        let r = more e in
        record {
          front = q ∷ r.front;
          back = r.back;
          whole = ap (λ z. q ∷ z) r.whole;
          cell = ap (λ b. cond b at (cell_before link p (link q) qs)) t ∙ r.cell;
          list = ap (λ b. cond b qs (q ∷ without p qs)) t ∙ ap (λ z. q ∷ z) r.list;
          before = ap (λ b. b || has p r.front) t ∙ r.before;
        }

-- the word before a node that is not in a front is the front's last link
pub cell_before-front : (link : ℕ → ℕ) (p at : ℕ) (front back : List ℕ) → has p front ≡ false → cell_before link p at (front ++ p ∷ back) ≡ last_cell link at front
cell_before-front link p at [] back none = (let same : eqb p p ≡ true = grind (arith, nat_tests) in ap (λ b. cond b at (cell_before link p (link p) back)) same)
cell_before-front link p at (q ∷ qs) back none = on (eqb p q) refl none (cell_before-front link p (link q) qs back)
  where
    on : (b : Bool) → eqb p q ≡ b → (b || has p qs) ≡ false → (has p qs ≡ false → cell_before link p (link q) (qs ++ p ∷ back) ≡ last_cell link (link q) qs)
        → cell_before link p at (q ∷ qs ++ p ∷ back) ≡ last_cell link (link q) qs
    on true t none more = cc
    on false t none more = ap (λ b. cond b at (cell_before link p (link q) (qs ++ p ∷ back))) t ∙ more none

pub without-none : (p : ℕ) (ps : List ℕ) → has p ps ≡ false → without p ps ≡ ps
without-none p [] e = refl
without-none p (q ∷ qs) e = on (eqb p q) refl e (without-none p qs)
  where
    on : (b : Bool) → eqb p q ≡ b → (b || has p qs) ≡ false → (has p qs ≡ false → without p qs ≡ qs) → without p (q ∷ qs) ≡ q ∷ qs
    on true t e more = cc
    on false t e more = ap (λ b. cond b qs (q ∷ without p qs)) t ∙ ap (λ z. q ∷ z) (more e)
