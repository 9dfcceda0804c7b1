-- Where a reading of lines stops: lines are read one after another, and the first that is refused is refused whatever follows.
use Rattle.std.proofs.Common.{◌≡◌, ◌∙◌, ℕ, ◌+◌, ◌⊎◌, inl, inr, Result, Ok, Err, List, [], ◌∷◌, ◌++◌, length, refl, sym, ap, arith}
use Rattle.module_text.specs.TextReader.Refusal.{Refusal, refusal}
use Rattle.module_text.specs.TextReader.Steps.{◌>>=◌}
use Rattle.module_text.proofs.TextReader.StepLemmas.{Err-same}
use Rattle.machine_ring.specs.declared.ring_link.inputs.RingInput.{RingInput}

-- a reading of lines
abbrev pub Reader : Type 0
Reader = List (List ℕ) → Result RingInput Refusal

-- a ring is read of some lines that begin with these
abbrev pub Begins : Reader → List (List ℕ) → Type 0
Begins f front = (more : List (List ℕ)) × (ring : RingInput) × (f (front ++ more) ≡ Ok ring)

-- the codes of a line
abbrev pub IsLineCode : ℕ → Type 0
IsLineCode code = (code ≡ 1) ⊎ (code ≡ 2)

-- nothing is left, or a line is refused, whatever follows it
abbrev pub StopsBy : Reader → List (List ℕ) → List (List ℕ) → Refusal → Type 0
StopsBy f front back r =
    ((back ≡ []) × (r.code ≡ 3))
    ⊎ ((line : List ℕ) × (rest : List (List ℕ)) × (back ≡ line ∷ rest) × IsLineCode r.code × ((more : List (List ℕ)) → f (front ++ line ∷ more) ≡ Err r))

-- lines from line n on are read up to the refused one
pub record Stops (f : Reader) (n : ℕ) (lines : List (List ℕ)) (r : Refusal) : Type 0 where
  pub front : List (List ℕ)
  pub back : List (List ℕ)
  pub all : lines ≡ front ++ back
  pub number : r.line ≡ n + length front
  pub before : Begins f front
  pub why : StopsBy f front back r

-- it reads some lines, and of all others it says where it stops
pub record IsReader (f : Reader) (n : ℕ) : Type 0 where
  pub some : Begins f []
  pub stops : (lines : List (List ℕ)) (r : Refusal) → f lines ≡ Err r → Stops f n lines r

-- ---- one line, and those after it

module _ {X : Type 0} (n : ℕ) (test : List ℕ → Result X Refusal) (g : X → Reader) where
  -- line n, and then the others
  abbrev pub by_line : Reader
  by_line [] = Err (refusal n 3)
  by_line (line ∷ lines) = test line >>= λ x. g x lines

  -- some line is accepted, and every other one is refused with its number and a code
  pub record IsTest : Type 0 where
    pub line : List ℕ
    pub value : X
    pub accepts : test line ≡ Ok value
    pub refuses : (line : List ℕ) (r : Refusal) → test line ≡ Err r → (r.line ≡ n) × IsLineCode r.code

  module _ (t : IsTest) (h : (x : X) → IsReader (g x) (n + 1)) where
    some_line : Begins by_line []
    some_line = let s = (h t.value).some in (t.line ∷ s.0, s.1, rw t.accepts s.2)

    none_left : (r : Refusal) → refusal n 3 ≡ r → Stops by_line n [] r
    none_left r e = record {
      front = [];
      back = [];
      all = refl;
      number = let line = ap (λ (x : Refusal). x.line) e in omega arith;
      before = some_line;
      why = inl (refl, sym (ap (λ (x : Refusal). x.code) e));
    }

    by_test : (line : List ℕ) (lines : List (List ℕ)) (r : Refusal) (o : Result X Refusal) → test line ≡ o → (o >>= λ x. g x lines) ≡ Err r → Stops by_line n (line ∷ lines) r
    by_test line lines r (Err q) is e =
        let same : q ≡ r = Err-same {A = RingInput} q r e in
        let refused = t.refuses line r (is ∙ ap (λ (x : Refusal). Err x) same) in
        record {
          front = [];
          back = line ∷ lines;
          all = refl;
          number = let number = refused.0 in omega arith;
          before = some_line;
          why = inr (line, lines, refl, refused.1, λ more. rw is e);
        }
    by_test line lines r (Ok x) is e =
        let s = (h x).stops lines r e in
        record {
          front = line ∷ s.front;
          back = s.back;
          all = ap (λ (ls : List (List ℕ)). line ∷ ls) s.all;
          number = let number = s.number in omega arith;
          before = let b = s.before in (b.0, b.1, rw is b.2);
          why = elim s.why [
            | inl w ↦ inl w
            | inr w ↦ inr (w.0, w.1, w.2, w.3, λ more. rw is (w.4 more))
          ];
        }

    by_line-stops : (lines : List (List ℕ)) (r : Refusal) → by_line lines ≡ Err r → Stops by_line n lines r
    by_line-stops [] r e = none_left r (Err-same {A = RingInput} (refusal n 3) r e)
    by_line-stops (line ∷ lines) r e = by_test line lines r (test line) refl e

    pub by_line-reader : IsReader by_line n
    by_line-reader = record { some = some_line; stops = by_line-stops }
