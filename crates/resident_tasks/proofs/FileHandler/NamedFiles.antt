-- Requests whose names were read.
use Rattle.std.proofs.Common.{◌≡◌, ℕ, ◌&&◌, Bool, true, false, if◌then◌else◌, Ok, Err, List, [], ◌∷◌, ap}
use Rattle.ram_disc.specs.Disc.{Disc}
use Rattle.resident_tasks.specs.ResidentRequests.Names.{is_name_at, name_at, string_in}
use Rattle.resident_tasks.specs.FileHandler.FileRequests.{Handled, unless_refused}

-- the code of a name that is none
abbrev bad_name : ℕ
bad_name = 40

module _ (s : List ℕ) (d : Disc) where
  -- what is made of the name that was read is what is made of the name that is there
  pub named : (a : ℕ) (name : List ℕ) (of : List ℕ → Handled) → Ok name ≡ name_at s a → of name ≡ unless_refused d ((is_name_at s a, 40) ∷ []) (of (string_in s a))
  named a name of e = on (is_name_at s a) e
    where
      on : (b : Bool) → Ok name ≡ (if b then Ok (string_in s a) else Err bad_name) → of name ≡ unless_refused d ((b, 40) ∷ []) (of (string_in s a))
      on true e = let same : name ≡ string_in s a = cc in ap of same
      on false e = cc

  -- and of two names
  pub both-named : (a b : ℕ) (name other : List ℕ) (of : List ℕ → List ℕ → Handled) → Ok name ≡ name_at s a → Ok other ≡ name_at s b
      → of name other ≡ unless_refused d ((is_name_at s a && is_name_at s b, 40) ∷ []) (of (string_in s a) (string_in s b))
  both-named a b name other of e f = on (is_name_at s a) (is_name_at s b) e f
    where
      on : (v w : Bool) → Ok name ≡ (if v then Ok (string_in s a) else Err bad_name) → Ok other ≡ (if w then Ok (string_in s b) else Err bad_name)
          → of name other ≡ unless_refused d ((v && w, 40) ∷ []) (of (string_in s a) (string_in s b))
      on true true e f = let one : name ≡ string_in s a = cc in let two : other ≡ string_in s b = cc in λ k. of (one k) (two k)
      on true false e f = cc
      on false w e f = cc
