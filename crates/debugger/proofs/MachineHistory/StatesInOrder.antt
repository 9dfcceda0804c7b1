-- States of which each is a step behind the one before it.
use Rattle.std.proofs.Common.{◌≡◌, ℕ, ◌+◌, ◌-◌, ◌<◌, ◌≤◌, Bool, true, false, cond, List, [], ◌∷◌, ◌++◌, length, refl, ap, arith, length-append}
use Rattle.std.specs.List.{AllByRecursion}
use Rattle.tripos_machine.specs.State.{State, steps_of}
use Rattle.debugger.specs.MachineHistory.Histories.{AreInOrder, turn_steps}
use Rattle.debugger.specs.MachineHistory.Pasts.{file_turns, is_file_turn}

-- ---- lists of which all holds

module _ {X : Type 0} (P : X → Type 0) where
  pub all-front : (xs ys : List X) → AllByRecursion P (xs ++ ys) → AllByRecursion P xs
  all-front [] ys all = tt
  all-front (x ∷ xs) ys all = (all.0, all-front xs ys all.1)

  pub all-back : (xs ys : List X) → AllByRecursion P (xs ++ ys) → AllByRecursion P ys
  all-back [] ys all = all
  all-back (x ∷ xs) ys all = all-back xs ys all.1

  pub all-joined : (xs ys : List X) → AllByRecursion P xs → AllByRecursion P ys → AllByRecursion P (xs ++ ys)
  all-joined [] ys one two = two
  all-joined (x ∷ xs) ys one two = (one.0, all-joined xs ys one.1 two)

  pub all-turned : (Q : X → Type 0) → ((x : X) → P x → Q x) → (xs : List X) → AllByRecursion P xs → AllByRecursion Q xs
  all-turned Q each [] all = tt
  all-turned Q each (x ∷ xs) all = (each x all.0, all-turned Q each xs all.1)

-- ---- order

pub order-back : (n : ℕ) (ss ts : List State) → AreInOrder n (ss ++ ts) → AreInOrder n ts
order-back n [] ts order = order
order-back n (s ∷ ss) ts order = order-back n ss ts order.1

-- one more
pub order-pushed : (n : ℕ) (ss : List State) (s : State) → AreInOrder n ss → steps_of s ≡ n → AreInOrder (n + 1) (ss ++ s ∷ [])
order-pushed n [] s order now = (omega (arith, now), tt)
order-pushed n (t ∷ ss) s order now = (let h = order.0 in omega (arith, h, length-append ss (s ∷ [])), order-pushed n ss s order.1 now)

-- the front, before the state that follows on it
pub order-front : (n : ℕ) (ss : List State) (s : State) (ts : List State) → AreInOrder n (ss ++ s ∷ ts) → AreInOrder (steps_of s) ss
order-front n [] s ts order = tt
order-front n (t ∷ ss) s ts order =
    let h = order.0 in
    let next = order-back n ss (s ∷ ts) order.1 in
    let g = next.0 in
    (omega (arith, h, g, length-append ss (s ∷ ts)), order-front n ss s ts order.1)

-- each has fewer steps than there are now, and no fewer than the past is long
pub order-bounds : (n m : ℕ) (ss : List State) → length ss ≤ m → AreInOrder n ss → AllByRecursion (λ s. (steps_of s < n) × (n ≤ steps_of s + m)) ss
order-bounds n m [] few order = tt
order-bounds n m (s ∷ ss) few order = (let h = order.0 in (omega (arith, h), omega (arith, h, few)), order-bounds n m ss (omega (arith, few)) order.1)

-- ---- turns

pub turns-joined : (ss ts : List State) → turn_steps (ss ++ ts) ≡ turn_steps ss ++ turn_steps ts
turns-joined [] ts = refl
turns-joined (s ∷ ss) ts = on (is_file_turn s) (turns-joined ss ts)
  where
    on : (b : Bool) → turn_steps (ss ++ ts) ≡ turn_steps ss ++ turn_steps ts
        → cond b ((steps_of s + 1) ∷ turn_steps (ss ++ ts)) (turn_steps (ss ++ ts)) ≡ cond b ((steps_of s + 1) ∷ turn_steps ss) (turn_steps ss) ++ turn_steps ts
    on true rest = ap (λ l. (steps_of s + 1) ∷ l) rest
    on false rest = rest

pub turns-counted : (ss : List State) → length (turn_steps ss) ≡ file_turns ss
turns-counted [] = refl
turns-counted (s ∷ ss) = on (is_file_turn s) (turns-counted ss)
  where
    on : (b : Bool) → length (turn_steps ss) ≡ file_turns ss → length (cond b ((steps_of s + 1) ∷ turn_steps ss) (turn_steps ss)) ≡ cond b 1 0 + file_turns ss
    on true rest = omega (arith, rest)
    on false rest = omega (arith, rest)

-- each turn is over by now, and was not when the past began
pub turns-bounds : (n m : ℕ) (ss : List State) → length ss ≤ m → AreInOrder n ss → AllByRecursion (λ x. (x ≤ n) × (n < x + m)) (turn_steps ss)
turns-bounds n m [] few order = tt
turns-bounds n m (s ∷ ss) few order = on (is_file_turn s) (turns-bounds n m ss (omega (arith, few)) order.1)
  where
    on : (b : Bool) → AllByRecursion (λ x. (x ≤ n) × (n < x + m)) (turn_steps ss)
        → AllByRecursion (λ x. (x ≤ n) × (n < x + m)) (cond b ((steps_of s + 1) ∷ turn_steps ss) (turn_steps ss))
    on true rest = (let h = order.0 in (omega (arith, h), omega (arith, h, few)), rest)
    on false rest = rest

pub turns-none : (s : State) → is_file_turn s ≡ false → turn_steps (s ∷ []) ≡ []
turns-none s e = ap (λ b. cond b ((steps_of s + 1) ∷ []) []) e

pub turns-one : (s : State) → is_file_turn s ≡ true → turn_steps (s ∷ []) ≡ (steps_of s + 1) ∷ []
turns-one s e = ap (λ b. cond b ((steps_of s + 1) ∷ []) []) e

-- the first turn
pub record FirstTurn (ss : List State) (x : ℕ) (xs : List ℕ) : Type 0 where
  pub front : List State
  pub turn : State
  pub rest : List State
  pub is : ss ≡ front ++ turn ∷ rest
  pub serves : is_file_turn turn ≡ true
  pub over : steps_of turn + 1 ≡ x
  pub others : turn_steps rest ≡ xs

pub first-turn : (ss : List State) (x : ℕ) (xs : List ℕ) → turn_steps ss ≡ x ∷ xs → FirstTurn ss x xs
first-turn [] x xs e = cc
first-turn (s ∷ ss) x xs e = on (is_file_turn s) refl e (first-turn ss x xs)
  where
    on : (b : Bool) → is_file_turn s ≡ b → cond b ((steps_of s + 1) ∷ turn_steps ss) (turn_steps ss) ≡ x ∷ xs → (turn_steps ss ≡ x ∷ xs → FirstTurn ss x xs) → FirstTurn (s ∷ ss) x xs
    on true b e rest = record { front = []; turn = s; rest = ss; is = refl; serves = b; over = cc; others = cc }
    on false b e rest =
        let more = rest e in
        record { front = s ∷ more.front; turn = more.turn; rest = more.rest; is = ap (λ l. s ∷ l) more.is; serves = more.serves; over = more.over; others = more.others }

-- ---- parts of the past

pub order-length : (n : ℕ) (ss : List State) → AreInOrder n ss → length ss ≤ n
order-length n [] order = omega arith
order-length n (s ∷ ss) order = (let h = order.0 in omega (arith, h))

-- the front is in order, with the steps taken when it ended
pub record HasFront (n : ℕ) (ss ts : List State) : Type 0 where
  pub end : ℕ
  pub is : end + length ts ≡ n
  pub order : AreInOrder end ss

pub has-front : (n : ℕ) (ss ts : List State) → AreInOrder n (ss ++ ts) → HasFront n ss ts
has-front n [] ts order = let few = order-length n ts order in record { end = n - length ts; is = omega (arith, few); order = tt }
has-front n (s ∷ ss) ts order =
    let rest = has-front n ss ts order.1 in
    let h = order.0 in
    let e = rest.is in
    record { end = rest.end; is = e; order = (omega (arith, h, e, length-append ss ts), rest.order) }
