-- Packets of a queue: how often each is there, and what becomes of them where one comes or goes.
use Rattle.std.proofs.Common.{◌≡◌, ℕ, ℤ, ◌+◌, ◌<◌, ◌≤◌, ◌||◌, Bool, true, false, cond, eqb, leb, List, [], ◌∷◌, ◌++◌, drop, refl, arith}
use Rattle.std.specs.List.{list_any}
use Rattle.word_store.specs.Count.{hit}
use Rattle.kernel_lists.specs.LinkedList.Places.{insert_after, without_first}
use Rattle.tripos_machine.specs.EventHistory.Ledger.{Entry, arrived, clock, count_of, is_on_queue, same_queue}

-- ---- a packet is there where it is counted

pub none-on-queue : (p : ℕ) (es : List Entry) → count_of p es ≡ 0 → is_on_queue p es ≡ false
none-on-queue p [] z = refl
none-on-queue p (e ∷ es) z = on (eqb p e.packet) z (none-on-queue p es)
  where
    on : (b : Bool) → cond b 1 0 + count_of p es ≡ 0 → (count_of p es ≡ 0 → is_on_queue p es ≡ false) → (b || is_on_queue p es) ≡ false
    on true z more = absurd (omega (arith, z))
    on false z more = more (omega (arith, z))

pub none-counted : (p : ℕ) (es : List Entry) → is_on_queue p es ≡ false → count_of p es ≡ 0
none-counted p [] z = refl
none-counted p (e ∷ es) z = on (eqb p e.packet) z (none-counted p es)
  where
    on : (b : Bool) → (b || is_on_queue p es) ≡ false → (is_on_queue p es ≡ false → count_of p es ≡ 0) → cond b 1 0 + count_of p es ≡ 0
    on true z more = cc
    on false z more = omega (arith, more z)

pub some-on-queue : (p : ℕ) (es : List Entry) → 0 < count_of p es → is_on_queue p es ≡ true
some-on-queue p es some = on (is_on_queue p es) refl
  where
    on : (b : Bool) → is_on_queue p es ≡ b → b ≡ true
    on true e = refl
    on false e = absurd (omega (arith, some, none-counted p es e))

pub some-counted : (p : ℕ) (es : List Entry) → is_on_queue p es ≡ true → 0 < count_of p es
some-counted p [] some = cc
some-counted p (e ∷ es) some = on (eqb p e.packet) some (some-counted p es)
  where
    on : (b : Bool) → (b || is_on_queue p es) ≡ true → (is_on_queue p es ≡ true → 0 < count_of p es) → 0 < cond b 1 0 + count_of p es
    on true some more = omega arith
    on false some more = omega (arith, more some)

-- ---- one comes

count-end : (p : ℕ) (x : Entry) (es : List Entry) → count_of p (es ++ x ∷ []) ≡ count_of p es + hit p x.packet
count-end p x [] = omega arith
count-end p x (e ∷ es) = omega (arith, count-end p x es)

count-insert : (p : ℕ) (f : Entry → Bool) (x : Entry) (es : List Entry) → count_of p (insert_after f x es) ≡ count_of p es + hit p x.packet
count-insert p f x [] = omega arith
count-insert p f x (e ∷ es) = on (list_any f (e ∷ es)) (count-insert p f x es)
  where
    on : (b : Bool) → count_of p (insert_after f x es) ≡ count_of p es + hit p x.packet → count_of p (cond b (e ∷ insert_after f x es) (x ∷ e ∷ es)) ≡ count_of p (e ∷ es) + hit p x.packet
    on true more = omega (arith, more)
    on false more = omega arith

pub count-arrived : (p : ℕ) (q : ℤ) (x : Entry) (es : List Entry) → count_of p (arrived q x es) ≡ count_of p es + hit p x.packet
count-arrived p q x es = on (same_queue q clock)
  where
    on : (b : Bool) → count_of p (cond b (insert_after (λ e. leb e.due x.due) x es) (es ++ x ∷ [])) ≡ count_of p es + hit p x.packet
    on true = count-insert p (λ e. leb e.due x.due) x es
    on false = count-end p x es

-- ---- one goes

pub count-rest : (p : ℕ) (es : List Entry) → count_of p (drop 1 es) ≤ count_of p es
count-rest p [] = omega arith
count-rest p (e ∷ es) = omega arith

pub count-without : (p : ℕ) (f : Entry → Bool) (es : List Entry) → count_of p (without_first f es) ≤ count_of p es
count-without p f [] = omega arith
count-without p f (e ∷ es) = on (f e) (count-without p f es)
  where
    on : (b : Bool) → count_of p (without_first f es) ≤ count_of p es → count_of p (cond b es (e ∷ without_first f es)) ≤ count_of p (e ∷ es)
    on true more = omega arith
    on false more = omega (arith, more)
