-- Numbers of queues, and a ledger in which one queue is another.
use Rattle.std.proofs.Common.{◌≡◌, ℤ, pos, negsuc, Bool, true, false, cond, eq-eqb, eqb-true, List, refl, ap, sym, ◌∙◌}
use Rattle.tripos_machine.specs.EventHistory.Ledger.{Entry, Ledger, same_queue, with_queue}

pub same-true : (q r : ℤ) → same_queue q r ≡ true → q ≡ r
same-true (pos a) (pos b) e = ap pos (eqb-true a b e)
same-true (pos a) (negsuc b) e = cc
same-true (negsuc a) (pos b) e = cc
same-true (negsuc a) (negsuc b) e = ap negsuc (eqb-true a b e)

pub same-self : (q : ℤ) → same_queue q q ≡ true
same-self (pos a) = eq-eqb a a refl
same-self (negsuc a) = eq-eqb a a refl

pub not-same : (r q : ℤ) → same_queue r q ≡ false → same_queue q r ≡ false
not-same r q other = on (same_queue q r) refl
  where
    on : (b : Bool) → same_queue q r ≡ b → b ≡ false
    on true e = sym (same-self r) ∙ (λ i. same_queue r (sym (same-true q r e) i)) ∙ other
    on false e = refl

-- the queue is this one or another
pub queue-ways : (P : Bool → Type 0) (q r : ℤ) → (q ≡ r → P true) → (same_queue q r ≡ false → P false) → P (same_queue q r)
queue-ways P q r same other = on (same_queue q r) refl
  where
    on : (b : Bool) → same_queue q r ≡ b → P b
    on true e = same (same-true q r e)
    on false e = other e

pub queue-here : (q : ℤ) (es : List Entry) (b : Ledger) → with_queue q es b q ≡ es
queue-here q es b = ap (λ c. cond c es (b q)) (same-self q)
