-- The switch to another coroutine, or to the root.
use Rattle.std.proofs.Common.{◌≡◌, ◌≢◌, ◌⊎◌, inl, inr, ℕ, ◌+◌, ◌≤◌, List, length, get_or, set, eqb, cond, true, false, sym, ap, ◌∙◌, arith, get_or-set_other, get_or-set_same, length-set}
use Rattle.std.proofs.lemmas.Bool.{cases_eq}
use Rattle.std.proofs.lemmas.Bool.Decides.{nat_tests}
use Rattle.kernel_lists.specs.Coroutines.Coroutines.{HasCoroutines}
use Rattle.kernel_lists.specs.Coroutines.CoroutineWords.{current_in, saved_p, saved_pc}
use Rattle.kernel_lists.specs.Coroutines.Refusals.{is_known}
use Rattle.kernel_lists.specs.Coroutines.Switch.{switched}
use Rattle.kernel_lists.proofs.Coroutines.KnownCoroutines.{current, known-apart, known-node, known-same, task-apart, task-inside}
use Rattle.kernel_lists.proofs.Coroutines.CallFrame.{IsCall}

-- the root, or a coroutine of the task
abbrev pub IsRootOr : List ℕ → ℕ → ℕ → Type 0
IsRootOr s t c = (c ≡ 0) ⊎ (is_known s t c ≡ true)

pub current-is : (s : List ℕ) (t : ℕ) → HasCoroutines s t → IsRootOr s t (current_in s t)
current-is s t h = elim (cases_eq (current_in s t) 0) [ inl root ↦ inl root | inr within ↦ inr (current s t h within).known ]

-- where P and PC of the root are kept, and those of a coroutine
pub saved-root : (t c : ℕ) → c ≡ 0 → (saved_p t c ≡ t + 19) × (saved_pc t c ≡ t + 20)
saved-root t c e = (let test : eqb c 0 ≡ true = grind (arith, nat_tests) in (ap (λ b. cond b (t + 19) c) test, ap (λ b. cond b (t + 20) (c + 6)) test))

pub saved-known : (t c : ℕ) → c ≢ 0 → (saved_p t c ≡ c) × (saved_pc t c ≡ c + 6)
saved-known t c ne = (let test : eqb c 0 ≡ false = grind (arith, nat_tests) in (ap (λ b. cond b (t + 19) c) test, ap (λ b. cond b (t + 20) (c + 6)) test))

-- an address that is no word 19 or 20 of the task block, and no word 0 or 6 of a coroutine, is none where P or PC is saved
pub saved-other : (s : List ℕ) (t c a : ℕ) → HasCoroutines s t → IsRootOr s t c → a ≢ t + 19 → a ≢ t + 20 → ((k : ℕ) → is_known s t k ≡ true → (a ≢ k) × (a ≢ k + 6))
    → (a ≢ saved_p t c) × (a ≢ saved_pc t c)
saved-other s t c a h (inl root) n19 n20 others =
    let at = saved-root t c root in
    ((λ e. n19 (e ∙ at.0)), (λ e. n20 (e ∙ at.1)))
saved-other s t c a h (inr known) n19 n20 others =
    let at = saved-known t c (λ e. absurd (omega (arith, e, (known-node s t c h known).some))) in
    ((λ e. (others c known).0 (e ∙ at.0)), (λ e. (others c known).1 (e ∙ at.1)))

-- a word that the switch does not write
pub switched-other : (s : List ℕ) (t p pc c a : ℕ) → a ≢ saved_p t (current_in s t) → a ≢ saved_pc t (current_in s t) → a ≢ t + 18 → get_or (switched s t p pc c) a 0 ≡ get_or s a 0
switched-other s t p pc c a no_p no_pc no_current =
    get_or-set_other (set (set s (saved_p t (current_in s t)) p) (saved_pc t (current_in s t)) pc) (t + 18) a c 0 no_current
    ∙ get_or-set_other (set s (saved_p t (current_in s t)) p) (saved_pc t (current_in s t)) a pc 0 no_pc
    ∙ get_or-set_other s (saved_p t (current_in s t)) a p 0 no_p

pub length-switched : (s : List ℕ) (t p pc c : ℕ) → length (switched s t p pc c) ≡ length s
length-switched s t p pc c =
    length-set (set (set s (saved_p t (current_in s t)) p) (saved_pc t (current_in s t)) pc) (t + 18) c
    ∙ length-set (set s (saved_p t (current_in s t)) p) (saved_pc t (current_in s t)) pc ∙ length-set s (saved_p t (current_in s t)) p

-- the parents stay
pub switched-parent : (s : List ℕ) (t p pc c k : ℕ) → HasCoroutines s t → is_known s t k ≡ true → get_or (switched s t p pc c) (k + 1) 0 ≡ get_or s (k + 1) 0
switched-parent s t p pc c k h known =
    let apart = saved-other s t (current_in s t) (k + 1) h (current-is s t h)
    (λ e. task-apart s t k 19 1 h known (omega arith) (omega arith) (sym e)) (λ e. task-apart s t k 20 1 h known (omega arith) (omega arith) (sym e))
    (λ m other. (
      (λ e. known-same s t k m 1 0 h known other (omega arith) (omega arith) (λ z. absurd (omega (arith, z))) (omega (arith, e))),
      (λ e. known-same s t k m 1 6 h known other (omega arith) (omega arith) (λ z. absurd (omega (arith, z))) e),
    ))
    in
    switched-other s t p pc c (k + 1) apart.0 apart.1 (λ e. task-apart s t k 18 1 h known (omega arith) (omega arith) (sym e))

-- the new one is current
pub switched-current : (s : List ℕ) (t p pc c : ℕ) → HasCoroutines s t → get_or (switched s t p pc c) (t + 18) 0 ≡ c
switched-current s t p pc c h =
    get_or-set_same (set (set s (saved_p t (current_in s t)) p) (saved_pc t (current_in s t)) pc) (t + 18) c 0
    (omega (arith, (task-inside s t h).1, length-set (set s (saved_p t (current_in s t)) p) (saved_pc t (current_in s t)) pc, length-set s (saved_p t (current_in s t)) p))

-- a switch is a call
pub switched-call : (s : List ℕ) (t p pc c : ℕ) → HasCoroutines s t → IsCall s (switched s t p pc c) t
switched-call s t p pc c h =
    record {
      same_length = length-switched s t p pc c;
      others = λ a n18 n19 n20 each.
          let apart = saved-other s t (current_in s t) a h (current-is s t h) n19 n20 (λ k known. ((each k known).0, (each k known).2)) in
          switched-other s t p pc c a apart.0 apart.1 n18;
    }

-- and a parent that is written besides leaves it one
pub call-parent : (s v : List ℕ) (t k w : ℕ) → IsCall s v t → is_known s t k ≡ true → IsCall s (set v (k + 1) w) t
call-parent s v t k w c known =
    record {
      same_length = length-set v (k + 1) w ∙ c.same_length;
      others = λ a n18 n19 n20 each. get_or-set_other v (k + 1) a w 0 (each k known).1 ∙ c.others a n18 n19 n20 each;
    }

-- the parent of another coroutine
pub other-parent : (s v : List ℕ) (t k m w : ℕ) → HasCoroutines s t → is_known s t k ≡ true → is_known s t m ≡ true → m ≢ k → get_or (set v (k + 1) w) (m + 1) 0 ≡ get_or v (m + 1) 0
other-parent s v t k m w h known other differ =
    get_or-set_other v (k + 1) (m + 1) w 0 (λ e. known-apart s t m k 1 1 h other known differ (omega arith) (omega arith) e)

pub own-parent : (s v : List ℕ) (t k w : ℕ) → HasCoroutines s t → IsCall s v t → is_known s t k ≡ true → get_or (set v (k + 1) w) (k + 1) 0 ≡ w
own-parent s v t k w h c known =
    get_or-set_same v (k + 1) w 0 (omega (arith, c.same_length, (known-node s t k h known).inside))

-- a parent that is written leaves the current one
pub still-current : (s v : List ℕ) (t k w c : ℕ) → HasCoroutines s t → is_known s t k ≡ true → get_or v (t + 18) 0 ≡ c → get_or (set v (k + 1) w) (t + 18) 0 ≡ c
still-current s v t k w c h known is = get_or-set_other v (k + 1) (t + 18) w 0 (λ e. task-apart s t k 18 1 h known (omega arith) (omega arith) e) ∙ is

-- the words of a coroutine lie in the store
pub root-or-inside : (s : List ℕ) (t c : ℕ) → HasCoroutines s t → IsRootOr s t c → c + 10 ≤ length s
root-or-inside s t c h (inl root) = omega (arith, root, task-inside s t h)
root-or-inside s t c h (inr known) = omega (arith, (known-node s t c h known).inside)

-- and so do those of the task block, and of the current coroutine
pub record Bounds (s : List ℕ) (t : ℕ) : Type 0 where
  pub task : t + 23 ≤ length s
  pub current : current_in s t + 10 ≤ length s

pub bounds : (s : List ℕ) (t : ℕ) → HasCoroutines s t → Bounds s t
bounds s t h = record { task = (task-inside s t h).1; current = root-or-inside s t (current_in s t) h (current-is s t h) }
