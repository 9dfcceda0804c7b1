-- The ticks are the whole periods of the steps, in the next step too.
use Rattle.std.proofs.Common.{◌≡◌, ℕ, ◌+◌, ◌*◌, ◌/◌, ◌%◌, ◌<◌, cond, eqb, leb, sym, ap, ◌∙◌, arith, inl, inr}
use Rattle.std.proofs.lemmas.Bool.{and_parts, cases_lt, eq-eqb, leb-true, ne_eqb}
use Rattle.std.proofs.lemmas.Nat.{div-add-mod', div-mul-add, mod-mul-add, mod_below}
use Rattle.kernel_model.specs.KernelRecord.Kernel.{Kernel}
use Rattle.kernel_model.specs.KernelRecord.Lists.{Lists}
use Rattle.kernel_model.specs.KernelRecord.ValidLists.{AreValid}
use Rattle.kernel_machine.specs.KernelSteps.Parts.{tick_after}

pub next-tick : (n p : ℕ) → 0 < p → cond (eqb ((n + 1) % p) 0) (n / p + 1) (n / p) ≡ (n + 1) / p
next-tick n p some = elim (cases_lt (n % p + 1) p) [ inl low ↦ amid low | inr high ↦ whole (omega (arith, high, mod_below n p some)) ]
  where
    amid : n % p + 1 < p → cond (eqb ((n + 1) % p) 0) (n / p + 1) (n / p) ≡ (n + 1) / p
    amid low =
        let e : n + 1 ≡ n / p * p + (n % p + 1) = omega (arith, div-add-mod' n p) in
        let rest : (n + 1) % p ≡ n % p + 1 = ap (λ z. z % p) e ∙ mod-mul-add (n / p) p (n % p + 1) low in
        let whole : (n + 1) / p ≡ n / p = ap (λ z. z / p) e ∙ div-mul-add (n / p) p (n % p + 1) low in
        ap (λ b. cond b (n / p + 1) (n / p)) (ne_eqb ((n + 1) % p) 0 (λ z. absurd (omega (arith, z, rest)))) ∙ sym whole

    whole : n % p + 1 ≡ p → cond (eqb ((n + 1) % p) 0) (n / p + 1) (n / p) ≡ (n + 1) / p
    whole end =
        let next : (n / p + 1) * p ≡ n / p * p + p = omega arith in
        let e : n + 1 ≡ (n / p + 1) * p + 0 = omega (arith, div-add-mod' n p, next, end) in
        let rest : (n + 1) % p ≡ 0 = ap (λ z. z % p) e ∙ mod-mul-add (n / p + 1) p 0 some in
        let quotient : (n + 1) / p ≡ n / p + 1 = ap (λ z. z / p) e ∙ div-mul-add (n / p + 1) p 0 some in
        ap (λ b. cond b (n / p + 1) (n / p)) (eq-eqb ((n + 1) % p) 0 rest) ∙ sym quotient

pub tick-periods : (k : Kernel) (n : ℕ) → 0 < k.lists.period → k.steps ≡ n + 1 → k.lists.tick ≡ n / k.lists.period → tick_after k ≡ k.steps / k.lists.period
tick-periods k n some steps ticks =
    let p : ℕ = k.lists.period in
    (λ i. cond (eqb (steps i % p) 0) (ticks i + 1) (ticks i)) ∙ next-tick n p some ∙ ap (λ z. z / p) (sym steps)

pub some-period : (l : Lists) → AreValid l → 0 < l.period
some-period l v = omega (arith, leb-true 1 l.period (and_parts (leb 1 l.period) (leb l.period 1000000) v.numbers.period).0)
