-- Steps between which no breakpoint is met.
use Rattle.std.proofs.Common.{◌≡◌, ◌∙◌, sym, ap, ℕ, ◌+◌, ◌-◌, ◌<◌, ◌≤◌, ◌⊎◌, inl, inr, false, List, [], arith}
use Rattle.std.proofs.lemmas.Bool.{cases_lt}
use Rattle.word_store.specs.declared.registers.Regs.{Regs}
use Rattle.instruction_set.specs.Breakpoints.{has_breakpoint}
use Rattle.bare_machine.specs.Run.{Avoids, Executes, is_met, run}
use Rattle.bare_machine.specs.State.{BareState, going}
use Rattle.bare_machine.specs.Step.{BareStepped}
use Rattle.bare_machine.proofs.Instructions.{executed-run}
use Rattle.bare_machine.proofs.Runs.{run-more}

-- none lies between, where there is at most one step
pub avoids-few : (bs : List ℕ) (n : ℕ) (m : BareState) → n ≤ 1 → Avoids bs n m
avoids-few bs n m few i some less = absurd (omega arith)

-- a step more, where none is met before it
pub avoids-next : (bs : List ℕ) (n : ℕ) (m : BareState) → Avoids bs n m → (0 < n → is_met bs (run n m).state ≡ false) → Avoids bs (n + 1) m
avoids-next bs n m before here i some less = elim (cases_lt i n) [
  | inl low ↦ before i some low
  | inr high ↦
      let same : n ≡ i = omega arith in
      ap (λ j. is_met bs (run j m).state) (sym same) ∙ here (omega (arith, same, some))
]

-- steps behind others, where none is met between them
pub avoids-more : (bs : List ℕ) (n k : ℕ) (m : BareState) → Avoids bs n m → is_met bs (run n m).state ≡ false → Avoids bs k (run n m).state → Avoids bs (n + k) m
avoids-more bs n k m before here behind i some less = elim (cases_lt i n) [
  | inl low ↦ before i some low
  | inr high ↦ on (i - n) (omega (arith, high)) (cases_lt 0 (i - n))
]
  where
    on : (j : ℕ) → n + j ≡ i → (0 < j) ⊎ (j ≤ 0) → is_met bs (run i m).state ≡ false
    on j at (inl some) = ap (λ x. is_met bs (run x m).state) (sym at) ∙ ap (λ (x : BareStepped). is_met bs x.state) (run-more n j m) ∙ behind j some (omega (arith, at, less))
    on j at (inr none) = (let same : i ≡ n = omega (arith, at, none) in ap (λ x. is_met bs (run x m).state) same ∙ here)

-- the address at which executed instructions have come
pub met-there : (bs : List ℕ) (n : ℕ) (s : List ℕ) (r : Regs) (t : List ℕ) (q : Regs) (k : ℕ) → Executes n s r t q → has_breakpoint q.pc bs ≡ false → is_met bs (run n (going s r k)).state ≡ false
met-there bs n s r t q k e told = ap (λ (x : BareStepped). is_met bs x.state) (executed-run n s r t q k e) ∙ told
