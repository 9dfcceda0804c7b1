-- A plain step of a machine of either kind.
use Rattle.std.proofs.Common.{◌≡◌, ap, arith, suc, ℕ, ◌∷◌, List, Option, Some, None, MatchOption, subst, sym}
use Rattle.instruction_set.specs.Places.{DifferAt, addresses}
use Rattle.instruction_set.specs.declared.places.Places.{Places}
use Rattle.bare_machine.specs.Run.{IsPlainStep as IsBarePlainStep}
use Rattle.bare_machine.specs.State.{BareState}
use Rattle.kernel_model.specs.KernelRecord.Kernel.{Kernel}
use Rattle.kernel_machine.specs.RunningMachine.PlainSteps.{IsPlainStep as IsKernelPlainStep}
use Rattle.tripos_machine.specs.Breakpoints.{IsPlainStep}
use Rattle.tripos_machine.specs.State.{State}
use Rattle.tripos_machine.specs.State.State.{Bare, Full}
use Rattle.tripos_machine.specs.Step.{of_bare, of_kernel}

differ-more : (b : ℕ) (at old new : List ℕ) → DifferAt at old new → DifferAt (b ∷ at) old new
differ-more b at old new differ a other = (let x = differ a other in (suc x.0, omega (arith, x.1), x.2))

bare-plain : (p : Places) (m j : BareState) → IsBarePlainStep p m j → IsPlainStep p (Bare m) (Bare j)
bare-plain p m j x = record { step = ap of_bare x.step; goes = x.goes; differ = differ-more _ (addresses p) m.words j.words x.differ }

full-plain : (p : Places) (k j : Kernel) → IsKernelPlainStep p k j → IsPlainStep p (Full k) (Full j)
full-plain p k j x = record { step = ap of_kernel x.step; goes = x.goes; differ = x.differ }

-- the answer of a machine of one kind, as that of the machine
abbrev Answers : Option Places → State → State → Type 0
Answers o s t = MatchOption o (t ≡ s) (λ p. IsPlainStep p s t)

answered : (s t u v : State) → s ≡ u → t ≡ v → (o q : Option Places) → o ≡ q → Answers q u v → Answers o s t
answered s t u v was is o q same x = subst (λ r. Answers r s t) (sym same) (subst (λ i. Answers q i t) (sym was) (subst (λ i. Answers q u i) (sym is) x))

pub bare-answered : (s t : State) (m j : BareState) → s ≡ Bare m → t ≡ Bare j → (o q : Option Places) → o ≡ q → MatchOption q (j ≡ m) (λ p. IsBarePlainStep p m j) → Answers o s t
bare-answered s t m j was is o q same x = answered s t (Bare m) (Bare j) was is o q same (on q x)
  where
    on : (q : Option Places) → MatchOption q (j ≡ m) (λ p. IsBarePlainStep p m j) → Answers q (Bare m) (Bare j)
    on None x = ap Bare x
    on (Some p) x = bare-plain p m j x

pub full-answered : (s t : State) (k j : Kernel) → s ≡ Full k → t ≡ Full j → (o q : Option Places) → o ≡ q → MatchOption q (j ≡ k) (λ p. IsKernelPlainStep p k j) → Answers o s t
full-answered s t k j was is o q same x = answered s t (Full k) (Full j) was is o q same (on q x)
  where
    on : (q : Option Places) → MatchOption q (j ≡ k) (λ p. IsKernelPlainStep p k j) → Answers q (Full k) (Full j)
    on None x = ap Full x
    on (Some p) x = full-plain p k j x
