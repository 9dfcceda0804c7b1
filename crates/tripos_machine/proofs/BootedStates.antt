-- The state that a session boots: it has taken no step, and on a bare machine as many words as the session says, also after a run.
use Rattle.std.proofs.Common.{◌≡◌, ℕ, zero, suc, Bool, true, false, Result, Ok, Err, [], length, refl, sym, subst, ◌∙◌}
use Rattle.module_text.specs.TextReader.Refusal.{Refusal}
use Rattle.session_text.specs.Canonical.{IsLawful}
use Rattle.session_text.specs.declared.sessions.Session.{Session}
use Rattle.bare_machine.specs.Boot.{boot as bare_boot}
use Rattle.bare_machine.specs.Run.{run as bare_run}
use Rattle.bare_machine.specs.State.{BareState}
use Rattle.bare_machine.specs.Step.{step as bare_step}
use Rattle.bare_machine.proofs.WordCounts.{step-count as bare-size}
use Rattle.kernel_boot.specs.declared.refusals.BootRefusal.{BootRefusal}
use Rattle.kernel_machine.specs.KernelSteps.Stepped.{Stepped as KernelStepped}
use Rattle.kernel_machine.specs.MachineBoot.Boot.{boot as kernel_boot, first_kernel}
use Rattle.tripos_machine.specs.Boot.{bare_booted, boot, kernel_booted}
use Rattle.tripos_machine.specs.State.{State, steps_of}
use Rattle.tripos_machine.specs.State.State.{Bare, Full}
use Rattle.tripos_machine.specs.Step.{Stepped, run}
use Rattle.tripos_machine.proofs.BootedSteps.{bare-no-steps, bare-words, boot-bare, boot-full, booted-steps}
use Rattle.tripos_machine.proofs.StateRuns.{run-bare, run-full}

-- a bare machine has so many words
abbrev pub HasWords : ℕ → State → Type 0
HasWords size (Bare m) = length m.words ≡ size
HasWords size (Full k) = Unit {0}

pub record IsFirst (size : ℕ) (s : State) : Type 0 where
  pub steps : steps_of s ≡ 0
  pub words : HasWords size s

module _ (s : Session) (x : Stepped) where
  bare-first : (r : Result BareState Refusal) → bare_boot s ≡ r → bare_booted r ≡ Ok x → IsFirst s.store x.state
  bare-first (Ok m) here is =
      let same : record { state = Bare m; bytes = []; events = [] } ≡ x = cc in
      subst (λ (y : Stepped). IsFirst s.store y.state) same (record { steps = bare-no-steps s m here; words = bare-words s m here })
  bare-first (Err r) here is = cc

  full-first : IsLawful s → s.bare ≡ false → (r : Result KernelStepped BootRefusal) → kernel_boot s ≡ r → kernel_booted r ≡ Ok x → IsFirst s.store x.state
  full-first lawful full (Ok y) here is =
      let same : record { state = Full y.kernel; bytes = y.bytes; events = y.events } ≡ x = cc in
      subst (λ (z : Stepped). IsFirst s.store z.state) same (record { steps = booted-steps s (record { lawful = lawful; full = full }) y here; words = tt })
  full-first lawful full (Err r) here is = cc

  pub booted-first : IsLawful s → boot s ≡ Ok x → IsFirst s.store x.state
  booted-first lawful is = on s.bare refl
    where
      on : (b : Bool) → s.bare ≡ b → IsFirst s.store x.state
      on true bare = bare-first (bare_boot s) refl (sym (boot-bare s bare) ∙ is)
      on false full = full-first lawful full (kernel_boot s) refl (sym (boot-full s full) ∙ is)

bare-words-after : (n : ℕ) (m : BareState) → length (bare_run n m).state.words ≡ length m.words
unfolding bare_run
bare-words-after zero m = refl
bare-words-after (suc n) m = bare-words-after n (bare_step m).state ∙ bare-size m

pub words-after : (n size : ℕ) (s : State) → HasWords size s → HasWords size (run n s).state
words-after n size (Bare m) h = subst (λ (x : Stepped). HasWords size x.state) (sym (run-bare n m)) (bare-words-after n m ∙ h)
words-after n size (Full k) h = subst (λ (x : Stepped). HasWords size x.state) (sym (run-full n k)) tt

-- the most steps of a session change nothing at its boot
pub boot-alike : (s : Session) (n : ℕ) → boot (record s { go = n }) ≡ boot s
unfolding bare_boot kernel_boot first_kernel
boot-alike s n = refl
