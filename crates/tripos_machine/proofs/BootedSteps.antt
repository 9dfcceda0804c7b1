-- A machine that is booted has taken no step.
use Rattle.std.proofs.Common.{◌≡◌, ℕ, List, Result, Ok, Err, None, Bool, true, false, cond, ap, drop, length, refl, replicate, subst, sym, ◌∙◌}
use Rattle.std.proofs.lemmas.List.{length-replicate}
use Rattle.session_text.specs.declared.sessions.Session.{Session}
use Rattle.module_text.specs.TextReader.Refusal.{Refusal}
use Rattle.module_text.specs.TextReader.Steps.{◌>>=◌}
use Rattle.bare_machine.specs.Boot.{boot as bare_boot, first_state, program, with_lines as with_code}
use Rattle.bare_machine.specs.State.{BareState}
use Rattle.bare_machine.proofs.CodeLines.{with_lines-length}
use Rattle.kernel_model.specs.KernelRecord.Kernel.{Kernel}
use Rattle.kernel_boot.specs.declared.refusals.BootRefusal.{BootRefusal}
use Rattle.kernel_machine.specs.KernelSteps.Stepped.{Stepped}
use Rattle.kernel_machine.specs.RunningMachine.RepresentedKernels.{RepresentsKernel}
use Rattle.kernel_machine.specs.declared.running_machine.parts.Parts.{Parts}
use Rattle.kernel_machine.proofs.KernelSteps.StepKept.{dispatch-same}
use Rattle.kernel_machine.specs.MachineBoot.Boot.{HasKernel, boot, first_kernel, started, with_lines}
use Rattle.kernel_machine.proofs.MachineBoot.BegunKernels.{first-begun, lines-begun}
use Rattle.tripos_machine.specs.Boot.{bare_booted, boot as machine_boot, kernel_booted}
use Rattle.tripos_machine.specs.Step.{Stepped as MachineStepped}

pub booted-steps : (s : Session) → HasKernel s → (x : Stepped) → boot s ≡ Ok x → x.kernel.steps ≡ 0
unfolding boot
booted-steps s h x is = on (with_lines s.lines (first_kernel s)) refl is
  where
    on : (r : Result Kernel BootRefusal) → with_lines s.lines (first_kernel s) ≡ r → (r >>= (λ k. Ok (started k))) ≡ Ok x → x.kernel.steps ≡ 0
    on (Ok k) e f =
        let same : started k ≡ x = cc in
        subst (λ (y : Stepped). y.kernel.steps ≡ 0) same ((dispatch-same k).steps ∙ (lines-begun s h (first_kernel s) k (first-begun s) e).steps)
    on (Err refusal) e f = cc

-- parts of which no key has come have the keys that are to come
pub all-to-come : (p : Parts) (k : Kernel) → RepresentsKernel p k → p.keys.come ≡ 0 → p.keys.keys ≡ k.keys
all-to-come p k h e = subst (λ n. drop n p.keys.keys ≡ k.keys) e h.keys

-- the two ways of a boot

abbrev boot-by : (s : Session) (b : Bool) → Result MachineStepped Refusal
boot-by s b = cond b (bare_booted (bare_boot s)) (kernel_booted (boot s))

pub boot-bare : (s : Session) → s.bare ≡ true → machine_boot s ≡ bare_booted (bare_boot s)
boot-bare s is = ap (boot-by s) is

pub boot-full : (s : Session) → s.bare ≡ false → machine_boot s ≡ kernel_booted (boot s)
boot-full s is = ap (boot-by s) is

-- ---- a bare machine that is booted

module _ (s : Session) (m : BareState) (is : bare_boot s ≡ Ok m) where
  from-words : (words : List ℕ) × (with_code (replicate s.store 0) program s.lines ≡ Ok words) × (first_state words ≡ m)
  unfolding bare_boot
  from-words = on (with_code (replicate s.store 0) program s.lines) refl is
    where
      on : (r : Result (List ℕ) Refusal) → with_code (replicate s.store 0) program s.lines ≡ r → (r >>= (λ words. Ok (first_state words))) ≡ Ok m
          → (words : List ℕ) × (with_code (replicate s.store 0) program s.lines ≡ Ok words) × (first_state words ≡ m)
      on (Ok words) here e = (words, here, cc)
      on (Err refusal) here e = cc

  pub bare-no-steps : m.steps ≡ 0
  bare-no-steps = ap (λ (b : BareState). b.steps) (sym from-words.2)

  pub bare-goes : m.stop ≡ None
  bare-goes = ap (λ (b : BareState). b.stop) (sym from-words.2)

  -- it has as many words as the session says
  pub bare-words : length m.words ≡ s.store
  bare-words =
      ap (λ (b : BareState). length b.words) (sym from-words.2) ∙ with_lines-length s.lines (replicate s.store 0) program from-words.0 from-words.1 ∙ length-replicate s.store 0
