-- The line that a boot refuses is one of the session's: what is so of the number of each line is so of that one's.
use Rattle.std.proofs.Common.{◌≡◌, ◌⊎◌, inl, inr, ℕ, suc, ◌+◌, ◌*◌, List, [], ◌∷◌, Result, Ok, Err, Bool, true, false, length, nat_le, arith, refl, replicate, subst}
use Rattle.std.specs.Prelude.{if◌then◌else◌, Any}
use Rattle.std.specs.List.{AllByRecursion}
use Rattle.module_text.specs.TextReader.Refusal.{Refusal, refusal}
use Rattle.module_text.specs.TextReader.Steps.{◌>>=◌}
use Rattle.module_text.proofs.TextReader.StepLemmas.{bind-err}
use Rattle.session_text.specs.declared.sessions.Session.{Session}
use Rattle.session_text.specs.declared.sessions.SessionLine.{SessionLine}
use Rattle.bare_machine.specs.Boot.{boot as bare_boot, code_of, first_state, program, with_bytes, with_lines as with_code}
use Rattle.bare_machine.specs.State.{BareState}
use Rattle.kernel_model.specs.KernelRecord.Kernel.{Kernel}
use Rattle.kernel_model.specs.KernelRecord.StoreWithLists.{StoreWithLists, store_with_lists}
use Rattle.kernel_model.specs.KernelRecord.Image.{image}
use Rattle.kernel_boot.specs.BootFiles.{at_line, boot_refusal, load_files, load_form}
use Rattle.kernel_boot.specs.BootTasks.{start_form, start_tasks}
use Rattle.kernel_boot.specs.declared.refusals.BootRefusal.{BootRefusal}
use Rattle.kernel_machine.specs.KernelSteps.ResidentSteps.{with_disc}
use Rattle.kernel_machine.specs.KernelSteps.Stepped.{Stepped}
use Rattle.kernel_machine.specs.MachineBoot.Boot.{boot, first_kernel, started, with_files, with_lines, with_store_of, with_tasks}
use Rattle.tripos_machine.specs.Boot.{bare_booted, boot as machine_boot, kernel_booted}

module _ (P : ℕ → Type 0) where
  abbrev AllLines : List SessionLine → Type 0
  AllLines lines = AllByRecursion (λ (line : SessionLine). P line.line) lines

  -- ---- on a bare machine

  code-refused : (words : List ℕ) (a : ℕ) (lines : List SessionLine) (r : Refusal) → AllLines lines → with_code words a lines ≡ Err r → P r.line
  code-refused words a [] r all is = cc
  code-refused words a (line ∷ lines) r (here, later) is =
      on (nat_le (a + length (code_of line.form)) (4 * length words)) (code-refused (with_bytes words a (code_of line.form)) (a + length (code_of line.form)) lines r later) is
    where
      on : (b : Bool) → (with_code (with_bytes words a (code_of line.form)) (a + length (code_of line.form)) lines ≡ Err r → P r.line) → (if b then with_code (with_bytes words a (code_of line.form)) (a + length (code_of line.form)) lines else Err (refusal line.line 1)) ≡ Err r → P r.line
      on true rest e = rest e
      on false rest e = (let same : refusal line.line 1 ≡ r = cc in subst (λ (q : Refusal). P q.line) same here)

  bare-refused : (s : Session) (r : Refusal) → AllLines s.lines → bare_boot s ≡ Err r → P r.line
  unfolding bare_boot
  bare-refused s r all is =
      elim (bind-err (with_code (replicate s.store 0) program s.lines) (λ words. Ok (first_state words)) r is) [
        | inl e ↦ code-refused (replicate s.store 0) program s.lines r all e
        | inr e ↦ let other = e.2 in cc
      ]

  -- ---- on a machine with a kernel

  files-refused : (d : _) (lines : List SessionLine) (r : BootRefusal) → AllLines lines → load_files d lines ≡ Err r → P r.line
  files-refused d [] r all is = cc
  files-refused d (line ∷ lines) r (here, later) is = on (load_form d line.form) (λ e. files-refused e lines r later) is
    where
      on : (x : Result _ ℕ) → ((e : _) → load_files e lines ≡ Err r → P r.line) → at_line line.line x (λ e. load_files e lines) ≡ Err r → P r.line
      on (Ok e) rest f = rest e f
      on (Err code) rest f = (let same : boot_refusal line.line code ≡ r = cc in subst (λ (q : BootRefusal). P q.line) same here)

  tasks-refused : (d : _) (lines : List SessionLine) (k : StoreWithLists) (r : BootRefusal) → AllLines lines → start_tasks d lines k ≡ Err r → P r.line
  tasks-refused d [] k r all is = cc
  tasks-refused d (line ∷ lines) k r (here, later) is = on (start_form d line.form k) (λ j. tasks-refused d lines j r later) is
    where
      on : (x : Result StoreWithLists ℕ) → ((j : StoreWithLists) → start_tasks d lines j ≡ Err r → P r.line) → at_line line.line x (λ j. start_tasks d lines j) ≡ Err r → P r.line
      on (Ok j) rest f = rest j f
      on (Err code) rest f = (let same : boot_refusal line.line code ≡ r = cc in subst (λ (q : BootRefusal). P q.line) same here)

  with-files-refused : (lines : List SessionLine) (k : Kernel) (r : BootRefusal) → AllLines lines → with_files lines k ≡ Err r → P r.line
  unfolding with_files
  with-files-refused lines k r all is =
      elim (bind-err (load_files k.disc lines) (λ d. Ok (with_disc d k)) r is) [
        | inl e ↦ files-refused k.disc lines r all e
        | inr e ↦ let other = e.2 in cc
      ]

  with-tasks-refused : (lines : List SessionLine) (k : Kernel) (r : BootRefusal) → AllLines lines → with_tasks lines k ≡ Err r → P r.line
  unfolding with_tasks
  with-tasks-refused lines k r all is =
      elim (bind-err (start_tasks k.disc lines (store_with_lists (image k) k.lists)) (λ y. Ok (with_store_of y k)) r is) [
        | inl e ↦ tasks-refused k.disc lines (store_with_lists (image k) k.lists) r all e
        | inr e ↦ let other = e.2 in cc
      ]

  with-lines-refused : (lines : List SessionLine) (k : Kernel) (r : BootRefusal) → AllLines lines → with_lines lines k ≡ Err r → P r.line
  unfolding with_lines
  with-lines-refused lines k r all is =
      elim (bind-err (with_files lines k) (λ j. with_tasks lines j) r is) [
        | inl e ↦ with-files-refused lines k r all e
        | inr e ↦ with-tasks-refused lines e.0 r all e.2
      ]

  kernel-refused : (s : Session) (r : BootRefusal) → AllLines s.lines → boot s ≡ Err r → P r.line
  unfolding boot
  kernel-refused s r all is =
      elim (bind-err (with_lines s.lines (first_kernel s)) (λ k. Ok (started k)) r is) [
        | inl e ↦ with-lines-refused s.lines (first_kernel s) r all e
        | inr e ↦ let other = e.2 in cc
      ]

  -- ---- on either

  pub boot-refused : (s : Session) (r : Refusal) → AllLines s.lines → machine_boot s ≡ Err r → P r.line
  boot-refused s r all is = on s.bare is
    where
      bare : (x : Result BareState Refusal) → bare_boot s ≡ x → bare_booted x ≡ Err r → P r.line
      bare (Ok m) e f = cc
      bare (Err q) e f = (let same : q ≡ r = cc in subst (λ (t : Refusal). P t.line) same (bare-refused s q all e))

      full : (x : Result Stepped BootRefusal) → boot s ≡ x → kernel_booted x ≡ Err r → P r.line
      full (Ok y) e f = cc
      full (Err q) e f = (let same : refusal q.line q.code ≡ r = cc in subst (λ (t : Refusal). P t.line) same (kernel-refused s q all e))

      on : (b : Bool) → (if b then bare_booted (bare_boot s) else kernel_booted (boot s)) ≡ Err r → P r.line
      on true f = bare (bare_boot s) refl f
      on false f = full (boot s) refl f

-- ---- so it is one of them

abbrev HasNumber : List SessionLine → ℕ → Type 0
HasNumber lines n = Any (λ (line : SessionLine). line.line ≡ n) lines

number-later : (line : SessionLine) (lines : List SessionLine) (n : ℕ) → HasNumber lines n → HasNumber (line ∷ lines) n
number-later line lines n (k, x, low, at, is) = (suc k, x, omega (arith, low), at, is)

each-number : (P : ℕ → Type 0) (lines : List SessionLine) → ((n : ℕ) → HasNumber lines n → P n) → AllByRecursion (λ (line : SessionLine). P line.line) lines
each-number P [] f = tt
each-number P (line ∷ lines) f = (f line.line (0, line, omega arith, refl, refl), each-number P lines (λ n h. f n (number-later line lines n h)))

pub boot-line : (s : Session) (r : Refusal) → machine_boot s ≡ Err r → Any (λ (line : SessionLine). line.line ≡ r.line) s.lines
boot-line s r is = boot-refused (HasNumber s.lines) s r (each-number (HasNumber s.lines) s.lines (λ n h. h)) is
