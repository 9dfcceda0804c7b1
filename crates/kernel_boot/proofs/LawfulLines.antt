-- The tasks of a lawful session.
use Rattle.std.proofs.Common.{◌≡◌, ℕ, ◌≤◌, ◌&&◌, leb, Bool, true, false, List, [], ◌∷◌, length, inl, inr, sym, subst, arith}
use Rattle.std.specs.List.{AllByRecursion, list_all}
use Rattle.std.proofs.lemmas.Bool.{and_parts, cases_eq, leb-true}
use Rattle.session_text.specs.Canonical.{IsLawful, IsLawfulForm}
use Rattle.kernel_model.specs.KernelRecord.Ranges.{IsVersion}
use Rattle.session_text.specs.Ranges.{highest_task, is_priority, is_stack, is_task, most_names}
use Rattle.ram_disc.specs.Name.{is_name}
use Rattle.session_text.specs.declared.sessions.LineForm.{LineForm}
use Rattle.session_text.specs.declared.sessions.LineForm.TheVariants.{Code, File, Task}
use Rattle.session_text.specs.declared.sessions.Session.{Session}
use Rattle.session_text.specs.declared.sessions.SessionLine.{SessionLine}
use Rattle.kernel_model.specs.KernelRecord.Versions.{highest_id_of, most_modules_of}
use Rattle.kernel_boot.specs.BootTasks.{AreBootLines, IsBootForm}

by-version : (P : ℕ → Type 0) (version : ℕ) → IsVersion version → P 1 → P 2 → P version
by-version P version v first second =
    elim (cases_eq version 1) [
      | inl e ↦ subst P (sym e) first
      | inr ne ↦ (let two : 2 ≡ version = omega (arith, v.0, v.1) in subst P two second)
    ]

form-lawful : (bare : Bool) (version : ℕ) (form : LineForm) → IsVersion version → IsLawfulForm bare version form → IsBootForm version form
form-lawful true version (Code bytes) v h = tt
form-lawful true version (File name bytes) v h = tt
form-lawful true version (Task id pri stack names) v h = absurd h
form-lawful false version (Code bytes) v h = tt
form-lawful false version (File name bytes) v h = tt
form-lawful false version (Task id pri stack names) v h =
    let all = and_parts (is_task version id && is_priority pri && is_stack stack) (list_all is_name names) h.2 in
    let numbers = and_parts (is_task version id && is_priority pri) (is_stack stack) all.0 in
    let task = and_parts (is_task version id) (is_priority pri) numbers.0 in
    let number = and_parts (leb 5 id) (leb id (highest_task version)) task.0 in
    record {
      low = leb-true 5 id number.0;
      high = by-version (λ n. id ≤ highest_task n → id ≤ highest_id_of n) version v (λ k. k) (λ k. k) (leb-true id (highest_task version) number.1);
      some_module = h.0;
      most = by-version (λ n. length names ≤ most_names n → length names ≤ most_modules_of n) version v (λ k. k) (λ k. k) h.1;
    }

lines-lawful : (bare : Bool) (version : ℕ) (lines : List SessionLine) → IsVersion version → AllByRecursion (λ line. IsLawfulForm bare version line.form) lines → AreBootLines version lines
lines-lawful bare version [] v all = tt
lines-lawful bare version (line ∷ lines) v all = (form-lawful bare version line.form v all.0, lines-lawful bare version lines v all.1)

pub boot-lines : (s : Session) → IsLawful s → AreBootLines s.version s.lines
boot-lines s h = lines-lawful s.bare s.version s.lines h.version h.lines
