-- A task may be created by the one that calls.
use Rattle.std.proofs.Common.{◌≤◌, ℕ, List, [], ◌∷◌, cond, eqb, true, false, inl, refl, subst, arith}
use Rattle.kernel_model.specs.KernelRecord.HoldsLists.{HoldsLists}
use Rattle.kernel_model.specs.KernelRecord.Lists.{Lists}
use Rattle.kernel_model.specs.KernelRecord.ValidTasks.{IsGuest}
use Rattle.kernel_model.specs.KernelRecord.Versions.{highest_id_of, most_modules_of}
use Rattle.kernel_calls.specs.CallAnswers.Guests.{GuestAt}
use Rattle.kernel_calls.proofs.CallAnswers.GuestTask.{guest-facts}
use Rattle.kernel_calls.specs.TaskCalls.CreateTask.{MayCreate}

some-module : (version : ℕ) → 1 ≤ most_modules_of version
some-module version = elim (eqb version 2) as (λ b. 1 ≤ cond b 8 1) [ true ↦ omega arith | false ↦ omega arith ]

pub caller-creates : (s : List ℕ) (l : Lists) (t m : ℕ) → HoldsLists s l → GuestAt l l.running t → MayCreate l 0 (m ∷ []) l.running
caller-creates s l t m h g =
    let facts = guest-facts s l l.running t h g in
    let guest : IsGuest l g.task = facts.task.guest facts.guest in
    record { number = inl refl; made_by = subst (λ i. i ≤ highest_id_of l.version) g.number guest.high; some_module = omega arith; most = some-module l.version }
