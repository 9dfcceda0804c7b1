-- A call about a task, and its answer.
use Rattle.std.proofs.Common.{◌≡◌, ℕ, List, Bool, Result}
use Rattle.kernel_lists.specs.OwnedWords.Owned.{owners}
use Rattle.kernel_model.specs.KernelRecord.HoldsLists.{HoldsLists}
use Rattle.kernel_model.specs.KernelRecord.Kernel.{Shell}
use Rattle.kernel_model.specs.KernelRecord.Lists.{Lists}
use Rattle.kernel_model.specs.KernelRecord.Owned.{owned}
use Rattle.ram_disc.specs.Disc.{Disc}
use Rattle.kernel_calls.specs.CallAnswers.CallChange.{CallChange, Leaves, plain_answer}
use Rattle.kernel_calls.specs.CallAnswers.Outside.{Outside}
use Rattle.kernel_calls.specs.TaskCalls.ChangePri.{change_pri}
use Rattle.kernel_calls.specs.TaskCalls.HoldTask.{hold}
use Rattle.kernel_calls.specs.TaskCalls.ReleaseTask.{release}
use Rattle.kernel_calls.specs.TaskCalls.SetFlags.{set_flags}
use Rattle.kernel_calls.proofs.TaskCalls.SameWords.{change_pri-owners, hold-owners, release-owners, set_flags-owners}
use Rattle.resident_tasks.specs.ResidentRequests.Requests.{RunsResident}
use Rattle.kernel_model.specs.declared.kernel_record.numbers.TheConstants.{SHELL}
use Rattle.shell.specs.Commands.{by_call}
use Rattle.shell.specs.DoneParts.{IsDone, IsReady, ShellStart}
use Rattle.shell.specs.Prompts.{answered}
use Rattle.shell.specs.TurnParts.{ShellTurn, called}
use Rattle.shell.proofs.DoneParts.{answered-plainly, done-is, ready-called}
use Rattle.shell.proofs.RunningShell.{GoesOn, flags-goes, hold-goes, pri-goes, release-goes}

-- It leaves the same words owned, and the shell goes on running.
pub record IsTaskCall (call : Lists → CallChange) : Type 0 where
  pub owns : (s : List ℕ) (l : Lists) → HoldsLists s l → (a : ℕ) → owners a (owned (call l).lists) ≡ owners a (owned l)
  pub goes : (s t : List ℕ) (l : Lists) → HoldsLists s l → HoldsLists t (call l).lists → l.running ≡ SHELL → RunsResident l → GoesOn l (call l)

pub hold-call : (task : ℕ) → IsTaskCall (λ l. hold l task)
hold-call task = record { owns = λ s l h a. hold-owners s l h a task; goes = λ s t l h k is r. hold-goes l task r }

pub release-call : (task : ℕ) → IsTaskCall (λ l. release l task)
release-call task = record { owns = λ s l h a. release-owners s l h a task; goes = λ s t l h k is r. release-goes l task r }

pub priority-call : (task priority : ℕ) → IsTaskCall (λ l. change_pri l task priority)
priority-call task priority = record { owns = λ s l h a. change_pri-owners s l h a task priority; goes = λ s t l h k is r. pri-goes s t l task priority h k is r }

pub flags-call : (task flags : ℕ) → IsTaskCall (λ l. set_flags l task flags)
flags-call task flags = record { owns = λ s l h a. set_flags-owners s l h a task flags; goes = λ s t l h k is r. flags-goes l task flags r }

-- the store that was t is u, and the call's outcome is o
module _ {b : ShellStart} {t : List ℕ} {tells : List ℕ → Type 0} {room : ℕ} {now : Outside} {sh : Shell} {d : Disc} {x : ShellTurn} (r : IsReady b t tells room now sh d x)
    (call : Lists → CallChange) (is : IsTaskCall call) (u : List ℕ) (o : Result (Unit {0}) ℕ) (leaves : (l : Lists) → HoldsLists t l → Leaves t u (plain_answer o) (call l)) where
  pub ready-by-call : IsReady b u tells room now sh d (called (call x.store.lists) x)
  ready-by-call =
      let l = x.store.lists in
      let h = r.done.represents.keeper.lists in
      let y = leaves l h in
      ready-called r u (plain_answer o) (call l) y (is.owns t l h) (is.goes t u l h y.lists.lists r.done.is r.done.runs)

  -- once the outcome is answered
  pub done-by-call : {v : List ℕ} {told : List ℕ → Type 0} {after : ℕ} {later : Outside} {sh' : Shell} {e : Disc} {fin : Bool}
      → ((y : ShellTurn) → IsReady b u tells room now sh d y → IsDone b v told after later sh' e fin (answered o y)) → IsDone b v told after later sh' e fin (by_call (call x.store.lists) x)
  done-by-call answer = done-is (answer _ ready-by-call) _ (answered-plainly o (call x.store.lists).answer _ (leaves x.store.lists r.done.represents.keeper.lists).answered)
