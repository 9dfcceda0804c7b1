-- Where the first ready task runs, and it is a guest, it may make a call.
use Rattle.std.proofs.Common.{◌≡◌, ◌≢◌, ℕ, true, false, None, sym, ap, ◌∙◌, subst, arith, inl, inr}
use Rattle.std.specs.List.{AllByRecursion}
use Rattle.std.proofs.lemmas.Bool.{leb-true}
use Rattle.word_store.specs.declared.registers.Regs.{Regs}
use Rattle.kernel_model.specs.KernelRecord.Kernel.{Kernel}
use Rattle.kernel_model.specs.KernelRecord.Lists.{Lists, has_task}
use Rattle.kernel_model.specs.KernelRecord.Task.{is_guest_id}
use Rattle.kernel_model.specs.KernelRecord.ValidKernel.{IsValid}
use Rattle.kernel_model.specs.KernelRecord.ValidLists.{AreValid}
use Rattle.kernel_model.specs.KernelDispatch.Dispatch.{CanDispatch}
use Rattle.kernel_calls.specs.CallAnswers.Callers.{HasCaller}
use Rattle.resident_tasks.specs.ResidentRequests.Requests.{RunsResident}
use Rattle.guest_turns.specs.GuestTurn.{Numbers}
use Rattle.kernel_model.specs.KernelRecord.Running.{RunsAlone, RunsAs}
use Rattle.guest_turns.proofs.RunningField.{RunsIn}
use Rattle.kernel_machine.specs.KernelSteps.Parts.{RunsFirst}

-- between steps it does
pub valid-runs : (k : Kernel) → IsValid k → k.stop ≡ None → RunsFirst k.lists k.regs
valid-runs k h goes = record { runs = h.running goes; registers = h.registers }

module _ (l : Lists) (r : Regs) (h : RunsFirst l r) where
  pub runs-alone : RunsAlone l
  runs-alone = h.runs.alone

  pub runs-dispatches : CanDispatch l r
  runs-dispatches = record { field = h.runs.alone; registers = h.registers }

  pub runs-calls : AreValid l → is_guest_id l.running ≡ true → HasCaller l
  runs-calls v guest =
      record {
        guest = guest;
        there = elim v.queues.running [ inl none ↦ absurd (omega (arith, none, leb-true 5 l.running guest)) | inr some ↦ some ];
        field = h.runs.alive;
      }

  -- where a task runs it is there
  pub residents-there : AreValid l → (id : ℕ) → id ≢ 0 → l.running ≡ id → has_task id l.tasks ≡ true
  residents-there v id some is = elim v.queues.running [ inl none ↦ absurd (some (sym is ∙ none)) | inr there ↦ ap (λ i. has_task i l.tasks) (sym is) ∙ there ]

  pub runs-resident : AreValid l → is_guest_id l.running ≡ false → l.running ≢ 0 → RunsResident l
  runs-resident v resident some =
      record {
        resident = resident;
        there = elim v.queues.running [ inl none ↦ absurd (some none) | inr there ↦ there ];
        field = h.runs.alive;
      }

-- the same task runs
pub dispatch-after : (nums : Numbers) (l m : Lists) (r : Regs) → CanDispatch l r → nums.running ≡ l.running → RunsIn nums m → CanDispatch m r
dispatch-after nums l m r can same h =
    let here : m.running ≡ nums.running = ap (λ n. n.running) h.numbers in
    record {
      field = subst (λ i. AllByRecursion (RunsAs i) m.tasks) (sym here) h.alone;
      registers = record { byte = can.registers.byte; idle = λ none. can.registers.idle (ap is_guest_id (sym (here ∙ same)) ∙ none) };
    }
