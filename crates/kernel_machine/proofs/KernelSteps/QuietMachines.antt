-- Quiet spans lead from a valid kernel to a valid one.
use Rattle.std.proofs.Common.{◌≡◌, ℕ, zero, suc, ◌+◌, ◌/◌, ◌<◌, ◌≤◌, true, None, List, refl, set, sym, subst, arith}
use Rattle.instruction_set.specs.declared.Outcome.TheVariants.{Next}
use Rattle.kernel_model.specs.KernelRecord.Ranges.{most_steps}
use Rattle.kernel_model.specs.KernelRecord.Image.{HasPlainWords, IsImage, image}
use Rattle.kernel_model.specs.KernelRecord.Kernel.{Kernel}
use Rattle.kernel_model.specs.KernelRecord.Task.{is_guest_id}
use Rattle.kernel_model.specs.KernelRecord.ValidKernel.{IsValid}
use Rattle.kernel_model.specs.KernelRecord.ValidLists.{AreValid}
use Rattle.ram_disc.specs.Disc.{IsDisc}
use Rattle.kernel_machine.specs.KernelSteps.Parts.{IsTaken}
use Rattle.kernel_machine.specs.KernelSteps.Quiet.{IsQuietFor, after_instruction_of, instruction_of, passed}
use Rattle.kernel_machine.specs.KernelSteps.Step.{step, turn, with_step}
use Rattle.kernel_machine.specs.KernelSteps.Stepped.{Stepped, quietly}
use Rattle.kernel_machine.proofs.KernelSteps.NextTick.{some-period}
use Rattle.kernel_machine.proofs.KernelSteps.QuietDevices.{ticked-store}
use Rattle.kernel_machine.proofs.KernelSteps.QuietSpans.{valid-ready, guest-passed, passed-more, passed-none, quiet-behind, quiet-first}
use Rattle.kernel_machine.proofs.KernelSteps.QuietSteps.{guest-store, guest-turn, idle-ready, idle-step, left-store, other-steps}
use Rattle.kernel_machine.proofs.KernelSteps.StepKept.{step-left}
use Rattle.kernel_machine.proofs.KernelSteps.StoredWords.{HasStore}
use Rattle.kernel_machine.proofs.KernelSteps.TurnWays.{turn-nobody}

-- a store of a valid kernel
any-store : (s : List ℕ) (k : Kernel) → IsValid k → IsImage s k → HasStore s k
any-store s k h is = record { valid = h.lists; image = is; plain = h.plain }

-- where the turn leaves lists that are valid, and the disc, and the step just a kernel that has a store, that one is valid
quiet-valid : (k i j : Kernel) (t : List ℕ) → IsValid k → k.stop ≡ None → k.steps < most_steps → turn (with_step k) ≡ quietly i → AreValid i.lists → i.disc ≡ k.disc → step k ≡ quietly j → HasStore t j → IsValid j
quiet-valid k i j t h goes few turned v disc is store =
    let taken : IsTaken k =
    record {
      turned = subst (λ (x : Stepped). AreValid x.kernel.lists) (sym turned) v;
      disc = subst (λ (x : Stepped). IsDisc x.kernel.disc) (sym turned) (subst IsDisc (sym disc) h.residents.disc.valid);
      lists = subst (λ (x : Stepped). AreValid x.kernel.lists) (sym is) store.valid;
      plain = subst (λ (x : Stepped). HasPlainWords x.kernel) (sym is) store.plain;
    } in
    subst (λ (x : Stepped). IsValid x.kernel) is (step-left k h goes few taken)

-- ---- where nobody runs

pub idle-valid : (m : ℕ) (k : Kernel) → IsValid k → k.stop ≡ None → k.lists.running ≡ 0 → k.steps + m ≤ most_steps → IsQuietFor m k
    → IsValid (passed m k)
idle-valid zero k h goes none few q = subst IsValid (sym (passed-none k (h.ticks goes))) h
idle-valid (suc m) k h goes none few q =
    let ready = valid-ready k h goes in
    let some : 0 < k.lists.period = some-period k.lists h.lists in
    let first : IsQuietFor 1 k = quiet-first k some ready.ticks m q in
    let next : IsValid (passed 1 k) =
    quiet-valid k (with_step k) (passed 1 k) _ h goes (omega (arith, few)) (turn-nobody (with_step k) none) h.lists refl (idle-step (image k) k ready none first) (idle-ready (image k) k ready none first).store
    in
    subst IsValid (passed-more m k)
    (idle-valid m (passed 1 k) next goes none (omega (arith, few)) (quiet-behind k some ready.ticks m q))

-- the word of the ticks is the only one that changes
pub idle-image : (s : List ℕ) (m : ℕ) (k : Kernel) → IsValid k → IsImage s k → IsImage (set s 108 ((k.steps + m) / k.lists.period)) (passed m k)
idle-image s m k h is =
    (ticked-store s (record k { steps = k.steps + m }) (other-steps s k (k.steps + m) (any-store s k h is)) ((k.steps + m) / k.lists.period)).image

-- ---- where a guest executes an instruction

module _ (k : Kernel) (h : IsValid k) (goes : k.stop ≡ None) (guest : is_guest_id k.lists.running ≡ true) (next : (instruction_of k).outcome ≡ Next) where
  pub guest-valid : k.steps < most_steps → IsQuietFor 1 k → IsValid (passed 1 (after_instruction_of k))
  guest-valid few q =
      let ready = valid-ready k h goes in
      quiet-valid k (with_step (after_instruction_of k)) (passed 1 (after_instruction_of k)) _ h goes few (guest-turn (image k) k ready guest next) h.lists refl (guest-passed k ready guest next q)
      (guest-store (image k) k ready guest next)

  pub guest-image : IsImage (instruction_of k).words (with_step (after_instruction_of k))
  guest-image = (left-store (image k) k (valid-ready k h goes) guest next).image
