-- Spans of steps in which no device acts.
use Rattle.std.proofs.Common.{subst, None, ◌≡◌, ◌≢◌, ℕ, zero, suc, ◌+◌, ◌/◌, ◌%◌, ◌<◌, ◌≤◌, true, List, [], ◌∷◌, cond, inl, inr, refl, sym, ap, ◌∙◌, arith}
use Rattle.std.proofs.Math.Nat.{div-mul-le_self}
use Rattle.std.proofs.lemmas.Bool.{ne_eqb}
use Rattle.std.proofs.lemmas.Nat.{le-div}
use Rattle.instruction_set.specs.declared.Outcome.TheVariants.{Next}
use Rattle.kernel_lists.specs.PacketQueue.QueueWords.{QueuedPacket}
use Rattle.kernel_model.specs.KernelRecord.Image.{image}
use Rattle.kernel_model.specs.KernelRecord.Kernel.{Kernel}
use Rattle.kernel_model.specs.KernelRecord.Lists.{Lists}
use Rattle.kernel_model.specs.KernelRecord.Task.{is_guest_id}
use Rattle.kernel_model.specs.KernelRecord.ValidKernel.{IsValid}
use Rattle.kernel_machine.specs.KernelSteps.Quiet.{AreDueAfter, AwaitsTick, ComeAfter, IsQuietFor, after_instruction_of, instruction_of, passed, with_ticks}
use Rattle.kernel_machine.specs.KernelSteps.Step.{run, step, with_step}
use Rattle.kernel_machine.specs.KernelSteps.Stepped.{and_then, quietly}
use Rattle.kernel_machine.proofs.KernelSteps.NextTick.{next-tick, some-period}
use Rattle.kernel_machine.proofs.KernelSteps.QuietSteps.{IsReady, guest-step, idle-ready, idle-step}
use Rattle.kernel_machine.proofs.KernelSteps.RunningCaller.{valid-runs}
use Rattle.kernel_machine.proofs.KernelSteps.StoredWords.{valid-store}

-- between steps a valid kernel is ready for one
pub valid-ready : (k : Kernel) → IsValid k → k.stop ≡ None → IsReady (image k) k
valid-ready k h goes = record { store = valid-store k h; runs = valid-runs k h goes; ticks = h.ticks goes; goes = goes }

-- ---- shorter spans, and what is left of one

come-less : (a b : ℕ) (keys : List (ℕ × ℕ)) → a ≤ b → ComeAfter b keys → ComeAfter a keys
come-less a b [] le after = tt
come-less a b (key ∷ keys) le after = omega (arith, le, after)

due-less : (a b : ℕ) (ps : List QueuedPacket) → a ≤ b → AreDueAfter b ps → AreDueAfter a ps
due-less a b [] le after = tt
due-less a b (p ∷ ps) le after = omega (arith, le, after)

div-less : (a b p : ℕ) → 0 < p → a ≤ b → a / p ≤ b / p
div-less a b p some le = le-div (a / p) b p some (omega (arith, le, div-mul-le_self a p))

-- a tick that lies between the present one and one that is awaited is awaited
awaits-less : (now later : ℕ) (l m : Lists) → m.clock ≡ l.clock → now ≤ later → l.tick ≤ m.tick → m.tick ≤ now → AwaitsTick later l → AwaitsTick now m
awaits-less now later l m same le from to (inl after) = inl (subst (AreDueAfter now) (sym same) (due-less now later l.clock le after))
awaits-less now later l m same le from to (inr is) = inr (omega (arith, le, from, to, is))

module _ (k : Kernel) (some : 0 < k.lists.period) (ticks : k.lists.tick ≡ k.steps / k.lists.period) (m : ℕ) (q : IsQuietFor (suc m) k) where
  next-less : (k.steps + 1) / k.lists.period ≤ (k.steps + suc m) / k.lists.period
  next-less = div-less (k.steps + 1) (k.steps + suc m) k.lists.period some (omega arith)

  past-less : k.lists.tick ≤ (k.steps + 1) / k.lists.period
  past-less = omega (arith, ticks, div-less k.steps (k.steps + 1) k.lists.period some (omega arith))

  -- its first step
  pub quiet-first : IsQuietFor 1 k
  quiet-first = record {
    output = q.output;
    keyboard = q.keyboard;
    keys = come-less (k.steps + 1) (k.steps + suc m) k.keys (omega arith) q.keys;
    clock = awaits-less ((k.steps + 1) / k.lists.period) ((k.steps + suc m) / k.lists.period) k.lists k.lists refl next-less (omega arith) past-less q.clock;
  }

  -- what is left behind it
  pub quiet-behind : IsQuietFor m (passed 1 k)
  quiet-behind =
      let whole : k.steps + 1 + m ≡ k.steps + suc m = omega arith in
      record {
        output = q.output;
        keyboard = q.keyboard;
        keys = come-less (k.steps + 1 + m) (k.steps + suc m) k.keys (omega arith) q.keys;
        clock =
            awaits-less ((k.steps + 1 + m) / k.lists.period) ((k.steps + suc m) / k.lists.period) k.lists (passed 1 k).lists refl
            (omega (arith, ap (λ n. n / k.lists.period) whole)) past-less (div-less (k.steps + 1) (k.steps + 1 + m) k.lists.period some (omega arith)) q.clock;
      }

-- ---- where nobody runs

pub passed-more : (m : ℕ) (k : Kernel) → passed m (passed 1 k) ≡ passed (suc m) k
passed-more m k = (let whole : k.steps + 1 + m ≡ k.steps + suc m = omega arith in ap (λ n. with_ticks (record k { steps = n })) whole)

pub passed-none : (k : Kernel) → k.lists.tick ≡ k.steps / k.lists.period → passed 0 k ≡ k
passed-none k ticks =
    let none : k.steps + 0 ≡ k.steps = omega arith in
    ap (λ n. with_ticks (record k { steps = n })) none ∙ ap (λ t. record k { lists = record k.lists { tick = t } }) (sym ticks)

pub idle-run : (m : ℕ) (s : List ℕ) (k : Kernel) → IsReady s k → k.lists.running ≡ 0 → IsQuietFor m k → run m k ≡ quietly (passed m k)
unfolding run
idle-run zero s k h none q = ap quietly (sym (passed-none k h.ticks))
idle-run (suc m) s k h none q =
    let some : 0 < k.lists.period = some-period k.lists h.store.valid in
    let first : IsQuietFor 1 k = quiet-first k some h.ticks m q in
    ap (λ x. and_then x (run m)) (idle-step s k h none first) ∙ idle-run m _ (passed 1 k) (idle-ready s k h none first) none (quiet-behind k some h.ticks m q) ∙ ap quietly (passed-more m k)

-- ---- where a guest executes an instruction

-- where the step is no tick, the ticks stay
no-tick : (k : Kernel) → 0 < k.lists.period → k.lists.tick ≡ k.steps / k.lists.period → (k.steps + 1) % k.lists.period ≢ 0 → passed 1 k ≡ with_step k
no-tick k some ticks amid =
    let p : ℕ = k.lists.period in
    let stays : (k.steps + 1) / p ≡ k.lists.tick =
    sym (next-tick k.steps p some) ∙ ap (λ b. cond b (k.steps / p + 1) (k.steps / p)) (ne_eqb ((k.steps + 1) % p) 0 amid) ∙ sym ticks
    in
    ap (λ t. record k { steps = k.steps + 1; lists = record k.lists { tick = t } }) stays

module _ (k : Kernel) (h : IsReady (image k) k) where
  some-steps : 0 < k.lists.period
  some-steps = some-period k.lists h.store.valid

  pub guest-passed : is_guest_id k.lists.running ≡ true → (instruction_of k).outcome ≡ Next → IsQuietFor 1 k → step k ≡ quietly (passed 1 (after_instruction_of k))
  guest-passed guest next q = guest-step (image k) k h guest next q

  pub guest-behind : (m : ℕ) → IsQuietFor (suc m) k → IsQuietFor m (passed 1 (after_instruction_of k))
  guest-behind m q = quiet-behind (after_instruction_of k) some-steps h.ticks m (record { output = q.output; keyboard = q.keyboard; keys = q.keys; clock = q.clock })

  pub passed-amid : (k.steps + 1) % k.lists.period ≢ 0 → passed 1 (after_instruction_of k) ≡ with_step (after_instruction_of k)
  passed-amid amid = no-tick (after_instruction_of k) some-steps h.ticks amid

  -- whatever the kernel is called that the step leaves
  pub guest-left : (m : ℕ) (j : Kernel) → is_guest_id k.lists.running ≡ true → (instruction_of k).outcome ≡ Next → IsQuietFor (suc m) k → step k ≡ quietly j → IsQuietFor m j
  guest-left m j guest next q is =
      let same : passed 1 (after_instruction_of k) ≡ j = ap (λ x. x.kernel) (sym (guest-passed guest next (quiet-first k some-steps h.ticks m q)) ∙ is) in
      subst (IsQuietFor m) same (guest-behind m q)
