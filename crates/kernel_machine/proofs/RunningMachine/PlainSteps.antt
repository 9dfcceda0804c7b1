-- A step in which the running guest executes an instruction, and nothing else happens.
use Rattle.std.proofs.Common.{◌≡◌, ℕ, zero, suc, ◌+◌, ◌<◌, ◌≤◌, true, Bool, List, ◌∷◌, Option, Some, None, length, set, refl, sym, ap, ◌∙◌, subst, arith, inl, inr}
use Rattle.std.specs.List.{Contains}
use Rattle.std.specs.Prelude.{MatchOption}
use Rattle.std.proofs.lemmas.Bool.{cases_eq}
use Rattle.std.proofs.lemmas.List.{get_or-set_other}
use Rattle.word_store.specs.declared.registers.Regs.{Regs}
use Rattle.instruction_set.specs.Instruction.{instruction}
use Rattle.instruction_set.specs.Places.{DifferAt, addresses}
use Rattle.instruction_set.specs.declared.Outcome.{Outcome}
use Rattle.instruction_set.specs.declared.Outcome.TheVariants.{Next}
use Rattle.instruction_set.specs.declared.places.Places.{Places}
use Rattle.instruction_set.proofs.Unexecuted.{stays-instruction}
use Rattle.kernel_model.specs.KernelRecord.ChangedStore.{HasKeeper}
use Rattle.kernel_model.specs.KernelRecord.HoldsLists.{HoldsLists}
use Rattle.kernel_model.specs.KernelRecord.Image.{image}
use Rattle.kernel_model.specs.KernelRecord.Kernel.{Kernel}
use Rattle.kernel_model.specs.KernelRecord.Lists.{Lists}
use Rattle.kernel_model.specs.KernelRecord.Ranges.{most_steps}
use Rattle.kernel_model.specs.KernelRecord.Task.{is_guest_id}
use Rattle.kernel_model.specs.declared.kernel_record.stops.Stop.{Stop}
use Rattle.kernel_model.specs.WordKinds.ByteMap.{MarksAll}
use Rattle.kernel_model.proofs.KernelRecord.ImageWords.{image-list}
use Rattle.guest_turns.specs.Guarded.{is_owned}
use Rattle.kernel_machine.specs.KernelSteps.Quiet.{IsQuietFor}
use Rattle.kernel_machine.specs.KernelSteps.Step.{run}
use Rattle.kernel_machine.specs.declared.running_machine.parts.Parts.{Parts}
use Rattle.kernel_machine.specs.RunningMachine.Machine.{IsWhole, kernel_of}
use Rattle.kernel_machine.specs.RunningMachine.PlainSteps.{DifferBeside, IsPlain, IsPlainStep}
use Rattle.kernel_machine.specs.RunningMachine.Runs.{HasPassed, IsOnWay, counted}
use Rattle.kernel_machine.proofs.RunningMachine.MachineStep.{goes-passed, run-passed, whole-passed}
use Rattle.kernel_machine.proofs.RunningMachine.QuietSpan.{instruction-here, on-way-first, on-way-next}
use Rattle.kernel_machine.proofs.RunningMachine.RunParts.{run-one}
use Rattle.instruction_set.proofs.PlacesWritten.{rest-contained}

-- ---- the words beside the ticks

-- a word is written
differ-ticked : (a w : ℕ) (at old new : List ℕ) → DifferAt at old new → DifferAt (a ∷ at) old (set new a w)
differ-ticked a w at old new d b other = elim (cases_eq b a) [
  | inl same ↦ subst (Contains (a ∷ at)) (sym same) (zero, omega arith, refl)
  | inr ne ↦ rest-contained a b at (d b (λ same. other (same ∙ sym (get_or-set_other new a b w 0 ne))))
]

-- ---- the parts

module _ (p : Parts) (w : IsWhole p None) where
  abbrev now : Kernel
  now = kernel_of p None

  pub byte-whole : p.regs.c < 256
  byte-whole = subst (λ r. r.c < 256) (sym w.represents.regs) w.valid.registers.byte

  pub keeper-whole : (l : Lists) × HasKeeper p.store (MarksAll p.kinds) (length p.kinds) l
  keeper-whole = (now.lists, w.represents.keeper)

  -- in a plain step the instruction is executed
  pub plain-executed : (o : Outcome) → ((l : Lists) → HasKeeper p.store (MarksAll p.kinds) (length p.kinds) l → o ≡ (instruction (is_owned l) p.store p.regs).outcome) → IsPlain now → o ≡ Next
  plain-executed o outcome plain =
      outcome now.lists w.represents.keeper ∙ (λ j. (instruction (is_owned now.lists) (image-list p.store now w.represents.image j) (w.represents.regs j)).outcome) ∙ plain.executed

  module _ (t : List ℕ) (r : Regs) (o : Outcome) (outcome : (l : Lists) → HasKeeper p.store (MarksAll p.kinds) (length p.kinds) l → o ≡ (instruction (is_owned l) p.store p.regs).outcome) (words : (l : Lists) → HasKeeper p.store (MarksAll p.kinds) (length p.kinds) l → t ≡ (instruction (is_owned l) p.store p.regs).words) (regs : (l : Lists) → HasKeeper p.store (MarksAll p.kinds) (length p.kinds) l → r ≡ (instruction (is_owned l) p.store p.regs).regs) (lists : (l : Lists) → HasKeeper p.store (MarksAll p.kinds) (length p.kinds) l → HoldsLists t l) where
    -- what is not executed leaves the parts
    pub whole-stays : (o ≡ Next → ⊥) → record p { store = t; regs = r } ≡ p
    whole-stays other =
        let l : Lists = now.lists in
        let keeper : HasKeeper p.store (MarksAll p.kinds) (length p.kinds) l = w.represents.keeper in
        let same = (stays-instruction (is_owned l) p.store p.regs).stays (λ e. other (outcome l keeper ∙ e)) in
        λ j. record p { store = (words l keeper ∙ same.0) j; regs = (regs l keeper ∙ same.1) j }

    -- an instruction is executed, and the step is counted
    pub passed-one : is_guest_id now.lists.running ≡ true → IsQuietFor 1 now → now.steps + 1 ≤ most_steps → o ≡ Next → HasPassed 1 now (counted 1 (record p { store = t; regs = r }))
    passed-one guest quiet few next =
        let way : IsOnWay now 0 1 p = on-way-first p w 1 guest (λ some. quiet) in
        let enough : now.steps + (0 + suc 0) ≤ most_steps = omega (arith, few) in
        let l : Lists = (run 0 now).kernel.lists in
        let keeper : HasKeeper p.store (MarksAll p.kinds) (length p.kinds) l = way.passed.represents.keeper in
        let same = instruction-here now 0 0 p way enough in
        (on-way-next now 0 0 p way enough (ap (λ z. z.outcome) (sym same) ∙ (sym (outcome l keeper) ∙ next)) t r (lists l keeper) (words l keeper ∙ ap (λ z. z.words) same) (regs l keeper ∙ ap (λ z. z.regs) same)).passed

    -- the words beside the ticks are those that it left
    pub differ-one : (places : Places) (n : ℕ) → ((marks : ℕ → Bool) → DifferAt (addresses places) p.store (instruction marks p.store p.regs).words) → DifferBeside places p.store (set t 108 n)
    differ-one places n d =
        let l : Lists = now.lists in
        differ-ticked 108 n (addresses places) p.store t (subst (DifferAt (addresses places) p.store) (sym (words l w.represents.keeper)) (d (is_owned l)))

-- ---- the machine

module _ (p : Parts) (stop : Option Stop) (w : IsWhole p stop) (goes : (kernel_of p stop).stop ≡ None) (q : Parts) where
  abbrev Executed : Places → Type 0
  Executed places = HasPassed 1 (kernel_of p None) q × DifferBeside places p.store q.store

  pub whole-plain : (o : Option Places) → MatchOption o (q ≡ p) Executed → IsWhole q stop
  whole-plain None same = subst (λ z. IsWhole z stop) (sym same) w
  whole-plain (Some places) (passed, differ) = whole-passed p stop w goes 1 q passed

  plain-step : (places : Places) → Executed places → IsPlainStep places (kernel_of p stop) (kernel_of q stop)
  plain-step places (passed, differ) =
      let k : Kernel = kernel_of p stop in
      let j : Kernel = kernel_of q stop in
      let old : p.store ≡ image k = image-list p.store k w.represents.image in
      let new : q.store ≡ image j = image-list q.store j (whole-passed p stop w goes 1 q passed).represents.image in
      record {
        step = sym (run-one k) ∙ run-passed p stop w goes 1 q passed;
        goes = goes-passed p stop w goes 1 q passed;
        differ = subst (DifferBeside places (image k)) new (subst (λ z. DifferBeside places z q.store) old differ);
      }

  pub step-plain : (o : Option Places) → MatchOption o (q ≡ p) Executed → MatchOption o (kernel_of q stop ≡ kernel_of p stop) (λ x. IsPlainStep x (kernel_of p stop) (kernel_of q stop))
  step-plain None same = ap (λ z. kernel_of z stop) same
  step-plain (Some places) x = plain-step places x
