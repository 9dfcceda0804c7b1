-- A guest's steps that are still to be counted.
use Rattle.std.proofs.Common.{◌≡◌, ℕ, suc, ◌+◌, ◌*◌, ◌-◌, ◌/◌, ◌%◌, ◌<◌, ◌≤◌, List, get_or, length, set, refl, sym, ap, ◌∙◌, subst, arith}
use Rattle.std.proofs.Math.Nat.{div-add-mod, div-lt_iff_lt-mul, mod-lt}
use Rattle.std.proofs.lemmas.List.{set-get_or}
use Rattle.std.proofs.lemmas.Nat.{le-div}
use Rattle.kernel_model.specs.KernelRecord.Ranges.{most_steps}
use Rattle.word_store.specs.declared.registers.Regs.{Regs}
use Rattle.instruction_set.specs.Instruction.{instruction}
use Rattle.instruction_set.specs.declared.Outcome.{Outcome}
use Rattle.instruction_set.specs.declared.Outcome.TheVariants.{Next}
use Rattle.instruction_set.proofs.Unexecuted.{stays-instruction}
use Rattle.kernel_model.specs.KernelRecord.ChangedStore.{HasKeeper}
use Rattle.kernel_model.specs.KernelRecord.HoldsLists.{HoldsLists}
use Rattle.kernel_model.specs.KernelRecord.Kernel.{Kernel}
use Rattle.kernel_model.specs.KernelRecord.Lists.{Lists}
use Rattle.kernel_model.specs.WordKinds.ByteMap.{MarksAll}
use Rattle.guest_turns.specs.Guarded.{is_owned}
use Rattle.kernel_machine.specs.declared.running_machine.parts.Parts.{Parts}
use Rattle.kernel_machine.specs.KernelSteps.Step.{run}
use Rattle.kernel_machine.specs.RunningMachine.Runs.{HasNoTick, IsOnWay, counted}
use Rattle.kernel_machine.proofs.RunningMachine.QuietParts.{held-tick}
use Rattle.kernel_machine.proofs.RunningMachine.QuietSpan.{instruction-here, on-way-next}

-- the kernel that n steps leave
abbrev reached : ℕ → Kernel → Kernel
reached n k = (run n k).kernel

module _ (k : Kernel) (n m i : ℕ) (p : Parts) (way : IsOnWay k n m (counted i p)) where
  -- what was not executed left the parts
  pub uncounted-stays : (t : List ℕ) (r : Regs) → (t ≡ p.store) × (r ≡ p.regs) → IsOnWay k n m (counted i (record p { store = t; regs = r }))
  uncounted-stays t r same = subst (IsOnWay k n m) (λ j. counted i (record p { store = sym same.0 j; regs = sym same.1 j })) way

  tick-here : (reached n k).lists.tick ≡ (p.step + i) / p.period
  tick-here = way.passed.valid.ticks way.passed.goes ∙ (λ j. sym way.passed.represents.steps j / sym way.passed.represents.period j)

  -- a store that holds the lists has that tick
  pub told-here : (s : List ℕ) → HoldsLists s (reached n k).lists → get_or s 108 0 ≡ (p.step + i) / p.period
  told-here s held = held-tick s (reached n k).lists held ∙ tick-here

  -- the store has it already
  module _ (told : get_or p.store 108 0 ≡ (p.step + i) / p.period) where
    abbrev stepped : Parts
    stepped = record p { step = p.step + i }

    counted-same : counted i p ≡ stepped
    counted-same = λ j. record stepped { store = (ap (set p.store 108) (sym told) ∙ set-get_or p.store 108 0) j }

    way-stepped : IsOnWay k n m stepped
    way-stepped = subst (IsOnWay k n m) counted-same way

    pub keeper-here : HasKeeper p.store (MarksAll p.kinds) (length p.kinds) (reached n k).lists
    keeper-here = way-stepped.passed.represents.keeper

    pub byte-here : p.regs.c < 256
    byte-here = subst (λ r. r.c < 256) (sym way-stepped.passed.represents.regs) way-stepped.passed.valid.registers.byte

-- one instruction more
module _ (k : Kernel) (n m i : ℕ) (p : Parts) (way : IsOnWay k n (suc m) (counted i p)) (told : get_or p.store 108 0 ≡ (p.step + i) / p.period) (few : k.steps + (n + suc m) ≤ most_steps) where
  pub uncounted-next : (t : List ℕ) (r : Regs) (outcome : Outcome) → outcome ≡ (instruction (is_owned (reached n k).lists) p.store p.regs).outcome
      → t ≡ (instruction (is_owned (reached n k).lists) p.store p.regs).words → r ≡ (instruction (is_owned (reached n k).lists) p.store p.regs).regs → HoldsLists t (reached n k).lists → outcome ≡ Next
      → IsOnWay k (n + 1) m (counted (i + 1) (record p { store = t; regs = r }))
  uncounted-next t r outcome is words regs holds next =
      let q : Parts = record p { step = p.step + i } in
      let on : IsOnWay k n (suc m) q = way-stepped k n (suc m) i p way told in
      let same = instruction-here k n m q on few in
      let e : (p.step + i) + 1 ≡ p.step + (i + 1) = omega arith in
      subst (λ z. IsOnWay k (n + 1) m (record p { step = z; store = set t 108 (z / p.period); regs = r })) e
      (on-way-next k n m q on few (ap (λ z. z.outcome) (sym same) ∙ (sym is ∙ next)) t r holds (words ∙ ap (λ z. z.words) same) (regs ∙ ap (λ z. z.regs) same))

-- ---- none is executed yet

module _ (k : Kernel) (n m : ℕ) (p : Parts) (way : IsOnWay k n m p) where
  pub told-first : get_or p.store 108 0 ≡ p.step / p.period
  told-first =
      held-tick p.store (reached n k).lists way.passed.represents.keeper.lists ∙ (way.passed.valid.ticks way.passed.goes ∙ (λ j. sym way.passed.represents.steps j / sym way.passed.represents.period j))

  pub way-uncounted : IsOnWay k (n + 0) (m - 0) (counted 0 p)
  way-uncounted =
      let still : p.step ≡ p.step + 0 = omega arith in
      let told : get_or p.store 108 0 ≡ (p.step + 0) / p.period = told-first ∙ ap (λ z. z / p.period) still in
      let same : p ≡ counted 0 p = (λ j. record p { step = still j; store = (sym (set-get_or p.store 108 0) ∙ ap (set p.store 108) told) j }) in
      subst (λ z. IsOnWay k (n + 0) z (counted 0 p)) (omega arith) (subst (λ z. IsOnWay k z m (counted 0 p)) (omega arith) (subst (IsOnWay k n m) same way))

-- ---- the parts p have become q by so many instructions, which are still to be counted, of at most `most`

pub record IsCounting (p q : Parts) (most taken : ℕ) : Type 0 where
  -- they are on the way of whatever kernel p is
  pub way : (k : Kernel) (n m : ℕ) → IsOnWay k n m p → most ≤ m → k.steps + (n + m) ≤ most_steps → IsOnWay k (n + taken) (m - taken) (counted taken q)
  -- the word of the root has the ticks still
  pub tick : get_or q.store 108 0 ≡ p.step / p.period
  -- what no instruction writes
  pub step : q.step ≡ p.step
  pub period : q.period ≡ p.period
  pub keys : q.keys.keys ≡ p.keys.keys

-- a kernel that is on the way
abbrev pub Underway : Parts → ℕ → Type 0
Underway p most = (k : Kernel) × (n : ℕ) × (m : ℕ) × IsOnWay k n m p × (most ≤ m) × (k.steps + (n + m) ≤ most_steps)

pub counting-first : (p : Parts) (most : ℕ) → Underway p most → IsCounting p p most 0
counting-first p most w = record { way = λ k n m x le few. way-uncounted k n m p x; tick = told-first w.0 w.1 w.2 p w.3; step = refl; period = refl; keys = refl }

module _ (p q : Parts) (most taken : ℕ) (x : IsCounting p q most taken) (w : Underway p most) (before : HasNoTick most p) (low : taken < most) where
  -- the word of the root has the ticks while so few are executed
  told-now : get_or q.store 108 0 ≡ (q.step + taken) / q.period
  told-now = x.tick ∙ (sym (before taken low) ∙ (λ i. (sym x.step i + taken) / sym x.period i))

  way-now : IsOnWay w.0 (w.1 + taken) (w.2 - taken) (counted taken q)
  way-now = x.way w.0 w.1 w.2 w.3 w.4 w.5

  pub byte-now : q.regs.c < 256
  byte-now = byte-here w.0 (w.1 + taken) (w.2 - taken) taken q way-now told-now

  abbrev lists-now : Lists
  lists-now = (reached (w.1 + taken) w.0).lists

  keeper-of : HasKeeper q.store (MarksAll q.kinds) (length q.kinds) lists-now
  keeper-of = keeper-here w.0 (w.1 + taken) (w.2 - taken) taken q way-now told-now

  pub keeper-now : (l : Lists) × HasKeeper q.store (MarksAll q.kinds) (length q.kinds) l
  keeper-now = (lists-now, keeper-of)

  -- one more is tried
  module _ (t : List ℕ) (r : Regs) (o : Outcome) (outcome : (l : Lists) → HasKeeper q.store (MarksAll q.kinds) (length q.kinds) l → o ≡ (instruction (is_owned l) q.store q.regs).outcome) (words : (l : Lists) → HasKeeper q.store (MarksAll q.kinds) (length q.kinds) l → t ≡ (instruction (is_owned l) q.store q.regs).words) (regs : (l : Lists) → HasKeeper q.store (MarksAll q.kinds) (length q.kinds) l → r ≡ (instruction (is_owned l) q.store q.regs).regs) (lists : (l : Lists) → HasKeeper q.store (MarksAll q.kinds) (length q.kinds) l → HoldsLists t l) where
    -- what is not executed leaves the words and the registers
    pub stays-tried : (o ≡ Next → ⊥) → (t ≡ q.store) × (r ≡ q.regs)
    stays-tried other =
        let same = (stays-instruction (is_owned lists-now) q.store q.regs).stays (λ e. other (outcome lists-now keeper-of ∙ e)) in
        (words lists-now keeper-of ∙ same.0, regs lists-now keeper-of ∙ same.1)

    pub counting-next : o ≡ Next → IsCounting p (record q { store = t; regs = r }) most (taken + 1)
    counting-next next = record {
      way = λ k n m on le few.
          let way = x.way k n m on le few in
          let l = (reached (n + taken) k).lists in
          let keeper = keeper-here k (n + taken) (m - taken) taken q way told-now in
          let some : m - taken ≡ suc (m - (taken + 1)) = omega (arith, low, le) in
          let whole : k.steps + ((n + taken) + suc (m - (taken + 1))) ≤ most_steps = omega (arith, few, low, le) in
          let e : (n + taken) + 1 ≡ n + (taken + 1) = omega arith in
          let behind = uncounted-next k (n + taken) (m - (taken + 1)) taken q (subst (λ z. IsOnWay k (n + taken) z (counted taken q)) some way) told-now whole t r o (outcome l keeper) (words l keeper)
          (regs l keeper) (lists l keeper) next in
          subst (λ z. IsOnWay k z (m - (taken + 1)) (counted (taken + 1) (record q { store = t; regs = r }))) e behind;
      tick = told-here w.0 (w.1 + taken) (w.2 - taken) taken q way-now t (lists lists-now keeper-of) ∙ ((λ j. (x.step j + taken) / x.period j) ∙ before taken low);
      step = x.step;
      period = x.period;
      keys = x.keys;
    }

-- ---- up to the next tick

-- before so many steps the whole periods are as many as they are now
pub no-tick : (p : Parts) → 0 < p.period → HasNoTick (p.period - p.step % p.period) p
no-tick p some i low =
    let q : ℕ = p.step / p.period in
    let whole : p.period * q + p.step % p.period ≡ p.step = div-add-mod p.step p.period in
    let most : (p.step + i) / p.period < q + 1 = (div-lt_iff_lt-mul {k = p.period} {x = p.step + i} {y = q + 1} some).1 (omega (arith, whole, low, mod-lt p.step some)) in
    let least : q ≤ (p.step + i) / p.period = le-div q (p.step + i) p.period some (omega (arith, whole)) in
    omega (arith, most, least)
