-- Whose turn it is in a step.
use Rattle.std.proofs.Common.{◌≡◌, ℕ, Bool, true, false, not, cond, eqb, List, refl, ap, ◌∙◌}
use Rattle.std.proofs.lemmas.Bool.{and_parts, eqb-true}
use Rattle.word_store.specs.declared.registers.Regs.{Regs}
use Rattle.instruction_set.specs.declared.Fault.{Fault}
use Rattle.kernel_model.specs.KernelRecord.Kernel.{Kernel}
use Rattle.kernel_model.specs.KernelRecord.Lists.{Lists, has_task}
use Rattle.kernel_model.specs.KernelRecord.Task.{is_guest_id}
use Rattle.guest_turns.specs.GuestTurn.{GuestTurn, turn_without_reporter}
use Rattle.guest_turns.specs.declared.turns.TurnEnd.{TurnEnd}
use Rattle.guest_turns.specs.declared.turns.TurnEnd.TheVariants.{Faults, Goes, Quits}
use Rattle.kernel_machine.specs.KernelSteps.GuestSteps.{guest_step, is_recorded, reported_by, turn_of_guest, with_recorded}
use Rattle.kernel_machine.specs.KernelSteps.ResidentSteps.{console_step, file_step, handler_step, pipe_step, reporter_step, resident_step, serves_pipes, shell_step}
use Rattle.kernel_machine.specs.KernelSteps.Step.{turn}
use Rattle.kernel_machine.specs.KernelSteps.Stepped.{Stepped, quietly, where_due}

-- what is due, or is not
pub due-or-not : (P : Stepped → Type 0) (b : Bool) (part : Kernel → Stepped) (k : Kernel) → (b ≡ true → P (part k)) → (b ≡ false → P (quietly k)) → P (where_due b part k)
due-or-not P true part k due other = due refl
due-or-not P false part k due other = other refl

pub turn-guest : (k : Kernel) → is_guest_id k.lists.running ≡ true → turn k ≡ guest_step k
unfolding turn
turn-guest k guest = ap (λ b. cond b (guest_step k) (resident_step k.lists.running k)) guest

pub turn-resident : (k : Kernel) → is_guest_id k.lists.running ≡ false → turn k ≡ resident_step k.lists.running k
unfolding turn
turn-resident k none = ap (λ b. cond b (guest_step k) (resident_step k.lists.running k)) none

pub turn-nobody : (k : Kernel) → k.lists.running ≡ 0 → turn k ≡ quietly k
turn-nobody k nobody = turn-resident k (ap is_guest_id nobody) ∙ ap (λ i. resident_step i k) nobody

-- the parts of a turn, by who runs
pub record Ways (P : Stepped → Type 0) (k : Kernel) : Type 0 where
  pub guest : is_guest_id k.lists.running ≡ true → P (guest_step k)
  pub shell : k.lists.running ≡ 1 → P (shell_step k)
  pub reporter : k.lists.running ≡ 2 → P (reporter_step k)
  pub console : k.lists.running ≡ 3 → P (console_step k)
  pub files : k.lists.running ≡ 4 → P (file_step k)
  pub pipes : k.lists.running ≡ 4 → serves_pipes k.lists ≡ true → P (pipe_step k)
  pub nobody : is_guest_id k.lists.running ≡ false → P (quietly k)

pub turn-ways : (P : Stepped → Type 0) (k : Kernel) → Ways P k → P (turn k)
unfolding turn
turn-ways P k w = on (is_guest_id k.lists.running) refl
  where
    handler : (b : Bool) → serves_pipes k.lists ≡ b → k.lists.running ≡ 4 → P (cond b (pipe_step k) (file_step k))
    handler true e four = w.pipes four e
    handler false e four = w.files four

    resident : is_guest_id k.lists.running ≡ false → P (resident_step k.lists.running k)
    resident none = by (eqb k.lists.running 1) (eqb k.lists.running 2) (eqb k.lists.running 3) (eqb k.lists.running 4) refl refl refl refl
      where
        by : (a b c d : Bool) → eqb k.lists.running 1 ≡ a → eqb k.lists.running 2 ≡ b → eqb k.lists.running 3 ≡ c → eqb k.lists.running 4 ≡ d
            → P (cond a (shell_step k) (cond b (reporter_step k) (cond c (console_step k) (cond d (handler_step k) (quietly k)))))
        by true b c d e f g h = w.shell (eqb-true k.lists.running 1 e)
        by false true c d e f g h = w.reporter (eqb-true k.lists.running 2 f)
        by false false true d e f g h = w.console (eqb-true k.lists.running 3 g)
        by false false false true e f g h = handler (serves_pipes k.lists) refl (eqb-true k.lists.running 4 h)
        by false false false false e f g h = w.nobody none

    on : (b : Bool) → is_guest_id k.lists.running ≡ b → P (cond b (guest_step k) (resident_step k.lists.running k))
    on true e = w.guest e
    on false e = resident e

-- ---- the turn of a guest

-- a fault of it is recorded
pub record IsRecorded (s : List ℕ) (l : Lists) (r : Regs) (f : Fault) : Type 0 where
  pub ends : (turn_without_reporter s l r).ends ≡ Faults f
  pub reporter : has_task 2 (turn_without_reporter s l r).lists.tasks ≡ true
  pub other : eqb f.code 6 ≡ false

pub guest-ways : (P : GuestTurn → Type 0) (s : List ℕ) (l : Lists) (r : Regs) → P (turn_without_reporter s l r) → ((f : Fault) → IsRecorded s l r f → P (with_recorded f (turn_without_reporter s l r))) → P (turn_of_guest s l r)
guest-ways P s l r goes recorded = on (turn_without_reporter s l r).ends refl
  where
    m : GuestTurn
    m = turn_without_reporter s l r

    not-six : (b : Bool) → not b ≡ true → b ≡ false
    not-six true e = cc
    not-six false e = refl

    on : (e : TurnEnd) → m.ends ≡ e → P (reported_by e m)
    on Goes is = goes
    on (Quits result) is = goes
    on (Faults f) is = by (is_recorded m.lists f) refl
      where
        by : (b : Bool) → is_recorded m.lists f ≡ b → P (cond b (with_recorded f m) m)
        by true e =
            let both = and_parts (has_task 2 m.lists.tasks) (not (eqb f.code 6)) e in
            recorded f (record { ends = is; reporter = both.0; other = not-six (eqb f.code 6) both.1 })
        by false e = goes

-- where the turn does not end with a fault nothing is recorded
pub guest-goes : (s : List ℕ) (l : Lists) (r : Regs) → (turn_without_reporter s l r).ends ≡ Goes → turn_of_guest s l r ≡ turn_without_reporter s l r
guest-goes s l r is = ap (λ e. reported_by e (turn_without_reporter s l r)) is
