-- How far a run has come.
use Rattle.std.specs.Prelude.{◌≡◌, ◌<◌, ◌+◌, ◌-◌, ◌/◌, ◌⊎◌, ◌&&◌, ℕ, Bool, true, false, List, None, [], slice_set}
use Rattle.instruction_set.specs.Breakpoints.{has_breakpoint}
use Rattle.kernel_lists.specs.TaskBlock.RootWords.{root_address}
use Rattle.kernel_lists.specs.declared.task_block.roots.RootField.TheVariants.{Tick}
use Rattle.kernel_model.specs.KernelRecord.Kernel.{Kernel}
use Rattle.kernel_model.specs.KernelRecord.Task.{is_guest_id}
use Rattle.kernel_model.specs.KernelRecord.ValidKernel.{IsValid}
use Rattle.kernel_machine.specs.declared.running_machine.parts.Parts.{Parts}
use Rattle.kernel_machine.specs.RunningMachine.RepresentedKernels.{RepresentsKernel}
use Rattle.kernel_machine.specs.KernelSteps.Quiet.{IsQuietFor}
use Rattle.kernel_machine.specs.KernelSteps.Step.{run}
use Rattle.kernel_machine.specs.KernelSteps.Stepped.{quietly}

-- n steps of the kernel k, which left the parts p; none of them showed or noted anything, or stopped the machine
pub record HasPassed (n : ℕ) (k : Kernel) (p : Parts) : Type 0 where
  -- they showed and noted nothing
  pub quiet : run n k ≡ quietly (run n k).kernel
  -- the parts represent the kernel that they left
  pub represents : RepresentsKernel p (run n k).kernel
  -- that kernel is valid
  pub valid : IsValid (run n k).kernel
  -- and has not stopped
  pub goes : (run n k).kernel.stop ≡ None

-- n steps, of which none shows or notes anything, or stops the machine
pub record AreQuiet (n : ℕ) (k : Kernel) : Type 0 where
  -- they show and note nothing
  pub quiet : run n k ≡ quietly (run n k).kernel
  -- the machine goes on
  pub goes : (run n k).kernel.stop ≡ None

-- all but the last are such
abbrev pub IsQuietButLast : ℕ → Kernel → Type 0
IsQuietButLast n k = AreQuiet (n - 1) k

-- nobody runs, and no device acts in the next step
pub record IsIdle (k : Kernel) : Type 0 where
  -- nobody runs
  pub nobody : k.lists.running ≡ 0
  -- no device acts
  pub quiet : IsQuietFor 1 k

-- the running guest's next instruction is at one of these byte addresses
abbrev pub is_met : List ℕ → Kernel → Bool
is_met breakpoints k = is_guest_id k.lists.running && has_breakpoint k.regs.pc breakpoints

-- between the first and the last of n steps none is met
abbrev pub Avoids : List ℕ → ℕ → Kernel → Type 0
Avoids breakpoints n k = (i : ℕ) → 0 < i → i < n → is_met breakpoints (run i k).kernel ≡ false

-- the parts once n steps more are counted, and with them the ticks, in the word of the root
abbrev pub counted : ℕ → Parts → Parts
counted n p = record p { step = p.step + n; store = slice_set p.store (root_address Tick) ((p.step + n) / p.period) }

-- the clock does not tick before the last of so many steps
abbrev pub HasNoTick : ℕ → Parts → Type 0
HasNoTick n p = (i : ℕ) → i < n → (p.step + i) / p.period ≡ p.step / p.period

-- n steps were taken, and m more may be: the guest still runs, and no device acts in them
pub record IsOnWay (k : Kernel) (n m : ℕ) (p : Parts) : Type 0 where
  -- n steps have passed
  pub passed : HasPassed n k p
  -- a guest runs still
  pub guest : is_guest_id (run n k).kernel.lists.running ≡ true
  -- no device acts in the steps that may follow
  pub quiet : 0 < m → IsQuietFor m (run n k).kernel
  -- the steps are counted
  pub steps : (run n k).kernel.steps ≡ k.steps + n

-- the output device has no packet, and no byte meets one that waits for it
pub record ServesNone (k : Kernel) : Type 0 where
  -- the output device has no packet
  pub output : k.lists.output ≡ []
  -- the keyboard has none, or there is no byte for it
  pub keyboard : (k.lists.keyboard ≡ []) ⊎ (k.type_ahead ≡ [])
