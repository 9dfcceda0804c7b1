-- What a function that boots leaves.
use Rattle.std.specs.Prelude.{◌≡◌, ◌≤◌, ◌⊎◌, Bool, true, false, None, List, [], Result, Ok, Err}
use Rattle.std.specs.List.{AllByRecursion}
use Rattle.session_text.specs.declared.boot_ends.BootEnd.{BootEnd}
use Rattle.session_text.specs.declared.boot_ends.BootEnd.TheVariants.{Line, WantMemory}
use Rattle.kernel_model.specs.KernelRecord.Kernel.{Kernel}
use Rattle.kernel_model.specs.KernelRecord.Lists.{Lists}
use Rattle.kernel_model.specs.KernelRecord.Task.{Task, is_guest_id}
use Rattle.kernel_model.specs.KernelRecord.ValidKernel.{IsValid}
use Rattle.kernel_model.specs.KernelRecord.ValidTasks.{runs}
use Rattle.kernel_boot.specs.BootFiles.{HasNoStreams, boot_refusal}
use Rattle.kernel_boot.specs.BootTasks.{AreBootLines}
use Rattle.kernel_boot.specs.declared.refusals.BootRefusal.{BootRefusal}
use Rattle.session_text.specs.declared.sessions.SessionLine.{SessionLine}
use Rattle.kernel_machine.specs.KernelSteps.Stepped.{Stepped}
use Rattle.kernel_machine.specs.declared.running_machine.parts.Parts.{Parts}
use Rattle.kernel_machine.specs.RunningMachine.RepresentedKernels.{RepresentsKernel}

-- A task that neither runs, nor takes a packet once it is dispatched, and that has met no fault. The one that reports faults has no
-- packets, and the fault packet is on no queue.
pub record IsFresh (free : Bool) (t : Task) : Type 0 where
  -- it has a number from 1
  pub number : 1 ≤ t.id
  -- its field is not that of one that runs
  pub idle : t.field ≡ runs → ⊥
  -- it has no packets, or is a resident
  pub takes : (t.queue ≡ []) ⊎ (is_guest_id t.id ≡ false)
  -- it has met no fault
  pub fault : t.fault ≡ 0
  -- the one that reports faults has no packets, and the fault packet is on no queue
  pub reporter : t.id ≡ 2 → (t.queue ≡ []) × (free ≡ true)

-- all tasks are such, and the key packet is on a queue or not there
pub record AreFresh (l : Lists) : Type 0 where
  -- all tasks are such
  pub tasks : AllByRecursion (IsFresh l.fault_packet_free) l.tasks
  -- the key packet is on a queue or not there
  pub key : l.key ≡ None

-- tasks of the lines may be started: each line is one that a session may have, and no task has done anything yet
pub record CanStart (lines : List SessionLine) (k : Kernel) : Type 0 where
  -- each line is one that a session may have
  pub may_start : AreBootLines k.lists.version lines
  -- no task has done anything yet
  pub fresh : AreFresh k.lists

-- and files may be put on the disc
pub record CanLoad (lines : List SessionLine) (k : Kernel) : Type 0 where
  -- the tasks may be started
  pub tasks : CanStart lines k
  -- no stream is open
  pub streams : HasNoStreams k.disc

-- the parts represent the kernel that is reached, or the answer is its refusal
abbrev pub IsReached : Parts → Result (Unit {0}) BootRefusal → Result Kernel BootRefusal → Type 0
IsReached p (Ok u) reached = (k : Kernel) × (reached ≡ Ok k) × RepresentsKernel p k
IsReached p (Err refusal) reached = reached ≡ Err refusal

-- an end is the refusal that the definition gives, unless memory ran out
abbrev pub EndsAs : BootEnd → Result Stepped BootRefusal → Type 0
EndsAs (Line line code) booted = booted ≡ Err (boot_refusal line code)
EndsAs WantMemory booted = Unit {0}

-- the parts represent the kernel, which is valid and has not stopped
pub record IsBooted (p : Parts) (k : Kernel) : Type 0 where
  -- the parts represent the kernel
  pub represents : RepresentsKernel p k
  -- it is valid
  pub valid : IsValid k
  -- the machine has not stopped
  pub goes : k.stop ≡ None

-- what a booting function returned is what the definition gives, unless memory ran out
abbrev pub BootsAs : Result Parts BootEnd → Result Stepped BootRefusal → Type 0
BootsAs (Ok p) booted = (x : Stepped) × (booted ≡ Ok x) × IsBooted p x.kernel
BootsAs (Err e) booted = EndsAs e booted
