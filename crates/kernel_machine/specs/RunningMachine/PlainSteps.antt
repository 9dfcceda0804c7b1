-- Steps in which the running guest executes an instruction, and nothing else happens.
use Rattle.std.specs.Prelude.{◌≡◌, ℕ, List, ◌∷◌, None, true}
use Rattle.instruction_set.specs.Places.{DifferAt, addresses}
use Rattle.instruction_set.specs.declared.Outcome.TheVariants.{Next}
use Rattle.instruction_set.specs.declared.places.Places.{Places}
use Rattle.kernel_lists.specs.TaskBlock.RootWords.{root_address}
use Rattle.kernel_lists.specs.declared.task_block.roots.RootField.TheVariants.{Tick}
use Rattle.kernel_model.specs.KernelRecord.Image.{image}
use Rattle.kernel_model.specs.KernelRecord.Kernel.{Kernel}
use Rattle.kernel_model.specs.KernelRecord.Task.{is_guest_id}
use Rattle.kernel_machine.specs.KernelSteps.Quiet.{IsQuietFor, instruction_of}
use Rattle.kernel_machine.specs.KernelSteps.Step.{step}
use Rattle.kernel_machine.specs.KernelSteps.Stepped.{quietly}

-- the words are the same but at the word of the ticks and at these places
abbrev pub DifferBeside : Places → List ℕ → List ℕ → Type 0
DifferBeside p old new = DifferAt (root_address Tick ∷ addresses p) old new

-- in the next step of k nothing happens but that the running guest executes an instruction
pub record IsPlain (k : Kernel) : Type 0 where
  -- a guest runs
  pub guest : is_guest_id k.lists.running ≡ true
  -- no device acts in the step
  pub quiet : IsQuietFor 1 k
  -- the instruction is executed
  pub executed : (instruction_of k).outcome ≡ Next

-- a step of k in which nothing happens but that the running guest executes an instruction; it leaves j
pub record IsPlainStep (p : Places) (k j : Kernel) : Type 0 where
  -- it shows and notes nothing
  pub step : step k ≡ quietly j
  -- the machine goes on
  pub goes : j.stop ≡ None
  -- it writes at these places alone, beside the word of the ticks
  pub differ : DifferBeside p (image k) (image j)
