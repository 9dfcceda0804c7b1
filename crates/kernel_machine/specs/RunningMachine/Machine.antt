-- A machine with a kernel, as contracts see it.
use Rattle.std.specs.Prelude.{ℕ, Option, List}
use Rattle.kernel_model.specs.KernelRecord.Image.{plain_words}
use Rattle.kernel_model.specs.KernelRecord.Kernel.{Kernel}
use Rattle.kernel_model.specs.KernelRecord.Recovered.{lists_in}
use Rattle.kernel_model.specs.KernelRecord.ValidKernel.{IsValid}
use Rattle.kernel_model.specs.declared.kernel_record.stops.Stop.{Stop}
use Rattle.kernel_devices.specs.Typed.{with_typed}
use Rattle.kernel_machine.specs.declared.running_machine.parts.Parts.{Parts}
use Rattle.kernel_machine.specs.RunningMachine.Script.{still_to_come}
use Rattle.kernel_machine.specs.RunningMachine.RepresentedKernels.{RepresentsKernel}

-- What contracts see of a machine: its kernel, all keys of its script, and the bytes of its last step.
pub record MachineView : Type 0 where
  -- its kernel
  pub kernel : Kernel
  -- all keys of its script, those that have come too: each the step at which it is due, and its byte
  pub keys : List (ℕ × ℕ)
  -- the bytes that went to the console in its last step
  pub output : List ℕ

-- the kernel, read off the parts
unfoldable pub kernel_of : Parts → Option Stop → Kernel
kernel_of p stop = record {
  lists = lists_in p.store;
  plain = plain_words p.store (lists_in p.store);
  regs = p.regs;
  steps = p.step;
  console = p.console;
  shell = p.shell;
  disc = p.disc;
  type_ahead = p.tty;
  keys = still_to_come p.keys;
  pipes = p.pipes;
  stop = stop;
}

-- a byte is typed ahead, where there is room
abbrev pub with_byte_typed : ℕ → Kernel → Kernel
with_byte_typed byte k = record k { type_ahead = with_typed byte k.type_ahead }

-- the parts represent this kernel, which is valid, and so for no other one
pub record IsWhole (p : Parts) (stop : Option Stop) : Type 0 where
  -- the parts represent that kernel
  pub represents : RepresentsKernel p (kernel_of p stop)
  -- which is valid
  pub valid : IsValid (kernel_of p stop)
