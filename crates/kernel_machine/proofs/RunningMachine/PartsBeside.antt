-- Others of the parts that are beside the store.
use Rattle.std.proofs.Common.{◌≡◌, ℕ, List, Option}
use Rattle.arrayvec.specs.ArrayVec.{ArrayVec}
use Rattle.ram_disc.specs.Disc.{Disc}
use Rattle.kernel_model.specs.KernelRecord.Kernel.{Console, Kernel, Pipe, Shell}
use Rattle.kernel_machine.specs.declared.running_machine.parts.Parts.{Parts}
use Rattle.kernel_machine.specs.RunningMachine.RepresentedKernels.{RepresentsKernel}

pub represents-beside : (p : Parts) (k : Kernel) → RepresentsKernel p k → {console now : Console} {shell put : Shell} {disc new : Disc} {pipes held : List (Option Pipe)} → console ≡ now → shell ≡ put → disc ≡ new → pipes ≡ held
    → RepresentsKernel (record p { console = console; shell = shell; disc = disc; pipes = pipes }) (record k { console = now; shell = put; disc = new; pipes = held })
represents-beside p k st console shell disc pipes = record {
  keeper = st.keeper;
  marks = st.marks;
  image = record { size = st.image.size; holds = st.image.holds; plain = st.image.plain };
  plain = record { size = st.plain.size; plain = st.plain.plain; owned = st.plain.owned };
  regs = st.regs;
  type_ahead = st.type_ahead;
  disc = disc;
  console = console;
  shell = shell;
  pipes = pipes;
  keys = st.keys;
  steps = st.steps;
  period = st.period;
}

-- the file handler's buffer is no part of the kernel
pub represents-buffer : (p : Parts) (k : Kernel) (bytes : ArrayVec ℕ) → RepresentsKernel p k → RepresentsKernel (record p { bytes = bytes }) k
represents-buffer p k bytes st = record {
  keeper = st.keeper;
  marks = st.marks;
  image = st.image;
  plain = st.plain;
  regs = st.regs;
  type_ahead = st.type_ahead;
  disc = st.disc;
  console = st.console;
  shell = st.shell;
  pipes = st.pipes;
  keys = st.keys;
  steps = st.steps;
  period = st.period;
}
