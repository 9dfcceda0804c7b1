-- A byte that is typed ahead leaves a valid kernel, and the parts stand for it that stood before, but for what is typed ahead.
use Rattle.std.proofs.Common.{◌≡◌, ℕ, ◌≤◌, Bool, true, false, cond, List, [], ◌∷◌, ◌++◌, Option, length, length-append, refl, sym, ap, ◌∙◌, subst, arith}
use Rattle.std.specs.Prelude.{nat_lt}
use Rattle.std.proofs.lemmas.Bool.{ltb-true}
use Rattle.kernel_model.specs.KernelRecord.Image.{HasPlainWords}
use Rattle.kernel_model.specs.KernelRecord.Kernel.{Kernel}
use Rattle.kernel_model.specs.KernelRecord.ValidKernel.{IsValid}
use Rattle.kernel_model.specs.declared.kernel_record.stops.Stop.{Stop}
use Rattle.kernel_devices.specs.Typed.{with_typed}
use Rattle.kernel_machine.specs.declared.running_machine.parts.Parts.{Parts}
use Rattle.kernel_machine.specs.RunningMachine.Machine.{IsWhole, kernel_of, with_byte_typed}
use Rattle.kernel_machine.specs.RunningMachine.RepresentedKernels.{RepresentsKernel}
use Rattle.kernel_machine.proofs.KernelSteps.DevicesKept.{most-typed}

plain-typed : (byte : ℕ) (k : Kernel) → HasPlainWords k → HasPlainWords (with_byte_typed byte k)
plain-typed byte k h = record { size = h.size; plain = h.plain; owned = h.owned }

valid-typed : (byte : ℕ) (k : Kernel) → IsValid k → IsValid (with_byte_typed byte k)
valid-typed byte k h =
    let residents = h.residents in
    record {
      lists = h.lists;
      plain = plain-typed byte k h.plain;
      ticks = h.ticks;
      running = h.running;
      registers = h.registers;
      residents = record {
        faults = residents.faults;
        console = residents.console;
        shell = residents.shell;
        disc = residents.disc;
        pipes = residents.pipes;
        ahead = most-typed byte k.type_ahead residents.ahead;
      };
      steps = record { steps = h.steps.steps; keys = h.steps.keys };
    }

represents-typed : (byte : ℕ) (p : Parts) (tty : List ℕ) (k : Kernel) → RepresentsKernel p k → tty ≡ with_typed byte p.tty → RepresentsKernel (record p { tty = tty }) (with_byte_typed byte k)
represents-typed byte p tty k h is = record {
  keeper = h.keeper;
  marks = h.marks;
  image = record { size = h.image.size; holds = h.image.holds; plain = h.image.plain };
  plain = plain-typed byte k h.plain;
  regs = h.regs;
  type_ahead = is ∙ ap (with_typed byte) h.type_ahead;
  disc = h.disc;
  console = h.console;
  shell = h.shell;
  pipes = h.pipes;
  keys = h.keys;
  steps = h.steps;
  period = h.period;
}

pub kernel-typed : (byte : ℕ) (p : Parts) (tty : List ℕ) (stop : Option Stop) → tty ≡ with_typed byte p.tty → kernel_of (record p { tty = tty }) stop ≡ with_byte_typed byte (kernel_of p stop)
unfolding kernel_of
kernel-typed byte p tty stop is = ap (λ (t : List ℕ). kernel_of (record p { tty = t }) stop) is

pub whole-typed : (byte : ℕ) (p : Parts) (tty : List ℕ) (stop : Option Stop) → IsWhole p stop → tty ≡ with_typed byte p.tty → IsWhole (record p { tty = tty }) stop
whole-typed byte p tty stop w is =
    let k : Kernel = kernel_of p stop in
    let same : kernel_of (record p { tty = tty }) stop ≡ with_byte_typed byte k = kernel-typed byte p tty stop is in
    record {
      represents = subst (RepresentsKernel (record p { tty = tty })) (sym same) (represents-typed byte p tty k w.represents is);
      valid = subst IsValid (sym same) (valid-typed byte k w.valid);
    }
