-- What a session puts into its machine before the first step.
use Rattle.std.specs.Prelude.{◌≡◌, if◌then◌else◌, Result, Ok, Err}
use Rattle.module_text.specs.TextReader.Refusal.{Refusal, refusal}
use Rattle.session_text.specs.declared.sessions.Session.{Session}
use Rattle.bare_machine.specs.Boot.{boot as bare_boot}
use Rattle.bare_machine.specs.State.{BareState}
use Rattle.session_text.specs.declared.boot_ends.BootEnd.{BootEnd}
use Rattle.session_text.specs.declared.boot_ends.BootEnd.TheVariants.{Line, WantMemory}
use Rattle.kernel_machine.specs.MachineBoot.Boot.{boot as kernel_boot}
use Rattle.kernel_boot.specs.declared.refusals.BootRefusal.{BootRefusal}
use Rattle.kernel_machine.specs.KernelSteps.Stepped.{Stepped as KernelStepped}
use Rattle.tripos_machine.specs.State.State.{Bare}
use Rattle.tripos_machine.specs.Step.{Stepped, of_kernel, quietly}

-- a bare machine that has begun, as a machine of either kind; nothing was written, and there are no events
abbrev pub bare_booted : Result BareState Refusal → Result Stepped Refusal
bare_booted (Ok m) = Ok (quietly (Bare m))
bare_booted (Err r) = Err r

-- a machine with a kernel that has begun, as a machine of either kind, or the line that was refused
abbrev pub kernel_booted : Result KernelStepped BootRefusal → Result Stepped Refusal
kernel_booted (Ok x) = Ok (of_kernel x)
kernel_booted (Err r) = Err (refusal r.line r.code)

-- the state before the first step, and its events; or the first line that is refused, with its code
abbrev pub boot : Session → Result Stepped Refusal
boot s = if s.bare then bare_booted (bare_boot s) else kernel_booted (kernel_boot s)

-- an end is the refusal that the definition gives, unless memory ran out
abbrev pub EndsAs : BootEnd → Result Stepped Refusal → Type 0
EndsAs (Line line code) booted = booted ≡ Err (refusal line code)
EndsAs WantMemory booted = Unit {0}
