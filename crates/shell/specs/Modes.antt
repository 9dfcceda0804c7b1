-- The shell's modes, as the code has them.
use Rattle.std.specs.Prelude.{ℕ}
use Rattle.kernel_model.specs.KernelRecord.Kernel.{Mode as KernelMode}
use Rattle.kernel_model.specs.KernelRecord.Kernel.Mode.{Prompt as KernelPrompt, Reading as KernelReading, Typing as KernelTyping, Waiting as KernelWaiting}
use Rattle.shell.specs.declared.modes.Mode.{Mode}
use Rattle.shell.specs.declared.modes.Mode.TheVariants.{Prompt, Reading, Typing, Waiting}

-- a mode, in the words of a kernel
abbrev pub mode_of : Mode → KernelMode
mode_of Prompt = KernelPrompt
mode_of Reading = KernelReading
mode_of (Waiting id) = KernelWaiting id
mode_of Typing = KernelTyping

-- the number of the task for which the shell waits, or 0
abbrev pub awaited : KernelMode → ℕ
awaited KernelPrompt = 0
awaited KernelReading = 0
awaited (KernelWaiting id) = id
awaited KernelTyping = 0
