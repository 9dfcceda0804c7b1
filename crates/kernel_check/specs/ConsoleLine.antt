-- The console's line, in its parts.
use Rattle.std.specs.Prelude.{ℕ, Bool, List}
use Rattle.kernel_model.specs.KernelRecord.Kernel.{Console}

-- the console with the bytes of its line, and whether that is finished
abbrev pub console_of : List ℕ → Bool → Console
console_of line finished = record { line = line; finished = finished }
