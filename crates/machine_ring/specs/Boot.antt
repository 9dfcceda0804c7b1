-- What the input of a ring puts into its machines before the first round.
use Rattle.std.specs.Prelude.{◌≡◌, ◌+◌, ◌<◌, ◌^◌, ℕ, Result, Ok, Err}
use Rattle.module_text.specs.TextReader.Refusal.{Refusal, refusal}
use Rattle.module_text.specs.TextReader.Steps.{◌>>=◌}
use Rattle.machine_ring.specs.RingLink.Machines.{behind}
use Rattle.machine_ring.specs.declared.ring_link.inputs.RingInput.{RingInput}
use Rattle.session_text.specs.declared.boot_ends.BootEnd.{BootEnd}
use Rattle.session_text.specs.declared.boot_ends.BootEnd.TheVariants.{Line, WantMemory}
use Rattle.tripos_machine.specs.Boot.{boot}
use Rattle.machine_ring.specs.Rings.{Ring, first_ring, terms_of}

-- the ring before its first round; or the first line that is refused, in the whole input, with its code
unfoldable pub booted_ring : RingInput → Result Ring Refusal
booted_ring input = do
  left ← behind input.left_line (boot input.left)
  right ← behind input.right_line (boot input.right)
  Ok (first_ring (terms_of input) left.state right.state)

-- what a function that boots a ring returned is what the definition gives, unless memory ran out
abbrev pub BootsRing : Result Ring BootEnd → Result Ring Refusal → Type 0
BootsRing (Ok ring) booted = booted ≡ Ok ring
BootsRing (Err (Line line code)) booted = booted ≡ Err (refusal line code)
BootsRing (Err WantMemory) booted = Unit {0}

-- after so many lines, the number of an end's line is one of 32 bits
abbrev pub FitsBehind : ℕ → BootEnd → Type 0
FitsBehind before (Line line code) = before + line < 2 ^ 32
FitsBehind before WantMemory = Unit {0}

-- the end of a session that comes after so many lines
abbrev pub end_behind : ℕ → BootEnd → BootEnd
end_behind before (Line line code) = Line (before + line) code
end_behind before WantMemory = WantMemory
