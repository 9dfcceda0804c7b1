-- The slots in which pipes are kept: the pipe of a slot is there where one of its ends is open.
use Rattle.std.specs.Prelude.{◌≡◌, ◌≢◌, ◌<◌, ◌≤◌, ℕ, Bool, true, ◌||◌, if◌then◌else◌, Option, Some, None, List, length, map}
use Rattle.std.specs.List.{All}
use Rattle.circular_buffer.specs.Buffer.{Buffer}
use Rattle.kernel_model.specs.KernelRecord.Kernel.{Pipe}
use Rattle.kernel_model.specs.KernelRecord.Pipes.{ArePipes, most_held, pipe_at}
use Rattle.resident_tasks.specs.PipeHandler.Ends.{is_open, names_end, place_of}
use Rattle.resident_tasks.specs.declared.pipe_handler.slots.Slot.{Slot}

-- the pipe that a slot tells of
abbrev pub told : Slot → Pipe
told s = record { name = s.name; held = s.held.items; reading = s.reading; writing = s.writing; written = s.written }

-- the pipe of a slot, where one of its ends is open
abbrev pub pipe_in : Slot → Option Pipe
pipe_in s = if s.reading || s.writing then Some (told s) else None

-- the pipes of all slots, in their order
abbrev pub pipes_in : List Slot → List (Option Pipe)
pipes_in slots = map pipe_in slots

-- a ring with room for what a pipe may hold
pub record IsRing (ring : Buffer ℕ) : Type 0 where
  -- it has room for what a pipe may hold, in bytes
  pub room : ring.capacity ≡ most_held
  -- it holds no more
  pub most : length ring.items ≤ most_held

-- the slots keep pipes that may be there together
pub record AreSlots (slots : List Slot) : Type 0 where
  -- each slot has such a ring
  pub rings : All (λ s. IsRing s.held) slots
  -- their pipes are lawful, with distinct names
  pub pipes : ArePipes (pipes_in slots)

-- a handle names this end of the pipe in the slot at a place, and the end is open
pub record IsPlaceOf (slots : List Slot) (handle : ℕ) (writes : Bool) (place : ℕ) : Type 0 where
  -- the handle is that of such an end
  pub names : names_end handle writes ≡ true
  -- it is not 0
  pub number : handle ≢ 0
  -- the place is the handle's
  pub is : place ≡ place_of handle
  -- there is a slot at it
  pub inside : place < length slots
  -- the end of its pipe is open
  pub open_there : is_open writes (pipe_at (pipes_in slots) place) ≡ true
