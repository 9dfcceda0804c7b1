-- The rules of pipes.
use Rattle.std.specs.Prelude.{◌≡◌, ℕ, ◌≤◌, ◌||◌, true, false, Option, Some, None, List, length, replicate, slice_index_or}
use Rattle.ram_disc.specs.Name.{IsName}
use Rattle.kernel_model.specs.KernelRecord.Kernel.{Pipe}
use Rattle.kernel_model.specs.KernelRecord.Lists.{Lists}

-- the most pipes that there can be at one time
abbrev pub most_pipes : ℕ
most_pipes = 8

-- the most bytes that a pipe holds
abbrev pub most_held : ℕ
most_held = 1024

-- none of the pipes is there
abbrev pub no_pipes : List (Option Pipe)
no_pipes = replicate most_pipes None

-- pipe k, from 0, where it is there
abbrev pub pipe_at : List (Option Pipe) → ℕ → Option Pipe
pipe_at ps k = slice_index_or ps k None

-- an end is open, and a writing end that is open was ever opened
pub record IsPipe (p : Pipe) : Type 0 where
  -- its name is lawful
  pub name : IsName p.name
  -- one of its ends is open
  pub end_open : (p.reading || p.writing) ≡ true
  -- a writing end that is open was opened
  pub ever : p.writing ≡ true → p.written ≡ true
  -- it holds at most 1,024 bytes
  pub room : length p.held ≤ most_held

-- at most eight pipes, each lawful, with distinct names
pub record ArePipes (ps : List (Option Pipe)) : Type 0 where
  -- there are eight places
  pub places : length ps ≡ most_pipes
  -- each place is free, or has a lawful pipe
  pub each : (i : ℕ) (p : Pipe) → pipe_at ps i ≡ Some p → IsPipe p
  -- no two pipes have one name
  pub distinct : (i j : ℕ) (p q : Pipe) → pipe_at ps i ≡ Some p → pipe_at ps j ≡ Some q → p.name ≡ q.name → i ≡ j

-- without residents, and in version 1, there are none
pub record AreValidPipes (l : Lists) (ps : List (Option Pipe)) : Type 0 where
  -- they are pipes
  pub pipes : ArePipes ps
  -- without residents there is none
  pub no_residents : l.residents ≡ false → ps ≡ no_pipes
  -- in version 1 there is none
  pub first_version : l.version ≡ 1 → ps ≡ no_pipes
