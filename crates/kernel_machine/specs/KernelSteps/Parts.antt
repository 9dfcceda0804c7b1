-- What the parts of a step leave.
use Rattle.std.specs.Prelude.{◌≡◌, ℕ, ◌+◌, ◌%◌, ◌==◌, None, if◌then◌else◌}
use Rattle.word_store.specs.declared.registers.Regs.{Regs}
use Rattle.ram_disc.specs.Disc.{IsDisc}
use Rattle.kernel_model.specs.KernelRecord.Between.{AreValidRegisters, AreValidResidents, FirstRuns}
use Rattle.kernel_model.specs.KernelRecord.Image.{HasPlainWords}
use Rattle.kernel_model.specs.KernelRecord.Kernel.{Kernel}
use Rattle.kernel_model.specs.KernelRecord.Lists.{Lists}
use Rattle.kernel_model.specs.KernelRecord.ValidLists.{AreValid}
use Rattle.guest_turns.specs.GuestTurn.{Numbers, numbers_of}
use Rattle.kernel_machine.specs.KernelSteps.Step.{step, turn, with_step}

-- what holds of the lists and the registers before a turn: the first ready task runs, and the registers are its own
pub record RunsFirst (l : Lists) (r : Regs) : Type 0 where
  -- which task runs
  pub runs : FirstRuns l
  -- its registers
  pub registers : AreValidRegisters l r

-- what a turn asks
pub record CanTurn (k : Kernel) : Type 0 where
  -- it has not stopped
  pub goes : k.stop ≡ None
  -- its lists are valid
  pub lists : AreValid k.lists
  -- the first ready task runs
  pub first : RunsFirst k.lists k.regs
  -- the rules of what residents keep
  pub rules : AreValidResidents k

-- what no part of a step changes
pub record IsSameMachine (k j : Kernel) : Type 0 where
  -- the steps taken
  pub steps : j.steps ≡ k.steps

-- which system it is: also this no part of a step changes
pub record IsSameSystem (l m : Lists) : Type 0 where
  -- the version
  pub version : m.version ≡ l.version
  -- whether there are residents
  pub residents : m.residents ≡ l.residents

-- what none but residents change
pub record HasSameResidents (k j : Kernel) : Type 0 where
  -- the console's line
  pub console : j.console ≡ k.console
  -- the shell's
  pub shell : j.shell ≡ k.shell
  -- the files and streams
  pub disc : j.disc ≡ k.disc
  -- the pipes
  pub pipes : j.pipes ≡ k.pipes

-- the ticks once the clock was asked
abbrev pub tick_after : Kernel → ℕ
tick_after k = if k.steps % k.lists.period == 0 then k.lists.tick + 1 else k.lists.tick

-- the running task and the numbers of the lists once the clock was asked
abbrev pub numbers_after_tick : Kernel → Numbers
numbers_after_tick k = record (numbers_of k.lists) { tick = tick_after k }

-- and what none but the keyboard changes
pub record HasSameKeys (k j : Kernel) : Type 0 where
  -- the keys that are still to come
  pub keys : j.keys ≡ k.keys
  -- the bytes that are typed ahead
  pub ahead : j.type_ahead ≡ k.type_ahead

-- What the code knows of a step that it has taken.
pub record IsTaken (k : Kernel) : Type 0 where
  -- the lists are valid after the turn
  pub turned : AreValid (turn (with_step k)).kernel.lists
  -- the disc is a disc then
  pub disc : IsDisc (turn (with_step k)).kernel.disc
  -- the lists are valid at its end
  pub lists : AreValid (step k).kernel.lists
  -- the plain words are those that nobody owns then
  pub plain : HasPlainWords (step k).kernel
