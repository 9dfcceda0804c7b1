-- The lists of a kernel that has no tasks, no modules and no packets: all its store from 200 up to the end word is one free block.
use Rattle.std.specs.Prelude.{ℕ, ◌-◌, false, None, [], ◌∷◌}
use Rattle.kernel_lists.specs.GetvecChain.Block.{free_block}
use Rattle.kernel_model.specs.KernelRecord.Lists.{Lists}

-- the lists of a version, with this many steps from one tick to the next, in a store of this many words
abbrev pub empty_lists : ℕ → ℕ → ℕ → Lists
empty_lists version period size =
    record {
      size = size;
      period = period;
      tick = 0;
      version = version;
      residents = false;
      running = 0;
      blocks = free_block 200 (size - 202) ∷ [];
      modules = [];
      tasks = [];
      clock = [];
      keyboard = [];
      output = [];
      pending = [];
      key = None;
      fault_packet_free = false;
    }
