use Rattle.std.proofs.Common.{◌≡◌, ◌≤◌, ◌-◌, ℕ, List, [], length, take, true}
use Rattle.ram_disc.specs.Disc.{File}
use Rattle.ram_disc.specs.DiscCalls.{has_room}
use Rattle.kernel_boot.specs.BootFiles.{writing}
use Rattle.kernel_boot.proofs.files.append_all.Given as goal

abbrev pub invariant-loop-done : goal.invariant-loop-done
invariant-loop-done l = record {
  within : l.done ≤ length l.bytes;
  written : (others : List File) (name : List ℕ) → l.fn.disc ≡ writing others name []
      → (l.disc ≡ writing others name (take l.done l.bytes)) × (has_room (writing others name (take l.done l.bytes)) ≡ true);
}

abbrev pub decreases-loop-done : goal.decreases-loop-done
decreases-loop-done l = length l.bytes - l.done
