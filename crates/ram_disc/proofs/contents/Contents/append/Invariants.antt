use Rattle.std.proofs.Common.{◌-◌, ◌≤◌, length, take}
use Rattle.ram_disc.specs.Contents.{Adds}
use Rattle.ram_disc.proofs.contents.Contents.append.Given as goal

abbrev pub invariant-loop-done : goal.invariant-loop-done
invariant-loop-done l = record {
  reach : l.done ≤ length l.bytes;
  adds : Adds l.initial.self l.self l.slot (take l.done l.bytes);
}

abbrev pub decreases-loop-done : goal.decreases-loop-done
decreases-loop-done l = length l.bytes - l.done
