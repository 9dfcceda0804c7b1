use Rattle.std.proofs.Common.{◌≡◌, ◌+◌, ◌-◌, ◌/◌, ◌<◌, ◌≤◌, get_or, length, take, drop}
use Rattle.ram_disc.specs.Contents.{bytes_at, chain_at}
use Rattle.ram_disc.proofs.contents.Contents.read.Given as goal

abbrev pub invariant-loop-done : goal.invariant-loop-done
invariant-loop-done l = record {
  place : l.at ≡ l.position + l.done;
  size : length l.into ≡ length l.fn.into;
  reach : l.done ≤ length l.into;
  here : l.at < length (bytes_at l.self l.slot) → l.sector ≡ get_or (chain_at l.self l.slot) (l.at / 512) 0;
  text : take l.done l.into ≡ take l.done (drop l.position (bytes_at l.self l.slot));
}

abbrev pub decreases-loop-done : goal.decreases-loop-done
decreases-loop-done l = length l.into - l.done
