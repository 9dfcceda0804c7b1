-- Rounds in which nothing happens but that the two machines take their steps.
use Rattle.std.specs.Prelude.{◌≡◌, ℕ, zero, suc, ◌+◌, ◌≤◌, ◌⊎◌, ◌==◌, ◌&&◌, Bool, false, None, [], length}
use Rattle.tripos_machine.specs.Quiet.{AreQuiet}
use Rattle.tripos_machine.specs.State.{State, steps_of}
use Rattle.machine_ring.specs.Links.{Link}
use Rattle.machine_ring.specs.Rings.{Left}
use Rattle.machine_ring.specs.Rounds.{after_step, can_step}

-- nothing is in flight
abbrev pub is_empty : Link → Bool
is_empty k = (length k.packets == 0) && (length k.counts == 0)

-- In n rounds a machine that takes at most so many steps takes none, or takes one in each and writes nothing.
abbrev pub IsStill : ℕ → ℕ → State → Type 0
IsStill n most s = (can_step most s ≡ false) ⊎ ((steps_of s + n ≤ most) × ((i : ℕ) → i ≤ n → AreQuiet i s))

-- the left machine once n rounds more are over, in which no byte of it is acknowledged
abbrev pub left_after : ℕ → ℕ → Left → Left
left_after zero most x = x
left_after (suc n) most x = left_after n most (after_step most x)

-- in n rounds nothing happens but that the two machines take their steps
pub record AreIdle (n : ℕ) (x : Left) (k : Link) : Type 0 where
  -- no byte waits
  pub waiting : x.waiting ≡ []
  -- and the left machine writes none
  pub still : IsStill n k.terms.left_steps x.state
  -- no byte is outstanding
  pub outstanding : k.sender.outstanding ≡ None
  -- no data is in flight
  pub packets : k.packets ≡ []
  -- and no acknowledgement
  pub counts : k.counts ≡ []

-- the link, once so many rounds more are over
abbrev pub later : ℕ → Link → Link
later n k = record k { rounds = k.rounds + n }
