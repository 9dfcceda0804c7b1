-- What happened between the two ends of a ring's link in its rounds.
use Rattle.std.specs.Prelude.{◌≡◌}
use Rattle.machine_ring.specs.RingLink.Transfers.{Transfer}
use Rattle.machine_ring.specs.Rounds.{Rounded}

-- the two ends of the link, and all that went from one to the other, are those of the rounds
pub record IsTransferOf (t : Transfer) (x : Rounded) : Type 0 where
  -- the console bytes of the left machine were offered
  pub offered : t.offered ≡ x.offered
  -- those that were typed at the right machine are the delivered ones
  pub delivered : t.delivered ≡ x.delivered
  -- the bytes that wait
  pub waiting : t.waiting ≡ x.ring.left.waiting
  -- the end that sends
  pub sender : t.sender ≡ x.ring.link.sender
  -- the count of the end that receives
  pub received : t.received ≡ x.ring.link.received
