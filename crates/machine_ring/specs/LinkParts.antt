-- The link as the code has it.
use Rattle.std.specs.Prelude.{◌≡◌, ◌<◌, ◌≤◌, length}
use Rattle.machine_ring.specs.declared.ring_link.inputs.TheConstants.{MOST_ROUNDS}
use Rattle.machine_ring.specs.Links.{Link}
use Rattle.machine_ring.specs.declared.flights.TheConstants.{MOST_IN_FLIGHT}
use Rattle.machine_ring.specs.declared.links.LinkParts.TheInside.{Inside}

-- the link that these parts are
abbrev pub link_of : Inside → Link
link_of x = record {
  terms = x.terms;
  sender = x.sender;
  packets = x.packets.items;
  received = x.receiver;
  counts = x.counts.items;
  rounds = x.rounds;
}

-- the parts have room for all that a link carries at one time, and its terms are lawful
pub record HasLink (x : Inside) : Type 0 where
  -- the timer has not come to the wait
  pub timer : x.sender.timer < x.terms.wait
  -- the link has a letter
  pub link : 0 < length x.terms.link
  -- and so have the acknowledgements
  pub acks : 0 < length x.terms.acks
  -- the room for data
  pub packets : x.packets.capacity ≡ MOST_IN_FLIGHT
  -- no more is in flight
  pub packets_fit : length x.packets.items ≤ MOST_IN_FLIGHT
  -- the room for acknowledgements
  pub counts : x.counts.capacity ≡ MOST_IN_FLIGHT
  -- no more are in flight
  pub counts_fit : length x.counts.items ≤ MOST_IN_FLIGHT
  -- at most one byte a round was taken
  pub received : x.receiver ≤ x.rounds
  -- no more rounds are over than there may be
  pub rounds : x.rounds ≤ x.terms.rounds
  -- and those are no more than a ring may have
  pub most : x.terms.rounds ≤ MOST_ROUNDS
  -- the count that is kept beside the sender is the sender's
  pub acknowledged : x.acknowledged ≡ x.sender.acknowledged
