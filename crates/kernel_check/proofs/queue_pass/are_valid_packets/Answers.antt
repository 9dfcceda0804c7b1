use Rattle.std.proofs.Common.{◌≡◌, ◌∙◌, refl, sym}
use Rattle.std.proofs.lemmas.Bool.{false≢true}
use Rattle.kernel_lists.specs.PacketQueue.Queue.{queue_at}
use Rattle.kernel_model.specs.KernelRecord.Recovered.{lists_in, packet_in}
use Rattle.kernel_model.specs.KernelRecord.ValidQueues.{IsValidPacket}
use Rattle.kernel_check.proofs.ListPasses.ClaimedWalks.{first, goes, going, gone, known-first, of-map}
use Rattle.kernel_check.specs.Private.Places.{place_of}
use Rattle.kernel_check.proofs.QueueRules.{Lodged, May}
use Rattle.kernel_check.proofs.queue_pass.are_valid_packets.Goals as goal

pub loop-p-init : goal.loop-p-init
loop-p-init c =
    let is : c.into_iter-p-iterator.result ≡ queue_at c.args.store.now c.args.head = cc in
    going (May c.args.store.now (place_of c.args.at)) (Lodged c.args.store.now) c.into_iter-p-iterator.result (queue_at c.args.store.now c.args.head) is c.requires.queue.lodged

pub is_valid_packet-requires-clause-lodged : goal.is_valid_packet-requires-clause-lodged
is_valid_packet-requires-clause-lodged c =
    known-first (May c.args.store.now (place_of c.args.at)) (Lodged c.args.store.now) c.loop-p.p-iterator (queue_at c.args.store.now c.args.head) c.in-Some.p c.next.new.self c.loop-p.invariant c.in-Some.ensures.steps

pub returns-then-not-is_valid_packet : goal.returns-then-not-is_valid_packet
returns-then-not-is_valid_packet c = (
  λ t. absurd (false≢true t),
  λ h. sym c.if-not-is_valid_packet.true
      ∙ c.is_valid_packet.ensures.1
      (first (May c.args.store.now (place_of c.args.at)) (Lodged c.args.store.now) c.loop-p.p-iterator (queue_at c.args.store.now c.args.head) c.in-Some.p c.next.new.self c.loop-p.invariant c.in-Some.ensures.steps
      ((of-map (IsValidPacket (lists_in c.args.store.now) (place_of c.args.at)) (packet_in c.args.store.now) (queue_at c.args.store.now c.args.head)).1 h)),
)

pub loop-p-preserved : goal.loop-p-preserved
loop-p-preserved c =
    goes (May c.args.store.now (place_of c.args.at)) (Lodged c.args.store.now) c.loop-p.p-iterator (queue_at c.args.store.now c.args.head) c.in-Some.p c.next.new.self c.loop-p.invariant c.in-Some.ensures.steps
    (c.is_valid_packet.ensures.0 c.if-not-is_valid_packet.false)

pub returns : goal.returns
returns c = (
  λ t. (of-map (IsValidPacket (lists_in c.args.store.now) (place_of c.args.at)) (packet_in c.args.store.now) (queue_at c.args.store.now c.args.head)).0
      (gone (May c.args.store.now (place_of c.args.at)) (Lodged c.args.store.now) c.loop-p.p-iterator (queue_at c.args.store.now c.args.head) c.loop-p.invariant c.in-None.ensures.steps.0),
  λ h. refl,
)
