use Rattle.std.proofs.Common.{◌≡◌, ◌∙◌, refl, sym}
use Rattle.std.proofs.lemmas.Bool.{false≢true}
use Rattle.kernel_lists.specs.PacketQueue.Queue.{queue_at}
use Rattle.kernel_model.specs.KernelRecord.Between.{Tells}
use Rattle.kernel_model.specs.KernelRecord.Recovered.{lists_in, packet_in}
use Rattle.kernel_check.proofs.ListPasses.ClaimedWalks.{all-any, first, goes, going, gone, of-map}
use Rattle.kernel_check.proofs.FaultReports.{PacketTells}
use Rattle.kernel_check.proofs.fault_reports.packets_tell.Goals as goal

pub loop-p-init : goal.loop-p-init
loop-p-init c =
    let is : c.into_iter-p-iterator.result ≡ queue_at c.args.store.now c.args.head = cc in
    going (PacketTells c.args.store.now) (λ p. Unit {0}) c.into_iter-p-iterator.result (queue_at c.args.store.now c.args.head) is (all-any (queue_at c.args.store.now c.args.head))

pub returns-then-not-packet_tells : goal.returns-then-not-packet_tells
returns-then-not-packet_tells c = (
  λ t. absurd (false≢true t),
  λ h. sym c.if-not-packet_tells.true
      ∙ c.packet_tells.ensures.1
      (first (PacketTells c.args.store.now) (λ p. Unit {0}) c.loop-p.p-iterator (queue_at c.args.store.now c.args.head) c.in-Some.p c.next.new.self c.loop-p.invariant c.in-Some.ensures.steps
      ((of-map (Tells (lists_in c.args.store.now).tasks) (packet_in c.args.store.now) (queue_at c.args.store.now c.args.head)).1 h)),
)

pub loop-p-preserved : goal.loop-p-preserved
loop-p-preserved c =
    goes (PacketTells c.args.store.now) (λ p. Unit {0}) c.loop-p.p-iterator (queue_at c.args.store.now c.args.head) c.in-Some.p c.next.new.self c.loop-p.invariant c.in-Some.ensures.steps
    (c.packet_tells.ensures.0 c.if-not-packet_tells.false)

pub returns : goal.returns
returns c = (
  λ t. (of-map (Tells (lists_in c.args.store.now).tasks) (packet_in c.args.store.now) (queue_at c.args.store.now c.args.head)).0
      (gone (PacketTells c.args.store.now) (λ p. Unit {0}) c.loop-p.p-iterator (queue_at c.args.store.now c.args.head) c.loop-p.invariant c.in-None.ensures.steps.0),
  λ h. refl,
)
