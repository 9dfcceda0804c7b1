use Rattle.std.proofs.Common.{◌∙◌, refl, subst, sym}
use Rattle.std.specs.List.{AllByRecursion}
use Rattle.kernel_model.specs.KernelRecord.Recovered.{lists_in}
use Rattle.kernel_model.specs.KernelRecord.ValidQueues.{IsValidPacket}
use Rattle.kernel_model.specs.KernelRecord.ValidQueues.Place.{Pending}
use Rattle.kernel_check.proofs.ClaimedQueues.{pending-queue}
use Rattle.kernel_check.proofs.QueuedPackets.{residents-in}
use Rattle.kernel_check.proofs.QueueRules.{pending-none, pending-some, read-at}
use Rattle.kernel_check.proofs.queue_pass.is_valid_pending.Goals as goal

pub returns-then-not-has_residents : goal.returns-then-not-has_residents
returns-then-not-has_residents c = (
  λ t. subst (AllByRecursion (IsValidPacket (lists_in c.args.store.now) Pending)) (sym (pending-none c.args.store.now (sym c.has_residents.ensures ∙ c.if-not-has_residents.true))) tt,
  λ h. refl,
)

pub are_valid_packets-requires-clause-queue : goal.are_valid_packets-requires-clause-queue
are_valid_packets-requires-clause-queue c =
    pending-queue c.args.store.now c.requires.claimed (sym (residents-in c.args.store.now) ∙ sym c.has_residents.ensures ∙ c.if-not-has_residents.false)

pub returns : goal.returns
returns c =
    read-at c.args.store.now Pending c.are_valid_packets.result 270 270 (lists_in c.args.store.now).pending refl
    (pending-some c.args.store.now (sym c.has_residents.ensures ∙ c.if-not-has_residents.false)) c.are_valid_packets.ensures
