use Rattle.std.proofs.Common.{refl}
use Rattle.kernel_check.proofs.FaultReports.{fault-tells, other-tells}
use Rattle.kernel_check.proofs.fault_reports.packet_tells.Goals as goal

pub returns-then-p-ne-FAULT_PACKET : goal.returns-then-p-ne-FAULT_PACKET
returns-then-p-ne-FAULT_PACKET c = (λ t. other-tells c.args.store.now c.args.p c.if-p-ne-FAULT_PACKET.true, λ h. refl)

pub returns : goal.returns
returns c = fault-tells c.args.store.now c.args.p c.word_at.result c.has_unreported.result c.if-p-ne-FAULT_PACKET.false c.word_at.ensures c.has_unreported.ensures
